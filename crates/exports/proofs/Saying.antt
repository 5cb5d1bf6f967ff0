-- What translating promises from what the call that it makes promises.
use mathlib.Core.Path.{◌≡◌, sym, ap, ◌∙◌}
use mathlib.Core.List.{List}
use Prim.Native.Nat.{ℕ}
use Rattle.sets.specs.Refusals.{Outcome, refused}
use Rattle.translate.specs.Translating.{Translated}
use Rattle.exports.specs.declared.Numbers.{Numbers}
use Rattle.exports.specs.Exported.{exported, TranslateSays}
use Rattle.exports.specs.internal.Saying.{Says}

pub translate_says : {n : Numbers} {b before after : List ℕ} {number long : ℕ} → Translated b before number long after → Says n (refused number) long → TranslateSays b before n after
unfolding exported
translate_says {n} {number = number} t s =
    let same : n.refusal ≡ number = ap (λ (o : Outcome). o.refusal) s.numbers in
    record { translated = rw (same, s.length_is) t; others = s.numbers ∙ ap refused (sym same) }
