use borrow.Author.Rules.{rules}
use Rattle.sets.specs.Words.{word_count}
use Rattle.sets.proofs.Masks.{words_complemented}
use Rattle.sets.proofs.complement.Goals as goal

pub returns : goal.returns
returns c v d e =
    words_complemented word_count c.args.n v d c.zip_words.result c.zip_words.ensures.long λ j h.
    rw (← e, ← c.full.ensures) (search (rules, c.zip_words.ensures.each j h))
