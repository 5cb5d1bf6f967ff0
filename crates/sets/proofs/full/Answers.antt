use borrow.Author.Rules.{rules}
use mathlib.Core.Bool.{true}
use Rattle.sets.specs.States.{start}
use Rattle.sets.specs.Words.{word_count}
use Rattle.sets.proofs.Words.{words_by, each_word}
use Rattle.sets.proofs.full.Goals as goal

pub returns : goal.returns
returns c =
    words_by word_count (start c.args.n true) c.from_fn.result c.from_fn.ensures.items.long
    (each_word _ (search rules) (search rules) (search rules) (search rules))
