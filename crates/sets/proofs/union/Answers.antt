use borrow.Author.Rules.{rules}
use Rattle.sets.specs.Words.{word_count}
use Rattle.sets.proofs.Masks.{bitwise_or, words_combined}
use Rattle.sets.proofs.union.Goals as goal

pub returns : goal.returns
returns c n v w d e p q =
    words_combined bitwise_or word_count n v w d e c.zip_words.result c.zip_words.ensures.long λ j h. rw (← p, ← q) (search (rules, c.zip_words.ensures.each j h))
