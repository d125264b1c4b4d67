use Rattle.attribute.specs.Attribute.{word_form}
use Rattle.attribute.proofs.word_form.Goals as goal

pub returns-then-is_word : goal.returns-then-is_word
unfolding word_form
returns-then-is_word c = simp (c.if-is_word.true, ← c.is_word.ensures)

pub returns-then-is_word-2 : goal.returns-then-is_word-2
unfolding word_form
returns-then-is_word-2 c = simp (c.if-is_word-2.true, ← c.is_word-2.ensures, c.if-is_word.false, ← c.is_word.ensures)

pub returns : goal.returns
unfolding word_form
returns c = simp (c.if-is_word-2.false, ← c.is_word-2.ensures, c.if-is_word.false, ← c.is_word.ensures)
