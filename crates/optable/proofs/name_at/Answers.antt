use Prim.Native.Nat.{◌+◌, ◌≤◌}
use Rattle.lists.specs.Lists.{concat}
use Rattle.optable.specs.Table.{table_bytes, names, op_names, attribute_names, choice_kind_names, choice_names, ops, attributes, choice_kinds, choices}
use Rattle.optable.proofs.TableLaw.{bytes-length, name-part, word-within}
use borrow.Author.Rules.{rules}
use Rattle.optable.proofs.name_at.Goals as goal

pub overflow_add-result : goal.overflow_add-result
overflow_add-result c = let w = c.word_at-word.result in let h : w.at + w.len ≤ 925 = rw (c.word_at-word.ensures, ← bytes-length) (word-within _ c.requires) in search rules

pub slice_bounds-result-end : goal.slice_bounds-result-end
slice_bounds-result-end c = let w = c.word_at-word.result in let h : w.at + w.len ≤ 925 = rw (c.word_at-word.ensures, ← bytes-length) (word-within _ c.requires) in search rules

pub returns : goal.returns
unfolding table_bytes names op_names attribute_names choice_kind_names choice_names ops attributes choice_kinds choices concat
returns c = name-part _ _ c.word_at-word.ensures c.requires
