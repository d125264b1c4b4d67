use Rattle.typing.proofs.TypingLaw.{few}
use Rattle.typing.proofs.typed_op.Goals as goal

pub taken_by_tables-requires : goal.taken_by_tables-requires
taken_by_tables-requires c = let s = c in rw s.requires.1 (few _ _ _)
