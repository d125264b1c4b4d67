use Rattle.scope.proofs.ScopeLaw.{pushed}
use Rattle.scope.proofs.push.Goals as goal

pub returns : goal.returns
returns c = pushed _ _ _ c.requires.0 c.requires.1
