use Rattle.std.proofs.Common.{refl}
use Rattle.checker.proofs.Forcing.{grows_stamps}
use Rattle.checker.proofs.trail.Trail.next.Goals as goal

pub returns : goal.returns
returns c = λ cs. grows_stamps cs _ _ refl refl
