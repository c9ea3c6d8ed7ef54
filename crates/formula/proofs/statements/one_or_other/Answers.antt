use Rattle.formula.proofs.statements.one_or_other.Goals as goal
use Rattle.formula.proofs.ModelOrProof.{one_or_other}

pub returns : goal.returns
returns c = one_or_other
