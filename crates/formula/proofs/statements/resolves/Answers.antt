use Rattle.formula.proofs.statements.resolves.Goals as goal
use Rattle.formula.proofs.Completeness.{resolves}

pub returns : goal.returns
returns c = resolves
