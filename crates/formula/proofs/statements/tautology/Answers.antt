use Rattle.formula.proofs.statements.tautology.Goals as goal
use Rattle.formula.proofs.Soundness.{tautology}

pub returns : goal.returns
returns c = tautology
