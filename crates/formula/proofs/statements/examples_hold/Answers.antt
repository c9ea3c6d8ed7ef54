use Rattle.formula.proofs.statements.examples_hold.Goals as goal
use Rattle.formula.proofs.Examples.{examples_hold}

pub returns : goal.returns
returns c = examples_hold
