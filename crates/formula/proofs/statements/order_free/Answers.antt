use Rattle.formula.proofs.statements.order_free.Goals as goal
use Rattle.formula.proofs.Soundness.{order_free}

pub returns : goal.returns
returns c = order_free
