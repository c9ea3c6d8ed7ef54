use Rattle.formula.proofs.statements.proof_there.Goals as goal
use Rattle.formula.proofs.ModelOrProof.{proof_there}

pub returns : goal.returns
returns c = proof_there
