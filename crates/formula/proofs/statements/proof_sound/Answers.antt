use Rattle.formula.proofs.statements.proof_sound.Goals as goal
use Rattle.formula.proofs.Soundness.{proof_sound}

pub returns : goal.returns
returns c = proof_sound
