use Rattle.formula.proofs.statements.propagation_sound.Goals as goal
use Rattle.formula.proofs.Soundness.{propagation_sound}

pub returns : goal.returns
returns c = propagation_sound
