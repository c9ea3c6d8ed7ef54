use Rattle.solver.proofs.statements.model_shows.Goals as goal
use Rattle.solver.proofs.Shows.{model_shows}

pub returns : goal.returns
returns c = model_shows
