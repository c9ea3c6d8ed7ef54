use Rattle.solver.proofs.statements.core_shows.Goals as goal
use Rattle.solver.proofs.Shows.{core_shows}

pub returns : goal.returns
returns c = core_shows
