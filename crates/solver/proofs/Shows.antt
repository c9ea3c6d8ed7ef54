-- What a model and a core show of clauses and assumptions.
-- Both follow from what is shown of clauses alone.
use Rattle.formula.specs.Logic.{truth_of, CanBe}
use Rattle.formula.proofs.Soundness.{part_shows}
use Rattle.solver.specs.House.{AModel, ACore}
use Rattle.solver.specs.Promise.{ModelShows, CoreShows}

pub model_shows : ModelShows
unfolding ModelShows AModel CanBe
model_shows h ms a = (truth_of ms, a.2)

pub core_shows : CoreShows
unfolding CoreShows ACore
core_shows h ks a = part_shows h.clauses h.assumed ks a.0 a.1
