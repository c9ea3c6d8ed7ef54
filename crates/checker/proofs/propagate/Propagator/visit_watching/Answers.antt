use Rattle.checker.proofs.Rounds.{visited_conflict}
use Rattle.checker.proofs.propagate.Propagator.visit_watching.Goals as goal

pub returns-in-Conflict : goal.returns-in-Conflict
returns-in-Conflict c = visited_conflict _ _ _ _ _ c.loop-i.invariant.0 c.in-Conflict.is c.in_ok-visit.ensures
