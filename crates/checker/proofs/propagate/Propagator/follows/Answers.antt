use Rattle.checker.proofs.Rounds.{propagated_then, answered_assumed, answered_by}
use Rattle.checker.proofs.propagate.Propagator.follows.Goals as goal
use Rattle.checker.proofs.propagate.Propagator.follows.Goals.{then-branch, else-branch+in_ok-found-2}

pub returns-then-branch-2 : goal.returns-then-branch-2
returns-then-branch-2 c = elim c.if-branch.branch [
  | then-branch w ↦ rw (w.self-is, w.value-is, w.if-branch.true) (answered_assumed _ _ _ _ _ _ c.begin.ensures.round w.if-branch.true c.in_ok-found.ensures)
  | else-branch+in_ok-found-2 w ↦ rw (w.self-is, w.value-is) (answered_by _ _ _ _ _ _ _ _ c.begin.ensures.round c.in_ok-found.ensures w.in_ok-found-2.ensures)
]

pub returns-in_ok-found-3 : goal.returns-in_ok-found-3
returns-in_ok-found-3 c = elim c.if-branch.branch [
  | then-branch w ↦ cc
  | else-branch+in_ok-found-2 w ↦ answered_by _ _ _ _ _ _ _ _ c.begin.ensures.round c.in_ok-found.ensures (propagated_then _ _ _ _ _ w.in_ok-found-2.ensures.grows (rw w.self-is at c.in_ok-found-3.ensures))
]
