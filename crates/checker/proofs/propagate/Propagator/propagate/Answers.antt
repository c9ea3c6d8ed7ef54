use Rattle.checker.proofs.Forcing.{grows_then}
use Rattle.checker.proofs.Rounds.{propagated_yes, propagated_none}
use Rattle.checker.proofs.propagate.Propagator.propagate.Goals as goal

pub returns-in_default : goal.returns-in_default
returns-in_default c = propagated_none _ _ _ (grows_then _ _ _ _ c.loop-i.invariant (c.next.ensures _))

pub returns-then-branch : goal.returns-then-branch
returns-then-branch c = propagated_yes _ _ _ _ _ (grows_then _ _ _ _ c.loop-i.invariant (c.next.ensures _)) c.if-branch.true c.in_ok-visit_watching.ensures

pub loop-i-preserved : goal.loop-i-preserved
loop-i-preserved c = grows_then _ _ _ _ (grows_then _ _ _ _ c.loop-i.invariant (c.next.ensures _)) c.in_ok-visit_watching.ensures.grows
