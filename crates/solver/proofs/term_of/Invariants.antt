use Rattle.solver.proofs.Doubling.{Within}
use Rattle.solver.proofs.term_of.Given as goal

abbrev pub invariant-loop-largest : goal.invariant-loop-largest
invariant-loop-largest l = Within l.n l.at l.largest

abbrev pub decreases-loop-largest : goal.decreases-loop-largest
decreases-loop-largest l = l.largest
