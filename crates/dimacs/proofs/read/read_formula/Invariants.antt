use Rattle.dimacs.proofs.Standing.{Stands}
use Rattle.dimacs.proofs.read.read_formula.Given as goal

abbrev pub invariant-loop-i : goal.invariant-loop-i
invariant-loop-i l = Stands l.bytes l.initial.rows l.i l.scan l.rows
