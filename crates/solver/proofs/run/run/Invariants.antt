use Rattle.solver.proofs.Drives.{Going}
use Rattle.solver.proofs.run.run.Given as goal

abbrev pub invariant-loop : goal.invariant-loop
invariant-loop g l = Going (λ ss ws. g.O.Output.told l.initial.out ss ws l.out) l.initial.memory l.kind l.row l.bytes l.budget l.counter l.memory l.next l.buffer
