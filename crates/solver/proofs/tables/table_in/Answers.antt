use Rattle.solver.proofs.MemoryMap.{table_is}
use Rattle.solver.proofs.tables.table_in.Goals as goal

pub returns : goal.returns
returns c = rw c.range.ensures (table_is c.args.m.now c.args.t)
