use Rattle.std.proofs.Common.{arith}
use Rattle.formula.proofs.Tables.{copied}
use Rattle.formula.proofs.table.write_row.Goals as goal

pub returns : goal.returns
returns c = copied _ _ _ _ _ _ _ c.min-start.ensures c.min-len.ensures c.copy_from_slice.ensures.after (omega arith)
