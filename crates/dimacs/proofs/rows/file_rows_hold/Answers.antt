use Rattle.dimacs.proofs.FileRows.{file_rows_hold}
use Rattle.dimacs.proofs.rows.file_rows_hold.Goals as goal

pub returns : goal.returns
returns c = file_rows_hold
