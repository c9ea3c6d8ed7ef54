use Rattle.std.proofs.Common.{ℕ, List, length, ap, ◌∙◌}
use lib.Seq.{sets}
use Rattle.formula.specs.Arena.{clause_row}
use Rattle.formula.proofs.Tables.{stored}
use Rattle.formula.proofs.clause.store.Goals as goal

pub returns : goal.returns
unfolding clause_row
returns c = c.write_row.ensures ∙ (ap (λ (t : List ℕ). sets t c.saturating_add.result c.args.clause.now) c.put.ensures
    ∙ stored c.args.table.now c.args.clause.now c.args.start c.saturating_add.result (length c.args.clause.now) c.saturating_add.ensures c.well_formed.0.0)
