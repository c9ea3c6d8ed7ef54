use Rattle.std.proofs.Common.{ℕ, ◌∙◌, rules, tests}
use lib.Dec.{eqb}
use Rattle.std.proofs.lemmas.Iterator.{YieldsList-from_slice}
use Rattle.std.proofs.lemmas.Iterator.Search.{any_from_yields_List}
use Rattle.formula.proofs.Rows.{has_is_contains}
use Rattle.formula.proofs.clause.contains.Goals as goal

pub returns : goal.returns
returns c =
    any_from_yields_List (λ (x : ℕ). eqb x c.args.lit) _ _ _ c.any.ensures.ran (YieldsList-from_slice c.args.clause.now c.iter.ensures.rest) (λ x b q k. search (rules, tests))
    ∙ has_is_contains c.args.lit c.args.clause.now
