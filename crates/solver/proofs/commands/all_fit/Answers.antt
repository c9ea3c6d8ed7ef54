use Rattle.std.proofs.Common.{ℕ, ltb, ◌∙◌, rules, tests}
use Rattle.std.proofs.lemmas.Iterator.{YieldsList-from_slice}
use Rattle.std.proofs.lemmas.Iterator.Search.{all_from_yields_List}
use Rattle.formula.proofs.Rows.{every_is_list_all}
use Rattle.solver.proofs.commands.all_fit.Goals as goal

pub returns : goal.returns
returns c =
    all_from_yields_List (λ (l : ℕ). ltb l 32768) _ _ _ c.all.ensures.ran (YieldsList-from_slice c.args.row.now c.iter.ensures.rest) (λ x b q k. search (rules, tests))
    ∙ every_is_list_all _ _
