use Rattle.std.proofs.Common.{◌∙◌, rules, tests}
use Rattle.std.proofs.lemmas.Iterator.{YieldsList-from_slice}
use Rattle.std.proofs.lemmas.Iterator.Search.{all_from_yields_List}
use Rattle.formula.specs.Logic.{has}
use Rattle.formula.proofs.Rows.{every_is_list_all}
use Rattle.checker.proofs.clauses.is_within.Goals as goal

pub returns : goal.returns
returns c = all_from_yields_List (has c.args.other.now) _ _ _ c.all.ensures.ran (YieldsList-from_slice c.args.clause.now cc) (λ x b q k. search (rules, tests)) ∙ every_is_list_all (has c.args.other.now) c.args.clause.now
