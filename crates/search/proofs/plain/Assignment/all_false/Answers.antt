use Rattle.std.proofs.Common.{◌∙◌, rules, tests}
use Rattle.std.proofs.lemmas.Iterator.{YieldsList-from_slice}
use Rattle.std.proofs.lemmas.Iterator.Search.{all_from_yields_List}
use Rattle.formula.proofs.Rows.{every_is_list_all}
use Rattle.search.specs.Plain.{lit_false}
use Rattle.search.proofs.plain.Assignment.all_false.Goals as goal

pub returns : goal.returns
returns c =
    all_from_yields_List (lit_false c.args.self.now.depth c.args.self.now.work.now) _ _ _ c.all.ensures.ran (YieldsList-from_slice c.args.clause.now c.iter.ensures.rest) (λ x b q k. search (rules, tests))
    ∙ every_is_list_all _ _
