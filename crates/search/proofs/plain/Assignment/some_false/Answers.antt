use Rattle.std.proofs.Common.{◌∙◌, rules, tests}
use Rattle.std.proofs.lemmas.Iterator.Consumers.{YieldsList-from_first}
use Rattle.std.proofs.lemmas.Iterator.Search.{any_from_yields_List}
use Rattle.formula.specs.Logic.{every}
use Rattle.formula.proofs.Rows.{any_is_list_any}
use Rattle.search.specs.Clauses.{clauses_left}
use Rattle.search.specs.Plain.{lit_false, some_false}
use Rattle.search.proofs.plain.Assignment.some_false.Goals as goal

pub returns : goal.returns
unfolding some_false
returns c =
    any_from_yields_List (λ r. every (lit_false c.args.self.now.depth c.args.self.now.work.now) r) c.any.new.self _ _ c.any.ensures.ran
    (YieldsList-from_first (λ x. x.now) clauses_left _ c.new.ensures) (λ x b q k. search (rules, tests))
    ∙ any_is_list_any _ _
