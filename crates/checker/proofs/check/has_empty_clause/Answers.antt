use Rattle.std.proofs.Common.{◌≡◌, [], rules, tests, vec_items}
use Rattle.std.proofs.lemmas.Iterator.{YieldsList-from_slice, cases_from_any}
use Rattle.formula.specs.Logic.{adds}
use Rattle.checker.specs.Input.{step_of}
use Rattle.checker.proofs.Stepping.{has_empty_some}
use Rattle.checker.proofs.check.has_empty_clause.Goals as goal

pub returns : goal.returns
returns c = has_empty_some (vec_items c.args.input.now.steps) c.any.result _
    (cases_from_any _ _ _ (λ s. step_of s ≡ adds []) (λ s. Unit {0}) c.any.ensures.ran (YieldsList-from_slice (vec_items c.args.input.now.steps) cc) (λ x q k. search (rules, tests)) (λ x q k. search (rules, tests)))
