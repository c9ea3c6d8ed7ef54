use Rattle.std.proofs.Common.{◌≡◌, true, false, ◌∙◌, rules, tests, vec_items}
use Rattle.std.proofs.lemmas.Iterator.{YieldsList-from_slice, IsFirst-from_position}
use Rattle.checker.specs.Standing.{is_copy}
use Rattle.checker.proofs.Counting.{found_position}
use Rattle.checker.proofs.clauses.Clauses.scan.Goals as goal

pub returns : goal.returns
returns c =
    let rs = vec_items c.args.self.now.rows in
    found_position rs c.args.clause.now _
    (IsFirst-from_position _ _ _ (λ r. is_copy c.args.clause.now r ≡ true) (λ r. is_copy c.args.clause.now r ≡ false) c.position.ensures.ran (YieldsList-from_slice rs (c.iter.ensures.rest ∙ c.deref.ensures.value))
    (λ x q k. search (rules, tests)) (λ x q k. search (rules, tests)))
