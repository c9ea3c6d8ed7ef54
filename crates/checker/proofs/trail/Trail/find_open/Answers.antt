use Rattle.std.proofs.Common.{◌≡◌, true, ◌⊎◌, rules, tests}
use Rattle.std.proofs.lemmas.Iterator.{YieldsList-from_slice, first_from_find}
use Rattle.std.proofs.lemmas.Iterator.Consumers.{YieldsList-from_copied}
use Rattle.formula.specs.Logic.{other}
use Rattle.checker.specs.Forced.{is_true}
use Rattle.checker.proofs.Forcing.{none_found}
use Rattle.checker.proofs.trail.Trail.find_open.Goals as goal

pub returns : goal.returns
returns c = none_found (λ k. (k ≡ c.args.but) ⊎ (is_true c.args.self.now (other k) ≡ true)) c.args.clause.now c.find.result _
    (first_from_find _ _ _ (λ k. Unit {0}) (λ k. (k ≡ c.args.but) ⊎ (is_true c.args.self.now (other k) ≡ true)) c.find.ensures.ran
    (YieldsList-from_copied (YieldsList-from_slice c.args.clause.now cc)) (λ x q k. tt) (λ x q k. search (rules, tests)))
