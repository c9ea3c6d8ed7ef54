-- What is promised of a yes for two texts: both can be read, and the proof of the second holds for the first's clauses
-- and has the empty clause.
use Rattle.std.specs.Prelude.{◌≡◌, ℕ, true, List, Some}
use Rattle.formula.specs.Logic.{Clause, Step, holds, has_empty}
use Rattle.checker.specs.declared.check.Verdict.{Verdict}
use Rattle.checker.specs.declared.check.Verdict.TheVariants.{Verified, Fails, NoEmptyClause}
use Rattle.checker.specs.Reading.{formula_read, proof_read}

pub record Refutes (formula proof : List ℕ) : Type 0 where
  pub clauses : List Clause
  pub steps : List Step
  pub formula_is : formula_read formula ≡ Some clauses
  pub proof_is : proof_read proof ≡ Some steps
  pub right : holds clauses steps ≡ true
  pub empty : has_empty steps ≡ true

abbrev pub Says : List ℕ → List ℕ → Verdict → Type 0
Says f p Verified = Refutes f p
Says f p (Fails n) = Unit {0}
Says f p NoEmptyClause = Unit {0}
