-- The statement that a proof that is written is read as what it was.
use Rattle.std.specs.Prelude.{◌≡◌, Bool, true, List, Some, nat_lt}
use Rattle.formula.specs.Logic.{every, Clause, Step}
use Rattle.dimacs.specs.Text.{proof_text}
use Rattle.checker.specs.Reading.{clause_in, proof_read}

-- variables up to 2^31
abbrev pub clause_fits : Clause → Bool
clause_fits c = every (λ l. nat_lt l 4294967296) c

unfoldable pub ReadBack : Type 0
ReadBack = (ss : List Step) → every (λ s. clause_fits (clause_in s)) ss ≡ true → proof_read (proof_text ss) ≡ Some ss
