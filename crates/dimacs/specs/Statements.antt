-- What is promised of the text form: a formula that is written is read as what it was.
-- The statement is the contract of `there_and_back` in src/lib.rt.
use Rattle.std.specs.Prelude.{◌≡◌, ℕ, ◌<◌, Bool, true, List, length, nat_lt}
use Rattle.formula.specs.Logic.{every, Clause}
use Rattle.dimacs.specs.Text.{Reader, goes_on, file_read, formula_text}

-- literals of at most 16,384 variables
abbrev pub lits_fit : List ℕ → Bool
lits_fit ls = every (λ l. nat_lt l 32768) ls

unfoldable pub ThereAndBack : Type 0
ThereAndBack =
    (cs : List Clause) → every lits_fit cs ≡ true → length cs < 18446744073709551616 →
    (r : Reader) × (file_read (formula_text cs) ≡ goes_on r) × (r.read_clauses ≡ cs)
