-- What is promised of plain search: from a fresh table its turns come to an end, with a model of clauses and assumptions or
-- with marks on assumptions with which the clauses can't be true. The statement is the contract of `plain_search_ends`.
use Rattle.std.specs.Prelude.{◌≡◌, ℕ, ◌/◌, ◌≤◌, Bool, true, false, List, ◌++◌, length, nat_lt}
use Rattle.formula.specs.Logic.{every, Clause, CannotBe, all_true, truth_of, units, has}
use Rattle.search.specs.declared.plain.Finding.{Finding}
use Rattle.search.specs.declared.plain.Finding.TheVariants.{Exhausted, Back, Conflict, Failed, Open, Full}
use Rattle.search.specs.Plain.{fresh, look, act, mark, marked, model_row}

abbrev pub is_last : Finding → Bool
is_last Exhausted = true
is_last Back = false
is_last Conflict = false
is_last (Failed i) = false
is_last Open = false
is_last Full = true

-- turns one after another, from a table and marks to a table and marks, none of them the last
pub data Turns (cs : List Clause) (as₁ : List ℕ) (n : ℕ) : List ℕ → List ℕ → List ℕ → List ℕ → Type 0 where
  still : {w ks : List ℕ} → Turns cs as₁ n w ks w ks
  onward : {w ks w₁ ks₁ : List ℕ} → is_last (look cs as₁ n w) ≡ false →
      Turns cs as₁ n (act w (look cs as₁ n w)) (mark ks (look cs as₁ n w)) w₁ ks₁ → Turns cs as₁ n w ks w₁ ks₁

pub data Ends (cs : List Clause) (as₁ : List ℕ) (n : ℕ) (w ks : List ℕ) : Type 0 where
  with_model : (w₁ ks₁ : List ℕ) → Turns cs as₁ n w ks w₁ ks₁ → look cs as₁ n w₁ ≡ Full →
      all_true (truth_of (model_row w₁ 0 n)) (cs ++ units as₁) ≡ true → Ends cs as₁ n w ks
  with_core : (w₁ ks₁ : List ℕ) → Turns cs as₁ n w ks w₁ ks₁ → look cs as₁ n w₁ ≡ Exhausted →
      every (has as₁) (marked ks₁ as₁) ≡ true → CannotBe (cs ++ units (marked ks₁ as₁)) → Ends cs as₁ n w ks

-- all variables below n
abbrev pub row_below : ℕ → List ℕ → Bool
row_below n c = every (λ l. nat_lt (l / 2) n) c

unfoldable pub SearchEnds : Type 0
SearchEnds =
    (cs : List Clause) (as₁ : List ℕ) (n : ℕ) (w ks : List ℕ) → n ≤ 16384 → 16640 ≤ length w → length as₁ ≤ length ks →
    every (row_below n) cs ≡ true → row_below n as₁ ≡ true → Ends cs as₁ n (fresh w) ks
