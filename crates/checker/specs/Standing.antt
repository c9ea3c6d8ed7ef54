-- The clauses that stand: the rows of a list that are still there.
use Rattle.std.specs.Prelude.{◌≡◌, ℕ, Bool, true, false, List, [], ◌∷◌, Some, None, Option, MatchOption, slice_index_or, slice_set}
use Rattle.std.specs.Borrow.{Bor}
use Rattle.formula.specs.Logic.{same_row, Clause}

-- by number, the literals of a clause, or none once it is deleted
abbrev pub Rows : Type 0
Rows = List (Option (Bor (List ℕ)))

unfoldable pub standing : Rows → List Clause
standing [] = []
standing (None ∷ rs) = standing rs
standing (Some r ∷ rs) = r.now ∷ standing rs

-- one that was found is taken away
abbrev pub dropped : Rows → Option ℕ → Rows
dropped rs None = rs
dropped rs (Some i) = slice_set rs i None

-- whether a row is there and has just these literals
abbrev pub is_copy : Clause → Option (Bor (List ℕ)) → Bool
is_copy c None = false
is_copy c (Some r) = same_row c r.now

abbrev pub copy_at : Rows → Clause → ℕ → Bool
copy_at rs c i = is_copy c (slice_index_or rs i None)

-- one that was found, or that there is none
abbrev pub Found : Rows → Clause → Option ℕ → Type 0
Found rs c o = MatchOption o ((i : ℕ) → copy_at rs c i ≡ false) (λ i. copy_at rs c i ≡ true)

-- one clause with these literals no longer stands, if one does
abbrev pub Deleted : Clause → Rows → Rows → Type 0
Deleted c rs rs₁ = (o : Option ℕ) × Found rs c o × (rs₁ ≡ dropped rs o)
