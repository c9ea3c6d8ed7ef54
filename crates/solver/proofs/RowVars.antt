-- How many variables a row of literals needs: the largest that one of them needs, from the first on.
use Rattle.std.proofs.Common.{◌≡◌, ℕ, ◌+◌, ◌/◌, max, List, [], ◌∷◌, ◌∙◌, arith}
use Rattle.std.specs.List.{fold}
use Rattle.dimacs.specs.Text.{row_vars, larger}

fold_larger : (n : ℕ) (row : List ℕ) → fold (λ (a l : ℕ). max a (l / 2 + 1)) n row ≡ larger n (row_vars row)
unfolding row_vars
fold_larger n [] = grind arith
fold_larger n (l ∷ row) = fold_larger (max n (l / 2 + 1)) row ∙ grind arith

pub fold_vars : (row : List ℕ) → fold (λ (a l : ℕ). max a (l / 2 + 1)) 0 row ≡ row_vars row
fold_vars row = fold_larger 0 row ∙ grind arith
