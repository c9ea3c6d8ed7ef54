-- The row of literals that a search's values make: one for each variable, by rising variables.
-- Its length, its variables and the bound of its literals; what is true of it is promised by the search.
use Rattle.std.proofs.Common.{◌≡◌, ℕ, zero, suc, ◌+◌, ◌*◌, ◌/◌, ◌≤◌, true, eqb, ltb, List, length, refl, ap, arith}
use Rattle.std.proofs.lemmas.Bool.{lt-ltb, and_from, eq-eqb}
use Rattle.formula.specs.Logic.{every}
use Rattle.search.specs.Plain.{value_of, model_lit, model_row}
use Rattle.solver.specs.House.{each_var}
use Rattle.solver.proofs.Picks.{pick_both}

pub length_model_row : (w : List ℕ) (v k : ℕ) → length (model_row w v k) ≡ k
unfolding model_row
length_model_row w v zero = refl
length_model_row w v (suc k) = ap suc (length_model_row w (suc v) k)

model_lit_var : (w : List ℕ) (v : ℕ) → model_lit w v / 2 ≡ v
unfolding model_lit
model_lit_var w v = pick_both (λ (l : ℕ). l / 2 ≡ v) (eqb (value_of w v) 1) (2 * v + 1) (2 * v) (λ h. omega arith) (λ h. omega arith)

pub each_var_model_row : (w : List ℕ) (v k : ℕ) → each_var v (model_row w v k) ≡ true
unfolding model_row each_var
each_var_model_row w v zero = refl
each_var_model_row w v (suc k) = and_from _ _ (eq-eqb _ _ (model_lit_var w v)) (each_var_model_row w (suc v) k)

pub model_row_small : (w : List ℕ) (v k : ℕ) → v + k ≤ 16384 → every (λ m. ltb m 18446744073709551616) (model_row w v k) ≡ true
unfolding model_row every
model_row_small w v zero h = refl
model_row_small w v (suc k) h = let e = model_lit_var w v in and_from _ _ (lt-ltb _ _ (omega arith)) (model_row_small w (suc v) k (omega arith))
