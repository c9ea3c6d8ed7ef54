-- Small formulas worked out: which can be true, which can't, and proofs that show it.
-- Literals are named as in files: variables from 1, `neg` for a minus.
use Rattle.std.specs.Prelude.{◌≡◌, ℕ, suc, ◌-◌, ◌*◌, true, List, [], ◌∷◌}
use Rattle.formula.specs.Logic.{Clause, CanBe, CannotBe, Step, adds, holds, has_empty}

abbrev pub pos : ℕ → ℕ
pos v = 2 * (v - 1)

abbrev pub neg : ℕ → ℕ
neg v = suc (2 * (v - 1))

-- 1 2 3; -1; 1 -2; 2 -3
abbrev pub forced_chain : List Clause
forced_chain = (pos 1 ∷ pos 2 ∷ pos 3 ∷ []) ∷ (neg 1 ∷ []) ∷ (pos 1 ∷ neg 2 ∷ []) ∷ (pos 2 ∷ neg 3 ∷ []) ∷ []

-- 4; 4
abbrev pub unit_twice : List Clause
unit_twice = (pos 4 ∷ []) ∷ (pos 4 ∷ []) ∷ []

-- 1; 2 3; -1; 4 5
abbrev pub opposite_units : List Clause
opposite_units = (pos 1 ∷ []) ∷ (pos 2 ∷ pos 3 ∷ []) ∷ (neg 1 ∷ []) ∷ (pos 4 ∷ pos 5 ∷ []) ∷ []

-- 1 2; -1 2; 1 -2; -1 -2
abbrev pub all_pairs : List Clause
all_pairs = (pos 1 ∷ pos 2 ∷ []) ∷ (neg 1 ∷ pos 2 ∷ []) ∷ (pos 1 ∷ neg 2 ∷ []) ∷ (neg 1 ∷ neg 2 ∷ []) ∷ []

-- steps that hold of the clauses, with the empty clause among them
abbrev pub RefutedBy : List Clause → List Step → Type 0
RefutedBy cs ss = (holds cs ss ≡ true) × (has_empty ss ≡ true) × CannotBe cs

pub record Examples : Type 0 where
  pub chain_fails : CannotBe forced_chain
  pub unit_stands : CanBe unit_twice
  pub units_fail : RefutedBy opposite_units (adds [] ∷ [])
  pub pairs_fail : RefutedBy all_pairs (adds (pos 2 ∷ []) ∷ adds [] ∷ [])
