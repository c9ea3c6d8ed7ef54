-- What can be asked of the solver, and what it is to answer: commands, refusals, models, cores and proofs.
-- Definitions only; nothing here knows of a search.
use Rattle.std.specs.Prelude.{◌≡◌, ℕ, suc, ◌/◌, Bool, true, false, not, ◌&&◌, ltb, ◌⊎◌, List, [], ◌∷◌, ◌++◌, length, drop, ◌==◌, nat_le, nat_lt}
use Rattle.formula.specs.Logic.{pick, every, none_of, Clause, all_true, CannotBe, units, has, truth_of, how_large, Step, holds, has_empty}
use Rattle.dimacs.specs.Text.{Read, goes_on, wrong, file_read, formula_text, proof_text, row_vars, vars_of, larger}
use Rattle.dimacs.specs.Statements.{lits_fit}

-- solved: 0 not yet, 1 it can be, 2 it can't; steps: those of the proof so far
pub record House : Type 0 where
  pub clauses : List Clause
  pub assumed : List ℕ
  pub made : ℕ  -- so many variables there are at least
  pub solved : ℕ
  pub model : List ℕ
  pub core : List ℕ
  pub proving : Bool
  pub steps : List Step

abbrev pub house : List Clause → List ℕ → ℕ → ℕ → List ℕ → List ℕ → Bool → List Step → House
house cs as₁ n s m k p ss = record { clauses = cs; assumed = as₁; made = n; solved = s; model = m; core = k; proving = p; steps = ss }

pub data Command : Type 0 where
  new_var : Command
  add : Clause → Command
  assume : List ℕ → Command
  solve : Command
  model_of : Command  -- a row of literals
  failed_core : Command  -- a row of literals
  read_file : List ℕ → Command
  print_it : Command
  prove : Command  -- from now on steps are written

abbrev pub fitting : List Clause → Bool
fitting cs = nat_le (length cs) 16384 && nat_le (how_large cs) 65536

unfoldable pub read_refusal : House → Read → ℕ
read_refusal h (goes_on r) = pick (fitting (h.clauses ++ r.read_clauses)) 0 7
read_refusal h (wrong k ns) = k

-- 4 it isn't known so; 6 a literal above 32,767, or more than 1,024 of them; 7 there would be more than 16,384 variables or clauses, or 65,536 literals; 8 not while
-- a proof is written, or too late for that; 20 to 25 of a file
unfoldable pub refusal : House → Command → ℕ
refusal h new_var = pick (nat_lt h.made 16384) (pick (h.proving && not (h.solved == 0)) 8 0) 7
refusal h (add c) =
    pick (lits_fit c && nat_le (length c) 1024) (pick (fitting (h.clauses ++ c ∷ [])) (pick (h.proving && not (h.solved == 0)) 8 0) 7) 6
refusal h (assume ls) = pick (lits_fit ls && nat_le (length ls) 1024) (pick h.proving 8 0) 6
refusal h solve = 0
refusal h model_of = pick (h.solved == 1) 0 4
refusal h failed_core = pick (h.solved == 2) 0 4
refusal h (read_file bs) = pick (h.proving && not (h.solved == 0)) 8 (read_refusal h (file_read bs))
refusal h print_it = 0
refusal h prove = pick ((none_of h.clauses && none_of h.assumed) && (h.made == 0 && not h.proving)) 0 8

-- with what a refusal is shown: what was wrong in a file
unfoldable pub read_rows : Read → List ℕ
read_rows (goes_on r) = []
read_rows (wrong k ns) = ns

unfoldable pub refused_with : House → Command → List ℕ
refused_with h (read_file bs) = pick (h.proving && not (h.solved == 0)) [] (read_rows (file_read bs))
refused_with h new_var = []
refused_with h (add c) = []
refused_with h (assume ls) = []
refused_with h solve = []
refused_with h model_of = []
refused_with h failed_core = []
refused_with h print_it = []
refused_with h prove = []

-- more clauses: what couldn't be still can't
abbrev pub with_clauses : House → List Clause → House
with_clauses h cs =
    house (h.clauses ++ cs) h.assumed (larger h.made (vars_of cs)) (pick (h.solved == 2) 2 0) [] h.core h.proving h.steps

unfoldable pub read_after : House → Read → House
read_after h (goes_on r) = with_clauses h r.read_clauses
read_after h (wrong k ns) = h

-- other assumptions: what couldn't be without any still can't
abbrev pub with_assumed : House → List ℕ → House
with_assumed h ls =
    house h.clauses ls (larger h.made (row_vars ls)) (pick (h.solved == 2 && none_of h.core) 2 0) [] h.core h.proving h.steps

-- A MODEL: a literal for each variable, by rising variables, of which all clauses and assumptions are true
unfoldable pub each_var : ℕ → List ℕ → Bool
each_var v [] = true
each_var v (l ∷ ls) = l / 2 == v && each_var (suc v) ls

unfoldable pub AModel : House → List ℕ → Type 0
AModel h ms = (length ms ≡ h.made) × (each_var 0 ms ≡ true) × (all_true (truth_of ms) (h.clauses ++ units h.assumed) ≡ true)

-- A CORE: some of the assumptions with which the clauses can't be
unfoldable pub ACore : House → List ℕ → Type 0
ACore h ks = (every (has h.assumed) ks ≡ true) × CannotBe (h.clauses ++ units ks)

-- THE PROOF goes on: its steps hold of the clauses, and say so if they can't be
unfoldable pub Proved : House → House → Type 0
Proved h h₁ =
    (h.proving ≡ false → h₁.steps ≡ h.steps)
    × (h.proving ≡ true → (more : List Step) × (h₁.steps ≡ h.steps ++ more) × (holds h.clauses h₁.steps ≡ true)
    × (h₁.solved ≡ 2 → has_empty h₁.steps ≡ true))

-- solving: known already, it's told again
unfoldable pub Solved : House → House → Type 0
Solved h h₁ =
    (h₁.clauses ≡ h.clauses) × (h₁.assumed ≡ h.assumed) × (h₁.made ≡ h.made) × (h₁.proving ≡ h.proving)
    × ((h.solved ≡ 1 → h₁ ≡ h) × (h.solved ≡ 2 → h₁ ≡ h)
    × (h.solved ≡ 0 → Proved h h₁ × (((h₁.solved ≡ 1) × AModel h h₁.model) ⊎ ((h₁.solved ≡ 2) × ACore h h₁.core))))

-- the house afterwards
unfoldable pub After : House → Command → House → Type 0
After h new_var h₁ = h₁ ≡ house h.clauses h.assumed (suc h.made) (pick (h.solved == 1) 0 h.solved) [] h.core h.proving h.steps
After h (add c) h₁ = h₁ ≡ with_clauses h (c ∷ [])
After h (assume ls) h₁ = h₁ ≡ with_assumed h ls
After h solve h₁ = Solved h h₁
After h model_of h₁ = h₁ ≡ h
After h failed_core h₁ = h₁ ≡ h
After h (read_file bs) h₁ = h₁ ≡ read_after h (file_read bs)
After h print_it h₁ = h₁ ≡ h
After h prove h₁ = h₁ ≡ house h.clauses h.assumed h.made 0 [] [] true []

-- what's shown, a row of numbers, and what's written, bytes
unfoldable pub shown : House → Command → House → List ℕ
shown h new_var h₁ = h.made ∷ []
shown h (add c) h₁ = []
shown h (assume ls) h₁ = []
shown h solve h₁ = pick (h₁.solved == 1) 1 0 ∷ []
shown h model_of h₁ = h.model
shown h failed_core h₁ = h.core
shown h (read_file bs) h₁ = vars_of h₁.clauses ∷ length h₁.clauses ∷ []
shown h print_it h₁ = []
shown h prove h₁ = []

unfoldable pub written : House → Command → House → List ℕ
written h new_var h₁ = []
written h (add c) h₁ = []
written h (assume ls) h₁ = []
written h solve h₁ = proof_text (drop (length h.steps) h₁.steps)
written h model_of h₁ = []
written h failed_core h₁ = []
written h (read_file bs) h₁ = []
written h print_it h₁ = formula_text h.clauses
written h prove h₁ = []

unfoldable pub small_command : Command → Bool
small_command new_var = true
small_command (add c) = nat_le (length c) 1048576 && every (λ l. ltb l 18446744073709551616) c
small_command (assume ls) = nat_le (length ls) 1048576 && every (λ l. ltb l 18446744073709551616) ls
small_command solve = true
small_command model_of = true
small_command failed_core = true
small_command (read_file bs) = nat_le (length bs) 1048576 && every (λ b. ltb b 256) bs
small_command print_it = true
small_command prove = true

-- THE SMALL CORE: clauses, assumptions, solving, models. The requests widen it, until everything is known.
unfoldable pub core : Command → Bool
core new_var = true
core (add c) = true
core (assume ls) = true
core solve = true
core model_of = true
core failed_core = false
core (read_file bs) = false
core print_it = false
core prove = false

abbrev pub everything : Command → Bool
everything c = true
