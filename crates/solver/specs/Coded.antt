-- How the code's answers and lent tables are told in the machine's words.
-- Definitions only; the contracts of src/ name them.
use Rattle.std.specs.Prelude.{◌≡◌, ℕ, ◌+◌, List, ◌++◌, length, drop, nat_le, Some, None, Option}
use Rattle.formula.specs.Logic.{pick}
use Rattle.dimacs.specs.Text.{larger}
use Rattle.dimacs.specs.declared.read.Counts.{Counts}
use Rattle.solver.specs.declared.Told.{Told}
use Rattle.solver.specs.declared.Told.TheVariants.{Shows, Writes, Done, No}
use Rattle.solver.specs.Promise.{Act, shows, writes, done, refused}
use Rattle.solver.specs.State.{State, view, num_vars, num_clauses, arena_len, clause_vars, verdict, with_num_vars, with_clause_vars, with_num_clauses, with_arena_len, with_verdict, with_phase, with_pending, with_pending_number, with_ending}
use Rattle.solver.specs.Machine.{Turn, turn}

-- a memory of the machine's length
abbrev pub Sized : List ℕ → Type 0
Sized m = length m ≡ 524288

abbrev pub told : Act → Told
told (shows n) = Shows n
told (writes w) = Writes (length w)
told done = Done
told (refused k) = No k

-- a turn taken: the memory is then that of its state, and its act is told
pub record Takes (t : Turn) (m : List ℕ) (r : Told) : Type 0 where
  pub after : view m ≡ t.state
  pub answer : told t.act ≡ r

-- what a row of lent bytes holds after an act
abbrev pub written_to : Act → List ℕ → List ℕ
written_to (shows n) out = out
written_to (writes w) out = w ++ drop (length w) out
written_to done out = out
written_to (refused k) out = out

-- the same, and its bytes are in the lent row
pub record TakesAndWrites (t : Turn) (m : List ℕ) (r : Told) (out out₁ : List ℕ) : Type 0 where
  pub taken : Takes t m r
  pub bytes : written_to t.act out ≡ out₁

-- so many clauses more, once they lie in the arena
abbrev pub enlarged : State → Counts → State
enlarged s c =
    with_verdict (with_arena_len (with_num_clauses (with_clause_vars (with_num_vars s (larger (num_vars s) c.vars)) (larger (clause_vars s) c.vars))
    (num_clauses s + c.clauses)) (arena_len s + (c.literals + c.clauses)))
    (pick (nat_le 2 (verdict s)) (verdict s) 0)

-- what came of a file: a number shown, and a second one and the end to come
abbrev pub tells : State → ℕ → Option ℕ → ℕ → Turn
tells s first None ending = turn (with_phase (with_ending (with_pending_number (with_pending s 0) 0) ending) 5) (shows first)
tells s first (Some n) ending = turn (with_phase (with_ending (with_pending_number (with_pending s 1) n) ending) 5) (shows first)
