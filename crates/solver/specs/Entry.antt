-- What the public functions answer: `luby`'s terms, and one step of the machine as it is told to its caller.
-- Definitions only; the contracts of src/lib.rt name them.
use Rattle.std.specs.Prelude.{◌≡◌, ℕ, zero, suc, ◌*◌, ◌/◌, ◌%◌, Bool, true, false, ◌&&◌, List, ◌++◌, length, drop, ◌==◌, nat_le, nat_lt}
use Rattle.formula.specs.Logic.{pick}
use Rattle.solver.specs.House.{new_var, add, assume, solve, model_of, failed_core, read_file, print_it, prove}
use Rattle.solver.specs.declared.Reply.{Reply}
use Rattle.solver.specs.declared.Reply.TheVariants.{Term, Refused}
use Rattle.solver.specs.State.{zeros}
use Rattle.solver.specs.Machine.{machine_step}
use Rattle.solver.specs.Promise.{Engine, Event, said, next, Act, shows, writes, done, refused}
use Rattle.solver.specs.declared.Told.{Told}
use Rattle.solver.specs.declared.Told.TheVariants.{Shows, Writes, Done, No}

abbrev pub smaller : ℕ → ℕ → ℕ
smaller a b = pick (nat_lt a b) a b

-- 1 1 2 1 1 2 4 1 1 2 1 1 2 4 8 ...: the pair u, v of Knuth's way; v is the term, and the next is doubled until it's the largest power of two that goes into u
unfoldable pub goes_into : ℕ → ℕ → ℕ
goes_into zero u = 1
goes_into (suc f) u = pick (u % 2 == 0) (2 * goes_into f (u / 2)) 1

unfoldable pub term : ℕ → ℕ → ℕ → ℕ
term zero u v = v
term (suc n) u v = pick (goes_into 64 u == v) (term n (suc u) 1) (term n u (2 * v))

-- from 0; refused with 1 above 2^20
unfoldable pub TermSays : (n : ℕ) → Bool → Reply → Type 0
TermSays n true r = r ≡ Term (term n 1 1)
TermSays n false r = r ≡ Refused 1

abbrev pub term_fits : ℕ → Bool
term_fits n = nat_le n 1048576

-- the machine itself: 524,288 numbers, all 0 at the start
unfoldable pub own : Engine
own = record { start = zeros 524288; step = λ m ev. machine_step m ev }

-- 0 a new variable, 1 a clause, 2 assume, 3 solve, 4 the model, 5 the core, 6 a file, 7 print, 8 prove, 9 go on
unfoldable pub event_of : ℕ → List ℕ → List ℕ → Event
event_of k row bytes =
    pick (k == 0) (said new_var) (pick (k == 1) (said (add row)) (pick (k == 2) (said (assume row)) (pick (k == 3) (said solve) (pick (k == 4) (said model_of)
    (pick (k == 5) (said failed_core) (pick (k == 6) (said (read_file bytes)) (pick (k == 7) (said print_it) (pick (k == 8) (said prove) next))))))))

unfoldable pub ActTold : Act → Told → (out out₁ : List ℕ) → Type 0
ActTold (shows n) r out out₁ = (r ≡ Shows n) × (out₁ ≡ out)
ActTold (writes w) r out out₁ = (r ≡ Writes (length w)) × (out₁ ≡ w ++ drop (length w) out)
ActTold done r out out₁ = (r ≡ Done) × (out₁ ≡ out)
ActTold (refused k) r out out₁ = (r ≡ No k) × (out₁ ≡ out)

-- one step: for memories of the machine's own length, up to 2^20 numbers and bytes, and 128 lent bytes; for others number 0 is told and nothing is changed
unfoldable pub StepSays : (memory : List ℕ) (kind : ℕ) (row bytes out : List ℕ) → Bool → Told → (memory₁ out₁ : List ℕ) → Type 0
StepSays memory kind row bytes out true r memory₁ out₁ =
    (memory₁ ≡ (own.step memory (event_of kind row bytes)).memory) × ActTold (own.step memory (event_of kind row bytes)).act r out out₁
StepSays memory kind row bytes out false r memory₁ out₁ = (r ≡ No 0) × (memory₁ ≡ memory) × (out₁ ≡ out)

unfoldable pub step_fits : (memory : List ℕ) (kind : ℕ) (row bytes out : List ℕ) → Bool
step_fits memory kind row bytes out =
    (length memory == length own.start) && (nat_le kind 9 && ((nat_le (length row) 1048576 && nat_le (length bytes) 1048576) && nat_le 128 (length out)))
