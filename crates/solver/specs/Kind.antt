-- The numbers that stand for the kinds of a step, as `event_of` reads them. Definitions only.
use Rattle.std.specs.Prelude.{◌≡◌, ℕ, ◌<◌, Result, MatchResult}
use Rattle.solver.specs.declared.kind.Kind.{Kind}
use Rattle.solver.specs.declared.kind.Kind.TheVariants.{NewVar, Add, Assume, Solve, Model, Core, Read, Print, Prove, GoOn}
use Rattle.solver.specs.declared.kind.UnknownKind.{UnknownKind}

abbrev pub number_of : Kind → ℕ
number_of NewVar = 0
number_of Add = 1
number_of Assume = 2
number_of Solve = 3
number_of Model = 4
number_of Core = 5
number_of Read = 6
number_of Print = 7
number_of Prove = 8
number_of GoOn = 9

-- the kind with this number, or the number back where none has it
abbrev pub HasKind : ℕ → Result Kind UnknownKind → Type 0
HasKind n r = MatchResult r (λ kind. number_of kind ≡ n) (λ e. (e.0 ≡ n) × (9 < n))
