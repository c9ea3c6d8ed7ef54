-- What `run` promises: a command driven to its end is the run of the machine that the definitions have, and the sink was told
-- just what that run shows and writes. Definitions only.
use Rattle.std.specs.Prelude.{◌≡◌, ℕ, Bool, true, false, List, [], ◌∷◌, take, Some, None, Option}
use Rattle.solver.specs.declared.Told.{Told}
use Rattle.solver.specs.declared.Told.TheVariants.{Shows, Writes, Done, No}
use Rattle.solver.specs.declared.run.End.{End}
use Rattle.solver.specs.declared.run.End.TheVariants.{Finished, Refused, Unfinished, Lost}
use Rattle.solver.specs.Promise.{Ran, runs, next}
use Rattle.solver.specs.State.{zeros}
use Rattle.solver.specs.Entry.{own, event_of, step_fits}

abbrev pub run_fits : List ℕ → ℕ → List ℕ → List ℕ → Bool
run_fits m k row bytes = step_fits m k row bytes (zeros 128)

-- `told ss ws`: since it was handed over, the sink was told the numbers ss and the bytes ws
abbrev pub Ended : (List ℕ → List ℕ → Type 0) → Ran → ℕ → List ℕ → Type 0
Ended told r end m₁ = (r.end ≡ end) × (m₁ ≡ r.memory) × told r.showed r.wrote

-- what one step told is handed on: None to go on, or how the run ends
abbrev pub Handed : (List ℕ → List ℕ → Type 0) → Told → List ℕ → Option End → Type 0
Handed told (Shows n) out None = told (n ∷ []) []
Handed told (Shows n) out (Some e) = e ≡ Lost
Handed told (Writes n) out None = told [] (take n out)
Handed told (Writes n) out (Some e) = e ≡ Lost
Handed told Done out r = (r ≡ Some Finished) × told [] []
Handed told (No k) out r = (r ≡ Some (Refused k)) × told [] []

-- within a budget of n steps; if the sink fails, going on from the memory leads to the same end
unfoldable pub RunSays : (List ℕ → List ℕ → Type 0) → List ℕ → ℕ → List ℕ → List ℕ → ℕ → Bool → End → List ℕ → Type 0
RunSays told m k row bytes n true Finished m₁ = Ended told (runs n own m (event_of k row bytes) [] []) 0 m₁
RunSays told m k row bytes n true (Refused q) m₁ = Ended told (runs n own m (event_of k row bytes) [] []) q m₁
RunSays told m k row bytes n true Unfinished m₁ = Ended told (runs n own m (event_of k row bytes) [] []) 1000 m₁
RunSays told m k row bytes n true Lost m₁ =
    (j : ℕ) × (ss : List ℕ) × (ws : List ℕ) × (runs j own m₁ next ss ws ≡ runs n own m (event_of k row bytes) [] [])
RunSays told m k row bytes n false r m₁ = (r ≡ Refused 0) × (m₁ ≡ m) × told [] []
