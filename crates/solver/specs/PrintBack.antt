-- What is promised of reading and printing, by what the machine itself does: what it prints, read by a machine that begins,
-- is printed by that one just so.
use Rattle.std.specs.Prelude.{◌≡◌, ℕ, List, [], ◌≢◌}
use Rattle.solver.specs.House.{Command, read_file, print_it}
use Rattle.solver.specs.Promise.{Engine, said, Ran, runs}

-- memories that commands lead to, each driven to its end
pub data Reached (e : Engine) : List ℕ → Type 0 where
  begun : Reached e e.start
  driven : {m : List ℕ} (c : Command) (n : ℕ) → Reached e m → ((runs n e m (said c) [] []).end ≢ 1000) → Reached e (runs n e m (said c) [] []).memory

abbrev pub PrintedBack : Engine → List ℕ → Ran → Type 0
PrintedBack e m printed =
    (k : ℕ) × (j : ℕ) × ((runs k e e.start (said (read_file printed.wrote)) [] []).end ≡ 0)
    × ((runs j e (runs k e e.start (said (read_file printed.wrote)) [] []).memory (said print_it) [] []).end ≡ 0)
    × ((runs j e (runs k e e.start (said (read_file printed.wrote)) [] []).memory (said print_it) [] []).wrote ≡ printed.wrote)

unfoldable pub PrintsBack : Engine → Type 0
PrintsBack e = (m : List ℕ) → Reached e m → (n : ℕ) × ((runs n e m (said print_it) [] []).end ≡ 0) × PrintedBack e m (runs n e m (said print_it) [] [])
