-- Which commands are known: all but proofs. Definitions only.
use Rattle.std.specs.Prelude.{Bool, true, false}
use Rattle.solver.specs.House.{Command, new_var, add, assume, solve, model_of, failed_core, read_file, print_it, prove}

unfoldable pub all_but_proofs : Command → Bool
all_but_proofs new_var = true
all_but_proofs (add c) = true
all_but_proofs (assume ls) = true
all_but_proofs solve = true
all_but_proofs model_of = true
all_but_proofs failed_core = true
all_but_proofs (read_file bs) = true
all_but_proofs print_it = true
all_but_proofs prove = false
