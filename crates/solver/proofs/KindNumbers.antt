-- The numbers of the kinds: none is above 9, and each up to 9 has its kind.
-- So the test of a number for a kind is that of its size.
use Rattle.std.proofs.Common.{◌≡◌, ℕ, ◌≤◌, leb, arith, Ok, Err, Result}
use Rattle.std.specs.Result.{is_ok}
use Rattle.std.proofs.lemmas.Bool.{le-leb, lt-leb}
use Rattle.solver.specs.declared.kind.Kind.{Kind}
use Rattle.solver.specs.declared.kind.Kind.TheVariants.{NewVar, Add, Assume, Solve, Model, Core, Read, Print, Prove, GoOn}
use Rattle.solver.specs.declared.kind.UnknownKind.{UnknownKind}
use Rattle.solver.specs.Kind.{number_of, HasKind}

pub number_small : (k : Kind) → number_of k ≤ 9
number_small NewVar = omega arith
number_small Add = omega arith
number_small Assume = omega arith
number_small Solve = omega arith
number_small Model = omega arith
number_small Core = omega arith
number_small Read = omega arith
number_small Print = omega arith
number_small Prove = omega arith
number_small GoOn = omega arith

pub kind_known : (n : ℕ) (r : Result Kind UnknownKind) → HasKind n r → is_ok r ≡ leb n 9
kind_known n (Ok k) e = let h = number_small k in grind (arith, le-leb)
kind_known n (Err u) e = grind (arith, lt-leb)
