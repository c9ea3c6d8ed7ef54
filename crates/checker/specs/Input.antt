-- What the parsed data stands for: clauses and steps in the words of `formula`.
use Rattle.std.specs.Prelude.{List, ◌++◌, map, vec_items}
use Rattle.formula.specs.Logic.{Clause, Step, adds, deletes}
use Rattle.checker.specs.declared.input.Action.{Action}
use Rattle.checker.specs.declared.input.Action.TheVariants.{Add, Delete}
use Rattle.checker.specs.declared.input.ProofStep.{ProofStep}
use Rattle.checker.specs.declared.input.Input.{Input}

abbrev pub step_as : Action → Clause → Step
step_as Add c = adds c
step_as Delete c = deletes c

abbrev pub step_of : ProofStep → Step
step_of s = step_as s.action (vec_items s.clause)

abbrev pub clause_of : ProofStep → Clause
clause_of s = vec_items s.clause

-- the formula, the steps, and all clauses counted through
abbrev pub formula_of : Input → List Clause
formula_of x = map clause_of (vec_items x.formula)

abbrev pub steps_of : Input → List Step
steps_of x = map step_of (vec_items x.steps)

abbrev pub rows_of : Input → List Clause
rows_of x = formula_of x ++ map clause_of (vec_items x.steps)
