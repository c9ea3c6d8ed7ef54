-- What is read back of a state once clauses more are counted in it.
-- So what is told of a file is what the machine tells.
use Rattle.std.proofs.Common.{◌≡◌, ℕ, ◌+◌, ◌∙◌, ap, refl, true, Some, length, arith, length-set}
use Rattle.std.proofs.lemmas.List.{get_or-set_same, get_or-set_other}
use Rattle.dimacs.specs.Text.{larger}
use Rattle.dimacs.specs.declared.read.Counts.{Counts}
use Rattle.dimacs.specs.Scan.{Formula}
use Rattle.solver.specs.State.{State, num_clauses, clause_vars}
use Rattle.solver.specs.Coded.{enlarged, tells}
use Rattle.solver.specs.Machine.{counts_fit, on_outcome}

module _ (s : State) (c : Counts) (long : length s.scalars ≡ 256) where
  clauses_counted : num_clauses (enlarged s c) ≡ num_clauses s + c.clauses
  clauses_counted = grind (arith, get_or-set_same, get_or-set_other, length-set)

  vars_counted : clause_vars (enlarged s c) ≡ larger (clause_vars s) c.vars
  vars_counted = grind (arith, get_or-set_same, get_or-set_other, length-set)

  pub file_told : (s₁ : State) (vars clauses : ℕ) → counts_fit s c ≡ true → s₁ ≡ enlarged s c → vars ≡ clause_vars s₁ → clauses ≡ num_clauses s₁
      → tells s₁ vars (Some clauses) 0 ≡ on_outcome s (Formula c)
  file_told s₁ vars clauses fit e v n =
      let p : vars ≡ larger (clause_vars s) c.vars = v ∙ (ap clause_vars e ∙ vars_counted) in
      let q : clauses ≡ num_clauses s + c.clauses = n ∙ (ap num_clauses e ∙ clauses_counted) in
      rw (p, q, e, fit) refl
