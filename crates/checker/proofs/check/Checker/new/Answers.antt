use Rattle.std.proofs.Common.{List, length, get_or, ap, ◌∙◌, arith, vec_items}
use lib.ListN.{length-map}
use Rattle.std.proofs.lemmas.List.{take_all}
use Rattle.checker.specs.declared.input.ProofStep.{ProofStep}
use Rattle.checker.specs.Input.{clause_of, formula_of}
use Rattle.checker.specs.Standing.{standing}
use Rattle.checker.proofs.Stepping.{going_start, standing_more}
use Rattle.checker.proofs.check.Checker.new.Goals as goal

pub loop-step-init : goal.loop-step-init
unfolding standing
loop-step-init c = (ap standing c.new-2.ensures, c.in_ok-new.ensures)

pub loop-step-preserved : goal.loop-step-preserved
loop-step-preserved c = (
  standing_more c.args.input.now (vec_items c.loop-step.checker.clauses.rows) (vec_items c.add.new.self.clauses.rows) c.loop-step.step-index c.as_slice.result c.step-item.result (omega (arith, ap length c.deref-step-items.ensures.value))
      (c.step-item.is ∙ ap (λ (ps : List ProofStep). get_or ps c.loop-step.step-index c.step-item.result) c.deref-step-items.ensures.value) c.as_slice.ensures.value
      c.in_ok-add.ensures.rows c.loop-step.invariant.0,
  ap (λ t. t.round) c.add.ensures.trail ∙ c.loop-step.invariant.1,
)

pub returns : goal.returns
returns c = going_start c.args.input.now _ _ (c.loop-step.invariant.0 ∙ take_all c.loop-step.step-index (formula_of c.args.input.now) (omega (arith, length-map (vec_items c.args.input.now.formula) clause_of, ap length c.deref-step-items.ensures.value))) c.loop-step.invariant.1
