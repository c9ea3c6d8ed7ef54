use Rattle.std.proofs.Common.{refl, ap, ◌∙◌}
use Rattle.checker.specs.declared.trail.Trail.{Trail}
use Rattle.checker.proofs.Stepping.{going_add, going_delete}
use Rattle.checker.proofs.check.Checker.take_step.Goals as goal

pub returns-in_ok-add-in-Add : goal.returns-in_ok-add-in-Add
returns-in_ok-add-in-Add c = λ _ x j inside e g.
    going_add x _ _ c.args.self.now.propagator.trail _ j c.args.step.now g inside e c.as_slice-clause.result c.as_slice-clause.result.now
    c.as_slice-clause.ensures.value c.as_slice-clause.ensures.value c.in-Add.is (c.in_ok-follows-in-Add.ensures.right c.if-not-branch.false) c.in_ok-add-in-Add.ensures.rows
    (ap (λ (t : Trail). t.round) c.add.ensures.trail ∙ c.in_ok-follows-in-Add.ensures.round)

pub returns-in-Delete : goal.returns-in-Delete
returns-in-Delete c = λ _ x j inside e g.
    going_delete x _ _ c.args.self.now.propagator.trail _ j c.args.step.now g inside e c.as_slice-clause.result.now c.as_slice-clause.ensures.value c.in-Delete.is c.delete.ensures refl
