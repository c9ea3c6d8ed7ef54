use Rattle.checker.proofs.TextRead.{says}
use Rattle.checker.proofs.verify.verify.Goals as goal

pub returns : goal.returns
returns c = says c.args.formula.now c.args.proof.now (record { formula = c.in_ok-formula.formula; steps = c.in_ok-steps.steps })
    c.in_ok-formula.ensures c.in_ok-steps.ensures c.in_ok-check_steps.field-0 c.in_ok-check_steps.ensures
