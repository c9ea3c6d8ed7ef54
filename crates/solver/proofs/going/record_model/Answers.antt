use Rattle.std.proofs.Common.{ℕ, ◌+◌, ◌-◌, min, ltb, List, sym, ap, ◌∙◌, arith}
use Rattle.formula.specs.Logic.{pick}
use Rattle.search.specs.Plain.{model_lit}
use Rattle.solver.specs.State.{view}
use Rattle.solver.proofs.Turning.{recorded, recorded_more, recorded_none}
use Rattle.solver.proofs.going.record_model.Goals as goal

pub loop-var-preserved : goal.loop-var-preserved
loop-var-preserved c =
    recorded_more (view c.loop-var.m) (view c.put_in.new.m) c.loop-var.var (c.min-vars.result - c.loop-var.var) (c.min-vars.result - (c.loop-var.var + 1))
    c.model_literal-lit.result (omega arith) (omega arith)
    (c.model_literal-lit.ensures ∙ ap (λ (w : List ℕ). pick (ltb c.loop-var.var 16384) (model_lit w c.loop-var.var) 0) c.table_in.ensures) c.put_in.ensures
    ∙ c.loop-var.invariant

pub returns : goal.returns
returns c =
    sym (recorded_none (view c.loop-var.m) c.loop-var.var (c.min-vars.result - c.loop-var.var) (omega arith))
    ∙ (c.loop-var.invariant ∙ ap (recorded (view c.args.m.now) 0) (c.min-vars.ensures ∙ ap (λ (n : ℕ). min n 16384) c.read.ensures))
