use Rattle.std.proofs.Common.{get_or, sym, refl, ◌∙◌}
use Rattle.checker.proofs.Forcing.{in_at, none_forced, assumed, assumed_clash}
use Rattle.checker.proofs.trail.Trail.assume_false.Goals as goal

pub loop-lit-init : goal.loop-lit-init
loop-lit-init c = (refl, none_forced c.args.self.now c.requires c.args.clause.now)

pub returns-then-is_true : goal.returns-then-is_true
returns-then-is_true c = record {
  same = c.loop-lit.invariant.0;
  sound = c.loop-lit.invariant.1;
  clash = λ _. assumed_clash c.loop-lit.self c.args.clause.now (get_or c.args.clause.now c.loop-lit.lit-index 0)
      (in_at c.args.clause.now c.loop-lit.lit-index 0 c.loop-lit-test.true) (sym c.if-is_true.ensures) c.loop-lit.invariant.1;
}

pub loop-lit-preserved : goal.loop-lit-preserved
loop-lit-preserved c = (
  c.make_true.ensures.round ∙ c.loop-lit.invariant.0,
  assumed c.loop-lit.self c.make_true.new.self c.args.clause.now (get_or c.args.clause.now c.loop-lit.lit-index 0) c.opposite.result
      (in_at c.args.clause.now c.loop-lit.lit-index 0 c.loop-lit-test.true) c.opposite.ensures c.make_true.ensures.round c.make_true.ensures.after c.loop-lit.invariant.1,
)
