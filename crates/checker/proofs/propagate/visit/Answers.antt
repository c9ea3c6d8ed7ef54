use Rattle.std.proofs.Common.{length, sym, ◌∙◌}
use Rattle.std.proofs.lemmas.Bool.{eqb-true}
use Rattle.checker.proofs.Forcing.{grows_same, grows_set, refuted_empty, refuted_but}
use Rattle.checker.proofs.Counting.{in_standing}
use Rattle.checker.proofs.propagate.visit.Goals as goal

pub returns-then-is_empty : goal.returns-then-is_empty
returns-then-is_empty c = record {
  grows = grows_same _ _;
  clash = refuted_empty _ c.in-Some.clause.now _ (in_standing _ c.args.id c.in-Some.clause (sym c.get.ensures ∙ c.in-Some.is)) (eqb-true (length c.in-Some.clause.now) 0 (sym c.is_empty.ensures ∙ c.if-is_empty.true));
}

pub returns-then-is_false : goal.returns-then-is_false
returns-then-is_false c = record {
  grows = grows_same _ _;
  clash = refuted_but _ c.in-Some.clause.now c.args.second _ (in_standing _ c.args.id c.in-Some.clause (sym c.get.ensures ∙ c.in-Some.is)) c.in_default-find_open.ensures (sym c.is_false.ensures ∙ c.if-is_false.true);
}

pub returns : goal.returns
returns c = record {
  grows = grows_set _ c.args.trail.now c.make_true.new.self c.in-Some.clause.now c.args.second (in_standing _ c.args.id c.in-Some.clause (sym c.get.ensures ∙ c.in-Some.is))
      c.in_default-find_open.ensures c.make_true.ensures.round c.make_true.ensures.after;
  clash = tt;
}
