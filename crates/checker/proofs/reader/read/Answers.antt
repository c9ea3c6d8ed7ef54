use Rattle.std.proofs.Common.{OnOk, arith, ◌≡◌, get_or, Some, sym, ◌∙◌, subst}
use Rattle.std.proofs.lemmas.Grind.{common_steps}
use Rattle.checker.specs.declared.reader.Source.{Source}
use Rattle.checker.specs.Reading.{fed}
use Rattle.checker.specs.Views.{state_of}
use Rattle.checker.proofs.TextRead.{on_ok, fed_more, fed_last, read_done}
use Rattle.checker.proofs.reader.read.Goals as goal

pub loop-byte-preserved : goal.loop-byte-preserved
loop-byte-preserved c = (
  c.feed.ensures.source ∙ c.loop-byte.invariant.0,
  sym (fed_more c.args.source (state_of c.loop-byte.reader) (state_of c.feed.new.self) c.args.text.now c.loop-byte.byte-index c.loop-byte-test.true
      (subst (λ (k : Source). fed k (state_of c.loop-byte.reader) (get_or c.args.text.now c.loop-byte.byte-index 0) ≡ Some (state_of c.feed.new.self)) c.loop-byte.invariant.0
      c.in_ok-feed.ensures.after))
      ∙ c.loop-byte.invariant.1,
)

pub returns : goal.returns
returns c =
    let e = subst (λ (k : Source). OnOk c.feed-2.result (fed k (state_of c.loop-byte.reader) 10 ≡ Some (state_of c.feed-2.new.self))) c.loop-byte.invariant.0 c.feed-2.ensures.after in
    read_done c.args.source c.args.text.now (state_of c.feed-2.new.self)
    (sym c.loop-byte.invariant.1 ∙ fed_last c.args.source (state_of c.loop-byte.reader) (state_of c.feed-2.new.self) c.args.text.now c.loop-byte.byte-index c.loop-byte-test.false
    (on_ok c.feed-2.result _ (grind (arith, common_steps)) e))
    (sym c.is_fresh.ensures ∙ c.if-not-is_fresh.false)
