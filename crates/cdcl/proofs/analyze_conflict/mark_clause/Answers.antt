use Rattle.std.proofs.Common.{◌≡◌, ℕ, ◌+◌, sym, ap, ◌∙◌, map-id, arith}
use Rattle.std.specs.List.{fold}
use Rattle.std.specs.declared.ops.Range.{Range}
use Rattle.std.proofs.lemmas.Iterator.{YieldsList-from_range}
use Rattle.std.proofs.lemmas.Iterator.Consumers.{YieldsList-at, YieldsList-end}
use Rattle.cdcl.specs.Watch.{start_of, len_of}
use Rattle.cdcl.specs.Analysis.{mark_at}
use Rattle.cdcl.proofs.analyze_conflict.mark_clause.Goals as goal

range_is : (r : Range ℕ) (a b : ℕ) → r.start ≡ a → r.end ≡ b → r ≡ record { start = a; end = b }
range_is r a b e f = rw (sym e, sym f)

pub returns : goal.returns
returns c =
    let w = c.args.work.now in
    let k : ℕ = start_of w c.args.clause in
    let n : ℕ = len_of w c.args.clause in
    let here = range_is c.places-place-items.result k (k + n) c.places-place-items.ensures.start c.places-place-items.ensures.end in
    let all = YieldsList-end (YieldsList-at c.into_iter-place-iterator.ensures.into_iter_gives (YieldsList-from_range k (k + n) n here (omega arith))) c.loop-place.yielded _ c.loop-place.yielded_by _ _ c.in-None.is c.next.ensures.steps in
    c.loop-place.invariant ∙ ap (fold (mark_at c.args.level) w) (sym (map-id c.loop-place.yielded) ∙ all.0)
