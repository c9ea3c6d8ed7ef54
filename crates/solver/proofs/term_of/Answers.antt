use Rattle.std.proofs.Common.{rules}
use Rattle.solver.proofs.Doubling.{within_start, within_last, within_first, within_second, within_one}
use Rattle.solver.proofs.term_of.Goals as goal
use Rattle.solver.proofs.term_of.Goals.{then-at-half-2, else-at-half-2}

pub loop-largest-init : goal.loop-largest-init
loop-largest-init c = within_start c.args.n c.requires

pub returns-then-at-half : goal.returns-then-at-half
returns-then-at-half c = search (rules, within_last)

pub loop-largest-preserved : goal.loop-largest-preserved
loop-largest-preserved c =
    elim c.if-at-half-2.branch [
      | then-at-half-2 w ↦ rw w.at-is (within_second _ _ _ c.loop-largest-test.true c.loop-largest.invariant c.if-at-half.false w.if-at-half-2.true)
      | else-at-half-2 w ↦ rw w.at-is (within_first _ _ _ c.loop-largest-test.true c.loop-largest.invariant w.if-at-half-2.false)
    ]

pub returns : goal.returns
returns c = search (rules, within_one)
