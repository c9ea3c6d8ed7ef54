use Rattle.std.proofs.Common.{◌≡◌, length, replicate, sym, refl, ◌∙◌, arith}
use Rattle.solver.proofs.Drives.{drive_refused, drive_starts, drive_stops, drive_on, drive_ends}
use Rattle.solver.proofs.run.run.Goals as goal

pub returns-then-not-fits : goal.returns-then-not-fits
returns-then-not-fits g c =
    rw c.into.ensures (drive_refused (λ ss ws. g.O.Output.told c.args.out.now ss ws c.args.out.now) c.args.memory.now c.args.kind c.args.row.now c.args.bytes.now c.args.budget
    (sym c.fits.ensures ∙ c.if-not-fits.true) (g.met.O.Output.nothing c.args.out.now))

pub loop-init : goal.loop-init
loop-init g c =
    drive_starts (λ ss ws. g.O.Output.told c.args.out.now ss ws c.args.out.now) c.args.memory.now c.args.kind c.args.row.now c.args.bytes.now c.args.budget
    (replicate 128 0) refl (sym c.fits.ensures ∙ c.if-not-fits.false) (g.met.O.Output.nothing c.args.out.now)

pub returns-in-Some : goal.returns-in-Some
returns-in-Some g c =
    let same : length c.step-told.new.memory ≡ length c.loop.memory = omega arith in
    let long : length c.step-told.new.out ≡ length c.loop.buffer = omega arith in
    drive_ends
    (λ ss ws. g.O.Output.told c.args.out.now ss ws c.loop.out)
    (λ ss ws. g.O.Output.told c.loop.out ss ws c.hand_on.new.out)
    (λ ss ws. g.O.Output.told c.args.out.now ss ws c.hand_on.new.out)
    (λ ss ts ws vs b s. g.met.O.Output.after _ _ _ ss ts ws vs b s)
    c.args.memory.now c.args.kind c.args.row.now c.args.bytes.now c.args.budget c.loop.counter
    c.loop.memory c.loop.next c.loop.buffer c.step-told.new.memory c.step-told.new.out
    c.loop.invariant c.loop-test.true same long c.step-told.result c.in-Some.end
    (sym c.fits.ensures ∙ c.if-not-fits.false)
    c.step-told.ensures c.in-Some.ensures

pub loop-preserved : goal.loop-preserved
loop-preserved g c =
    let same : length c.step-told.new.memory ≡ length c.loop.memory = omega arith in
    let long : length c.step-told.new.out ≡ length c.loop.buffer = omega arith in
    rw c.from-next.ensures (drive_on
    (λ ss ws. g.O.Output.told c.args.out.now ss ws c.loop.out)
    (λ ss ws. g.O.Output.told c.loop.out ss ws c.hand_on.new.out)
    (λ ss ws. g.O.Output.told c.args.out.now ss ws c.hand_on.new.out)
    (λ ss ts ws vs b s. g.met.O.Output.after _ _ _ ss ts ws vs b s)
    c.args.memory.now c.args.kind c.args.row.now c.args.bytes.now c.args.budget c.loop.counter
    c.loop.memory c.loop.next c.loop.buffer c.step-told.new.memory c.step-told.new.out
    c.loop.invariant c.loop-test.true same long c.step-told.result c.step-told.ensures c.in_default.ensures)

pub returns : goal.returns
returns g c =
    drive_stops (λ ss ws. g.O.Output.told c.args.out.now ss ws c.loop.out) c.args.memory.now c.args.kind c.args.row.now c.args.bytes.now c.args.budget
    c.loop.counter c.loop.memory c.loop.next c.loop.buffer c.loop-test.false
    (sym c.fits.ensures ∙ c.if-not-fits.false) c.loop.invariant
