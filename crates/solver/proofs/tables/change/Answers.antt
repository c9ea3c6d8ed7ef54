use Rattle.std.proofs.Common.{◌≡◌, ◌-◌, List, ℕ, take, drop, refl, arith}
use Rattle.std.specs.Fn.{FnOnceReturnsAtMut}
use Rattle.solver.specs.State.{view}
use Rattle.solver.specs.Tables.{table_of}
use Rattle.solver.proofs.MemoryMap.{table_is, changed}
use Rattle.solver.proofs.tables.change.Goals as goal

pub returns : goal.returns
returns g c =
    let there : take (c.range.result.end - c.range.result.start) (drop c.range.result.start c.args.m.now) ≡ table_of (view c.args.m.now) c.args.t =
    rw c.range.ensures (table_is c.args.m.now c.args.t) in
    let gave : FnOnceReturnsAtMut g.F.FnOnce c.args.f (table_of (view c.args.m.now) c.args.t) c.f.result c.f.new.arg2 =
    record { shown = _; shows = there; left = _; met = c.f.ensures; leaves = refl } in
    (c.f.new.arg2, gave, changed (λ (xs : List ℕ). c.f.new.arg2) c.args.m.now c.f.new.arg2 c.args.t c.range.result c.range.ensures (omega arith) c.f.auto.arg2 refl)
