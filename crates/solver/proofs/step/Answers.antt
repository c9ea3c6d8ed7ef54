use Rattle.std.proofs.Common.{◌≡◌, ◌≤◌, ◌++◌, length, drop, leb, sym, ◌∙◌, arith, length-append, length-drop}
use Rattle.std.proofs.lemmas.Bool.{and_parts, leb-true}
use borrow.Author.Tests.{clash}
use Rattle.solver.proofs.KindNumbers.{number_small}
use Rattle.solver.proofs.Steps.{fits_all, fits_kind, fits_room, fits_short, fits_sized, stays, step_taken, written_on}
use Rattle.solver.proofs.step.Goals as goal

pub returns-then-not-are_short : goal.returns-then-not-are_short
returns-then-not-are_short c =
    stays c.args.memory.now c.args.kind c.args.row.now c.args.bytes.now c.args.out.now _ c.into.ensures
    (λ f. clash (sym c.if-not-are_short.true ∙ c.are_short.ensures ∙ fits_short _ c.args.kind c.args.row.now c.args.bytes.now _ f))

pub returns-in_default : goal.returns-in_default
returns-in_default c =
    stays c.args.memory.now c.args.kind c.args.row.now c.args.bytes.now c.args.out.now _ c.into-in_default.ensures
    (λ f. let h = fits_kind _ _ _ _ _ f in grind arith)

pub returns-in_default-as_mut_array : goal.returns-in_default-as_mut_array
returns-in_default-as_mut_array c =
    stays c.args.memory.now c.args.kind c.args.row.now c.args.bytes.now c.args.out.now _ c.into-in_default-as_mut_array.ensures
    (λ f. let h = fits_sized _ _ _ _ _ f in grind arith)

pub returns-in_default-first_chunk_mut : goal.returns-in_default-first_chunk_mut
returns-in_default-first_chunk_mut c =
    rw c.in-Some.ensures.cases.same
    (stays c.args.memory.now c.args.kind c.args.row.now c.args.bytes.now c.args.out.now _ c.into-in_default-first_chunk_mut.ensures
    (λ f. let h = fits_room _ _ _ _ _ f in grind arith))

pub take-requires : goal.take-requires
take-requires c = leb-true _ _ (and_parts (leb (length c.args.row.now) 1048576) _ (sym c.are_short.ensures ∙ c.if-not-are_short.false)).1

pub returns : goal.returns
returns c =
    let m = c.in-Some.ensures.cases.same in
    let b = c.in-Some-first_chunk_mut.ensures.cases in
    let sized = c.in-Some.ensures.cases.long in
    let small : c.args.kind ≤ 9 = let h = number_small c.in-Ok.kind in grind arith in
    let long : length c.take.new.m ≡ length c.args.memory.now = omega arith in
    let whole : length (c.take.new.out ++ drop 128 c.args.out.now) ≡ length c.args.out.now = omega arith in
    let parts = length-append c.take.new.out (drop 128 c.args.out.now) in
    let rest = length-drop 128 c.args.out.now in
    let enough = b.enough in
    let full : length c.take.new.out ≡ 128 = omega arith in
    step_taken c.args.memory.now c.take.new.m c.args.kind _ c.args.row.now c.args.bytes.now c.args.out.now _ c.take.result
    (fits_all _ _ _ _ _ sized small (sym c.are_short.ensures ∙ c.if-not-are_short.false) b.enough) c.in-Ok.ensures long (rw m at c.take.ensures.taken)
    (written_on _ c.in-Some-first_chunk_mut.out.now c.take.new.out c.args.out.now b.same b.enough full (rw m at c.take.ensures.bytes))
