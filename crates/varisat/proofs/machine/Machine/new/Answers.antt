use Rattle.std.proofs.Common.{◌≡◌, ℕ, replicate, vec_len, ap, ◌∙◌, rules}
use Rattle.std.proofs.lemmas.List.{with_items_is}
use Rattle.solver.specs.Entry.{own}
use Rattle.solver.specs.State.{zeros}
use Rattle.varisat.proofs.machine.Machine.new.Goals as goal

pub returns : goal.returns
unfolding own zeros
returns c =
    let lent = c.as_mut_slice.ensures in
    let long : vec_len c.in_ok-memory.memory ≡ 524288 = search rules in
    with_items_is c.in_ok-memory.memory c.begin.new.memory (c.begin.auto.memory ∙ lent.len)
    ∙ (c.begin.ensures.cleared ∙ ap (λ (n : ℕ). replicate n 0) (lent.len ∙ long))
