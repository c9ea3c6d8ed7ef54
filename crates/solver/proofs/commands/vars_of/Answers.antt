use Rattle.std.proofs.Common.{◌≡◌, ℕ, ◌+◌, ◌/◌, max, rules, ◌∙◌}
use Rattle.std.specs.List.{fold}
use Rattle.solver.proofs.RowVars.{fold_vars}
use Rattle.solver.proofs.commands.vars_of.Goals as goal

pub returns : goal.returns
returns c =
    let f : c.fold.result ≡ fold (λ (a l : ℕ). max a (l / 2 + 1)) 0 c.args.row.now = search rules in
    f ∙ fold_vars c.args.row.now
