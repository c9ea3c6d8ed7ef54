use Rattle.std.proofs.Common.{ℕ, List, ◌∙◌, ap, sym, eqb, take, rules, tests}
use Rattle.std.specs.List.{list_any}
use Rattle.std.proofs.lemmas.Iterator.{YieldsList-from_slice}
use Rattle.std.proofs.lemmas.Iterator.Search.{any_from_yields_List}
use Rattle.search.proofs.Scans.{some_marked_take}
use Rattle.search.proofs.plain.some_marked.Goals as goal

pub returns : goal.returns
returns c =
    any_from_yields_List (λ (k : ℕ). eqb k 1) _ _ _ c.any.ensures.ran (YieldsList-from_slice _ c.iter.ensures.rest) (λ x b q k. search (rules, tests))
    ∙ ap (λ (n : ℕ). list_any (λ (k : ℕ). eqb k 1) (take n c.args.marks.now)) c.min-len.ensures
    ∙ sym (some_marked_take c.args.marks.now c.args.assumptions.now)
