-- The literals of a clause gone through: what one turn of the loop makes of the literals that are left, and what is left at its end.
use Rattle.std.proofs.Common.{◌≡◌, ℕ, ◌+◌, ◌/◌, ◌<◌, ◌≤◌, true, false, List, length, get_or, drop, sym, ap, ◌∙◌, add-one, drop-cons}
use Rattle.std.proofs.lemmas.List.{drop_all}
use Rattle.formula.specs.Logic.{pick}
use Rattle.cdcl.specs.Work.{outcome}
use Rattle.cdcl.specs.Analysis.{is_marked}
use Rattle.cdcl.specs.Loading.{with_lit, repeats, collect}

module _ (w ls : List ℕ) (i : ℕ) where
  pub collect_turn : i < length ls →
      collect w (drop i ls)
      ≡ pick (is_marked w (get_or ls i 0 / 2)) (pick (repeats w (get_or ls i 0)) (collect w (drop (i + 1) ls)) (outcome w true)) (collect (with_lit w (get_or ls i 0)) (drop (i + 1) ls))
  unfolding collect
  collect_turn lt =
      ap (collect w) (drop-cons ls i 0 lt)
      ∙ ap (λ (k : ℕ). pick (is_marked w (get_or ls i 0 / 2)) (pick (repeats w (get_or ls i 0)) (collect w (drop k ls)) (outcome w true)) (collect (with_lit w (get_or ls i 0)) (drop k ls))) (sym (add-one i))

  pub collect_end : length ls ≤ i → collect w (drop i ls) ≡ outcome w false
  unfolding collect
  collect_end le = rw (drop_all i ls le)

pub ruleset collecting = (collect_turn, collect_end)
