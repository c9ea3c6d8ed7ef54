-- The worked formulas: a model or a proof as witness, computed.
-- The last lemma is the contract of `examples_hold`.
use Rattle.std.proofs.Common.{◌≡◌, true, List, [], ◌∷◌, refl}
use Rattle.formula.specs.Logic.{every, any, those, each, none_of, all_equal, first_unit, refuted, added_up, Clause, CanBe, truth_of, Step, adds, holds, has_empty}
use Rattle.formula.specs.Statements.{ProofSound}
use Rattle.formula.specs.Examples.{pos, neg, forced_chain, unit_twice, opposite_units, all_pairs, RefutedBy, Examples}
use Rattle.formula.proofs.Soundness.{proof_sound}

shown_by : (cs : List Clause) (ss : List Step) → holds cs ss ≡ true → has_empty ss ≡ true → RefutedBy cs ss
unfolding ProofSound
shown_by cs ss h e = (h, e, proof_sound cs ss h e)

unit_model : CanBe unit_twice
unfolding CanBe every any
unit_model = (truth_of (neg 1 ∷ neg 2 ∷ neg 3 ∷ pos 4 ∷ []), refl)

pub examples_hold : Examples
unfolding holds has_empty every any each those none_of all_equal first_unit refuted added_up
examples_hold = record {
  chain_fails = (shown_by forced_chain (adds [] ∷ []) refl refl).2;
  unit_stands = unit_model;
  units_fail = shown_by opposite_units (adds [] ∷ []) refl refl;
  pairs_fail = shown_by all_pairs (adds (pos 2 ∷ []) ∷ adds [] ∷ []) refl refl;
}
