-- Plain search ends: below each depth it finds a model, or comes back to that depth having tried all values from there on,
-- and then no truth that agrees with the values above makes clauses and marked assumptions true.
use Rattle.std.proofs.Common.{◌≡◌, ℕ, zero, suc, ◌+◌, ◌-◌, ◌<◌, ◌≤◌, Bool, true, false, not, eqb, ltb, ◌⊎◌, List, [], ◌∷◌, ◌++◌, length, get_or, set, sym, refl, ap, ◌∙◌, subst, inl, inr, add-one, arith, length-set}
use Rattle.std.proofs.lemmas.List.{get_or-set_same, get_or-set_other}
use Rattle.std.proofs.lemmas.Bool.{cases_Bool, cases_eq, lt-ltb, le-ltb, ne_eqb}
use Rattle.formula.specs.Logic.{pick, every, any, units, Clause, Truth, all_true, CannotBe, truth_of}
use Rattle.formula.proofs.Rows.{In, in_right, in_each}
use Rattle.search.specs.declared.plain.Finding.{Finding}
use Rattle.search.specs.declared.plain.Finding.TheVariants.{Exhausted, Back, Conflict, Failed, Open, Full}
use Rattle.search.specs.Ends.{is_last, Turns, still, onward, Ends, with_model, with_core, row_below, SearchEnds}
use Rattle.search.specs.Plain.{depth_of, value_of, fresh, lit_false, some_false, first_failed, look, act, mark, marked, model_row}
use Rattle.search.proofs.Marks.{Grown, grown_same, grown_then, grown_set, every_marked, in_marked, fails_grown}
use Rattle.search.proofs.Values.{Agrees, lit_false_in, clause_false_in, some_false_in, all_true_in, model_agrees}

-- THE TABLE: a depth, and 1 or 0 as the search goes back or not
pub record At (w : List ℕ) (d way : ℕ) : Type 0 where
  pub long : 16640 ≤ length w
  pub depth : get_or w 0 0 ≡ d
  pub goes : get_or w 1 0 ≡ way

-- the same values below d
abbrev Kept : ℕ → List ℕ → List ℕ → Type 0
Kept d w w₁ = (v : ℕ) → v < d → value_of w₁ v ≡ value_of w v

at_fresh : (w : List ℕ) → 16640 ≤ length w → At (fresh w) 0 0
at_fresh w l = record { long = grind (arith, length-set); depth = grind (arith, get_or-set_same, get_or-set_other, length-set); goes = grind (arith, get_or-set_same, get_or-set_other, length-set) }

at_turned : (w : List ℕ) (d : ℕ) → At w d 0 → At (set w 1 1) d 1
at_turned w d a = record { long = grind (arith, length-set); depth = grind (arith, get_or-set_other); goes = grind (arith, get_or-set_same) }

at_deeper : (w : List ℕ) (d : ℕ) → At w d 0 → At (set (set w (256 + d) 1) 0 (suc d)) (suc d) 0
at_deeper w d a = record { long = grind (arith, length-set); depth = grind (arith, get_or-set_same, length-set); goes = grind (arith, get_or-set_other) }

at_flipped : (w : List ℕ) (d : ℕ) → At w (suc d) 1 → At (set (set w (256 + d) 2) 1 0) (suc d) 0
at_flipped w d a = record { long = grind (arith, length-set); depth = grind (arith, get_or-set_other); goes = grind (arith, get_or-set_same, length-set) }

at_up : (w : List ℕ) (d : ℕ) → At w (suc d) 1 → At (set w 0 d) d 1
at_up w d a = record { long = grind (arith, length-set); depth = grind (arith, get_or-set_same); goes = grind (arith, get_or-set_other) }

kept_cell : (d : ℕ) (w : List ℕ) (i x : ℕ) → i < 256 → Kept d w (set w i x)
kept_cell d w i x l v m = get_or-set_other w i (256 + v) x 0 (λ e. omega arith)

-- a value written at d, and a cell
kept_value : (d : ℕ) (w : List ℕ) (y i x : ℕ) → i < 256 → Kept d w (set (set w (256 + d) y) i x)
kept_value d w y i x l v m = kept_cell d (set w (256 + d) y) i x l v m ∙ get_or-set_other w (256 + d) (256 + v) y 0 (λ e. omega arith)

value_written : (d : ℕ) (w : List ℕ) (y i x : ℕ) → i < 256 → 256 + d < length w → value_of (set (set w (256 + d) y) i x) d ≡ y
value_written d w y i x l m = get_or-set_other (set w (256 + d) y) i (256 + d) x 0 (λ e. omega arith) ∙ get_or-set_same w (256 + d) y 0 m

-- A TURN
module _ (cs : List Clause) (as₁ : List ℕ) (n : ℕ) where
  look_down : (w : List ℕ) (d : ℕ) → At w d 0 → d ≤ 16384 →
      look cs as₁ n w ≡ pick (some_false d w cs) Conflict (first_failed d w 0 as₁ (pick (ltb d n) Open Full))
  unfolding look
  look_down w d a l = let e : depth_of w ≡ d = omega arith in rw (a.goes, e)

  look_back : (w : List ℕ) (d : ℕ) → At w (suc d) 1 → d < 16384 → look cs as₁ n w ≡ Back
  unfolding look
  look_back w d a l = let e : depth_of w ≡ suc d = omega arith in rw (a.goes, e, ne_eqb (suc d) 0 (λ z. omega arith))

  look_exhausted : (w : List ℕ) → At w 0 1 → look cs as₁ n w ≡ Exhausted
  unfolding look
  look_exhausted w a = let e : depth_of w ≡ 0 = omega arith in rw (a.goes, e)

act_deeper : (w : List ℕ) (d : ℕ) → At w d 0 → d ≤ 16384 → act w Open ≡ set (set w (256 + d) 1) 0 (suc d)
unfolding act
act_deeper w d a l = let e : depth_of w ≡ d = omega arith in rw (e, add-one)

act_flips : (w : List ℕ) (d : ℕ) → At w (suc d) 1 → d < 16384 → value_of w d ≡ 1 → act w Back ≡ set (set w (256 + d) 2) 1 0
unfolding act
act_flips w d a l one = let e : depth_of w - 1 ≡ d = omega arith in rw (e, one)

act_up : (w : List ℕ) (d : ℕ) → At w (suc d) 1 → d < 16384 → value_of w d ≡ 2 → act w Back ≡ set w 0 d
unfolding act
act_up w d a l two = let e : depth_of w - 1 ≡ d = omega arith in rw (e, two)

-- an assumption is false, or none is
data Assumed (d : ℕ) (w : List ℕ) (i : ℕ) (as₁ : List ℕ) (f : Finding) : Type 0 where
  one_fails : (k : ℕ) → k < length as₁ → lit_false d w (get_or as₁ k 0) ≡ true → first_failed d w i as₁ f ≡ Failed (i + k) → Assumed d w i as₁ f
  none_fails : ((l : ℕ) → In l as₁ → lit_false d w l ≡ false) → first_failed d w i as₁ f ≡ f → Assumed d w i as₁ f

assumed : (d : ℕ) (w : List ℕ) (i : ℕ) (as₁ : List ℕ) (f : Finding) → Assumed d w i as₁ f
unfolding first_failed
assumed d w i [] f = none_fails (λ l j. absurd j) refl
assumed d w i (a ∷ as₁) f = go (lit_false d w a) refl (assumed d w (suc i) as₁ f)
  where
    step : (b : Bool) → lit_false d w a ≡ b → first_failed d w i (a ∷ as₁) f ≡ pick b (Failed i) (first_failed d w (suc i) as₁ f)
    step b e = ap (λ (x : Bool). pick x (Failed i) (first_failed d w (suc i) as₁ f)) e

    go : (b : Bool) → lit_false d w a ≡ b → Assumed d w (suc i) as₁ f → Assumed d w i (a ∷ as₁) f
    go true e r = one_fails 0 (omega arith) e (step true e ∙ ap (λ (x : ℕ). Failed x) (omega arith))
    go false e (one_fails k l h q) = one_fails (suc k) (omega arith) h (step false e ∙ q ∙ ap (λ (x : ℕ). Failed x) (omega arith))
    go false e (none_fails h q) = none_fails (λ l j. elim j [ inl p ↦ ap (lit_false d w) p ∙ e | inr m ↦ h l m ]) (step false e ∙ q)

-- THE SEARCH
module _ (cs : List Clause) (as₁ : List ℕ) (n : ℕ) where
  turns_then : {w ks w₁ ks₁ w₂ ks₂ : List ℕ} → Turns cs as₁ n w ks w₁ ks₁ → Turns cs as₁ n w₁ ks₁ w₂ ks₂ → Turns cs as₁ n w ks w₂ ks₂
  turns_then still q = q
  turns_then (onward e p) q = onward e (turns_then p q)

  ends_then : {w ks w₁ ks₁ : List ℕ} → Turns cs as₁ n w ks w₁ ks₁ → Ends cs as₁ n w₁ ks₁ → Ends cs as₁ n w ks
  ends_then p (with_model w₂ ks₂ q e h) = with_model w₂ ks₂ (turns_then p q) e h
  ends_then p (with_core w₂ ks₂ q e h c) = with_core w₂ ks₂ (turns_then p q) e h c

  one_turn : (w ks w₁ ks₁ : List ℕ) (f : Finding) → look cs as₁ n w ≡ f → is_last f ≡ false → act w f ≡ w₁ → mark ks f ≡ ks₁ → Turns cs as₁ n w ks w₁ ks₁
  one_turn w ks w₁ ks₁ f e h p q =
      onward (ap is_last e ∙ h)
      (subst (λ (g : Finding). Turns cs as₁ n (act w g) (mark ks g) w₁ ks₁) (sym e)
      (subst (λ (x : List ℕ). Turns cs as₁ n x (mark ks f) w₁ ks₁) (sym p) (subst (λ (x : List ℕ). Turns cs as₁ n w₁ x w₁ ks₁) (sym q) still)))

  -- all values from depth d on have failed, and the search is back at that depth
  pub record Fails (d : ℕ) (w ks : List ℕ) : Type 0 where
    pub last : List ℕ
    pub marks : List ℕ
    pub turns : Turns cs as₁ n w ks last marks
    pub at : At last d 1
    pub kept : Kept d w last
    pub grown : Grown ks marks
    pub none : (t : Truth) → Agrees t d w → all_true t (cs ++ units (marked marks as₁)) ≡ false

  fails_by_clause : (d : ℕ) (w ks : List ℕ) → d ≤ 16384 → At w d 0 → some_false d w cs ≡ true → Fails d w ks
  unfolding act mark
  fails_by_clause d w ks l a h = record {
    last = set w 1 1;
    marks = ks;
    turns = one_turn w ks (set w 1 1) ks Conflict (look_down cs as₁ n w d a l ∙ ap (λ (b : Bool). pick b Conflict (first_failed d w 0 as₁ (pick (ltb d n) Open Full))) h) refl refl refl;
    at = at_turned w d a;
    kept = kept_cell d w 1 1 (omega arith);
    grown = grown_same ks;
    none = λ t ag. some_false_in d w t cs (units (marked ks as₁)) ag h;
  }

  fails_by_assumption : (d : ℕ) (w ks : List ℕ) (k : ℕ) → d ≤ 16384 → At w d 0 → length as₁ ≤ length ks → k < length as₁ → lit_false d w (get_or as₁ k 0) ≡ true →
      look cs as₁ n w ≡ Failed k → Fails d w ks
  unfolding act mark any
  fails_by_assumption d w ks k l a long m h e = record {
    last = set w 1 1;
    marks = set ks k 1;
    turns = one_turn w ks (set w 1 1) (set ks k 1) (Failed k) e refl refl refl;
    at = at_turned w d a;
    kept = kept_cell d w 1 1 (omega arith);
    grown = grown_set ks k (omega arith);
    none = λ t ag.
        let i = in_marked (set ks k 1) as₁ k (omega (arith, length-set ks k 1)) m (get_or-set_same ks k 1 0 (omega arith)) in
        clause_false_in t (get_or as₁ k 0 ∷ []) (cs ++ units (marked (set ks k 1) as₁))
        (in_right (get_or as₁ k 0 ∷ []) cs (units (marked (set ks k 1) as₁)) (in_each (λ l. l ∷ []) (get_or as₁ k 0) (marked (set ks k 1) as₁) i))
        (let f = lit_false_in d w t (get_or as₁ k 0) ag h in grind arith);
  }

  agrees_more : (t : Truth) (d : ℕ) (w w₁ : List ℕ) → Agrees t d w → Kept d w w₁ → t d ≡ not (eqb (value_of w₁ d) 1) → Agrees t (suc d) w₁
  agrees_more t d w w₁ ag kept here v l = elim (cases_eq v d) [
    | inl e ↦ rw e here
    | inr ne ↦ (let m : v < d = omega arith in rw (kept v m) (ag v m))
  ]

  -- with the next variable false, and then true
  abbrev deeper : ℕ → List ℕ → List ℕ
  deeper d w = set (set w (256 + d) 1) 0 (suc d)

  abbrev flipped : ℕ → List ℕ → List ℕ
  flipped d w = set (set w (256 + d) 2) 1 0

  module _ (d : ℕ) (w ks : List ℕ) (lt : d < n) (small : n ≤ 16384) (a : At w d 0) (opens : look cs as₁ n w ≡ Open) where
    to_deeper : Turns cs as₁ n w ks (deeper d w) ks
    unfolding mark
    to_deeper = one_turn w ks (deeper d w) ks Open opens refl (act_deeper w d a (omega arith)) refl

    to_flipped : (f : Fails (suc d) (deeper d w) ks) → Turns cs as₁ n w ks (flipped d f.last) f.marks
    unfolding mark
    to_flipped f =
        let one = f.kept d (omega arith) ∙ value_written d w 1 0 (suc d) (omega arith) (let l = a.long in omega arith) in
        turns_then to_deeper (turns_then f.turns
        (one_turn f.last f.marks (flipped d f.last) f.marks Back (look_back cs as₁ n f.last d f.at (omega arith)) refl (act_flips f.last d f.at (omega arith) one) refl))

    both_fail : (f : Fails (suc d) (deeper d w) ks) → Fails (suc d) (flipped d f.last) f.marks → Fails d w ks
    unfolding mark
    both_fail f g = record {
      last = set g.last 0 d;
      marks = g.marks;
      turns = turns_then (to_flipped f) (turns_then g.turns
          (one_turn g.last g.marks (set g.last 0 d) g.marks Back (look_back cs as₁ n g.last d g.at (omega arith)) refl (act_up g.last d g.at (omega arith) two) refl));
      at = at_up g.last d g.at;
      kept = λ v l. kept_cell d g.last 0 d (omega arith) v l ∙ g.kept v (omega arith) ∙ kept₂ v l;
      grown = grown_then ks f.marks g.marks f.grown g.grown;
      none = λ t ag. elim (cases_Bool (t d)) [
        | inl e ↦ g.none t (agrees_more t d w (flipped d f.last) ag kept₂ (e ∙ sym (ap (λ (x : ℕ). not (eqb x 1)) wrote₂)))
        | inr e ↦ fails_grown t cs f.marks g.marks as₁ g.grown (f.none t (agrees_more t d w (deeper d w) ag kept₁ (e ∙ sym (ap (λ (x : ℕ). not (eqb x 1)) wrote₁))))
      ];
    }
      where
        wrote₁ : value_of (deeper d w) d ≡ 1
        wrote₁ = value_written d w 1 0 (suc d) (omega arith) (let l = a.long in omega arith)

        wrote₂ : value_of (flipped d f.last) d ≡ 2
        wrote₂ = value_written d f.last 2 1 0 (omega arith) (let l = f.at.long in omega arith)

        two : value_of g.last d ≡ 2
        two = g.kept d (omega arith) ∙ wrote₂

        kept₁ : Kept d w (deeper d w)
        kept₁ = kept_value d w 1 0 (suc d) (omega arith)

        kept₂ : Kept d w (flipped d f.last)
        kept₂ v l = kept_value d f.last 2 1 0 (omega arith) v l ∙ f.kept v (omega arith) ∙ kept₁ v l

    ends_or_fails_deeper : length as₁ ≤ length ks →
        ((v js : List ℕ) → At v (suc d) 0 → length as₁ ≤ length js → Ends cs as₁ n v js ⊎ Fails (suc d) v js) → Ends cs as₁ n w ks ⊎ Fails d w ks
    ends_or_fails_deeper long rec = first (rec (deeper d w) ks (at_deeper w d a) long)
      where
        second : (f : Fails (suc d) (deeper d w) ks) → Ends cs as₁ n (flipped d f.last) f.marks ⊎ Fails (suc d) (flipped d f.last) f.marks → Ends cs as₁ n w ks ⊎ Fails d w ks
        second f (inl e) = inl (ends_then (to_flipped f) e)
        second f (inr g) = inr (both_fail f g)

        first : Ends cs as₁ n (deeper d w) ks ⊎ Fails (suc d) (deeper d w) ks → Ends cs as₁ n w ks ⊎ Fails d w ks
        first (inl e) = inl (ends_then to_deeper e)
        first (inr f) = second f (rec (flipped d f.last) f.marks (at_flipped f.last d f.at) (let g = f.grown.long in omega arith))

  -- a clause is false, or an assumption, or neither
  ends_or_fails_unless : (d : ℕ) (w ks : List ℕ) → d ≤ 16384 → At w d 0 → length as₁ ≤ length ks →
      (some_false d w cs ≡ false → ((l : ℕ) → In l as₁ → lit_false d w l ≡ false) → look cs as₁ n w ≡ pick (ltb d n) Open Full → Ends cs as₁ n w ks ⊎ Fails d w ks) →
      Ends cs as₁ n w ks ⊎ Fails d w ks
  ends_or_fails_unless d w ks l a long neither = go (some_false d w cs) refl (assumed d w 0 as₁ (pick (ltb d n) Open Full))
    where
      seen : some_false d w cs ≡ false → look cs as₁ n w ≡ first_failed d w 0 as₁ (pick (ltb d n) Open Full)
      seen h = look_down cs as₁ n w d a l ∙ ap (λ (b : Bool). pick b Conflict (first_failed d w 0 as₁ (pick (ltb d n) Open Full))) h

      go : (b : Bool) → some_false d w cs ≡ b → Assumed d w 0 as₁ (pick (ltb d n) Open Full) → Ends cs as₁ n w ks ⊎ Fails d w ks
      go true h r = inr (fails_by_clause d w ks l a h)
      go false h (one_fails k m f q) = inr (fails_by_assumption d w ks k l a long m f (seen h ∙ q ∙ ap (λ (x : ℕ). Failed x) (omega arith)))
      go false h (none_fails f q) = neither h f (seen h ∙ q)

  module _ (small : n ≤ 16384) (low : every (row_below n) cs ≡ true) (low₁ : row_below n as₁ ≡ true) where
    ends_or_fails : (k d : ℕ) (w ks : List ℕ) → d + k ≡ n → At w d 0 → length as₁ ≤ length ks → Ends cs as₁ n w ks ⊎ Fails d w ks
    ends_or_fails zero d w ks e a long = ends_or_fails_unless d w ks (omega arith) a long (λ h f q.
        let same : d ≡ n = omega arith in
        inl (with_model w ks still (q ∙ ap (λ (b : Bool). pick b Open Full) (le-ltb d n (omega arith)))
        (all_true_in n w (truth_of (model_row w 0 n)) cs as₁ (model_agrees w n) low low₁ (subst (λ (x : ℕ). some_false x w cs ≡ false) same h)
        (λ l i. subst (λ (x : ℕ). lit_false x w l ≡ false) same (f l i)))))
    ends_or_fails (suc k) d w ks e a long = ends_or_fails_unless d w ks (omega arith) a long (λ h f q.
        ends_or_fails_deeper d w ks (omega arith) small a (q ∙ ap (λ (b : Bool). pick b Open Full) (lt-ltb d n (omega arith))) long (λ v js b m. ends_or_fails k (suc d) v js (omega arith) b m))

pub search_ends : SearchEnds
unfolding SearchEnds CannotBe
search_ends cs as₁ n w ks small long marks low low₁ = go (ends_or_fails cs as₁ n small low low₁ n 0 (fresh w) ks (omega arith) (at_fresh w long) marks)
  where
    go : Ends cs as₁ n (fresh w) ks ⊎ Fails cs as₁ n 0 (fresh w) ks → Ends cs as₁ n (fresh w) ks
    go (inl e) = e
    go (inr f) = with_core f.last f.marks f.turns (look_exhausted cs as₁ n f.last f.at) (every_marked f.marks as₁) (λ t. f.none t (λ v l. absurd (omega arith)))
