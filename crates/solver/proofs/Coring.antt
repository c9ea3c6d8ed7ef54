-- What comes of `failed_core` from a memory at rest: the assumptions that are marked, one place a step, quietly where there is no mark.
-- With an empty core it is done at once, and where there is none it is refused.
use Rattle.std.proofs.Common.{◌≡◌, ℕ, zero, suc, ◌+◌, ◌<◌, Bool, true, false, eqb, ltb, List, [], ◌∷◌, ◌++◌, length, get_or, drop, sym, refl, ap, ◌∙◌, subst, append_assoc, append-nil, zero-add, arith, get_or-take}
use Rattle.std.proofs.lemmas.List.{drop_more, drop_all}
use Rattle.std.proofs.lemmas.Bool.{lt-ltb, le-ltb}
use borrow.Author.Tests.{clash}
use Rattle.formula.specs.Logic.{pick, none_of}
use Rattle.search.specs.Plain.{marked}
use Rattle.solver.specs.House.{House, Command, failed_core, refusal, refused_with, After, shown, written}
use Rattle.solver.specs.Promise.{said, next, shows, writes, done, ran}
use Rattle.solver.specs.State.{State, flat}
use Rattle.solver.specs.Machine.{turn, on_event, on_command}
use Rattle.solver.proofs.Invariant.{state_of, resting, sized_state_of, Tells, unsolved, can, cannot, never, Holds, assumed_few, Answer, refuses, outcome_done, Goes, goes_done, goes_shows, goes_quiet}

marked_none : (ks : List ℕ) → marked ks [] ≡ []
unfolding marked
marked_none [] = refl
marked_none (k ∷ ks) = refl

empty_is : (xs : List ℕ) → none_of xs ≡ true → [] ≡ xs
unfolding none_of
empty_is [] e = refl
empty_is (x ∷ xs) e = absurd (clash e)

module _ (h : House) (v : ℕ) (s : State) (st : Holds h v s) where
  core_shows : (d : ℕ) → ltb d (length h.assumed) ≡ true → eqb (get_or s.core d 0) 1 ≡ true →
      on_event (state_of h v 3 d s) next ≡ turn (state_of h v 3 (d + 1) s) (shows (get_or s.assumptions d 0))
  unfolding on_event
  core_shows d e k = rw (e, k)

  core_quiet : (d : ℕ) → ltb d (length h.assumed) ≡ true → eqb (get_or s.core d 0) 1 ≡ false →
      on_event (state_of h v 3 d s) next ≡ turn (state_of h v 3 (d + 1) s) (writes [])
  unfolding on_event
  core_quiet d e k = rw (e, k)

  core_ends : (d : ℕ) → ltb d (length h.assumed) ≡ false → on_event (state_of h v 3 d s) next ≡ turn (resting h v d s) done
  unfolding on_event
  core_ends d e = rw e

  goes_core : (j d : ℕ) (ss : List ℕ) → d + j ≡ length h.assumed →
      Goes (state_of h v 3 d s) next ss [] (ran (flat (resting h v (length h.assumed) s)) (ss ++ marked (drop d s.core) (drop d h.assumed)) [] 0)
  unfolding marked
  goes_core zero d ss e =
      let m : d ≡ length h.assumed = omega arith in
      let none : marked (drop d s.core) (drop d h.assumed) ≡ [] =
      ap (marked (drop d s.core)) (drop_all d h.assumed (omega arith)) ∙ marked_none (drop d s.core) in
      subst (λ (x : List ℕ). Goes (state_of h v 3 d s) next ss [] (ran (flat (resting h v (length h.assumed) s)) x [] 0))
      (sym (ap (λ (x : List ℕ). ss ++ x) none ∙ append-nil ss))
      (subst (λ (x : ℕ). Goes (state_of h v 3 d s) next ss [] (ran (flat (resting h v x s)) ss [] 0)) m
      (goes_done (state_of h v 3 d s) (resting h v d s) next ss [] (sized_state_of h v 3 d s st.sized) (core_ends d (le-ltb _ _ (omega arith)))))
  goes_core (suc j) d ss e =
      let few = assumed_few h v s st in
      let n = length h.assumed in
      let a : ℕ = get_or h.assumed d 0 in
      let k : ℕ = get_or s.core d 0 in
      let ms : List ℕ = marked (drop (d + 1) s.core) (drop (d + 1) h.assumed) in
      let lt : d < length h.assumed = omega arith in
      let is_a : get_or s.assumptions d 0 ≡ a = sym (get_or-take n s.assumptions d 0 lt) ∙ ap (λ (x : List ℕ). get_or x d 0) st.assumed_lie in
      let m : pick (eqb k 1) (a ∷ ms) ms ≡ marked (drop d s.core) (drop d h.assumed) =
      sym (ap (λ (x : List ℕ). marked x (drop d h.assumed)) (drop_more s.core d 0 (let l = st.sized.core_long in omega arith))
      ∙ ap (marked (k ∷ drop (d + 1) s.core)) (drop_more h.assumed d 0 lt)) in
      subst (λ (x : List ℕ). Goes (state_of h v 3 d s) next ss [] (ran (flat (resting h v n s)) (ss ++ x) [] 0)) m
      (go (eqb k 1) refl lt is_a (λ ss₁. goes_core j (d + 1) ss₁ (omega arith)))
    where
      go : (b : Bool) → eqb (get_or s.core d 0) 1 ≡ b → d < length h.assumed → get_or s.assumptions d 0 ≡ get_or h.assumed d 0 →
          ((ss₁ : List ℕ) → Goes (state_of h v 3 (d + 1) s) next ss₁ [] (ran (flat (resting h v (length h.assumed) s)) (ss₁ ++ marked (drop (d + 1) s.core) (drop (d + 1) h.assumed)) [] 0)) →
          Goes (state_of h v 3 d s) next ss [] (ran (flat (resting h v (length h.assumed) s))
          (ss ++ pick b (get_or h.assumed d 0 ∷ marked (drop (d + 1) s.core) (drop (d + 1) h.assumed)) (marked (drop (d + 1) s.core) (drop (d + 1) h.assumed))) [] 0)
      go true f lt is_a rest =
          let a : ℕ = get_or h.assumed d 0 in
          goes_shows (state_of h v 3 d s) (state_of h v 3 (d + 1) s) next ss [] (sized_state_of h v 3 d s st.sized) a _
          (core_shows d (lt-ltb _ _ lt) f ∙ ap (λ (x : ℕ). turn (state_of h v 3 (d + 1) s) (shows x)) is_a)
          (subst (λ (x : List ℕ). Goes (state_of h v 3 (d + 1) s) next (ss ++ a ∷ []) [] (ran (flat (resting h v (length h.assumed) s)) x [] 0))
          (append_assoc ss (a ∷ []) (marked (drop (d + 1) s.core) (drop (d + 1) h.assumed))) (rest (ss ++ a ∷ [])))
      go false f lt is_a rest =
          goes_quiet (state_of h v 3 d s) (state_of h v 3 (d + 1) s) next ss [] (sized_state_of h v 3 d s st.sized) _ (core_quiet d (lt-ltb _ _ lt) f) (rest ss)

pub core_answer : (known : Command → Bool) (h : House) (v d : ℕ) (s : State) → Tells h s v → Holds h v s → known failed_core ≡ true → Answer known (flat (resting h v d s)) h failed_core
unfolding refusal refused_with on_event on_command After shown written
core_answer known h v d s (unsolved e) st kn = refuses known h 0 d s st failed_core 4 kn (ap (λ (x : ℕ). pick (eqb x 2) 0 4) e) (omega arith) refl refl refl
core_answer known h v d s (can e m) st kn = refuses known h 1 d s st failed_core 4 kn (ap (λ (x : ℕ). pick (eqb x 2) 0 4) e) (omega arith) refl refl refl
core_answer known h v d s (cannot e c m) st kn =
    let s₁ = resting h 2 (length h.assumed) s in
    let ks : List ℕ = marked s.core h.assumed in
    let r = ran (flat s₁) ks [] 0 in (
      r,
      h,
      goes_quiet (resting h 2 d s) (state_of h 2 3 0 s) (said failed_core) [] [] (sized_state_of h 2 0 d s st.sized) r refl
          (goes_core h 2 s st (length h.assumed) 0 [] (zero-add (length h.assumed))),
      outcome_done known h failed_core (flat s₁) h ks [] kn (ap (λ (x : ℕ). pick (eqb x 2) 0 4) e) refl (sym c) refl,
      (2, length h.assumed, s, refl, st),
    )
core_answer known h v d s (never e m) st kn =
    let s₁ = resting h 3 d s in (
      ran (flat s₁) [] [] 0,
      h,
      goes_done s₁ s₁ (said failed_core) [] [] (sized_state_of h 3 0 d s st.sized) refl,
      outcome_done known h failed_core (flat s₁) h [] [] kn (ap (λ (x : ℕ). pick (eqb x 2) 0 4) e) refl (empty_is h.core m) refl,
      (3, d, s, refl, st),
    )
