-- What comes of `solve` from a memory at rest: what is known is told again, and else the search runs to its end.
-- `solve_answer` is promised given that plain search ends: a model or a core of the house, and at rest with it.
use Rattle.std.proofs.Common.{◌≡◌, ℕ, ◌≤◌, min, Bool, true, false, eqb, List, [], ◌∷◌, ◌++◌, length, take, drop, set, sym, refl, ap, ◌∙◌, inl, inr, arith, length-set}
use lib.Seq.{sets, length-sets, drop-length}
use borrow.Author.Tests.{clash}
use Rattle.formula.specs.Logic.{pick, none_of, units, all_true, truth_of, Step}
use Rattle.dimacs.specs.Text.{proof_text}
use Rattle.search.specs.declared.plain.Finding.TheVariants.{Exhausted, Full}
use Rattle.search.specs.Plain.{fresh, look, marked, model_row}
use Rattle.search.specs.Ends.{Ends, with_model, with_core, SearchEnds}
use Rattle.solver.specs.House.{House, house, Command, solve, refusal, After, shown, written, AModel, ACore, Proved, Solved}
use Rattle.solver.specs.Promise.{said, next, shows, Ran, ran}
use Rattle.solver.specs.State.{State, state, flat, zeros}
use Rattle.solver.specs.Machine.{turn, on_event, on_command, searched}
use Rattle.solver.proofs.Models.{length_model_row, each_var_model_row}
use Rattle.solver.proofs.Layouts.{length_zeros}
use Rattle.solver.proofs.Arenas.{take_front}
use Rattle.solver.proofs.Invariant.{resting, sized_state_of, Tells, unsolved, can, cannot, never, Holds, assumed_few, Answer, outcome_done, Goes, goes_quiet, shows_done, in_search, amid, sized_in_search, sized_amid, looks, goes_searching}

solved_again : (h : House) → (h.solved ≡ 0 → ⊥) → Solved h h
unfolding Solved
solved_again h ne = (refl, refl, refl, refl, (λ e. refl, λ e. refl, λ e. absurd (ne e)))

writes_nothing : (h h₁ : House) → h₁.steps ≡ h.steps → [] ≡ written h solve h₁
unfolding written proof_text
writes_nothing h h₁ e = sym (ap (λ (x : List Step). proof_text (drop (length h.steps) x)) e ∙ ap proof_text (drop-length h.steps))

solves_again : (known : Command → Bool) (h : House) (v d : ℕ) (s : State) (n : ℕ) → Holds h v s → (h.solved ≡ 0 → ⊥) → n ≡ pick (eqb h.solved 1) 1 0 →
    on_event (resting h v d s) (said solve) ≡ turn (resting h v d s) (shows n) → known solve ≡ true → Answer known (flat (resting h v d s)) h solve
unfolding refusal After shown
solves_again known h v d s n st ne is t kn =
    let s₁ = resting h v d s in (
      ran (flat s₁) (n ∷ []) [] 0,
      h,
      shows_done s₁ (said solve) n h v d s (sized_state_of h v 0 d s st.sized) st.sized t,
      outcome_done known h solve (flat s₁) h (n ∷ []) [] kn refl (solved_again h ne) (ap (λ (x : ℕ). x ∷ []) is) (writes_nothing h h refl),
      (v, d, s, refl, st),
    )

same_proof : (h h₁ : House) → h.proving ≡ false → h₁.steps ≡ h.steps → Proved h h₁
unfolding Proved
same_proof h h₁ p e = (λ q. e, λ q. absurd (clash (sym p ∙ q)))

fresh_long : (w : List ℕ) → length (fresh w) ≡ length w
fresh_long w = length-set (set w 0 0) 1 0 ∙ length-set w 0 0

module _ (h : House) (d : ℕ) (s : State) (st : Holds h 0 s) (e : h.solved ≡ 0) where
  begins : (r : Ran) → Goes (amid h d s (fresh s.work) (zeros 1024)) next [] [] r → Goes (resting h 0 d s) (said solve) [] [] r
  unfolding on_event on_command
  begins r g = goes_quiet (resting h 0 d s) (amid h d s (fresh s.work) (zeros 1024)) (said solve) [] [] (sized_state_of h 0 0 d s st.sized) r refl g

  -- YES
  abbrev yes_house : List ℕ → House
  yes_house w = house h.clauses h.assumed h.made 1 (model_row w 0 h.made) h.core h.proving h.steps

  abbrev yes_state : List ℕ → List ℕ → State
  yes_state w ks = state s.scalars s.assumptions ks (sets s.model 0 (model_row w 0 h.made)) s.arena w

  yes_turn : (w ks : List ℕ) → look h.clauses h.assumed h.made w ≡ Full →
      on_event (amid h d s w ks) next ≡ turn (resting (yes_house w) 1 d (yes_state w ks)) (shows 1)
  yes_turn w ks full =
      let m : min h.made 16384 ≡ h.made = let l = st.vars_in in omega arith in
      looks h d s st w ks ∙ ap (searched (amid h d s w ks)) full
      ∙ ap (λ (n : ℕ). turn (resting (yes_house w) 1 d (state s.scalars s.assumptions ks (sets s.model 0 (model_row w 0 n)) s.arena w)) (shows 1)) m

  yes_solved : (w : List ℕ) → all_true (truth_of (model_row w 0 h.made)) (h.clauses ++ units h.assumed) ≡ true → Solved h (yes_house w)
  unfolding Solved AModel
  yes_solved w a = (
    refl,
    refl,
    refl,
    refl,
    (
      λ q. absurd (omega arith),
      λ q. absurd (omega arith),
      λ q. (same_proof h (yes_house w) st.not_proving refl, inl (refl, (length_model_row w 0 h.made, each_var_model_row w 0 h.made, a))),
    ),
  )

  yes_holds : (w ks : List ℕ) → length w ≡ 423680 → length ks ≡ 1024 → Holds (yes_house w) 1 (yes_state w ks)
  yes_holds w ks l k =
      let z = st.sized in
      let n = length_model_row w 0 h.made in
      let in_model : length (model_row w 0 h.made) ≤ length s.model = let a = z.model_long in let b = st.vars_in in omega arith in
      record {
        sized = record {
          scalars_long = z.scalars_long;
          assumptions_long = z.assumptions_long;
          core_long = k;
          model_long = length-sets s.model 0 (model_row w 0 h.made) ∙ z.model_long;
          arena_long = z.arena_long;
          work_long = l;
        };
        vars_in = st.vars_in;
        clauses_lie = st.clauses_lie;
        clauses_fit = st.clauses_fit;
        assumed_lie = st.assumed_lie;
        clauses_below = st.clauses_below;
        assumed_below = st.assumed_below;
        tells = can refl (sym (ap (λ (x : ℕ). take x (sets s.model 0 (model_row w 0 h.made))) (sym n) ∙ take_front s.model (model_row w 0 h.made) in_model));
        not_proving = st.not_proving;
      }

  -- NO
  abbrev no_house : List ℕ → House
  no_house ks = house h.clauses h.assumed h.made 2 [] (marked ks h.assumed) h.proving h.steps

  abbrev no_verdict : List ℕ → ℕ
  no_verdict ks = pick (none_of (marked ks h.assumed)) 3 2

  no_turn : (w ks : List ℕ) → look h.clauses h.assumed h.made w ≡ Exhausted →
      on_event (amid h d s w ks) next ≡ turn (resting (no_house ks) (no_verdict ks) d (in_search s w ks)) (shows 0)
  no_turn w ks over =
      looks h d s st w ks ∙ ap (searched (amid h d s w ks)) over
      ∙ ap (λ (as₁ : List ℕ). turn (resting (no_house ks) (pick (none_of (marked ks as₁)) 3 2) d (in_search s w ks)) (shows 0)) st.assumed_lie

  no_solved : (ks : List ℕ) → ACore h (marked ks h.assumed) → Solved h (no_house ks)
  unfolding Solved
  no_solved ks a = (
    refl,
    refl,
    refl,
    refl,
    (λ q. absurd (omega arith), λ q. absurd (omega arith), λ q. (same_proof h (no_house ks) st.not_proving refl, inr (refl, a))),
  )

  no_tells : (w ks : List ℕ) → Tells (no_house ks) (in_search s w ks) (no_verdict ks)
  no_tells w ks = go (none_of (marked ks h.assumed)) refl
    where
      go : (b : Bool) → none_of (marked ks h.assumed) ≡ b → Tells (no_house ks) (in_search s w ks) (pick b 3 2)
      go true n = never refl n
      go false n = cannot refl refl n

  no_holds : (w ks : List ℕ) → length w ≡ 423680 → length ks ≡ 1024 → Holds (no_house ks) (no_verdict ks) (in_search s w ks)
  no_holds w ks l k =
      record {
        sized = sized_in_search s w ks st.sized l k;
        vars_in = st.vars_in;
        clauses_lie = st.clauses_lie;
        clauses_fit = st.clauses_fit;
        assumed_lie = st.assumed_lie;
        clauses_below = st.clauses_below;
        assumed_below = st.assumed_below;
        tells = no_tells w ks;
        not_proving = st.not_proving;
      }

  solves : (known : Command → Bool) → Ends h.clauses h.assumed h.made (fresh s.work) (zeros 1024) → known solve ≡ true → Answer known (flat (resting h 0 d s)) h solve
  unfolding refusal After shown ACore
  solves known (with_model w ks t full a) kn =
      let g = goes_searching h d s st t (fresh_long s.work ∙ st.sized.work_long) (length_zeros 1024) in
      let new = yes_holds w ks g.0 g.1 in
      let s₁ = resting (yes_house w) 1 d (yes_state w ks) in
      let r = ran (flat s₁) (1 ∷ []) [] 0 in (
        r,
        yes_house w,
        begins r (g.2 r (shows_done (amid h d s w ks) next 1 (yes_house w) 1 d (yes_state w ks) (sized_amid h d s st w ks g.0 g.1) new.sized (yes_turn w ks full))),
        outcome_done known h solve (flat s₁) (yes_house w) (1 ∷ []) [] kn refl (yes_solved w a) refl (writes_nothing h (yes_house w) refl),
        (1, d, yes_state w ks, refl, new),
      )
  solves known (with_core w ks t over part fails) kn =
      let g = goes_searching h d s st t (fresh_long s.work ∙ st.sized.work_long) (length_zeros 1024) in
      let new = no_holds w ks g.0 g.1 in
      let t₁ = in_search s w ks in
      let s₁ = resting (no_house ks) (no_verdict ks) d t₁ in
      let r = ran (flat s₁) (0 ∷ []) [] 0 in (
        r,
        no_house ks,
        begins r (g.2 r (shows_done (amid h d s w ks) next 0 (no_house ks) (no_verdict ks) d t₁ (sized_amid h d s st w ks g.0 g.1) new.sized (no_turn w ks over))),
        outcome_done known h solve (flat s₁) (no_house ks) (0 ∷ []) [] kn refl (no_solved ks (part, fails)) refl (writes_nothing h (no_house ks) refl),
        (no_verdict ks, d, t₁, refl, new),
      )

  search_ends : SearchEnds → Ends h.clauses h.assumed h.made (fresh s.work) (zeros 1024)
  unfolding SearchEnds
  search_ends ends =
      let l = assumed_few h 0 s st in
      ends h.clauses h.assumed h.made s.work (zeros 1024) st.vars_in (let k = st.sized.work_long in omega arith)
      (let k = length_zeros 1024 in omega arith) st.clauses_below st.assumed_below

pub solve_answer : (known : Command → Bool) → SearchEnds → (h : House) (v d : ℕ) (s : State) → Tells h s v → Holds h v s → known solve ≡ true → Answer known (flat (resting h v d s)) h solve
unfolding on_event on_command
solve_answer known ends h v d s (unsolved e) st kn = solves h d s st e known (search_ends h d s st e ends) kn
solve_answer known ends h v d s (can e m) st kn = solves_again known h 1 d s 1 st (λ z. omega arith) (sym (ap (λ (x : ℕ). pick (eqb x 1) 1 0) e)) refl kn
solve_answer known ends h v d s (cannot e c m) st kn = solves_again known h 2 d s 0 st (λ z. omega arith) (sym (ap (λ (x : ℕ). pick (eqb x 1) 1 0) e)) refl kn
solve_answer known ends h v d s (never e m) st kn = solves_again known h 3 d s 0 st (λ z. omega arith) (sym (ap (λ (x : ℕ). pick (eqb x 1) 1 0) e)) refl kn
