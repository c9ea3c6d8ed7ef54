-- A command driven step by step: what has been told so far, and that the rest of the run gives the whole.
-- One lemma for each way a step can end.
use Rattle.std.proofs.Common.{◌≡◌, ℕ, suc, ◌+◌, ◌-◌, ◌<◌, ◌≤◌, Bool, true, false, ◌&&◌, eqb, leb, List, [], ◌∷◌, ◌++◌, length, take, drop, Some, None, sym, refl, ap, ◌∙◌, subst, append-nil, arith, length-take}
use Rattle.std.proofs.lemmas.List.{take_at}
use Rattle.std.proofs.lemmas.Bool.{le-leb, and_parts, and_from}
use Rattle.formula.specs.Logic.{pick}
use Rattle.solver.specs.declared.Told.{Told}
use Rattle.solver.specs.declared.Told.TheVariants.{Shows, Writes, Done, No}
use Rattle.solver.specs.declared.run.End.{End}
use Rattle.solver.specs.declared.run.End.TheVariants.{Finished, Refused, Unfinished}
use Rattle.solver.specs.Promise.{next, Act, shows, writes, done, refused, Ran, ran, one_act, runs}
use Rattle.solver.specs.State.{zeros}
use Rattle.solver.specs.Entry.{own, event_of, ActTold, StepSays, step_fits}
use Rattle.solver.specs.Running.{run_fits, Ended, Handed, RunSays}
use Rattle.solver.proofs.Layouts.{length_zeros}
use Rattle.solver.proofs.Steps.{fits_is, fair, own_fair}

-- the act that a step told
abbrev pub acted : Told → List ℕ → Act
acted (Shows n) out = shows n
acted (Writes n) out = writes (take n out)
acted Done out = done
acted (No k) out = refused k

act_is : (a : Act) (r : Told) (out out₁ : List ℕ) → ActTold a r out out₁ → a ≡ acted r out₁
unfolding ActTold
act_is (shows n) r out out₁ t = sym (ap (λ (x : Told). acted x out₁) t.0)
act_is (writes w) r out out₁ t =
    sym (ap (λ (x : Told). acted x out₁) t.0 ∙ ap writes (ap (take (length w)) t.1 ∙ take_at w (drop (length w) out) (length w) refl))
act_is done r out out₁ t = sym (ap (λ (x : Told). acted x out₁) t.0)
act_is (refused k) r out out₁ t = sym (ap (λ (x : Told). acted x out₁) t.0)

-- where the run stands after i of n steps
pub record Going (told : List ℕ → List ℕ → Type 0) (m : List ℕ) (k : ℕ) (row bytes : List ℕ) (n i : ℕ) (m₁ : List ℕ) (k₁ : ℕ) (out : List ℕ) : Type 0 where
  pub showed : List ℕ
  pub wrote : List ℕ
  pub rest : runs (n - i) own m₁ (event_of k₁ row bytes) showed wrote ≡ runs n own m (event_of k row bytes) [] []
  pub sink : told showed wrote
  pub fit : step_fits m₁ k₁ row bytes out ≡ true
  pub room : length out ≡ 128

-- WHAT FITS: of the room for bytes only the length counts
pub room_only : (m : List ℕ) (k : ℕ) (row bytes out out₁ : List ℕ) → length out ≡ length out₁ → step_fits m k row bytes out ≡ step_fits m k row bytes out₁
room_only m k row bytes out out₁ e =
    fits_is m k row bytes out
    ∙ (ap (λ n. eqb (length m) 524288 && (leb k 9 && ((leb (length row) 1048576 && leb (length bytes) 1048576) && leb 128 n))) e ∙ sym (fits_is m k row bytes out₁))

fits_on : (m m₁ : List ℕ) (k : ℕ) (row bytes out out₁ : List ℕ) → step_fits m k row bytes out ≡ true → length m₁ ≡ length m → length out₁ ≡ length out →
    step_fits m₁ 9 row bytes out₁ ≡ true
fits_on m m₁ k row bytes out out₁ f e d =
    let p = and_parts (eqb (length m) 524288) _ (sym (fits_is m k row bytes out) ∙ f) in
    fits_is m₁ 9 row bytes out₁
    ∙ and_from _ _ (ap (λ n. eqb n 524288) e ∙ p.0)
    (ap (λ n. (leb (length row) 1048576 && leb (length bytes) 1048576) && leb 128 n) d ∙ (and_parts (leb k 9) _ p.1).1)

-- ONE STEP of the run
module _ (m₁ : List ℕ) (k₁ : ℕ) (row bytes out : List ℕ) (r : Told) (m₂ out₂ : List ℕ) (fit : step_fits m₁ k₁ row bytes out ≡ true)
    (says : StepSays m₁ k₁ row bytes out (step_fits m₁ k₁ row bytes out) r m₂ out₂) where
  says_true : StepSays m₁ k₁ row bytes out true r m₂ out₂
  says_true = subst (λ (b : Bool). StepSays m₁ k₁ row bytes out b r m₂ out₂) fit says

  one_more : (j : ℕ) (ss ws : List ℕ) → runs (suc j) own m₁ (event_of k₁ row bytes) ss ws ≡ one_act (λ m ss₁ ws₁. runs j own m next ss₁ ws₁) ss ws m₂ (acted r out₂)
  unfolding runs StepSays
  one_more j ss ws =
      ap (λ (m : List ℕ). one_act (λ m₃ ss₁ ws₁. runs j own m₃ next ss₁ ws₁) ss ws m (own.step m₁ (event_of k₁ row bytes)).act) (sym says_true.0)
      ∙ ap (one_act (λ m₃ ss₁ ws₁. runs j own m₃ next ss₁ ws₁) ss ws m₂) (act_is (own.step m₁ (event_of k₁ row bytes)).act r out out₂ says_true.1)

  fair_acted : fair (acted r out₂) ≡ true
  unfolding StepSays
  fair_acted = sym (ap fair (act_is (own.step m₁ (event_of k₁ row bytes)).act r out out₂ says_true.1)) ∙ own_fair m₁ (event_of k₁ row bytes)

short : (n : ℕ) (out : List ℕ) → length out ≡ 128 → leb (length (take n out)) 128 ≡ true
short n out e = le-leb _ _ (simp length-take (omega arith))

-- THE SINK: what it was told before (B), of this step (S), and in all (A)
module _ (B S A : List ℕ → List ℕ → Type 0) (join : (ss ts ws vs : List ℕ) → B ss ws → S ts vs → A (ss ++ ts) (ws ++ vs)) where
  join_nothing : (ss ws : List ℕ) → B ss ws → S [] [] → A ss ws
  join_nothing ss ws b s = subst (λ (x : List ℕ). A x ws) (append-nil ss) (subst (λ (x : List ℕ). A (ss ++ []) x) (append-nil ws) (join ss [] ws [] b s))

  join_shown : (n : ℕ) (ss ws : List ℕ) → B ss ws → S (n ∷ []) [] → A (ss ++ n ∷ []) ws
  join_shown n ss ws b s = subst (λ (x : List ℕ). A (ss ++ n ∷ []) x) (append-nil ws) (join ss (n ∷ []) ws [] b s)

  join_written : (vs ss ws : List ℕ) → B ss ws → S [] vs → A ss (ws ++ vs)
  join_written vs ss ws b s = subst (λ (x : List ℕ). A x (ws ++ vs)) (append-nil ss) (join ss [] ws vs b s)

  module _ (m : List ℕ) (k : ℕ) (row bytes : List ℕ) (n i : ℕ) (m₁ : List ℕ) (k₁ : ℕ) (out : List ℕ) (m₂ out₂ : List ℕ)
      (g : Going B m k row bytes n i m₁ k₁ out) (less : i < n) (same : length m₂ ≡ length m₁) (long : length out₂ ≡ length out) where
    -- the whole run, from the act of this step
    whole_by : (r : Told) → StepSays m₁ k₁ row bytes out (step_fits m₁ k₁ row bytes out) r m₂ out₂ →
        one_act (λ m₃ ss ws. runs (n - (i + 1)) own m₃ next ss ws) g.showed g.wrote m₂ (acted r out₂) ≡ runs n own m (event_of k row bytes) [] []
    whole_by r says =
        let e : n - i ≡ suc (n - (i + 1)) = omega arith in
        sym (one_more m₁ k₁ row bytes out r m₂ out₂ g.fit says (n - (i + 1)) g.showed g.wrote)
        ∙ (ap (λ j. runs j own m₁ (event_of k₁ row bytes) g.showed g.wrote) (sym e) ∙ g.rest)

    whole_shown : (x : ℕ) → StepSays m₁ k₁ row bytes out (step_fits m₁ k₁ row bytes out) (Shows x) m₂ out₂ →
        runs (n - (i + 1)) own m₂ next (g.showed ++ x ∷ []) g.wrote ≡ runs n own m (event_of k row bytes) [] []
    unfolding one_act
    whole_shown x says = whole_by (Shows x) says

    whole_written : (x : ℕ) → StepSays m₁ k₁ row bytes out (step_fits m₁ k₁ row bytes out) (Writes x) m₂ out₂ →
        runs (n - (i + 1)) own m₂ next g.showed (g.wrote ++ take x out₂) ≡ runs n own m (event_of k row bytes) [] []
    unfolding one_act
    whole_written x says =
        sym (ap (λ (b : Bool). pick b (runs (n - (i + 1)) own m₂ next g.showed (g.wrote ++ take x out₂)) (ran m₂ g.showed g.wrote 1001)) (short x out₂ (long ∙ g.room)))
        ∙ whole_by (Writes x) says

    -- it goes on
    pub drive_on : (r : Told) → StepSays m₁ k₁ row bytes out (step_fits m₁ k₁ row bytes out) r m₂ out₂ → Handed S r out₂ None → Going A m k row bytes n (i + 1) m₂ 9 out₂
    unfolding event_of
    drive_on (Shows x) says h = record {
      showed = g.showed ++ x ∷ [];
      wrote = g.wrote;
      rest = whole_shown x says;
      sink = join_shown x g.showed g.wrote g.sink h;
      fit = fits_on m₁ m₂ k₁ row bytes out out₂ g.fit same long;
      room = long ∙ g.room;
    }
    drive_on (Writes x) says h = record {
      showed = g.showed;
      wrote = g.wrote ++ take x out₂;
      rest = whole_written x says;
      sink = join_written (take x out₂) g.showed g.wrote g.sink h;
      fit = fits_on m₁ m₂ k₁ row bytes out out₂ g.fit same long;
      room = long ∙ g.room;
    }
    drive_on Done says h = absurd (none_some _ h.0)
      where
        none_some : (e : End) → None ≡ Some e → ⊥
        none_some e p = grind arith
    drive_on (No q) says h = absurd (none_some _ h.0)
      where
        none_some : (e : End) → None ≡ Some e → ⊥
        none_some e p = grind arith

    -- it ends
    ended : (r : Ran) → r ≡ runs n own m (event_of k row bytes) [] [] → (e : ℕ) → r ≡ ran m₂ g.showed g.wrote e → S [] [] → Ended A (runs n own m (event_of k row bytes) [] []) e m₂
    ended r p e q s = subst (λ (x : Ran). Ended A x e m₂) p (subst (λ (x : Ran). Ended A x e m₂) (sym q) (refl, refl, join_nothing g.showed g.wrote g.sink s))

    drive_ends_true : (r : Told) (e : End) → StepSays m₁ k₁ row bytes out (step_fits m₁ k₁ row bytes out) r m₂ out₂ → Handed S r out₂ (Some e) → RunSays A m k row bytes n true e m₂
    unfolding RunSays one_act
    drive_ends_true (Shows x) e says h = subst (λ (y : End). RunSays A m k row bytes n true y m₂) (sym h) (n - (i + 1), g.showed ++ x ∷ [], g.wrote, whole_shown x says)
    drive_ends_true (Writes x) e says h = subst (λ (y : End). RunSays A m k row bytes n true y m₂) (sym h) (n - (i + 1), g.showed, g.wrote ++ take x out₂, whole_written x says)
    drive_ends_true Done e says h =
        let f : e ≡ Finished = cc h.0 in
        subst (λ (y : End). RunSays A m k row bytes n true y m₂) (sym f) (ended _ (whole_by Done says) 0 refl h.1)
    drive_ends_true (No q) e says h =
        let f : e ≡ Refused q = cc h.0 in
        let small = fair_acted m₁ k₁ row bytes out (No q) m₂ out₂ g.fit says in
        subst (λ (y : End). RunSays A m k row bytes n true y m₂) (sym f)
        (ended _ (whole_by (No q) says) q (ap (λ (b : Bool). ran m₂ g.showed g.wrote (pick b q 1001)) small) h.1)

    pub drive_ends : (r : Told) (e : End) → run_fits m k row bytes ≡ true → StepSays m₁ k₁ row bytes out (step_fits m₁ k₁ row bytes out) r m₂ out₂ → Handed S r out₂ (Some e) →
        RunSays A m k row bytes n (run_fits m k row bytes) e m₂
    drive_ends r e f says h = subst (λ (b : Bool). RunSays A m k row bytes n b e m₂) (sym f) (drive_ends_true r e says h)

-- THE ENDS of the loop
module _ (A : List ℕ → List ℕ → Type 0) (m : List ℕ) (k : ℕ) (row bytes : List ℕ) (n : ℕ) where
  pub drive_refused : run_fits m k row bytes ≡ false → A [] [] → RunSays A m k row bytes n (run_fits m k row bytes) (Refused 0) m
  unfolding RunSays
  drive_refused f a = rw f (refl, refl, a)

  pub drive_starts : (out : List ℕ) → length out ≡ 128 → run_fits m k row bytes ≡ true → A [] [] → Going A m k row bytes n 0 m k out
  drive_starts out l f a =
      let e : n - 0 ≡ n = omega arith in
      let fit : step_fits m k row bytes out ≡ true = room_only m k row bytes out (zeros 128) (l ∙ sym (length_zeros 128)) ∙ f in
      record { showed = []; wrote = []; rest = ap (λ j. runs j own m (event_of k row bytes) [] []) e; sink = a; fit = fit; room = l }

  pub drive_stops : (i : ℕ) (m₁ : List ℕ) (k₁ : ℕ) (out : List ℕ) → n ≤ i → run_fits m k row bytes ≡ true → Going A m k row bytes n i m₁ k₁ out →
      RunSays A m k row bytes n (run_fits m k row bytes) Unfinished m₁
  unfolding RunSays runs
  drive_stops i m₁ k₁ out l f g =
      let e : n - i ≡ 0 = omega arith in
      let r = ap (λ j. runs j own m₁ (event_of k₁ row bytes) g.showed g.wrote) (sym e) ∙ g.rest in
      subst (λ (b : Bool). RunSays A m k row bytes n b Unfinished m₁) (sym f) (subst (λ (x : Ran). Ended A x 1000 m₁) r (refl, refl, g.sink))

pub run_fits_is : (m : List ℕ) (k : ℕ) (row bytes : List ℕ) → run_fits m k row bytes
    ≡ (eqb (length m) 524288 && (leb k 9 && (leb (length row) 1048576 && leb (length bytes) 1048576)))
run_fits_is m k row bytes =
    fits_is m k row bytes (zeros 128)
    ∙ ap (λ b. eqb (length m) 524288 && (leb k 9 && b))
    (ap (λ n. (leb (length row) 1048576 && leb (length bytes) 1048576) && leb 128 n) (length_zeros 128) ∙ and_true _)
  where
    and_true : (b : Bool) → (b && true) ≡ b
    and_true true = refl
    and_true false = refl
