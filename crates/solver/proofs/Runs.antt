-- How a run is put together from steps, for any engine.
-- A run comes to its end after some number of steps: one lemma for each act of the first. Two runs that have ended are the same.
use Rattle.std.proofs.Common.{◌≡◌, ℕ, zero, suc, ◌+◌, ◌-◌, ◌<◌, ◌≤◌, Bool, true, false, ◌&&◌, ltb, leb, List, [], ◌∷◌, ◌++◌, length, sym, refl, ap, ◌∙◌, subst, ⊎_elim, append-nil, arith}
use Rattle.std.proofs.lemmas.Bool.{cases_lt}
use Rattle.formula.specs.Logic.{pick}
use Rattle.solver.specs.Promise.{Event, next, Act, shows, writes, done, refused, Move, Engine, Ran, ran, one_act, runs}
use Rattle.solver.proofs.Picks.{pick_yes}

abbrev pub move : List ℕ → Act → Move
move m a = record { memory = m; act = a }

-- the run of a command comes to r, after some number of steps
abbrev pub Comes : Engine → List ℕ → Event → List ℕ → List ℕ → Ran → Type 0
Comes e m ev ss ws r = (n : ℕ) × (runs n e m ev ss ws ≡ r)

module _ (e : Engine) (m : List ℕ) (ev : Event) (ss ws m₁ : List ℕ) where
  one_step : (n : ℕ) (a : Act) → e.step m ev ≡ move m₁ a →
      runs (suc n) e m ev ss ws ≡ one_act (λ m₂ ss₁ ws₁. runs n e m₂ next ss₁ ws₁) ss ws m₁ a
  unfolding runs
  one_step n a p = ap (λ (v : Move). one_act (λ m₂ ss₁ ws₁. runs n e m₂ next ss₁ ws₁) ss ws v.memory v.act) p

  pub comes_done : e.step m ev ≡ move m₁ done → Comes e m ev ss ws (ran m₁ ss ws 0)
  unfolding one_act
  comes_done p = (1, one_step 0 done p)

  pub comes_refused : (k : ℕ) → (leb 1 k && ltb k 1000) ≡ true → e.step m ev ≡ move m₁ (refused k) → Comes e m ev ss ws (ran m₁ ss ws k)
  unfolding one_act
  comes_refused k small p = (1, one_step 0 (refused k) p ∙ ap (λ (b : Bool). ran m₁ ss ws (pick b k 1001)) small)

  pub comes_shows : (k : ℕ) (r : Ran) → e.step m ev ≡ move m₁ (shows k) → Comes e m₁ next (ss ++ k ∷ []) ws r → Comes e m ev ss ws r
  unfolding one_act
  comes_shows k r p c = (suc c.0, one_step c.0 (shows k) p ∙ c.1)

  pub comes_writes : (w : List ℕ) (r : Ran) → leb (length w) 128 ≡ true → e.step m ev ≡ move m₁ (writes w) → Comes e m₁ next ss (ws ++ w) r →
      Comes e m ev ss ws r
  unfolding one_act
  comes_writes w r short p c = (suc c.0, one_step c.0 (writes w) p ∙ pick_yes _ _ _ short ∙ c.1)

  -- nothing written
  pub comes_quiet : (r : Ran) → e.step m ev ≡ move m₁ (writes []) → Comes e m₁ next ss ws r → Comes e m ev ss ws r
  comes_quiet r p c = comes_writes [] r refl p (subst (λ (x : List ℕ). Comes e m₁ next ss x r) (sym (append-nil ws)) c)

-- A RUN THAT HAS ENDED is the same with more steps
abbrev KeepsOn : (List ℕ → List ℕ → List ℕ → Ran) → (List ℕ → List ℕ → List ℕ → Ran) → Type 0
KeepsOn go go₁ = (m ss ws : List ℕ) → ((go m ss ws).end ≡ 1000 → ⊥) → go₁ m ss ws ≡ go m ss ws

act_more : (go go₁ : List ℕ → List ℕ → List ℕ → Ran) → KeepsOn go go₁ → (ss ws m : List ℕ) (a : Act) → ((one_act go ss ws m a).end ≡ 1000 → ⊥) →
    one_act go₁ ss ws m a ≡ one_act go ss ws m a
unfolding one_act
act_more go go₁ k ss ws m (shows n) ne = k m (ss ++ n ∷ []) ws ne
act_more go go₁ k ss ws m (writes w) ne = by (leb (length w) 128) ne
  where
    by : (b : Bool) → ((pick b (go m ss (ws ++ w)) (ran m ss ws 1001)).end ≡ 1000 → ⊥) →
        pick b (go₁ m ss (ws ++ w)) (ran m ss ws 1001) ≡ pick b (go m ss (ws ++ w)) (ran m ss ws 1001)
    by true ne₁ = k m ss (ws ++ w) ne₁
    by false ne₁ = refl
act_more go go₁ k ss ws m done ne = refl
act_more go go₁ k ss ws m (refused q) ne = refl

ended_more : (e : Engine) (n j : ℕ) (m : List ℕ) (ev : Event) (ss ws : List ℕ) → ((runs n e m ev ss ws).end ≡ 1000 → ⊥) →
    runs (n + j) e m ev ss ws ≡ runs n e m ev ss ws
unfolding runs
ended_more e zero j m ev ss ws ne = absurd (ne refl)
ended_more e (suc n) j m ev ss ws ne =
    let s : suc n + j ≡ suc (n + j) = omega arith in
    ap (λ (x : ℕ). runs x e m ev ss ws) s
    ∙ act_more (λ m₁ ss₁ ws₁. runs n e m₁ next ss₁ ws₁) (λ m₁ ss₁ ws₁. runs (n + j) e m₁ next ss₁ ws₁) (λ m₁ ss₁ ws₁ ne₁. ended_more e n j m₁ next ss₁ ws₁ ne₁)
    ss ws (e.step m ev).memory (e.step m ev).act ne

pub same_end : (e : Engine) (m : List ℕ) (ev : Event) (ss ws : List ℕ) (n k : ℕ) → ((runs n e m ev ss ws).end ≡ 1000 → ⊥) → ((runs k e m ev ss ws).end ≡ 1000 → ⊥) →
    runs n e m ev ss ws ≡ runs k e m ev ss ws
same_end e m ev ss ws n k a b = ⊎_elim (λ (l : n < k). sym (up n k a (omega arith))) (λ (l : k ≤ n). up k n b l) (cases_lt n k)
  where
    up : (i j : ℕ) → ((runs i e m ev ss ws).end ≡ 1000 → ⊥) → i ≤ j → runs j e m ev ss ws ≡ runs i e m ev ss ws
    up i j ne l =
        let s : j ≡ i + (j - i) = omega arith in
        ap (λ (x : ℕ). runs x e m ev ss ws) s ∙ ended_more e i (j - i) m ev ss ws ne
