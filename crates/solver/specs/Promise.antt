-- What an engine is, how a command runs on it, and what it promises of every list of commands: `Whole`.
-- Each promise is a type; it is proved where a function's contract names it.
use Rattle.std.specs.Prelude.{◌≡◌, ℕ, zero, suc, ◌<◌, ◌≤◌, Bool, true, false, ◌&&◌, ltb, List, [], ◌∷◌, ◌++◌, length, nat_eq, nat_le, nat_lt}
use Rattle.formula.specs.Logic.{pick, every, CanBe, CannotBe, units}
use Rattle.solver.specs.House.{House, house, Command, refusal, refused_with, After, shown, written, small_command, AModel, ACore}

pub data Event : Type 0 where
  said : Command → Event
  next : Event

pub data Act : Type 0 where
  shows : ℕ → Act
  writes : List ℕ → Act  -- up to 128 bytes
  done : Act
  refused : ℕ → Act

pub record Move : Type 0 where
  pub memory : List ℕ
  pub act : Act

pub record Engine : Type 0 where
  pub start : List ℕ
  pub step : List ℕ → Event → Move

-- how a command went: what was shown and written, and the end: 0 done, a refusal, 1000 still at it, 1001 a fault
pub record Ran : Type 0 where
  pub memory : List ℕ
  pub showed : List ℕ
  pub wrote : List ℕ
  pub end : ℕ

abbrev pub ran : List ℕ → List ℕ → List ℕ → ℕ → Ran
ran m ss ws e = record { memory = m; showed = ss; wrote = ws; end = e }

unfoldable pub one_act : (List ℕ → List ℕ → List ℕ → Ran) → List ℕ → List ℕ → List ℕ → Act → Ran
one_act go ss ws m (shows s) = go m (ss ++ s ∷ []) ws
one_act go ss ws m (writes w) = pick (nat_le (length w) 128) (go m ss (ws ++ w)) (ran m ss ws 1001)
one_act go ss ws m done = ran m ss ws 0
one_act go ss ws m (refused k) = ran m ss ws (pick (nat_le 1 k && nat_lt k 1000) k 1001)

unfoldable pub runs : ℕ → Engine → List ℕ → Event → List ℕ → List ℕ → Ran
runs zero e m ev ss ws = ran m ss ws 1000
runs (suc n) e m ev ss ws = one_act (λ m₁ ss₁ ws₁. runs n e m₁ next ss₁ ws₁) ss ws (e.step m ev).memory (e.step m ev).act

unfoldable pub all_small : List ℕ → Bool
all_small ms = every (λ m. ltb m 18446744073709551616) ms

-- memory is all 0 at the start; it never grows, nor do its numbers beyond 64 bits
unfoldable pub Steady : Engine → Type 0
Steady e =
    (length e.start ≤ 524288) × (every (λ m. nat_eq m 0) e.start ≡ true)
    × ((m : List ℕ) (ev : Event) → (length (e.step m ev).memory ≡ length m) × (all_small m ≡ true → all_small (e.step m ev).memory ≡ true))

unfoldable pub Right : (Command → Bool) → Engine → List ℕ → House → List Command → Type 0
Right known e m h [] = zero ≡ zero
Right known e m h (c ∷ cs) =
    (n : ℕ) × (h₁ : House)
    × ((known c ≡ false → ((runs n e m (said c) [] []).end ≡ 2) × ((runs n e m (said c) [] []).showed ≡ []) × ((runs n e m (said c) [] []).wrote ≡ []) × (h₁ ≡ h))
    × (known c ≡ true → 0 < refusal h c →
    ((runs n e m (said c) [] []).end ≡ refusal h c) × ((runs n e m (said c) [] []).showed ≡ refused_with h c) × ((runs n e m (said c) [] []).wrote ≡ []) × (h₁ ≡ h))
    × (known c ≡ true → refusal h c ≡ 0 →
    ((runs n e m (said c) [] []).end ≡ 0) × After h c h₁ × ((runs n e m (said c) [] []).showed ≡ shown h c h₁)
    × ((runs n e m (said c) [] []).wrote ≡ written h c h₁)))
    × Right known e (runs n e m (said c) [] []).memory h₁ cs

-- THE MAIN PROMISE, for every list of commands
unfoldable pub Whole : (Command → Bool) → Engine → Type 0
Whole known e =
    Steady e × ((cs : List Command) → length cs ≤ 4294967296 → every small_command cs ≡ true → Right known e e.start (house [] [] 0 0 [] [] false []) cs)

-- A model shows that they can be, and a core that they can't.
unfoldable pub ModelShows : Type 0
ModelShows = (h : House) (ms : List ℕ) → AModel h ms → CanBe (h.clauses ++ units h.assumed)

unfoldable pub CoreShows : Type 0
CoreShows = (h : House) (ks : List ℕ) → ACore h ks → CannotBe (h.clauses ++ units h.assumed)
