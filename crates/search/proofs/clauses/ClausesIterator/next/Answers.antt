use Rattle.std.proofs.Common.{◌≡◌, ℕ, zero, suc, ◌-◌, List, [], ◌∷◌, length, get_or, take, drop, refl, sym, ap, arith}
use Rattle.formula.specs.Arena.{clauses_in}
use Rattle.search.proofs.clauses.ClausesIterator.next.Goals as goal

none_left : (n : ℕ) (xs : List ℕ) → n ≡ 0 → clauses_in n xs ≡ []
unfolding clauses_in
none_left n xs none = rw none refl

first_left : (n : ℕ) (xs clause rest : List ℕ) → (n ≡ 0 → ⊥) → clause ≡ take (get_or xs 0 0) (drop 1 xs) → rest ≡ drop (get_or xs 0 0) (drop 1 xs) → clauses_in n xs ≡ clause ∷ clauses_in (n - 1) rest
unfolding clauses_in
first_left zero xs clause rest some c r = absurd (some refl)
first_left (suc n) xs clause rest some c r = let e : n ≡ suc n - 1 = omega arith in λ i. sym c i ∷ clauses_in (e i) (sym r i)

pub returns-then-self-eq0-clause-steps : goal.returns-then-self-eq0-clause-steps
returns-then-self-eq0-clause-steps c = let e = none_left _ c.args.self.now.arena.now c.if-self-eq0.true in (e, e)

pub returns-clause-steps : goal.returns-clause-steps
returns-clause-steps c = first_left _ _ _ _ c.if-self-eq0.false c.split_clause.ensures.clause c.split_clause.ensures.rest

pub returns-clause-goes : goal.returns-clause-goes
returns-clause-goes c =
    let e = first_left c.args.self.now.left c.args.self.now.arena.now c.split_clause.result.0.now c.split_clause.result.1.now c.if-self-eq0.false c.split_clause.ensures.clause c.split_clause.ensures.rest in
    record { on = λ _. (tt, tt, omega (arith, ap length e)); keeps = tt; rests = λ _. tt }
