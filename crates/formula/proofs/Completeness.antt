-- That propagation is complete: if it ends with no conflict, what it took to be true is settled by the clauses. So a chain of forced literals that ends in a
-- conflict shows that a clause follows by propagation.
use Rattle.std.proofs.Common.{◌≡◌, ℕ, zero, suc, ◌<◌, ◌≤◌, Bool, true, false, not, ◌&&◌, eqb, ◌⊎◌, List, [], ◌∷◌, ◌++◌, length, sym, refl, ap, ◌∙◌, subst, inl, inr, arith}
use Rattle.std.proofs.lemmas.Bool.{not-true, not_from_false, eqb-true, eq-eqb, and_parts, and_from, true_from_ne_false}
use Rattle.formula.specs.Logic.{pick, or, every, any, those, each, none_of, has, other, Clause, false_by, open_of, conflict, all_equal, makes_unit, first_unit, refuted, by_propagation, added_up, how_large}
use Rattle.formula.specs.Statements.{Resolves}
use Rattle.formula.proofs.Rows.{clash, or_left, or_right, or_cases, or_parts, In, Sub, in_left, in_right, in_each, each_in, every_at, every_of, any_at, any_of, any_none, none_any, in_those, those_in, has_in, in_has, has_not, not_has}
use Rattle.formula.proofs.Soundness.{other_other, Settled, Found, unit_of, not_refuted}

-- COUNTS
pub those_le : {A : Type 0} (f g : A → Bool) (xs : List A) → ((x : A) → f x ≡ true → g x ≡ true) → length (those f xs) ≤ length (those g xs)
unfolding those
those_le f g [] h = omega arith
those_le f g (y ∷ ys) h = let ih = those_le f g ys h in let k = h y in grind arith

pub those_lt : {A : Type 0} (f g : A → Bool) (x : A) (xs : List A) → ((x : A) → f x ≡ true → g x ≡ true) → In x xs → f x ≡ false → g x ≡ true →
    length (those f xs) < length (those g xs)
unfolding those
those_lt f g x [] h i p q = absurd i
those_lt f g x (y ∷ ys) h (inl e) p q = let le = those_le f g ys h in grind arith
those_lt f g x (y ∷ ys) h (inr i) p q = let ih = those_lt f g x ys h i p q in let k = h y in grind arith

pub those_fit : {A : Type 0} (f : A → Bool) (xs : List A) → length (those f xs) ≤ length xs
unfolding those
those_fit f [] = omega arith
those_fit f (y ∷ ys) = let ih = those_fit f ys in grind arith

pub added_le : {A : Type 0} (f g : A → ℕ) (xs : List A) → ((x : A) → f x ≤ g x) → added_up f xs ≤ added_up g xs
unfolding added_up
added_le f g [] h = omega arith
added_le f g (x ∷ xs) h = omega (arith, h x, added_le f g xs h)

pub added_lt : {A : Type 0} (f g : A → ℕ) (x : A) (xs : List A) → ((x : A) → f x ≤ g x) → In x xs → f x < g x → added_up f xs < added_up g xs
unfolding added_up
added_lt f g x [] h i l = absurd i
added_lt f g x (y ∷ ys) h (inl e) l = let k : f y < g y = subst (λ z. f z < g z) e l in omega (arith, added_le f g ys h)
added_lt f g x (y ∷ ys) h (inr i) l = omega (arith, h y, added_lt f g x ys h i l)

-- how many literals of the clauses aren't yet taken to be true
abbrev pub left : List ℕ → List Clause → ℕ
left ts cs = added_up (λ (c : Clause). length (those (λ l. not (has ts l)) c)) cs

pub left_fits : (ts : List ℕ) (cs : List Clause) → left ts cs ≤ how_large cs
left_fits ts cs = added_le (λ (c : Clause). length (those (λ l. not (has ts l)) c)) length cs (λ c. those_fit (λ l. not (has ts l)) c)

pub left_less : (ts : List ℕ) (cs : List Clause) (f : Found ts cs) → left (f.lit ∷ ts) cs < left ts cs
left_less ts cs f = added_lt (λ (c : Clause). length (those after c)) (λ (c : Clause). length (those before c)) f.clause cs
    (λ c. those_le after before c step) f.there
    (those_lt after before f.lit f.clause step f.inside (ap not (in_has f.lit (f.lit ∷ ts) (inl refl))) (ap not f.new))
  where
    before : ℕ → Bool
    before l = not (has ts l)

    after : ℕ → Bool
    after l = not (has (f.lit ∷ ts) l)

    step : (x : ℕ) → after x ≡ true → before x ≡ true
    step x e = not_from_false (has ts x) (not_has x ts (λ i. has_not x (f.lit ∷ ts) (not-true (has (f.lit ∷ ts) x) e) (inr i)))

-- CONSISTENT: no literal beside its other
abbrev pub Consistent : List ℕ → Type 0
Consistent ts = (l : ℕ) → In l ts → In (other l) ts → ⊥

pub other_apart : (l : ℕ) → other l ≡ l → ⊥
other_apart l e = grind arith

pub consistent_more : (ts : List ℕ) (l : ℕ) → Consistent ts → (In (other l) ts → ⊥) → Consistent (l ∷ ts)
consistent_more ts l h n k i j = grind (arith, other_other)

-- with no unit and no conflict left, all is settled
pub no_units : (ts : List ℕ) (c : Clause) (cs : List Clause) → first_unit ts cs ≡ [] → In c cs → makes_unit ts c ≡ false
unfolding first_unit all_equal
no_units ts c [] e i = absurd i
no_units ts c (d ∷ ds) e i = let ih = no_units ts c ds in grind arith

pub all_equal_to : (l : ℕ) (os : List ℕ) → (os ≡ [] → ⊥) → ((k : ℕ) → In k os → k ≡ l) → all_equal os ≡ true
unfolding all_equal
all_equal_to l [] n h = absurd (n refl)
all_equal_to l (o ∷ os) n h = every_of (eqb o) os (λ k i. eq-eqb o k (h o (inl refl) ∙ sym (h k (inr i))))

pub stopped : (ts : List ℕ) (cs : List Clause) → first_unit ts cs ≡ [] → conflict ts cs ≡ false → Consistent ts → Settled cs (has ts)
stopped ts cs u f n = record { no_clash = no; forced = yes₁ }
  where
    no : (c : Clause) → In c cs → ((l : ℕ) → In l c → has ts (other l) ≡ true) → ⊥
    no c i h = clash (conflict ts cs) (any_of (λ c. every (false_by ts) c) c cs i (every_of (false_by ts) c h)) f

    yes₁ : (c : Clause) (l : ℕ) → In c cs → ((k : ℕ) → In k c → (k ≡ l) ⊎ (has ts (other k) ≡ true)) → has ts l ≡ true
    yes₁ c l i h = true_from_ne_false (has ts l) (λ e. clash (makes_unit ts c) (and_from _ _ (not_from_false (any (has ts) c) (none_any (has ts) c (fresh e))) (all_equal_to l (open_of ts c) some same)) (no_units ts c cs u i))
      where
        fresh : has ts l ≡ false → (k : ℕ) → In k c → has ts k ≡ false
        fresh e k j = elim (h k j) [ inl p ↦ ap (has ts) p ∙ e | inr q ↦ not_has k ts (λ m. n k m (has_in (other k) ts q)) ]

        same : (k : ℕ) → In k (open_of ts c) → k ≡ l
        same k j = let r = those_in (λ x. not (false_by ts x)) k c j in
            elim (h k r.0) [ inl p ↦ p | inr q ↦ clash (false_by ts k) q (not-true (false_by ts k) r.1) ]

        some : open_of ts c ≡ [] → ⊥
        some e = no c i (λ k j. true_from_ne_false (has ts (other k)) (λ w. let x : In k (open_of ts c) = in_those (λ x. not (false_by ts x)) k c j (not_from_false (false_by ts k) w) in subst (λ (y : List ℕ). In k y) e x))

-- propagation with fuel enough ends in a conflict, or in a settled row
pub record Rest (cs : List Clause) (ts : List ℕ) : Type 0 where
  pub row : List ℕ
  pub more : Sub ts row
  pub apart : Consistent row
  pub settled : Settled cs (has row)

pub settle : (n : ℕ) (cs : List Clause) (ts : List ℕ) → left ts cs ≤ n → Consistent ts → refuted n cs ts ≡ false → Rest cs ts
unfolding refuted none_of
settle zero cs ts m a e = go (unit_of ts cs)
  where
    go : (first_unit ts cs ≡ []) ⊎ Found ts cs → Rest cs ts
    go (inl z) = record { row = ts; more = λ l i. i; apart = a; settled = stopped ts cs z e a }
    go (inr f) = absurd (omega (arith, left_less ts cs f))
settle (suc n) cs ts m a e = go (or_parts (conflict ts cs) _ e) (unit_of ts cs) (settle n cs)
  where
    go : (conflict ts cs ≡ false) × (pick (none_of (first_unit ts cs)) false (refuted n cs (first_unit ts cs ++ ts)) ≡ false) → (first_unit ts cs ≡ []) ⊎ Found ts cs →
        ((us : List ℕ) → left us cs ≤ n → Consistent us → refuted n cs us ≡ false → Rest cs us) → Rest cs ts
    go p (inl z) ih = record { row = ts; more = λ l i. i; apart = a; settled = stopped ts cs z p.0 a }
    go p (inr f) ih =
        let r = ih (f.lit ∷ ts) (omega (arith, left_less ts cs f)) (consistent_more ts f.lit a (has_not (other f.lit) ts f.unset)) (rw f.is at p.1) in
        record { row = r.row; more = λ l i. r.more l (inr i); apart = r.apart; settled = r.settled }

-- COMPLETE: if no settled row makes a clause false, it follows by propagation
pub complete : (cs : List Clause) (c : Clause) → ((us : List ℕ) → ((l : ℕ) → In l c → In (other l) us) → Consistent us → Settled cs (has us) → ⊥) → by_propagation cs c ≡ true
complete cs c h = go (any (λ l. has c (other l)) c) refl
  where
    go : (b : Bool) → any (λ l. has c (other l)) c ≡ b → by_propagation cs c ≡ true
    go true e = or_left _ _ e
    go false e = or_right (any (λ l. has c (other l)) c) _ (true_from_ne_false (refuted (suc (how_large cs)) cs (each other c)) (λ f.
        let r = settle (suc (how_large cs)) cs (each other c) (omega (arith, left_fits (each other c) cs)) apart f in
        h r.row (λ l i. r.more (other l) (in_each other l c i)) r.apart r.settled))
      where
        apart : Consistent (each other c)
        apart l i j =
            let p = each_in other l c i in
            let q = each_in other (other l) c j in
            let s : other q.0 ≡ p.0 = sym q.2 ∙ (ap other p.2 ∙ other_other p.0) in
            has_not (other q.0) c (any_none (λ x. has c (other x)) q.0 c e q.1) (subst (λ x. In x c) (sym s) p.1)

-- in a settled row: what's forced stands in it, and a clause with all its literals false is no clause of ours
module _ (cs : List Clause) (us : List ℕ) (s : Settled cs (has us)) where
  pub forced_in : (r : Clause) (l : ℕ) → In r cs → ((k : ℕ) → In k r → (k ≡ l) ⊎ In (other k) us) → In l us
  forced_in r l i h = grind (arith, in_has, has_in)

  pub clash_in : (c : Clause) → In c cs → ((k : ℕ) → In k c → In (other k) us) → ⊥
  clash_in c i h = s.no_clash c i (λ k j. in_has (other k) us (h k j))

-- fewer clauses settle what more settle
pub settled_sub : (cs ds : List Clause) (M : ℕ → Bool) → Sub cs ds → Settled ds M → Settled cs M
settled_sub cs ds M b s = record { no_clash = λ c i h. s.no_clash c (b c i) h; forced = λ c l i h. s.forced c l (b c i) h }

-- the other way: what follows by propagation is false in no settled row
pub follows_not : (cs : List Clause) (c : Clause) (us : List ℕ) → by_propagation cs c ≡ true → ((l : ℕ) → In l c → In (other l) us) → Consistent us → Settled cs (has us) → ⊥
follows_not cs c us e h a s = go (or_cases (any (λ l. has c (other l)) c) _ e)
  where
    go : (any (λ l. has c (other l)) c ≡ true) ⊎ (refuted (suc (how_large cs)) cs (each other c) ≡ true) → ⊥
    go (inl p) = let r = any_at (λ l. has c (other l)) c p in a (other r.0) (h r.0 r.1) (h (other r.0) (has_in (other r.0) c r.2))
    go (inr p) = not_refuted cs (has us) s (suc (how_large cs)) (each other c) (λ l i. let r = each_in other l c i in in_has l us (subst (λ x. In x us) (sym r.2) (h r.0 r.1))) p

-- MORE CLAUSES, and more literals in the clause, never hurt
pub follows_more : (cs ds : List Clause) (c d : Clause) → Sub cs ds → Sub c d → by_propagation cs c ≡ true → by_propagation ds d ≡ true
follows_more cs ds c d b s e = complete ds d (λ us h a t. follows_not cs c us e (λ l i. h l (s l i)) a (settled_sub cs ds (has us) b t))

-- what stands among the clauses follows
pub follows_there : (cs : List Clause) (c : Clause) → In c cs → by_propagation cs c ≡ true
follows_there cs c i = complete cs c (λ us h a s. clash_in cs us s c i h)

-- THE CHAIN, step by step: a clause that's false, or one that forces a literal and then the rest
pub data Leads (cs : List Clause) : List ℕ → Type 0 where
  ends : {ts : List ℕ} (c : Clause) → In c cs → ((k : ℕ) → In k c → In (other k) ts) → Leads cs ts
  gives : {ts : List ℕ} (l : ℕ) (r : Clause) → In r cs → ((k : ℕ) → In k r → (k ≡ l) ⊎ In (other k) ts) → Leads cs (l ∷ ts) → Leads cs ts

pub leads_not : (cs : List Clause) (us : List ℕ) → Settled cs (has us) → {ts : List ℕ} → Leads cs ts → Sub ts us → ⊥
leads_not cs us s (ends c i h) b = clash_in cs us s c i (λ k j. b (other k) (h k j))
leads_not cs us s (gives {ts = ts} l r i h w) b = leads_not cs us s w more
  where
    more : Sub (l ∷ ts) us
    more k (inl p) = subst (λ x. In x us) (sym p) (forced_in cs us s r l i (λ j m. elim (h j m) [ inl q ↦ inl q | inr q ↦ inr (b (other j) q) ]))
    more k (inr j) = b k j

pub by_leads : (cs : List Clause) (c : Clause) → Leads cs (each other c) → by_propagation cs c ≡ true
by_leads cs c w = complete cs c (λ us h a s. leads_not cs us s w (λ l i. let r = each_in other l c i in subst (λ x. In x us) (sym r.2) (h r.0 r.1)))

-- the same from a trail of literals with their reasons, the newest first
abbrev pub lits : List (ℕ × Clause) → List ℕ
lits [] = []
lits (p ∷ ps) = p.0 ∷ lits ps

abbrev pub Reasons : List Clause → List ℕ → List (ℕ × Clause) → Type 0
Reasons cs ts [] = Unit {0}
Reasons cs ts (p ∷ ps) = In p.1 cs × ((k : ℕ) → In k p.1 → (k ≡ p.0) ⊎ In (other k) (lits ps ++ ts)) × Reasons cs ts ps

pub trail_in : (cs : List Clause) (us ts : List ℕ) (ps : List (ℕ × Clause)) → Settled cs (has us) → Sub ts us → Reasons cs ts ps → Sub (lits ps ++ ts) us
trail_in cs us ts [] s b r l i = b l i
trail_in cs us ts (p ∷ ps) s b r l (inl e) = subst (λ x. In x us) (sym e) (forced_in cs us s p.1 p.0 r.0 (λ k j. elim (r.1 k j) [ inl q ↦ inl q | inr q ↦ inr (trail_in cs us ts ps s b r.2 (other k) q) ]))
trail_in cs us ts (p ∷ ps) s b r l (inr i) = trail_in cs us ts ps s b r.2 l i

pub by_trail : (cs : List Clause) (c d : Clause) (ps : List (ℕ × Clause)) → Reasons cs (each other c) ps → In d cs → ((k : ℕ) → In k d → In (other k) (lits ps ++ each other c)) →
    by_propagation cs c ≡ true
by_trail cs c d ps r i h = complete cs c (λ us g a s. clash_in cs us s d i (λ k j. trail_in cs us (each other c) ps s
    (λ l m. let q = each_in other l c m in subst (λ x. In x us) (sym q.2) (g q.0 q.1)) r (other k) (h k j)))

-- and as a test that computes, the oldest first
unfoldable pub chained : List ℕ → List (ℕ × Clause) → Clause → Bool
chained ts [] c = every (false_by ts) c
chained ts (p ∷ ps) c = every (λ k. or (eqb k p.0) (false_by ts k)) p.1 && chained (p.0 ∷ ts) ps c

pub chained_leads : (cs : List Clause) (ts : List ℕ) (ps : List (ℕ × Clause)) (c : Clause) → ((p : ℕ × Clause) → In p ps → In p.1 cs) → In c cs → chained ts ps c ≡ true → Leads cs ts
unfolding chained
chained_leads cs ts [] c h i e = ends c i (λ k j. has_in (other k) ts (every_at (false_by ts) k c e j))
chained_leads cs ts (p ∷ ps) c h i e = gives p.0 p.1 (h p (inl refl)) left₁ (chained_leads cs (p.0 ∷ ts) ps c (λ q j. h q (inr j)) i (and_parts _ (chained (p.0 ∷ ts) ps c) e).1)
  where
    test : ℕ → Bool
    test k = or (eqb k p.0) (false_by ts k)

    left₁ : (k : ℕ) → In k p.1 → (k ≡ p.0) ⊎ In (other k) ts
    left₁ k j = elim (or_cases (eqb k p.0) (false_by ts k) (every_at test k p.1 (and_parts (every test p.1) _ e).0 j)) [ inl q ↦ inl (eqb-true k p.0 q) | inr q ↦ inr (has_in (other k) ts q) ]

pub by_chain : (cs : List Clause) (c d : Clause) (ps : List (ℕ × Clause)) → ((p : ℕ × Clause) → In p ps → In p.1 cs) → In d cs → chained (each other c) ps d ≡ true → by_propagation cs c ≡ true
by_chain cs c d ps h i e = by_leads cs c (chained_leads cs (each other c) ps d h i e)

pub resolves : Resolves
unfolding Resolves
resolves cs c d l = complete all (c ++ d) (λ us h a s. clash_in all us s (other l ∷ d) (inr (inl refl)) (second us h s))
  where
    all : List Clause
    all = (l ∷ c) ∷ (other l ∷ d) ∷ cs

    first : (us : List ℕ) → ((k : ℕ) → In k (c ++ d) → In (other k) us) → Settled all (has us) → In l us
    first us h s = forced_in all us s (l ∷ c) l (inl refl) case
      where
        case : (k : ℕ) → In k (l ∷ c) → (k ≡ l) ⊎ In (other k) us
        case k (inl p) = inl p
        case k (inr i) = inr (h k (in_left k c d i))

    second : (us : List ℕ) → ((k : ℕ) → In k (c ++ d) → In (other k) us) → Settled all (has us) → (k : ℕ) → In k (other l ∷ d) → In (other k) us
    second us h s k (inl p) = subst (λ x. In x us) (sym (ap other p ∙ other_other l)) (first us h s)
    second us h s k (inr i) = h k (in_right k c d i)
