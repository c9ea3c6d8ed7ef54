use Rattle.std.proofs.Common.{arith, ◌≡◌, ◌≤◌, IfSome, OnOk, ℕ, ◌+◌, List, [], ◌++◌, take, length, ap, sym, ◌∙◌, subst, Option, Some, None, Result, Ok, Err, is_ok, true}
use Rattle.std.proofs.lemmas.Bool.{false≢true}
use Rattle.std.proofs.lemmas.List.{take_all, length-take}
use Rattle.std.specs.Option.{option_map}
use Rattle.varisat.proofs.file.bytes_of.Goals as goal

-- what was taken of a source is all of it, if it is shorter than what was asked for
all_taken : (known : Option (List ℕ)) (n most : ℕ) (before bytes : List ℕ) → most ≡ n + 1 → before ≡ [] → length bytes ≤ n
    → IfSome (option_map (take most) known) (λ xs. bytes ≡ before ++ xs) → IfSome known (λ all. bytes ≡ all)
all_taken None n most before bytes m b short e = tt
all_taken (Some all) n most before bytes m b short e =
    let front : bytes ≡ take (n + 1) all = e ∙ ap (λ l. l ++ take most all) b ∙ ap (λ k. take k all) m in
    front ∙ take_all (n + 1) all (omega (arith, ap length front, length-take (n + 1) all))

on_ok : {T E P : Type 0} (r : Result T E) → is_ok r ≡ true → OnOk r P → P
on_ok (Ok x) e p = p
on_ok (Err x) e p = absurd (false≢true e)

pub returns-clause-whole : goal.returns-clause-whole
returns-clause-whole g c =
    let read = on_ok _ (sym c.map_err.ensures.variant ∙ ap is_ok c.in_ok-map_err.was) c.read_to_end.ensures.bytes in
    subst (λ s. IfSome (g.R.Read.remaining s) (λ all. c.read_to_end.new.buf.items ≡ all)) c.take.ensures.inner
    (all_taken _ 1048576 _ _ _ c.take.ensures.limit c.new-bytes.ensures.items (omega arith) read)
