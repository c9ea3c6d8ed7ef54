use Rattle.std.proofs.Common.{◌≡◌, ◌-◌, not, length, take, drop, ap, ◌∙◌, rules, tests}
use Rattle.std.proofs.lemmas.Iterator.{YieldsList-from_slice}
use Rattle.std.proofs.lemmas.Iterator.Search.{position_from_yields_List}
use Rattle.std.proofs.lemmas.List.{take_rest}
use Rattle.std.specs.List.{position_or_len}
use Rattle.dimacs.specs.Text.{is_blank}
use Rattle.dimacs.specs.Heading.{unblanked, first_word, after_word}
use Rattle.dimacs.proofs.Headings.{place_is}
use Rattle.dimacs.proofs.header.split_word.Goals as goal

pub returns : goal.returns
unfolding first_word after_word
returns c =
    let row = c.args.row.now in
    let start : c.unwrap_or-start.result ≡ position_or_len (λ b. not (is_blank b)) row =
    place_is (λ b. not (is_blank b)) row c.position.result c.unwrap_or-start.result
    (position_from_yields_List (λ b. not (is_blank b)) _ _ c.position.result c.position.ensures.ran (YieldsList-from_slice _ c.iter.ensures.rest) (λ x b q k. search (rules, tests)))
    c.unwrap_or-start.ensures
    in
    let rest : take (length row - c.unwrap_or-start.result) (drop c.unwrap_or-start.result row) ≡ unblanked row =
    take_rest row c.unwrap_or-start.result ∙ ap (λ n. drop n row) start
    in
    let end : c.unwrap_or-end.result ≡ position_or_len is_blank (take (length row - c.unwrap_or-start.result) (drop c.unwrap_or-start.result row)) =
    place_is is_blank _ c.position-2.result c.unwrap_or-end.result
    (position_from_yields_List is_blank _ _ c.position-2.result c.position-2.ensures.ran (YieldsList-from_slice _ c.iter-2.ensures.rest) (λ x b q k. search (rules, tests)))
    c.unwrap_or-end.ensures
    in
    record { word = rw (← rest, ← end) c.split_at.ensures.front; rest = rw (← rest, ← end) c.split_at.ensures.back }
