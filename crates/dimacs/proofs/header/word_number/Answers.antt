use Rattle.std.proofs.Common.{sym, ◌∙◌}
use Rattle.dimacs.proofs.Headings.{parsed_is, unread_at, text_at}
use Rattle.dimacs.proofs.header.word_number.Goals as goal

pub returns-in_err-ok : goal.returns-in_err-ok
returns-in_err-ok c = c.from_residual.ensures ∙ unread_at c.args.word.now _ _ c.from_utf8.result c.from_utf8.ensures.cases (sym c.ok.ensures.value ∙ c.in_err-ok.was)

pub returns : goal.returns
returns c =
    let t = text_at _ _ c.from_utf8.result c.in_ok-ok.field-0 c.from_utf8.ensures.cases (sym c.ok.ensures.value ∙ c.in_ok-ok.was) in
    rw (← t.0) (c.ok-2.ensures.value ∙ parsed_is c.in_ok-ok.field-0.now c.parse.result c.parse.ensures.value.0)
