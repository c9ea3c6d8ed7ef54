use Rattle.std.proofs.Common.{◌≡◌, ◌≤◌, true, leb, [], ◌∷◌, length, ◌∙◌, arith}
use Rattle.formula.specs.Logic.{pick}
use Rattle.dimacs.specs.Pieces.{literal_piece}
use Rattle.dimacs.proofs.Writing.{written_then, literal_written, puts_all, length_literal}
use Rattle.dimacs.proofs.write.put_literal.Goals.{then-is_negated, else-is_negated}
use Rattle.dimacs.proofs.write.put_literal.Goals as goal

pub returns : goal.returns
unfolding literal_piece
returns c =
    let few : length (literal_piece c.args.lit) ≤ 128 = omega (arith, length_literal c.args.lit) in
    let room : leb 128 (length c.args.out.now) ≡ true = grind arith in
    let sign : c.as_bytes.result.now ≡ pick c.is_negated.result (45 ∷ []) [] =
    c.as_bytes.ensures.value ∙ elim c.if-is_negated.branch [ then-is_negated w ↦ grind arith | else-is_negated w ↦ grind arith ]
    in
    let front = literal_written c.args.lit _ _ _ _ _ _ _ c.is_negated.ensures (omega arith) (rw (← sign) c.put_text-number_at.ensures) c.put_number-end.ensures.text in
    puts_all _ _ _ _ (written_then _ _ _ _ _ _ _ _ front c.put_text.ensures) room few
