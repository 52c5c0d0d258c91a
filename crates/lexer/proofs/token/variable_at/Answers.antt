use mathlib.Core.Path.{refl, sym, ◌∙◌}
use Rattle.lexer.proofs.Law.Forms.{variable-other, variable-named, variable-misnamed}
use Rattle.lexer.proofs.token.variable_at.Goals as goal
use Rattle.lexer.proofs.token.variable_at.Goals.{then-has_byte+else-is_name_length, else-is_name_length-via-then-is_name_length+else-has_byte-2, else-is_name_length-via-else-is_name_length, else-has_byte}

pub returns-then-has_byte-2 : goal.returns-then-has_byte-2
returns-then-has_byte-2 c =
    variable-named c.args.text.now c.args.at c.run_end-end.result c.is_name_length.result c.has_byte-then-is_name_length.result
    (sym c.has_byte.ensures ∙ c.if-has_byte.true) c.run_end-end.ensures c.is_name_length.ensures c.has_byte-then-is_name_length.ensures
    (rw (c.if-is_name_length.true, c.if-has_byte-2.true))

pub returns : goal.returns
returns c =
    elim c.if-has_byte.branch [
      | then-has_byte+else-is_name_length w ↦
          elim w.else-is_name_length.branch [
            | else-is_name_length-via-then-is_name_length+else-has_byte-2 v ↦
                variable-misnamed c.args.text.now c.args.at w.run_end-end.result w.is_name_length.result v.has_byte-then-is_name_length.result
                (sym c.has_byte.ensures ∙ w.if-has_byte.true) w.run_end-end.ensures w.is_name_length.ensures v.has_byte-then-is_name_length.ensures
                (rw (v.if-is_name_length.true, v.if-has_byte-2.false))
            | else-is_name_length-via-else-is_name_length v ↦
                variable-misnamed c.args.text.now c.args.at w.run_end-end.result w.is_name_length.result _
                (sym c.has_byte.ensures ∙ w.if-has_byte.true) w.run_end-end.ensures w.is_name_length.ensures refl
                (rw v.if-is_name_length.false)
          ]
      | else-has_byte w ↦ variable-other c.args.text.now c.args.at (sym c.has_byte.ensures ∙ w.if-has_byte.false)
    ]
