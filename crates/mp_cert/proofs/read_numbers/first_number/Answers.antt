use Rattle.std.proofs.Common.{Some, ◌∙◌, ap, sym, rules, drop, take, to_z-of_z}
use Rattle.std.specs.Int.{w128}
use Rattle.std.specs.Prelude.{FitsSigned}
use Rattle.std.specs.List.{position_or_len}
use Rattle.std.specs.Prelude.{◌==◌}
use Rattle.mp_text.specs.Bigs.{big_of}
use Rattle.mp_cert.specs.TextMeaning.{onto, spaced_numbers}
use Rattle.mp_cert.proofs.FieldLemmas.{begins_with_field}
use Rattle.mp_cert.proofs.read_numbers.first_number.Goals as goal

pub returns-in_default-clause-none : goal.returns-in_default-clause-none
returns-in_default-clause-none c =
    let at = c.field_len-len.ensures ∙ ap (position_or_len (λ b. b == 32)) c.drop_front-fields.ensures in
    let field = c.in_default.ensures.value ∙ ap (λ bs. big_of (take c.field_len-len.result bs)) c.drop_front-fields.ensures in
    begins_with_field c.args.bytes.now c.field_len-len.result (search rules) (search rules) at
    ∙ ap (λ o. onto o (spaced_numbers (drop c.field_len-len.result (drop 1 c.args.bytes.now)))) (sym field)

pub returns-clause-number : goal.returns-clause-number
returns-clause-number c =
    let at = c.field_len-len.ensures ∙ ap (position_or_len (λ b. b == 32)) c.drop_front-fields.ensures in
    let field = c.in-Some.ensures.value ∙ ap (λ bs. big_of (take c.field_len-len.result bs)) c.drop_front-fields.ensures in
    let fits : FitsSigned w128 c.in-Some.number = search rules in
    rw to_z-of_z (begins_with_field c.args.bytes.now c.field_len-len.result (search rules) (search rules) at
    ∙ ap (λ o. onto o (spaced_numbers (drop c.field_len-len.result (drop 1 c.args.bytes.now)))) (sym field)
    ∙ ap (λ bs. onto (Some c.in-Some.number) (spaced_numbers (drop c.field_len-len.result bs))) (sym c.drop_front-fields.ensures)
    ∙ ap (λ bs. onto (Some c.in-Some.number) (spaced_numbers bs)) (sym c.drop_front-rest.ensures))
