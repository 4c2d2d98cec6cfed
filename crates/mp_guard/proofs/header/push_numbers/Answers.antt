use Rattle.std.proofs.Common.{◌≡◌, ◌+◌, ◌-◌, ◌∙◌, ap, arith}
use Rattle.std.specs.Prelude.{codes, decimal, slice_index_or}
use Rattle.mp_model.specs.Network.{movement_at, entry}
use Rattle.mp_guard.specs.GuardHeader.{number_line}
use Rattle.mp_guard.proofs.HeaderLemmas.{lines_more, pieces}
use Rattle.mp_guard.proofs.header.push_numbers.Goals as goal

pub loop-i-preserved : goal.loop-i-preserved
loop-i-preserved c =
    let i = c.loop-i.i in
    let back : i ≡ (i + 1) - 1 = omega arith in
    lines_more (number_line c.args.word.now c.args.net.now c.args.numbers.now) i c.args.text.now.items c.loop-i.text.items c.push_number.new.text.items c.loop-i.invariant
    (c.in_ok-push_number.ensures
    ∙ pieces c.loop-i.text.items c.args.word.now (decimal (i + 1)) (codes " ") (movement_at c.args.net.now (i + 1)).name (codes " ") (slice_index_or c.args.numbers.now c.from.result 0) (entry c.args.numbers.now (i + 1))
    (ap (λ n. slice_index_or c.args.numbers.now n 0) (c.from.ensures ∙ back)))
