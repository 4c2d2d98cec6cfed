use Rattle.std.proofs.Common.{◌∙◌, ap, map, arith, None}
use Rattle.mp_model.specs.Network.{targets}
use Rattle.mp_round.proofs.Placing.{new_row, none_targets}
use Rattle.mp_round.proofs.copies.Copies.new.Goals as goal

pub loop-i-preserved : goal.loop-i-preserved
loop-i-preserved c =
    let net = c.args.net.now in
    ap (map (λ row. row.items)) c.in_ok-add_row.ensures
    ∙ new_row (λ row. row.items) (λ j. map (λ l. None) (targets net j)) net.junctions c.loop-i.rows.items c.loop-i.i c.in_ok-row.row (omega (arith, c.junctions-i-end.ensures.count)) c.loop-i.invariant
    (c.in_ok-row.ensures ∙ none_targets c.targets.result.now ∙ ap (map (λ l. None)) c.targets.ensures)
