use Rattle.std.proofs.Common.{◌≡◌, length, map, arith}
use Rattle.std.proofs.lemmas.List.{length-map}
use Rattle.mp_model.specs.EventCore.{accepted}
use Rattle.mp_round.specs.Copying.{copies_in}
use Rattle.mp_round.specs.declared.copies.Copies.TheInside.{Inside}
use Rattle.mp_round.proofs.Placing.{map_row}
use Rattle.mp_round.proofs.copies.Copies.drop_old.Goals as goal

size : (copies : Inside) → length (copies_in copies) ≡ length copies.rows.items
size copies = length-map copies.rows.items (λ row. row.items)

pub loop-i-preserved : goal.loop-i-preserved
loop-i-preserved c =
    map_row (λ row. row.items) (map (accepted c.args.delay c.args.period)) (copies_in c.self.inside) c.loop-i.self-inside.rows.items c.loop-i.i c.index_mut.result.now c.drop_old_of.new.row
    (omega (arith, size c.self.inside, c.self.inside.rows.ok.0)) c.loop-i.invariant c.index_mut.ensures.value c.drop_old_of.ensures
