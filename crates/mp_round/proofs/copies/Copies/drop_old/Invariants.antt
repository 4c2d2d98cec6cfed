use Rattle.std.proofs.Common.{◌≡◌, ◌++◌, map, take, drop}
use Rattle.mp_model.specs.EventCore.{accepted}
use Rattle.mp_round.proofs.copies.Copies.drop_old.Given as goal

abbrev pub invariant-loop-i : goal.invariant-loop-i
invariant-loop-i l = map (λ row. row.items) l.self-inside.rows.items ≡ map (map (accepted l.delay l.period)) (take l.i (map (λ row. row.items) l.initial.self-inside.rows.items)) ++ drop l.i (map (λ row. row.items) l.initial.self-inside.rows.items)
