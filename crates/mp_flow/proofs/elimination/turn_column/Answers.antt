use Rattle.std.proofs.Common.{arith, ◌≡◌, ◌∙◌, ap, sym, ◌-◌, ◌*◌, length}
use Rattle.mp_flow.proofs.elimination.turn_column.Goals as goal
use Rattle.mp_num.proofs.TableLemmas.{cells_after}

pub combine_all-requires-then-combine_all-clause-size : goal.combine_all-requires-then-combine_all-clause-size
combine_all-requires-then-combine_all-clause-size c =
    let w : length c.set_upright.new.row ≡ c.args.width = omega arith in
    cells_after (length c.split_at_mut-pivot.result.1.now) c.args.rows c.args.j c.args.width (omega arith) (omega arith)
    ∙ ap (λ n. (c.args.rows - c.args.j - 1) * n) (sym w)
