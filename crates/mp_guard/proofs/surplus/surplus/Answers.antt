use Rattle.std.proofs.Common.{◌≡◌, ◌+◌, ◌-◌, ◌∙◌, ap, arith, length}
use Rattle.mp_model.specs.Network.{from_of}
use Rattle.mp_step.proofs.Moves.{rows_count, row_at}
use Rattle.mp_step.specs.Standing.{shares_in}
use Rattle.mp_guard.proofs.surplus.surplus.Goals as goal

pub bounds-splits-from : goal.bounds-splits-from
bounds-splits-from c = let size = rows_count (λ split. split.shares) c.args.splits.now (shares_in c.args.net.now) (length c.args.net.now.links) c.requires.splits in omega arith

pub surplus_over-requires-clause-splitter : goal.surplus_over-requires-clause-splitter
surplus_over-requires-clause-splitter c =
    let net = c.args.net.now in
    let place : (c.from.result - 1) + 1 ≡ from_of net c.args.k = omega arith in
    ap (λ s. s.shares) c.index-splits-from.is
    ∙ row_at (λ split. split.shares) c.args.splits.now (shares_in net) (length net.links) c.requires.splits (c.from.result - 1) (omega arith) c.index-splits-from.result
    ∙ ap (shares_in net) place
