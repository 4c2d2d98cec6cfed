use Rattle.std.proofs.Common.{arith, subst, sym}
use Rattle.mp_round.specs.RoundView.{IsRoundOn}
use Rattle.mp_round.proofs.Placing.{decided_count}
use Rattle.mp_round.proofs.round.Round.close.Goals as goal

pub undecided-requires : goal.undecided-requires
undecided-requires c =
    let on = subst (IsRoundOn c.args.net.now) (sym c.self.view_is) c.requires.on in
    rw c.deref.ensures.value (omega (arith, decided_count c.args.net.now.junctions c.self.inside.decided.items on.decided, c.shares.ensures.acceptable.range.junctions))
