use Rattle.std.proofs.Common.{◌≡◌, arith, subst, sym}
use Rattle.mp_model.specs.EventCore.{seen}
use Rattle.mp_model.specs.Network.{entry, junction_at}
use Rattle.mp_model.specs.Pressure.{greatest_stage_by}
use Rattle.mp_round.specs.RoundView.{IsRoundOn, RoundView, core_of}
use Rattle.mp_round.proofs.Placing.{decided_count}
use Rattle.mp_round.proofs.round.Round.fix_stage.Goals as goal

pub index_mut-requires : goal.index_mut-requires
index_mut-requires c =
    let on = subst (IsRoundOn c.args.net.now) (sym c.self.view_is) c.requires.on in
    omega (arith, decided_count c.args.net.now.junctions c.self.inside.decided.items on.decided, c.self.inside.decided.ok.0)

pub returns-clause-value : goal.returns-clause-value
returns-clause-value c =
    let net = c.args.net.now in
    subst (λ (round : RoundView). c.choose_by-stage.result ≡ greatest_stage_by net (entry round.standing.queues) (seen net (core_of round) c.args.j) (junction_at net c.args.j)) c.self.view_is c.choose_by-stage.ensures.value
