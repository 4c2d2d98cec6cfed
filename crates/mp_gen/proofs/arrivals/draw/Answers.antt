use Rattle.std.proofs.Common.{ℕ, min, ◌∙◌, ap, sym, subst}
use Rattle.rand_pcg.specs.Lcg.{Lcg}
use Rattle.rand_pcg.specs.Pcg.{pcg32}
use Rattle.mp_model.specs.Network.{entry}
use Rattle.mp_round.specs.RoundView.{RoundView}
use Rattle.mp_step.specs.BucketLevels.{IsRoom}
use Rattle.mp_step.specs.Standing.{Standing, IsOn}
use Rattle.mp_gen.specs.DemoArrivals.{wish}
use Rattle.mp_gen.proofs.Rooms.{arrival_is}
use Rattle.mp_gen.proofs.Fills.{is_link}
use Rattle.mp_gen.proofs.arrivals.draw.Goals as goal

pub returns-clause-arrival : goal.returns-clause-arrival
returns-clause-arrival c =
    let net = c.args.session.now.net in
    let l = c.args.l in
    let room = c.room-room.result in
    let is = c.state.ensures ∙ ap (λ (round : RoundView). round.standing) c.round.ensures.value in
    let takes = subst (λ (st : Standing). IsRoom net (entry st.levels) l room) is (c.room-room.ensures net (subst (λ (st : Standing). IsOn net st) (sym is) c.round.ensures.kept.on.on)) in
    let drawn = c.wish-wish.ensures.value ∙ ap (wish l) (ap (λ (p : ℕ × Lcg). p.0) c.next_word.ensures) in
    arrival_is net c.args.session.now.round.standing l (pcg32 c.args.words.now).0 room c.min.result (is_link net l c.requires.0 c.requires.1) takes (c.min.ensures ∙ ap (λ w. min w room) (c.from.ensures ∙ drawn))
