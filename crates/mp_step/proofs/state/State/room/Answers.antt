use Rattle.std.proofs.Common.{◌∙◌, ap, arith, length, subst}
use Rattle.mp_model.specs.Network.{entry}
use Rattle.mp_press.specs.Queues.{naturals}
use Rattle.mp_step.specs.BucketLevels.{IsRoom}
use Rattle.mp_step.specs.Standing.{Standing}
use Rattle.mp_step.proofs.Above.{within_length}
use Rattle.mp_step.proofs.state.State.room.Goals as goal

pub room_of-requires-clause-within : goal.room_of-requires-clause-within
room_of-requires-clause-within c = rw (c.deref.ensures.value, c.levels.ensures.value) c.self.invariant.traffic.within

pub room_of-requires-clause-fits : goal.room_of-requires-clause-fits
room_of-requires-clause-fits c = rw c.levels.ensures.value c.self.invariant.traffic.level_fits

pub room_of-requires-clause-known : goal.room_of-requires-clause-known
room_of-requires-clause-known c =
    (c.requires.0, omega (arith, ap length c.deref.ensures.value, within_length c.self.inside.traffic.buckets.items (naturals c.self.inside.traffic.spans.levels) c.self.invariant.traffic.within, ap (λ (s : Standing). length s.levels) c.self.view_is, c.requires.1))

pub returns : goal.returns
returns c = λ net on.
    let fills = c.deref.ensures.value ∙ ap (λ (s : Standing). s.buckets) c.self.view_is ∙ on.buckets in
    let levels = ap naturals c.levels.ensures.value ∙ ap (λ (s : Standing). s.levels) c.self.view_is in
    subst (λ ls. IsRoom net (entry ls) c.args.l c.room_of.result) levels (c.room_of.ensures net fills)
