use Rattle.std.proofs.Common.{◌-◌, ◌*◌, ◌∙◌, sym, ap}
use Rattle.mp_frame.proofs.Acceptable.{parts_acceptable}
use Rattle.mp_frame.proofs.network.frame_net.Goals as goal

pub unreachable-requires : goal.unreachable-requires
unreachable-requires c =
    let acceptable =
    parts_acceptable c.args.net.now c.shares.ensures.acceptable c.args.f c.requires.0 (sym c.fault_of.ensures ∙ c.in_default.is) c.shares.result ((c.args.f - 1) * c.per.result) c.delay.result _ _ _
    c.shares.ensures.value (ap (λ n. (c.args.f - 1) * n) c.per.ensures) c.delay.ensures c.in_ok-frame_links.ensures c.in_ok-same_movements.ensures c.in_ok-same_junctions.ensures in
    let refused = c.in-Err-Rule.ensures.complete acceptable in
    cc
