use Rattle.std.proofs.Common.{◌+◌, ◌/◌, ◌%◌, refl}
use Rattle.mp_gen.proofs.Roads.{parts_acceptable}
use Rattle.mp_gen.proofs.network.demo_net.Goals as goal

pub unreachable-requires : goal.unreachable-requires
unreachable-requires c =
    let n = c.args.n in
    let acceptable = parts_acceptable n (2 + (n % 3)) (30 + ((n / 3) % 10)) _ _ _ refl refl c.in_ok-road_links.ensures c.in_ok-road_movements.ensures c.in_ok-road_junctions.ensures in
    let refused = c.in-Err-Rule.ensures.complete acceptable in
    cc
