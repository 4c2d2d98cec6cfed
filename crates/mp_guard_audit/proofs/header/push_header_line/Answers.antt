use Rattle.std.proofs.Common.{◌+◌, ◌-◌, ◌∙◌, ap, arith}
use Rattle.std.specs.Prelude.{codes}
use Rattle.mp_guard.specs.GuardHeader.{number_line}
use Rattle.mp_model.specs.Network.{Network}
use Rattle.mp_guard_audit.proofs.HeadingLemmas.{green_at, bound_at, wait_at, sizes}
use Rattle.mp_guard_audit.proofs.header.push_header_line.Goals as goal

pub overflow_cast-i-else-i-waits : goal.overflow_cast-i-else-i-waits
overflow_cast-i-else-i-waits c =
    let at = sizes c.args.session.now c.state.ensures.guarding c.net-net.result.now c.junctions.result c.movements.result c.args.i c.net-net.ensures c.junctions.ensures.count c.movements.ensures.count c.requires.known in
    omega (arith, at.low, c.from-bounds.ensures, c.from.ensures, c.movements.ensures.few)

pub overflow_add-i-else-i-waits : goal.overflow_add-i-else-i-waits
overflow_add-i-else-i-waits c =
    let at = sizes c.args.session.now c.state.ensures.guarding c.net-net.result.now c.junctions.result c.movements.result c.args.i c.net-net.ensures c.junctions.ensures.count c.movements.ensures.count c.requires.known in
    omega (arith, at.low, c.from-bounds.ensures, c.from.ensures, c.movements.ensures.few)

pub push_movement-requires-else-i-waits-clause-known : goal.push_movement-requires-else-i-waits-clause-known
push_movement-requires-else-i-waits-clause-known c =
    let at = sizes c.args.session.now c.state.ensures.guarding c.net-net.result.now c.junctions.result c.movements.result c.args.i c.net-net.ensures c.junctions.ensures.count c.movements.ensures.count c.requires.known in
    (omega arith, omega (arith, at.low, c.from-bounds.ensures, c.from.ensures, c.movements.ensures.count, c.if-i-waits.false))

pub returns-then-i-bounds-clause-held : goal.returns-then-i-bounds-clause-held
returns-then-i-bounds-clause-held c =
    let s = c.args.session.now in
    let at = sizes s c.state.ensures.guarding c.net-net.result.now c.junctions.result c.movements.result c.args.i c.net-net.ensures c.junctions.ensures.count c.movements.ensures.count c.requires.known in
    green_at s c.state.ensures.guarding c.args.i (c.args.i - 5 + 1) c.push_greens.new.line.held (omega (arith, c.if-i-lt-FIRST_LINES.false)) (omega (arith, at.junctions, c.from-bounds.ensures, c.if-i-bounds.true)) (omega arith) c.push_greens.ensures.held

pub returns-then-i-waits-clause-held : goal.returns-then-i-waits-clause-held
returns-then-i-waits-clause-held c =
    let s = c.args.session.now in
    let at = sizes s c.state.ensures.guarding c.net-net.result.now c.junctions.result c.movements.result c.args.i c.net-net.ensures c.junctions.ensures.count c.movements.ensures.count c.requires.known in
    let k = c.args.i - (5 + c.from-bounds.result) + 1 in
    bound_at s c.state.ensures.guarding c.args.i k c.push_movement.new.line.held
    (omega (arith, at.junctions, c.from-bounds.ensures, c.if-i-bounds.false)) (omega (arith, at.junctions, at.movements, c.from-bounds.ensures, c.from.ensures, c.if-i-waits.true)) (omega (arith, at.junctions, c.from-bounds.ensures))
    (c.push_movement.ensures.held ∙ ap (λ (n : Network). number_line (codes "bound ") n c.bounds.result.now k) c.net-net.ensures ∙ ap (λ ns. number_line (codes "bound ") s.net ns k) c.bounds.ensures)

pub returns-else-i-waits-clause-held : goal.returns-else-i-waits-clause-held
returns-else-i-waits-clause-held c =
    let s = c.args.session.now in
    let at = sizes s c.state.ensures.guarding c.net-net.result.now c.junctions.result c.movements.result c.args.i c.net-net.ensures c.junctions.ensures.count c.movements.ensures.count c.requires.known in
    let k = c.args.i - (5 + c.from-bounds.result + c.from.result) + 1 in
    wait_at s c.state.ensures.guarding c.args.i k c.push_movement-else-i-waits.new.line.held
    (omega (arith, at.junctions, at.movements, c.from-bounds.ensures, c.from.ensures, c.if-i-waits.false)) c.requires.known (omega (arith, at.junctions, at.movements, c.from-bounds.ensures, c.from.ensures))
    (c.push_movement-else-i-waits.ensures.held ∙ ap (λ (n : Network). number_line (codes "wait ") n c.waits.result.now k) c.net-net.ensures ∙ ap (λ ns. number_line (codes "wait ") s.net ns k) c.waits.ensures)
