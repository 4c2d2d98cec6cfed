use Rattle.std.proofs.Common.{◌∙◌, ◌≡◌, ◌-◌, ◌*◌, ap, ap₂, arith, mul-le-mul, sym}
use Rattle.mp_cert.proofs.PlaceLemmas.{from_known, junction_known, junction_same}
use Rattle.mp_model.specs.Network.{junction_of_link, junction_of_movement, flow_of, entry}
use Rattle.mp_finder.proofs.Wanting.{unit_bounds, want_few, want_none, want_some}
use Rattle.mp_finder.proofs.wants.want.Goals as goal

pub junction_of-requires : goal.junction_of-requires
junction_of-requires c = let known = from_known c.args.net.now c.requires.acceptable.network c.args.k c.requires.movement.0 c.requires.movement.1 in rw c.movement-movement.ensures.from known

pub is_always_green-requires : goal.is_always_green-requires
is_always_green-requires c =
    let same : c.junction_of.result ≡ junction_of_movement c.args.net.now c.args.k = c.junction_of.ensures ∙ ap (junction_of_link c.args.net.now) c.movement-movement.ensures.from ∙ junction_same c.args.net.now c.requires.acceptable.network c.args.k c.requires.movement.0 c.requires.movement.1 in
    let known = junction_known c.args.net.now c.requires.acceptable.network c.args.k c.requires.movement.0 c.requires.movement.1 in
    rw same known

pub returns-then-is_always_green-clause-value : goal.returns-then-is_always_green-clause-value
returns-then-is_always_green-clause-value c =
    let same : c.junction_of.result ≡ junction_of_movement c.args.net.now c.args.k = c.junction_of.ensures ∙ ap (junction_of_link c.args.net.now) c.movement-movement.ensures.from ∙ junction_same c.args.net.now c.requires.acceptable.network c.args.k c.requires.movement.0 c.requires.movement.1 in
    want_none c.args.net.now c.args.cycle c.args.d c.args.rates.now c.args.k c.junction_of.result same (sym c.is_always_green.ensures ∙ c.if-is_always_green.true)

pub round_up-requires-clause-under : goal.round_up-requires-clause-under
round_up-requires-clause-under c =
    let same : c.from-3.result * c.from-4.result ≡ c.args.d * flow_of c.args.net.now c.args.k = ap₂ (λ a b. a * b) c.from-3.ensures (c.from-4.ensures ∙ c.movement-movement.ensures.flow) in
    let b = unit_bounds c.args.net.now c.requires.acceptable.network c.requires.acceptable.range c.args.k c.args.d c.requires.movement.0 c.requires.movement.1 c.requires.denominator.0 (omega (arith, c.requires.denominator.1)) in
    (omega (arith, b.0, same), omega (arith, b.1, same))

pub returns-clause-value : goal.returns-clause-value
returns-clause-value c =
    let same : c.junction_of.result ≡ junction_of_movement c.args.net.now c.args.k = c.junction_of.ensures ∙ ap (junction_of_link c.args.net.now) c.movement-movement.ensures.from ∙ junction_same c.args.net.now c.requires.acceptable.network c.args.k c.requires.movement.0 c.requires.movement.1 in
    let unit : c.from-3.result * c.from-4.result ≡ c.args.d * flow_of c.args.net.now c.args.k = ap₂ (λ a b. a * b) c.from-3.ensures (c.from-4.ensures ∙ c.movement-movement.ensures.flow) in
    want_some c.args.net.now c.args.cycle c.args.d c.args.rates.now c.args.k c.junction_of.result c.round_up.result _ _ c.max.result same (sym c.is_always_green.ensures ∙ c.if-is_always_green.false) c.round_up.ensures (ap₂ (λ a b. a * b) c.from.ensures (ap (λ i. entry c.args.rates.now i) c.from-2.ensures)) unit (omega (arith, c.max.ensures))

pub returns-clause-few : goal.returns-clause-few
returns-clause-few c =
    let unit : c.from-3.result * c.from-4.result ≡ c.args.d * flow_of c.args.net.now c.args.k = ap₂ (λ a b. a * b) c.from-3.ensures (c.from-4.ensures ∙ c.movement-movement.ensures.flow) in
    let b = unit_bounds c.args.net.now c.requires.acceptable.network c.requires.acceptable.range c.args.k c.args.d c.requires.movement.0 c.requires.movement.1 c.requires.denominator.0 (omega (arith, c.requires.denominator.1)) in
    let few = c.requires.few (c.from-2.result - 1) 0 (omega (arith, c.from-2.ensures, c.requires.size, c.requires.movement)) in
    let most = mul-le-mul c.requires.cycle few in
    want_few c.round_up.result _ _ c.max.result (omega (arith, b.0, unit)) c.round_up.ensures (omega (arith, most, c.from.ensures, ap (λ n. n * entry c.args.rates.now c.from-2.result) c.from.ensures)) (omega (arith, c.max.ensures))
