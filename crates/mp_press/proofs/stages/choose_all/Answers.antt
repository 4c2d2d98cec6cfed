use Rattle.std.proofs.Common.{◌≡◌, ◌+◌, ◌-◌, ◌∙◌, ap, ap₂, arith, length, ℕ, sym, List, [], ◌∷◌, ◌++◌, map, get_or}
use Rattle.std.proofs.lemmas.List.{take_all}
use Rattle.mp_model.specs.Network.{Network, entry, no_junction, junction_at}
use Rattle.mp_model.specs.NetworkRules.{IsNetwork}
use Rattle.mp_model.specs.Pressure.{greatest_stage}
use Rattle.mp_laws.proofs.Lists.{AllOf-map}
use Rattle.mp_laws.proofs.Bounds.{all_greatest}
use Rattle.mp_press.specs.Queues.{naturals}
use Rattle.mp_press.specs.Written.{HasEach, IsAmong}
use Rattle.mp_press.specs.Presses.{press_by, greatest_in}
use Rattle.mp_press.proofs.Known.{stage_known}
use Rattle.mp_press.proofs.Firsts.{greatest_agrees, greatest_are_stages, junctions_more}
use Rattle.mp_press.proofs.stages.choose_all.Goals as goal

agrees : (net : Network) → IsNetwork net → (q : ℕ → ℕ) (presses : List ℕ) → HasEach (press_by net q q) (length net.movements) presses → (i : ℕ) → greatest_in (junction_at net (i + 1)) presses ≡ greatest_stage net q (get_or net.junctions i no_junction)
agrees net ok q presses each i =
    let back : (i + 1) - 1 ≡ i = omega arith in
    ap (λ n. greatest_in (get_or net.junctions n no_junction) presses) back
    ∙ greatest_agrees net q q (get_or net.junctions i no_junction) presses (λ s. AllOf-map (IsAmong (length net.movements)) (λ k. entry presses k ≡ press_by net q q k) (λ k h. each k h.0 h.1) _ (stage_known net ok i s))

pub loop-i-preserved : goal.loop-i-preserved
loop-i-preserved c =
    let net = c.args.net.now in
    let q = entry (naturals c.args.queues.now) in
    let i = c.loop-i.i in
    c.push.ensures.items
    ∙ ap₂ (λ xs s. xs ++ s ∷ []) c.loop-i.invariant (c.greatest.ensures ∙ agrees net c.shares.ensures.acceptable.network q c.as_slice-presses.result.now (rw (sym c.as_slice-presses.ensures.value) at c.press_all.ensures.each) i)
    ∙ sym (junctions_more (greatest_stage net q) net.junctions i (omega arith))

pub returns-clause-value : goal.returns-clause-value
returns-clause-value c =
    let net = c.args.net.now in
    c.loop-i.invariant ∙ ap (map (greatest_stage net (entry (naturals c.args.queues.now)))) (take_all c.loop-i.i net.junctions (omega arith))

pub returns-clause-greatest : goal.returns-clause-greatest
returns-clause-greatest c =
    let net = c.args.net.now in
    let q = entry (naturals c.args.queues.now) in
    rw (returns-clause-value c) (all_greatest net q net.junctions c.shares.ensures.acceptable.network.some_stage)

pub returns-clause-stages : goal.returns-clause-stages
returns-clause-stages c = greatest_are_stages c.args.net.now (entry (naturals c.args.queues.now)) c.args.net.now.junctions _ (returns-clause-greatest c)
