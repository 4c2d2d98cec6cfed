use Rattle.std.proofs.Common.{◌≡◌, ◌==◌, ◌≤◌, ◌+◌, ◌-◌, ◌%◌, ◌∙◌, sym, ap, ap₂, arith, length, ℕ, map, sum}
use Rattle.std.proofs.lemmas.List.{length-map, length-take-le}
use Rattle.mp_model.specs.Network.{from_of, out_of, share_of, entry}
use Rattle.mp_model.specs.Step.{joined}
use Rattle.mp_press.specs.Queues.{naturals}
use Rattle.mp_press.specs.Written.{written}
use Rattle.mp_press.proofs.Known.{all_known, few_kept}
use Rattle.mp_step.proofs.Moves.{carried, phase_carried, sum_shares, parts_are, settled-map}
use Rattle.mp_step.specs.Settled.{settled}
use Rattle.mp_step.proofs.moving.move_link.Goals as goal

pub slice_bounds-part-end : goal.slice_bounds-part-end
slice_bounds-part-end c = omega (arith, ap length c.out_of-ks.ensures, few_kept (λ k. from_of c.args.net.now k == c.args.l) (length c.args.net.now.movements))

pub slice_bounds-part-end-2 : goal.slice_bounds-part-end-2
slice_bounds-part-end-2 c = let few : length c.out_of-ks.result.now ≤ length c.args.parts.now = omega (arith, ap length c.out_of-ks.ensures, few_kept (λ k. from_of c.args.net.now k == c.args.l) (length c.args.net.now.movements)) in sym (length-take-le _ _ few)

pub take_from-after-requires-clause-phase : goal.take_from-after-requires-clause-phase
take_from-after-requires-clause-phase c = omega (arith, ap sum c.requires.split, sum_shares c.args.net.now c.requires.acceptable.network c.args.l c.requires.known)

pub take_from-after-requires-clause-len : goal.take_from-after-requires-clause-len
take_from-after-requires-clause-len c =
    let few : length c.out_of-ks.result.now ≤ length c.args.parts.now = omega (arith, ap length c.out_of-ks.ensures, few_kept (λ k. from_of c.args.net.now k == c.args.l) (length c.args.net.now.movements)) in
    length-take-le _ _ few ∙ ap length c.out_of-ks.ensures ∙ sym (length-map (out_of c.args.net.now c.args.l) (share_of c.args.net.now)) ∙ sym (ap length c.requires.split)

pub settle-requires-clause-known : goal.settle-requires-clause-known
settle-requires-clause-known c = rw (c.out_of-ks.ensures, c.requires.len) (all_known (λ k. from_of c.args.net.now k == c.args.l) (length c.args.net.now.movements))

pub settle-requires-clause-parts : goal.settle-requires-clause-parts
settle-requires-clause-parts c =
    let few : length c.out_of-ks.result.now ≤ length c.args.parts.now = omega (arith, ap length c.out_of-ks.ensures, few_kept (λ k. from_of c.args.net.now k == c.args.l) (length c.args.net.now.movements)) in
    c.take_from-after.auto.got ∙ length-take-le _ _ few

pub returns-clause-phase : goal.returns-clause-phase
returns-clause-phase c =
    let net = c.args.net.now in
    c.take_from-after.ensures.phase ∙ ap₂ (λ r t. (c.args.phase + r) % t) c.gather-received.ensures.value (ap sum c.requires.split ∙ sum_shares net c.requires.acceptable.network c.args.l c.requires.known)

pub returns-clause-value : goal.returns-clause-value
returns-clause-value c =
    let net = c.args.net.now in
    let l = c.args.l in
    let q = naturals c.args.queues.now in
    let y = c.args.passes.now in
    let xs = naturals c.args.next.now in
    let g : ℕ → ℕ → ℕ = λ r k. joined net l (c.args.phase + r) k - joined net l c.args.phase k in
    let parts : c.take_from-after.new.got ≡ map (g c.gather-received.result) (out_of net l) =
    c.take_from-after.ensures.got ∙ parts_are net c.requires.acceptable.network l c.requires.known c.args.split.now.shares c.requires.split c.args.phase c.gather-received.result in
    c.settle.ensures.value
    ∙ ap₂ (λ ks ps. settled q y ks ps xs) c.out_of-ks.ensures parts
    ∙ settled-map q y (g c.gather-received.result) (out_of net l) xs
    ∙ ap (λ r. written (λ k. entry q k - entry y k + g r k) (out_of net l) xs) c.gather-received.ensures.value

pub carry-requires-clause-known : goal.carry-requires-clause-known
carry-requires-clause-known c = rw (c.out_of-ks.ensures, c.requires.len) (all_known (λ k. from_of c.args.net.now k == c.args.l) (length c.args.net.now.movements))

pub returns-then-received-eq0-clause-phase : goal.returns-then-received-eq0-clause-phase
returns-then-received-eq0-clause-phase c = phase_carried c.args.phase _ c.args.net.now.shares c.requires.phase (sym c.gather-received.ensures.value ∙ c.if-received-eq0.true)

pub returns-then-received-eq0-clause-value : goal.returns-then-received-eq0-clause-value
returns-then-received-eq0-clause-value c =
    let net = c.args.net.now in
    let q = naturals c.args.queues.now in
    let y = c.args.passes.now in
    let xs = naturals c.args.next.now in
    c.carry.ensures.value ∙ ap (λ ks. written (λ k. entry q k - entry y k) ks xs) c.out_of-ks.ensures
    ∙ carried net c.args.l c.args.phase _ q y (out_of net c.args.l) xs (sym c.gather-received.ensures.value ∙ c.if-received-eq0.true)
