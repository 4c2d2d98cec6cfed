use Rattle.std.proofs.Common.{◌≡◌, ◌≤◌, ◌+◌, ◌-◌, ◌*◌, ◌^◌, ◌∙◌, ap, ap₂, arith, length, ℕ, sym, [], ◌∷◌, ◌++◌, map, subst}
use Rattle.std.specs.List.{All}
use Rattle.std.proofs.lemmas.List.{length_push}
use Rattle.std.proofs.lemmas.List.Elements.{All-push}
use Rattle.std.proofs.lemmas.List.FromFn.{map-range_with_len_more}
use Rattle.mp_model.specs.Network.{entry, numbers_to, flow_of}
use Rattle.mp_press.specs.Queues.{naturals}
use Rattle.mp_press.specs.Presses.{press_by}
use Rattle.mp_press.proofs.Cached.{downstream_in}
use Rattle.mp_press.proofs.Writes.{numbers_have}
use Rattle.mp_guard_run.proofs.pressing.press_all.Goals as goal

pub loop-i-preserved : goal.loop-i-preserved
loop-i-preserved c =
    let net = c.args.net.now in
    let q : ℕ → ℕ = entry (naturals c.args.counts.now) in
    let f : ℕ → ℕ = press_by net q q in
    let i = c.loop-i.i in
    let k = i + 1 in
    let down = downstream_in net c.requires.acceptable.network q c.args.queued.now c.requires.queued.each k (omega arith, omega arith) in
    let press : c.press.result ≡ f k = c.press.ensures.value ∙ ap₂ (λ a b. flow_of net k * (net.shares * a - b)) c.queue_of.ensures (c.behind_in-behind.ensures ∙ down) in
    record {
      value = c.push.ensures.items ∙ ap₂ (λ xs s. xs ++ s ∷ []) c.loop-i.invariant.value press ∙ sym (map-range_with_len_more f 1 i k (omega arith));
      size = ap length c.push.ensures.items ∙ length_push c.loop-i.into.items c.press.result ∙ omega (arith, c.loop-i.invariant.size);
      few = subst (All (λ p. p ≤ 2 ^ 110)) (sym c.push.ensures.items) (All-push (λ p. p ≤ 2 ^ 110) c.loop-i.into.items c.press.result c.loop-i.invariant.few c.press.ensures.few);
    }

pub returns : goal.returns
returns c =
    let net = c.args.net.now in
    let q : ℕ → ℕ = entry (naturals c.args.counts.now) in
    let f : ℕ → ℕ = press_by net q q in
    let value : c.loop-i.into.items ≡ map f (numbers_to (length net.movements)) = c.loop-i.invariant.value ∙ ap (λ n. map f (numbers_to n)) (omega arith) in
    record { size = omega (arith, c.loop-i.invariant.size); each = rw value (numbers_have f (length net.movements)); few = c.loop-i.invariant.few }
