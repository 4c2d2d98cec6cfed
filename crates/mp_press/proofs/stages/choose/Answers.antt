use Rattle.std.proofs.Common.{◌≡◌, ◌-◌, ◌∙◌, ap, arith, length, ℕ, List, replicate, cond, true}
use Rattle.std.proofs.lemmas.List.{length-replicate}
use Rattle.mp_model.specs.Network.{entry, junction_at, stage_at, has, stands_in}
use Rattle.mp_laws.proofs.Lists.{AllOf-map}
use Rattle.mp_laws.proofs.Lists.{each_in, at_in}
use Rattle.mp_press.specs.Queues.{naturals}
use Rattle.mp_press.specs.Written.{IsAmong}
use Rattle.mp_press.specs.Presses.{press_by, own_of, own_queue, next_queue}
use Rattle.mp_press.proofs.Known.{some_stage, stage_known, stage_own, kept_known}
use Rattle.mp_press.proofs.Writes.{entry-written}
use Rattle.mp_press.proofs.Firsts.{greatest_agrees, greatest_by_is}
use Rattle.mp_press.proofs.stages.choose.Goals as goal

pub returns-clause-value : goal.returns-clause-value
returns-clause-value c =
    let net = c.args.net.now in
    let n = c.args.j in
    let ok = c.shares.ensures.acceptable.network in
    let j = junction_at net n in
    let q = own_queue net n (naturals c.args.own.now) in
    let r = next_queue net n (naturals c.args.next.now) in
    let f : ℕ → ℕ = press_by net q r in
    let none : List ℕ = replicate 512 0 in
    c.greatest.ensures
    ∙ greatest_agrees net q r j c.press_own.new.presses (λ s. each_in (λ k. entry c.press_own.new.presses k ≡ f k) (stage_at j s) (λ k h.
    let i = at_in (IsAmong (length net.movements)) k (stage_at j s) h (stage_known net ok (n - 1) s) in
    let mine = at_in (λ k. has (own_of net n) k ≡ true) k (stage_at j s) h (stage_own net ok (n - 1) s) in
    ap (λ xs. entry xs k) c.press_own.ensures.value
    ∙ entry-written f (own_of net n) none 512 k (length-replicate {A = ℕ} 512 0) (AllOf-map (IsAmong (length net.movements)) (IsAmong 512) (λ k t. (t.0, omega (arith, t, c.shares.ensures.acceptable.range.movements))) (own_of net n) (kept_known (stands_in j) (length net.movements))) i.0 (omega (arith, i, c.shares.ensures.acceptable.range.movements))
    ∙ ap (λ b. cond b (f k) (entry none k)) mine))

pub returns-clause-greatest : goal.returns-clause-greatest
returns-clause-greatest c =
    let net = c.args.net.now in
    let n = c.args.j in
    let some = some_stage net c.shares.ensures.acceptable.network n c.requires.junction.0 c.requires.junction.1 in
    rw (returns-clause-value c) (greatest_by_is net (own_queue net n (naturals c.args.own.now)) (next_queue net n (naturals c.args.next.now)) (junction_at net n) some)
