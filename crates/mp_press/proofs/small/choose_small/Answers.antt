use Rattle.std.proofs.Common.{◌≡◌, ◌-◌, ◌∙◌, ap, length, ℕ, cond, true}
use Rattle.mp_model.specs.Network.{entry, junction_at, stage_at, has, stands_in}
use Rattle.mp_laws.proofs.Lists.{each_in, at_in}
use Rattle.mp_press.specs.Queues.{naturals}
use Rattle.mp_press.specs.Written.{IsAmong}
use Rattle.mp_press.specs.Presses.{press_by, own_of}
use Rattle.mp_press.proofs.Known.{stage_known, stage_own, kept_known}
use Rattle.mp_press.proofs.Writes.{entry-written}
use Rattle.mp_press.proofs.Firsts.{greatest_agrees}
use Rattle.mp_press.proofs.small.choose_small.Goals as goal

pub returns-clause-value : goal.returns-clause-value
returns-clause-value c =
    let net = c.args.net.now in
    let n = c.args.j in
    let ok = c.requires.acceptable.network in
    let j = junction_at net n in
    let q : ℕ → ℕ = entry (naturals c.args.queues.now) in
    let f : ℕ → ℕ = press_by net q q in
    let old = c.args.presses.now in
    c.small_greatest.ensures
    ∙ greatest_agrees net q q j c.press_junction.new.presses (λ s. each_in (λ k. entry c.press_junction.new.presses k ≡ f k) (stage_at j s) (λ k h.
    let i = at_in (IsAmong (length net.movements)) k (stage_at j s) h (stage_known net ok (n - 1) s) in
    let mine = at_in (λ k. has (own_of net n) k ≡ true) k (stage_at j s) h (stage_own net ok (n - 1) s) in
    ap (λ xs. entry xs k) c.press_junction.ensures.value ∙ entry-written f (own_of net n) old (length net.movements) k c.requires.size (kept_known (stands_in j) (length net.movements)) i.0 i.1 ∙ ap (λ b. cond b (f k) (entry old k)) mine))
