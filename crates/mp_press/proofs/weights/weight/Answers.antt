use Rattle.std.proofs.Common.{◌≡◌, ◌<◌, ◌*◌, ◌∙◌, ap, ap₂, arith, length, ℕ, sym, List, get_or, pos, ◌-ℤ◌}
use Rattle.std.specs.Prelude.{unsigned_abs}
use Rattle.std.specs.Int.{w128}
use Rattle.std.proofs.lemmas.Int.{ints, to_z-of_z}
use Rattle.std.proofs.lemmas.List.{length-map}
use Rattle.mp_model.specs.Network.{Network, stands_in, junction_at}
use Rattle.mp_model.specs.Pressure.{queued_downstream}
use Rattle.mp_press.specs.Queues.{naturals}
use Rattle.mp_press.specs.Written.{IsAmong}
use Rattle.mp_press.specs.Presses.{own_of, own_queue, next_queue}
use Rattle.mp_press.proofs.Known.{all_known, kept_differ}
use Rattle.mp_press.proofs.Among.{count_here}
use Rattle.mp_press.proofs.Sums.{few_at, product_fits}
use Rattle.mp_press.proofs.weights.weight.Goals as goal

known : (net : Network) (j : ℕ) (ks : List ℕ) → ks ≡ own_of net j → (i : ℕ) → i < length ks → IsAmong (length net.movements) (get_or ks i 0)
known net j ks e i h = let all = rw (sym e) at (all_known (stands_in (junction_at net j)) (length net.movements)) in all i 0 h

pub overflow_mul-from : goal.overflow_mul-from
overflow_mul-from c =
    omega (arith, product_fits c.from.result c.queue_at.result (omega (arith, c.from.ensures, c.shares-shares.ensures.value, c.shares-shares.ensures.acceptable.range.shares)) (omega (arith, c.queue_at.ensures, few_at c.args.own.now c.args.i c.requires.counts.own_counts)))

pub behind_among-requires-clause-known : goal.behind_among-requires-clause-known
behind_among-requires-clause-known c = known c.args.net.now c.args.j _ c.own.ensures c.args.i (omega (arith, ap length c.own.ensures, c.requires.counts.own_size))

pub difference-requires : goal.difference-requires
difference-requires c =
    omega (arith, c.behind_among.ensures.few, product_fits c.from.result c.queue_at.result (omega (arith, c.from.ensures, c.shares-shares.ensures.value, c.shares-shares.ensures.acceptable.range.shares)) (omega (arith, c.queue_at.ensures, few_at c.args.own.now c.args.i c.requires.counts.own_counts)))

pub returns : goal.returns
returns c =
    let net = c.args.net.now in
    let j = c.args.j in
    let ks = own_of net j in
    let qs = naturals c.args.own.now in
    let within : c.args.i < length ks = omega (arith, c.requires.counts.own_size) in
    let queue : c.queue_at.result ≡ own_queue net j qs (get_or ks c.args.i 0) =
    c.queue_at.ensures ∙ sym (count_here ks qs (kept_differ (stands_in (junction_at net j)) (length net.movements)) (length-map c.args.own.now unsigned_abs ∙ c.requires.counts.own_size) c.args.i within) in
    to_z-of_z w128 c.difference.result (let e = c.difference.ensures in omega (arith, ints, c.behind_among.ensures.few, product_fits c.from.result c.queue_at.result (omega (arith, c.from.ensures, c.shares-shares.ensures.value, c.shares-shares.ensures.acceptable.range.shares)) (omega (arith, c.queue_at.ensures, few_at c.args.own.now c.args.i c.requires.counts.own_counts))))
    ∙ c.difference.ensures
    ∙ ap₂ (λ a b. pos a -ℤ pos b) (ap₂ ◌*◌ (c.from.ensures ∙ c.shares-shares.ensures.value) queue)
    (c.behind_among.ensures.value ∙ ap (λ ks. queued_downstream net (next_queue net j (naturals c.args.next.now)) (get_or ks c.args.i 0)) c.own.ensures)
