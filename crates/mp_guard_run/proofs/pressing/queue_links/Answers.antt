use Rattle.std.proofs.Common.{◌≡◌, ◌+◌, ◌∙◌, ap, ap₂, arith, length, sym, [], ◌∷◌, ◌++◌, map}
use Rattle.std.proofs.lemmas.List.{length-map, length_push}
use Rattle.std.proofs.lemmas.List.FromFn.{map-range_with_len_more, length-range_with_len}
use Rattle.mp_model.specs.Network.{entry, numbers_to}
use Rattle.mp_press.specs.Queues.{naturals}
use Rattle.mp_press.specs.Presses.{queued_on}
use Rattle.mp_press.proofs.Writes.{numbers_have}
use Rattle.mp_guard_run.proofs.pressing.queue_links.Goals as goal

pub loop-i-preserved : goal.loop-i-preserved
loop-i-preserved c =
    let f = queued_on c.args.net.now (entry (naturals c.args.counts.now)) in
    let i = c.loop-i.i in
    record {
      value = c.push.ensures.items ∙ ap₂ (λ xs s. xs ++ s ∷ []) c.loop-i.invariant.value c.queued_on.ensures.value ∙ sym (map-range_with_len_more f 1 i (i + 1) (omega arith));
      size = ap length c.push.ensures.items ∙ length_push c.loop-i.into.items c.queued_on.result ∙ omega (arith, c.loop-i.invariant.size);
    }

pub returns : goal.returns
returns c =
    let net = c.args.net.now in
    let f = queued_on net (entry (naturals c.args.counts.now)) in
    let n = length net.links in
    let value : c.loop-i.into.items ≡ map f (numbers_to n) = c.loop-i.invariant.value ∙ ap (λ n. map f (numbers_to n)) (omega arith) in
    record { size = ap length value ∙ length-map (numbers_to n) f ∙ length-range_with_len 1 n; each = rw value (numbers_have f n) }
