use Rattle.std.proofs.Common.{◌≡◌, ◌+◌, ◌-◌, ◌∙◌, ap, ap₂, arith, length, set, slice_index}
use Rattle.std.specs.Prelude.{unsigned_abs}
use Rattle.std.proofs.lemmas.List.{length-map}
use Rattle.std.proofs.lemmas.List.Edits.{fill_by_more}
use Rattle.mp_model.specs.Network.{Movement, start_of}
use Rattle.mp_press.specs.Queues.{naturals}
use Rattle.mp_press.proofs.Writes.{numbers_by_all}
use Rattle.mp_press.proofs.cache.put_starts.Goals as goal

pub loop-i-preserved : goal.loop-i-preserved
loop-i-preserved c =
    let i = c.loop-i.i in
    let net = c.args.net.now in
    let back : (i + 1) - 1 ≡ i = omega arith in
    let old = naturals c.loop-i.counts in
    let size : length old ≡ length c.loop-i.counts = length-map c.loop-i.counts unsigned_abs in
    let value : c.from-start.result ≡ start_of net (i + 1) = c.from-start.ensures ∙ ap (λ (m : Movement). m.start) c.movement.ensures.part in
    record {
      counts = c.put_count.ensures.counts;
      each = λ m h. ap (λ xs. slice_index xs m) c.put_count.ensures.value ∙ ap₂ (λ n v. slice_index (set old n v) m) back value
          ∙ fill_by_more (λ m. start_of net (m + 1)) old i 0 (omega (arith, size, c.loop-i.auto.counts, c.requires.len)) c.loop-i.invariant.each m h;
    }

pub returns-clause-value : goal.returns-clause-value
returns-clause-value c =
    let net = c.args.net.now in
    let size : length (naturals c.loop-i.counts) ≡ length c.loop-i.counts = length-map c.loop-i.counts unsigned_abs in
    numbers_by_all (start_of net) (naturals c.loop-i.counts) (length net.movements) (omega (arith, size, c.loop-i.auto.counts, c.requires.len))
    (λ k some few. let back : k - 1 + 1 ≡ k = omega arith in c.loop-i.invariant.each (k - 1) (omega arith) ∙ ap (start_of net) back)
