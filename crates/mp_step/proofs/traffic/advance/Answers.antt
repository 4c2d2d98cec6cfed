use Rattle.std.proofs.Common.{◌≡◌, ◌<◌, ◌+◌, ◌∙◌, sym, ap, arith, length, map, subst, refl, ℕ}
use Rattle.std.specs.Prelude.{sum, unsigned_abs}
use Rattle.std.proofs.lemmas.List.{length-map, with_items_is}
use Rattle.mp_model.specs.Network.{link_numbers, entry}
use Rattle.mp_press.specs.Queues.{naturals, NoneNegative}
use Rattle.mp_step.specs.BucketLevels.{AreWithin, buckets_of, level_then}
use Rattle.mp_step.specs.Held.{Held}
use Rattle.mp_step.specs.Standing.{Standing, IsOn}
use Rattle.mp_step.specs.TrafficView.{stands}
use Rattle.mp_step.proofs.Above.{are_within, then_within}
use Rattle.mp_step.proofs.Closing.{closed_is, all_by_numbers, standing_same, phases_fit, levels_fit}
use Rattle.mp_step.proofs.Entering.{enter_few}
use Rattle.mp_step.proofs.Following.{closed_conserves, on_after}
use Rattle.mp_step.proofs.Taking.{excess_first, taken_more}
use Rattle.mp_step.proofs.traffic.advance.Goals as goal

pub write_next-requires-clause-phase_in : goal.write_next-requires-clause-phase_in
write_next-requires-clause-phase_in c =
    let net = c.args.net.now in
    all_by_numbers (λ p. p < net.shares) (naturals c.args.traffic.now.spans.phases) (length net.links) c.requires.on.phases c.requires.on.phase_in

pub write_next-requires-clause-splits : goal.write_next-requires-clause-splits
write_next-requires-clause-splits c = ap (λ xs. map (λ split. split.shares) xs) c.deref.ensures.value ∙ c.requires.on.splits

pub write_next-requires-clause-next_within : goal.write_next-requires-clause-next_within
write_next-requires-clause-next_within c = rw c.deref-2.ensures.value c.requires.sound.next_within

pub write_next-requires-clause-movements : goal.write_next-requires-clause-movements
write_next-requires-clause-movements c = sym (length-map c.args.traffic.now.spans.queues unsigned_abs) ∙ c.requires.on.queues

pub write_next-requires-clause-links : goal.write_next-requires-clause-links
write_next-requires-clause-links c = sym (length-map c.args.traffic.now.spans.phases unsigned_abs) ∙ c.requires.on.phases

pub returns-clause-closed : goal.returns-clause-closed
returns-clause-closed c =
    let net = c.args.net.now in
    let t = c.args.traffic.now in
    let counts = c.args.arrivals.now in
    let y : ℕ → ℕ = entry c.args.passes.now in
    let after : Held = c.flip.new.self in
    closed_is net (stands t) y counts (naturals t.spans.phases) (naturals t.spans.queues) (naturals after.queues) (naturals after.phases) (naturals after.levels) (naturals t.spans.levels) c.from.result c.from-2.result
    refl refl refl (ap (λ (h : Held). naturals h.queues) c.flip.ensures ∙ c.in-Ok.ensures.queues) (ap (λ (h : Held). naturals h.phases) c.flip.ensures ∙ c.in-Ok.ensures.phases) (ap (λ (h : Held). naturals h.levels) c.flip.ensures ∙ c.in-Ok.ensures.levels)
    (c.from.ensures ∙ c.in-Ok.ensures.came) (c.from-2.ensures ∙ c.requires.left)

pub returns-clause-within : goal.returns-clause-within
returns-clause-within c = c.in-Ok.ensures.within

pub returns-clause-on : goal.returns-clause-on
returns-clause-on c =
    let net = c.args.net.now in
    let ok = c.shares.ensures.acceptable in
    subst (IsOn net) (sym (returns-clause-closed c)) (on_after net ok.network ok.range (stands c.args.traffic.now) (entry c.args.passes.now) c.args.arrivals.now c.requires.on (returns-clause-within c))

pub returns-clause-sound : goal.returns-clause-sound
returns-clause-sound c =
    let net = c.args.net.now in
    let t = c.args.traffic.now in
    let st : Standing = stands t in
    let counts = c.args.arrivals.now in
    let y : ℕ → ℕ = entry c.args.passes.now in
    let on = c.requires.on in
    let ok = c.shares.ensures.acceptable in
    let after : Held = c.flip.new.self in
    let same = returns-clause-closed c in
    let new = returns-clause-on c in
    let within = returns-clause-within c in
    record {
      some = subst (λ (h : Held). NoneNegative h.queues) (sym c.flip.ensures) (c.write_next.ensures.some c.requires.sound.next_some);
      next_some = subst (λ (h : Held). NoneNegative h.next_queues) (sym c.flip.ensures) (subst NoneNegative (sym c.write_next.ensures.now.0) c.requires.sound.some);
      period = omega arith;
      few = omega (arith, c.from.ensures, c.in-Ok.ensures.came, c.requires.sound.few, enter_few net ok.network ok.range (entry st.levels) counts on.within within);
      conserved = subst (λ (s : Standing). s.total_in ≡ s.total_out + sum s.queues) (sym same) (closed_conserves net ok.network st y counts on c.requires.passes c.requires.sound.conserved);
      within =
          subst (λ fs. AreWithin fs (naturals after.levels)) (sym on.buckets)
          (subst (AreWithin (buckets_of net)) (sym (ap (λ (s : Standing). s.levels) same))
          (are_within net (level_then net (entry st.levels) counts) (link_numbers net) (then_within net (entry st.levels) counts on.within within)));
      next_within = subst (λ ls. AreWithin t.buckets.items (naturals ls)) (sym (ap (λ (h : Held). h.next_levels) c.flip.ensures ∙ c.write_next.ensures.now.2)) c.requires.sound.within;
      phase_fits = phases_fit net ok.range _ new;
      level_fits = levels_fit net ok.range _ new;
      parts =
          ap length (with_items_is t.parts c.write_next.new.parts (c.write_next.auto.parts ∙ c.deref_mut.ensures.len)) ∙ c.write_next.auto.parts ∙ ap length c.deref_mut.ensures.value
          ∙ c.requires.sound.parts ∙ sym (length-map t.spans.queues unsigned_abs) ∙ on.queues ∙ sym (sym (length-map after.queues unsigned_abs) ∙ new.queues);
    }

pub returns-clause-taken : goal.returns-clause-taken
returns-clause-taken c = λ A taken. taken_more c.args.net.now (stands c.args.traffic.now) A c.args.arrivals.now taken c.requires.counts (returns-clause-within c) _ (ap (λ (s : Standing). s.levels) (returns-clause-closed c))

pub returns-in-Err-clause-stays : goal.returns-in-Err-clause-stays
returns-in-Err-clause-stays c =
    let t = c.args.traffic.now in
    let now = c.write_next.ensures.now in
    standing_same t.period (map (λ split. split.shares) t.splits.items) t.buckets.items _ _ _ _ _ _ t.total_in t.total_in t.total_out t.total_out (ap naturals now.0) (ap naturals now.1) (ap naturals now.2) refl refl

pub returns-in-Err-clause-on : goal.returns-in-Err-clause-on
returns-in-Err-clause-on c = subst (IsOn c.args.net.now) (sym (returns-in-Err-clause-stays c)) c.requires.on

pub returns-in-Err-clause-above : goal.returns-in-Err-clause-above
returns-in-Err-clause-above c = c.in-Err.ensures.above

pub returns-in-Err-clause-excess : goal.returns-in-Err-clause-excess
returns-in-Err-clause-excess c = λ A taken. excess_first c.args.net.now (stands c.args.traffic.now) A c.args.arrivals.now taken c.in-Err.link (returns-in-Err-clause-above c)
