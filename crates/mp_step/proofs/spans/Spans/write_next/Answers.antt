use Rattle.std.proofs.Common.{◌≡◌, ◌≤◌, ◌<◌, ◌+◌, ◌*◌, ◌%◌, ◌^◌, ◌∙◌, None, Some, arith, sym, refl, subst, length, map}
use Rattle.std.specs.Prelude.{IfErr, OnOk}
use Rattle.std.specs.List.{All, AllByRecursion}
use Rattle.mp_model.specs.Network.{movement_numbers, link_numbers, link_at, entry}
use Rattle.mp_press.specs.Queues.{naturals, NoneNegative, AreCounts}
use Rattle.mp_step.specs.BucketLevels.{AreWithin, first_above, level_then}
use Rattle.mp_step.specs.Held.{Held}
use Rattle.mp_step.specs.Standing.{moved, received}
use Rattle.mp_step.proofs.Sides.{cut, before_front, before_back, after_front, after_back, carry}
use Rattle.mp_step.proofs.spans.Spans.write_next.Goals as goal

pub write_half-requires : goal.write_half-requires
write_half-requires c =
    let net = c.args.net.now in
    let halves =
    cut c.self.inside c.self.invariant c.args.self.now c.self.view_is (length net.movements) (length net.links) c.requires.movements c.requires.links c.cells_mut.result.now _ _ _ c.cells_mut.ensures.cells c.split_at_mut-first.ensures.value c.split_at_mut-first.ensures.front_len
    (omega (arith, c.len.ensures, c.len-2.ensures)) in
    let before = before_front _ _ _ _ _ _ halves (sym c.at-is_first.ensures ∙ c.if-is_first.true) in
    record {
      acceptable = c.requires.acceptable;
      splits = c.requires.splits;
      buckets = c.requires.buckets;
      arrivals = c.requires.arrivals;
      digits = c.requires.digits;
      size = c.requires.size;
      each = c.requires.each;
      room = c.requires.room;
      now_size = halves.low_len;
      next_size = halves.high_len;
      counts = subst (λ (h : Held). AreCounts h.queues) before c.requires.counts;
      phase_in = subst (λ (h : Held). All (λ phase. phase < net.shares) (naturals h.phases)) before c.requires.phase_in;
      phase_fits = subst (λ (h : Held). All (λ phase. phase < 2 ^ 32) (naturals h.phases)) before c.requires.phase_fits;
      level_fits = subst (λ (h : Held). All (λ level. level < 2 ^ 64) (naturals h.levels)) before c.requires.level_fits;
      within = subst (λ (h : Held). AllByRecursion (λ l. entry (naturals h.levels) l ≤ net.per * (link_at net l).burst) (link_numbers net)) before c.requires.within;
      next_within = subst (λ (h : Held). AreWithin c.args.buckets.now (naturals h.next_levels)) before c.requires.next_within;
    }

pub write_half-requires-2 : goal.write_half-requires-2
write_half-requires-2 c =
    let net = c.args.net.now in
    let halves =
    cut c.self.inside c.self.invariant c.args.self.now c.self.view_is (length net.movements) (length net.links) c.requires.movements c.requires.links c.cells_mut.result.now _ _ _ c.cells_mut.ensures.cells c.split_at_mut-first.ensures.value c.split_at_mut-first.ensures.front_len
    (omega (arith, c.len.ensures, c.len-2.ensures)) in
    let before = before_back _ _ _ _ _ _ halves (λ z. c.if-is_first.false (c.at-is_first.ensures ∙ z)) in
    record {
      acceptable = c.requires.acceptable;
      splits = c.requires.splits;
      buckets = c.requires.buckets;
      arrivals = c.requires.arrivals;
      digits = c.requires.digits;
      size = c.requires.size;
      each = c.requires.each;
      room = c.requires.room;
      now_size = halves.high_len;
      next_size = halves.low_len;
      counts = subst (λ (h : Held). AreCounts h.queues) before c.requires.counts;
      phase_in = subst (λ (h : Held). All (λ phase. phase < net.shares) (naturals h.phases)) before c.requires.phase_in;
      phase_fits = subst (λ (h : Held). All (λ phase. phase < 2 ^ 32) (naturals h.phases)) before c.requires.phase_fits;
      level_fits = subst (λ (h : Held). All (λ level. level < 2 ^ 64) (naturals h.levels)) before c.requires.level_fits;
      within = subst (λ (h : Held). AllByRecursion (λ l. entry (naturals h.levels) l ≤ net.per * (link_at net l).burst) (link_numbers net)) before c.requires.within;
      next_within = subst (λ (h : Held). AreWithin c.args.buckets.now (naturals h.next_levels)) before c.requires.next_within;
    }

pub returns-then-is_first : goal.returns-then-is_first
returns-then-is_first c =
    let net = c.args.net.now in
    let halves =
    cut c.self.inside c.self.invariant c.args.self.now c.self.view_is (length net.movements) (length net.links) c.requires.movements c.requires.links c.cells_mut.result.now _ _ _ c.cells_mut.ensures.cells c.split_at_mut-first.ensures.value c.split_at_mut-first.ensures.front_len
    (omega (arith, c.len.ensures, c.len-2.ensures)) in
    let before = before_front _ _ _ _ _ _ halves (sym c.at-is_first.ensures ∙ c.if-is_first.true) in
    let after = after_front _ _ _ _ _ _ halves c.write_half.new.next c.write_half.auto.next (sym c.at-is_first.ensures ∙ c.if-is_first.true) in
    record {
      now = carry (λ a b. (b.queues ≡ a.queues) × (b.phases ≡ a.phases) × (b.levels ≡ a.levels)) _ _ _ _ before after (refl, refl, refl);
      above = carry (λ a b. IfErr c.write_half.result (λ link. first_above net (entry (naturals a.levels)) c.args.arrivals.now ≡ Some link)) _ _ _ _ before after c.write_half.ensures.above;
      within = carry (λ a b. OnOk c.write_half.result (first_above net (entry (naturals a.levels)) c.args.arrivals.now ≡ None)) _ _ _ _ before after c.write_half.ensures.within;
      came = c.write_half.ensures.came;
      few = c.write_half.ensures.few;
      next_within = carry (λ a b. AreWithin c.args.buckets.now (naturals b.next_levels)) _ _ _ _ before after c.write_half.ensures.next_within;
      some = carry (λ a b. NoneNegative a.next_queues → NoneNegative b.next_queues) _ _ _ _ before after c.write_half.ensures.some;
      queues = carry (λ a b. OnOk c.write_half.result (naturals b.next_queues ≡ map (moved net c.args.arrivals.now (entry (naturals a.phases)) (entry (naturals a.queues)) (entry c.args.passes.now)) (movement_numbers net))) _ _ _ _ before after c.write_half.ensures.queues;
      phases = carry (λ a b. OnOk c.write_half.result (naturals b.next_phases ≡ map (λ l. (entry (naturals a.phases) l + received net c.args.arrivals.now (entry c.args.passes.now) l) % net.shares) (link_numbers net))) _ _ _ _ before after c.write_half.ensures.phases;
      levels = carry (λ a b. OnOk c.write_half.result (naturals b.next_levels ≡ map (level_then net (entry (naturals a.levels)) c.args.arrivals.now) (link_numbers net))) _ _ _ _ before after c.write_half.ensures.levels;
    }

pub returns : goal.returns
returns c =
    let net = c.args.net.now in
    let halves =
    cut c.self.inside c.self.invariant c.args.self.now c.self.view_is (length net.movements) (length net.links) c.requires.movements c.requires.links c.cells_mut.result.now _ _ _ c.cells_mut.ensures.cells c.split_at_mut-first.ensures.value c.split_at_mut-first.ensures.front_len
    (omega (arith, c.len.ensures, c.len-2.ensures)) in
    let before = before_back _ _ _ _ _ _ halves (λ z. c.if-is_first.false (c.at-is_first.ensures ∙ z)) in
    let after = after_back _ _ _ _ _ _ halves c.write_half-2.new.next c.write_half-2.auto.next (λ z. c.if-is_first.false (c.at-is_first.ensures ∙ z)) in
    record {
      now = carry (λ a b. (b.queues ≡ a.queues) × (b.phases ≡ a.phases) × (b.levels ≡ a.levels)) _ _ _ _ before after (refl, refl, refl);
      above = carry (λ a b. IfErr c.write_half-2.result (λ link. first_above net (entry (naturals a.levels)) c.args.arrivals.now ≡ Some link)) _ _ _ _ before after c.write_half-2.ensures.above;
      within = carry (λ a b. OnOk c.write_half-2.result (first_above net (entry (naturals a.levels)) c.args.arrivals.now ≡ None)) _ _ _ _ before after c.write_half-2.ensures.within;
      came = c.write_half-2.ensures.came;
      few = c.write_half-2.ensures.few;
      next_within = carry (λ a b. AreWithin c.args.buckets.now (naturals b.next_levels)) _ _ _ _ before after c.write_half-2.ensures.next_within;
      some = carry (λ a b. NoneNegative a.next_queues → NoneNegative b.next_queues) _ _ _ _ before after c.write_half-2.ensures.some;
      queues = carry (λ a b. OnOk c.write_half-2.result (naturals b.next_queues ≡ map (moved net c.args.arrivals.now (entry (naturals a.phases)) (entry (naturals a.queues)) (entry c.args.passes.now)) (movement_numbers net))) _ _ _ _ before after c.write_half-2.ensures.queues;
      phases = carry (λ a b. OnOk c.write_half-2.result (naturals b.next_phases ≡ map (λ l. (entry (naturals a.phases) l + received net c.args.arrivals.now (entry c.args.passes.now) l) % net.shares) (link_numbers net))) _ _ _ _ before after c.write_half-2.ensures.phases;
      levels = carry (λ a b. OnOk c.write_half-2.result (naturals b.next_levels ≡ map (level_then net (entry (naturals a.levels)) c.args.arrivals.now) (link_numbers net))) _ _ _ _ before after c.write_half-2.ensures.levels;
    }
