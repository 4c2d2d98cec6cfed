use Rattle.std.proofs.Common.{◌≡◌, ◌≤◌, ◌<◌, ◌-◌, ◌*◌, ◌∙◌, ℕ, Some, sym, ap, ap₂, arith, get_or, set, length, subst, refl, ⊎_elim}
use Rattle.std.proofs.lemmas.Bool.{cases_lt}
use Rattle.std.proofs.lemmas.List.{length-map}
use Rattle.std.proofs.lemmas.List.FromFn.{length-range_with_len}
use Rattle.mp_model.specs.Network.{link_at, link_numbers, fed, entry}
use Rattle.mp_laws.proofs.Lists.{at_range}
use Rattle.mp_feed.specs.Fill.{Fill}
use Rattle.mp_model.specs.Arrivals.{next_level}
use Rattle.mp_press.proofs.Writes.{entry-set_same, entry-set_other}
use Rattle.std.specs.Prelude.{unsigned_abs}
use Rattle.mp_press.specs.Queues.{naturals}
use Rattle.mp_press.specs.Written.{IsAmong}
use Rattle.mp_step.specs.BucketLevels.{bucket_of, level_then, is_above, AreWithin}
use Rattle.mp_step.proofs.Above.{above_no, above_yes, fed_bucket, fed_count, fed_differ, fed_known, found_here, found_later, level_is, levels_all, within_length, within_set}
use Rattle.mp_step.proofs.levels.levels_after.Goals as goal

pub overflow_sub-at : goal.overflow_sub-at
overflow_sub-at c =
    let net = c.args.net.now in
    let few : c.loop-i.i < length (fed net) = omega (arith, ap length c.fed-fed.ensures, c.loop-i-test.true) in
    omega (arith, c.from-at.ensures, ap (λ xs. get_or xs c.loop-i.i 0) c.fed-fed.ensures, fed_known net c.loop-i.i few)

pub bounds-buckets-at : goal.bounds-buckets-at
bounds-buckets-at c =
    let net = c.args.net.now in
    let few : c.loop-i.i < length (fed net) = omega (arith, ap length c.fed-fed.ensures, c.loop-i-test.true) in
    omega (arith, c.from-at.ensures, ap (λ xs. get_or xs c.loop-i.i 0) c.fed-fed.ensures, fed_known net c.loop-i.i few, ap length c.requires.buckets, length-map (link_numbers net) (bucket_of net), length-range_with_len 1 (length net.links))

pub level_of-before-requires-clause-known : goal.level_of-before-requires-clause-known
level_of-before-requires-clause-known c =
    let net = c.args.net.now in
    let few : c.loop-i.i < length (fed net) = omega (arith, ap length c.fed-fed.ensures, c.loop-i-test.true) in
    let read : get_or c.fed-fed.result.now c.loop-i.i 0 ≡ get_or (fed net) c.loop-i.i 0 = ap (λ xs. get_or xs c.loop-i.i 0) c.fed-fed.ensures in
    let known = fed_known net c.loop-i.i few in
    (omega (arith, read, known.0), omega (arith, read, known.1, c.requires.levels))

pub put_number-requires-clause-known : goal.put_number-requires-clause-known
put_number-requires-clause-known c =
    let net = c.args.net.now in
    let few : c.loop-i.i < length (fed net) = omega (arith, ap length c.fed-fed.ensures, c.loop-i-test.true) in
    let read : get_or c.fed-fed.result.now c.loop-i.i 0 ≡ get_or (fed net) c.loop-i.i 0 = ap (λ xs. get_or xs c.loop-i.i 0) c.fed-fed.ensures in
    let known = fed_known net c.loop-i.i few in
    let size : length c.loop-i.next ≡ length net.links =
    sym (length-map c.loop-i.next unsigned_abs) ∙ sym (within_length c.args.buckets.now (naturals c.loop-i.next) c.loop-i.invariant.within) ∙ ap length c.requires.buckets ∙ length-map (link_numbers net) (bucket_of net) ∙ length-range_with_len 1 (length net.links) in
    (omega (arith, read, known.0), omega (arith, read, known.1, size))

pub level_after-requires-clause-level : goal.level_after-requires-clause-level
level_after-requires-clause-level c =
    let net = c.args.net.now in
    let levels = naturals c.args.levels.now in
    let i = c.loop-i.i in
    let few : i < length (fed net) = omega (arith, ap length c.fed-fed.ensures, c.loop-i-test.true) in
    let l : ℕ = get_or (fed net) i 0 in
    let read : get_or c.fed-fed.result.now i 0 ≡ l = ap (λ xs. get_or xs i 0) c.fed-fed.ensures in
    let known : IsAmong (length net.links) l = fed_known net i few in
    let at : c.from-at.result - 1 ≡ l - 1 = ap (λ n. n - 1) (c.from-at.ensures ∙ read) in
    let fill : c.index-buckets-at.result ≡ bucket_of net l = fed_bucket net c.args.buckets.now c.requires.buckets l (c.from-at.result - 1) at known c.index-buckets-at.result c.index-buckets-at.is in
    let low = at_range (λ l. entry levels l ≤ net.per * (link_at net l).burst) 1 (length net.links) l known.0 (omega (arith, known)) c.requires.within in
    let before : c.level_of-before.result ≡ entry levels l = c.level_of-before.ensures ∙ ap (entry levels) read in
    subst (λ (f : Fill). c.level_of-before.result ≤ f.per * f.burst) (sym fill) (subst (λ n. n ≤ net.per * (link_at net l).burst) (sym before) low)

pub returns-in_default-clause-above : goal.returns-in_default-clause-above
returns-in_default-clause-above c =
    let net = c.args.net.now in
    let counts = c.args.arrivals.now in
    let levels = naturals c.args.levels.now in
    let level = entry levels in
    let i = c.loop-i.i in
    let few : i < length (fed net) = omega (arith, ap length c.fed-fed.ensures, c.loop-i-test.true) in
    let l : ℕ = get_or (fed net) i 0 in
    let read : get_or c.fed-fed.result.now i 0 ≡ l = ap (λ xs. get_or xs i 0) c.fed-fed.ensures in
    let known : IsAmong (length net.links) l = fed_known net i few in
    let at : c.from-at.result - 1 ≡ l - 1 = ap (λ n. n - 1) (c.from-at.ensures ∙ read) in
    let fill : c.index-buckets-at.result ≡ bucket_of net l = fed_bucket net c.args.buckets.now c.requires.buckets l (c.from-at.result - 1) at known c.index-buckets-at.result c.index-buckets-at.is in
    let new = level_is net levels counts l (l - 1) (get_or counts i 0) c.index-buckets-at.result fill refl (fed_count net counts i c.requires.counts few) in
    let before : c.level_of-before.result ≡ level l = c.level_of-before.ensures ∙ ap level read in
    let then' = ap (λ b. next_level c.index-buckets-at.result.per c.index-buckets-at.result.rate b (get_or counts i 0)) before in
    let most = ap (λ (f : Fill). f.per * f.burst) fill in
    let high : net.per * (link_at net l).burst < level_then net level counts l = omega (arith, c.in_default.ensures.none refl, then', new, most) in
    ap Some read ∙ sym (found_here (is_above net level counts) (fed net) i few (above_yes (level_then net level counts l) (net.per * (link_at net l).burst) high)) ∙ c.loop-i.invariant.above

pub loop-i-preserved : goal.loop-i-preserved
loop-i-preserved c =
    let net = c.args.net.now in
    let counts = c.args.arrivals.now in
    let levels = naturals c.args.levels.now in
    let level = entry levels in
    let next = naturals c.loop-i.next in
    let i = c.loop-i.i in
    let inv = c.loop-i.invariant in
    let few : i < length (fed net) = omega (arith, ap length c.fed-fed.ensures, c.loop-i-test.true) in
    let l : ℕ = get_or (fed net) i 0 in
    let read : get_or c.fed-fed.result.now i 0 ≡ l = ap (λ xs. get_or xs i 0) c.fed-fed.ensures in
    let known : IsAmong (length net.links) l = fed_known net i few in
    let at : c.from-at.result - 1 ≡ l - 1 = ap (λ n. n - 1) (c.from-at.ensures ∙ read) in
    let fill : c.index-buckets-at.result ≡ bucket_of net l = fed_bucket net c.args.buckets.now c.requires.buckets l (c.from-at.result - 1) at known c.index-buckets-at.result c.index-buckets-at.is in
    let new = level_is net levels counts l (l - 1) (get_or counts i 0) c.index-buckets-at.result fill refl (fed_count net counts i c.requires.counts few) in
    let before : c.level_of-before.result ≡ level l = c.level_of-before.ensures ∙ ap level read in
    let then' = ap (λ b. next_level c.index-buckets-at.result.per c.index-buckets-at.result.rate b (get_or counts i 0)) before in
    let most = ap (λ (f : Fill). f.per * f.burst) fill in
    let some = c.in-Some.ensures.some in
    let v : ℕ = c.in-Some.level in
    let is : v ≡ level_then net level counts l = some.0 ∙ then' ∙ new in
    let low : level_then net level counts l ≤ net.per * (link_at net l).burst = omega (arith, is, some.1, most) in
    let size : length c.args.buckets.now ≡ length net.links = ap length c.requires.buckets ∙ length-map (link_numbers net) (bucket_of net) ∙ length-range_with_len 1 (length net.links) in
    let room : l ≤ length next = omega (arith, known, size, within_length c.args.buckets.now next inv.within) in
    let put : naturals c.put_number.new.cells ≡ set next (l - 1) v = c.put_number.ensures.value ∙ ap₂ (λ n x. set next (n - 1) x) read c.from.ensures in
    let here : c.index-buckets-at.result ≡ get_or c.args.buckets.now (l - 1) c.index-buckets-at.result = c.index-buckets-at.is ∙ ap (λ n. get_or c.args.buckets.now n c.index-buckets-at.result) at in
    record {
      above = found_later (is_above net level counts) (fed net) i few (above_no (level_then net level counts l) (net.per * (link_at net l).burst) low) ∙ inv.above;
      within = subst (AreWithin c.args.buckets.now) (sym put) (within_set c.args.buckets.now next (l - 1) v c.index-buckets-at.result inv.within (omega (arith, known, size)) here some.1);
      next = λ j h. ap (λ xs. entry xs (get_or (fed net) j 0)) put
          ∙ (⊎_elim (λ (lt : j < i). entry-set_other next l (get_or (fed net) j 0) v (λ e. fed_differ net j i lt few (sym e)) known.0 room (fed_known net j (omega arith)).0 ∙ inv.next j lt)
          (λ (ge : i ≤ j). let here : i ≡ j = omega arith in
          let equal : l ≡ get_or (fed net) j 0 = ap (λ n. get_or (fed net) n 0) here in
          entry-set_same next l (get_or (fed net) j 0) v equal known.0 room ∙ is ∙ ap (level_then net level counts) equal)
          (cases_lt j i));
    }

pub returns-clause-value : goal.returns-clause-value
returns-clause-value c = λ e.
    let net = c.args.net.now in
    let all : length (fed net) ≤ c.loop-i.i = omega (arith, ap length c.fed-fed.ensures, c.loop-i-test.false) in
    levels_all net c.args.buckets.now (naturals c.args.levels.now) c.args.arrivals.now (naturals c.loop-i.next) c.requires.buckets c.requires.within c.loop-i.invariant.within (λ j h. c.loop-i.invariant.next j (omega (arith, all)))
