use Rattle.std.proofs.Common.{◌≡◌, ◌≤◌, ◌-◌, ◌*◌, ◌∙◌, ℕ, sym, ap, arith, length, subst}
use Rattle.std.specs.Prelude.{unsigned_abs, slice_index}
use Rattle.std.proofs.lemmas.List.{length-map}
use Rattle.std.proofs.lemmas.List.FromFn.{length-range_with_len}
use Rattle.mp_feed.specs.Fill.{Fill, Takes}
use Rattle.mp_model.specs.Network.{link_numbers}
use Rattle.mp_press.specs.Queues.{naturals}
use Rattle.mp_step.specs.BucketLevels.{bucket_of}
use Rattle.mp_step.proofs.Above.{fed_bucket, within_at, within_length}
use Rattle.mp_step.proofs.levels.room_of.Goals as goal

pub level_of-requires-clause-known : goal.level_of-requires-clause-known
level_of-requires-clause-known c =
    (c.requires.known.0, omega (arith, c.requires.known.1, within_length c.args.buckets.now (naturals c.args.levels.now) c.requires.within, length-map c.args.levels.now unsigned_abs))

pub at_level-requires : goal.at_level-requires
at_level-requires c =
    let levels = naturals c.args.levels.now in
    let at : c.from.result - 1 ≡ c.args.l - 1 = ap (λ n. n - 1) c.from.ensures in
    subst (λ n. n ≤ c.index-buckets-from.result.per * c.index-buckets-from.result.burst) (ap (λ n. slice_index levels n) at ∙ sym c.level_of.ensures)
    (within_at c.args.buckets.now levels c.requires.within (c.from.result - 1) (omega (arith, at, c.requires.known, within_length c.args.buckets.now levels c.requires.within)) c.index-buckets-from.result c.index-buckets-from.is)

pub returns : goal.returns
returns c = λ net buckets count.
    let size : length c.args.buckets.now ≡ length net.links = ap length buckets ∙ length-map (link_numbers net) (bucket_of net) ∙ length-range_with_len 1 (length net.links) in
    let fill : c.index-buckets-from.result ≡ bucket_of net c.args.l = fed_bucket net c.args.buckets.now buckets c.args.l (c.from.result - 1) (ap (λ n. n - 1) c.from.ensures) (c.requires.known.0, omega (arith, size, c.requires.known.1)) c.index-buckets-from.result c.index-buckets-from.is in
    let same = c.at_level.ensures ∙ ap (λ (f : Fill). record f { level = c.level_of.result }) fill ∙ ap (λ (n : ℕ). record (bucket_of net c.args.l) { level = n }) c.level_of.ensures in
    let room = c.room.ensures count in
    (λ h. room.0 (subst (λ (f : Fill). Takes f count) (sym same) h), λ h. subst (λ (f : Fill). Takes f count) same (room.1 h))
