-- Where the traffic on a network stands, and what its buffers keep.
use Rattle.std.specs.Prelude.{◌≡◌, ◌≤◌, ◌<◌, ◌+◌, ◌*◌, ◌^◌, length, map, sum}
use Rattle.std.specs.List.{All}
use Rattle.mp_model.specs.declared.limits.TheConstants.{MOST_LINES}
use Rattle.mp_press.specs.Queues.{naturals, NoneNegative}
use Rattle.mp_step.specs.BucketLevels.{AreWithin}
use Rattle.mp_step.specs.Standing.{Standing}
use Rattle.mp_step.specs.declared.traffic.Traffic.{Traffic}

-- The traffic shows where the run stands.
abbrev pub stands : Traffic → Standing
stands t = record {
  queues = naturals t.spans.queues;
  phases = naturals t.spans.phases;
  levels = naturals t.spans.levels;
  period = t.period;
  total_in = t.total_in;
  total_out = t.total_out;
  splits = map (λ split. split.shares) t.splits.items;
  buckets = t.buckets.items;
}

-- No queue is negative, what entered has departed or is queued and is at most a million a movement and 11,000 a link and period, no level and no next level is above its bucket, phases and levels fit their types, and the buffer for parts has its length.
pub record IsSound (t : Traffic) : Type 0 where
  pub some : NoneNegative t.spans.queues
  pub next_some : NoneNegative t.spans.next_queues
  pub period : t.period ≤ MOST_LINES
  pub few : t.total_in ≤ 512 * 10 ^ 6 + t.period * 1408000
  pub conserved : t.total_in ≡ t.total_out + sum (naturals t.spans.queues)
  pub within : AreWithin t.buckets.items (naturals t.spans.levels)
  pub next_within : AreWithin t.buckets.items (naturals t.spans.next_levels)
  pub phase_fits : All (λ phase. phase < 2 ^ 32) (naturals t.spans.phases)
  pub level_fits : All (λ level. level < 2 ^ 64) (naturals t.spans.levels)
  pub parts : length t.parts.items ≡ length t.spans.queues
