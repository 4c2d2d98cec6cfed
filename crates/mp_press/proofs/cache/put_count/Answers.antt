use Rattle.std.proofs.Common.{◌≤◌, ◌-◌, ◌^◌, ◌∙◌, ap₂, set, ℤ, subst, sym, arith}
use Rattle.std.specs.Int.{w128}
use Rattle.std.proofs.Math.Facts.{to_z_pos}
use Rattle.std.proofs.lemmas.List.Elements.{All-set}
use Rattle.mp_press.specs.Queues.{naturals, NoneNegative}
use Rattle.mp_press.proofs.Signs.{naturals_set, none_set}
use Rattle.mp_press.proofs.cache.put_count.Goals as goal

pub returns-clause-value : goal.returns-clause-value
returns-clause-value c =
    ap₂ (λ i z. naturals (set c.args.counts.now (i - 1) z)) c.from.ensures (to_z_pos w128 (omega (arith, c.requires.fits))) ∙ naturals_set c.args.counts.now (c.args.k - 1) c.args.count

pub returns-clause-counts : goal.returns-clause-counts
returns-clause-counts c = record {
  none_negative = subst (λ (z : ℤ). NoneNegative (set c.args.counts.now (c.from.result - 1) z)) (sym (to_z_pos w128 (omega (arith, c.requires.fits)))) (none_set c.args.counts.now (c.from.result - 1) c.args.count c.requires.counts.none_negative);
  few = rw (returns-clause-value c) (All-set (λ q. q ≤ 2 ^ 90) (naturals c.args.counts.now) (c.args.k - 1) c.args.count c.requires.fits c.requires.counts.few);
}
