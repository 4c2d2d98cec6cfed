use Rattle.std.proofs.Common.{◌<◌, ℕ, ◌+◌, List, length, ap, arith, rules, subst, sym}
use Rattle.mp_cert.specs.Views.{mix_of}
use Rattle.mp_finder.proofs.Firsts.{Giving, giving_end, giving_fails, giving_more}
use Rattle.mp_finder.proofs.greens.greens_for.Goals as goal

pub returns-in_default-clause-value : goal.returns-in_default-clause-value
returns-in_default-clause-value c =
    let lt : c.loop-s.s < length c.args.mix.now.parts = omega (arith, ap length c.as_slice-s-end.ensures) in
    giving_fails c.args.cycle c.args.d (mix_of c.args.mix.now) c.loop-s.s c.loop-s.greens.items c.loop-s.invariant.cells lt c.in_default.ensures.value

pub loop-s-preserved : goal.loop-s-preserved
loop-s-preserved c =
    let lt : c.loop-s.s < length c.args.mix.now.parts = omega (arith, ap length c.as_slice-s-end.ensures) in
    record {
      cells = subst (λ (gs : List ℕ). Giving c.args.cycle c.args.d (mix_of c.args.mix.now) (c.loop-s.s + 1) gs) (sym c.in_ok-push.ensures.items) (giving_more c.args.cycle c.args.d (mix_of c.args.mix.now) c.loop-s.s c.loop-s.greens.items c.loop-s.invariant.cells lt c.in-Some.green c.in-Some.ensures.value);
      size = search rules;
      few = search rules;
    }

pub returns-clause-value : goal.returns-clause-value
returns-clause-value c = giving_end c.args.cycle c.args.d (mix_of c.args.mix.now) c.loop-s.s c.loop-s.greens.items c.loop-s.invariant.cells (omega (arith, ap length c.as_slice-s-end.ensures))
