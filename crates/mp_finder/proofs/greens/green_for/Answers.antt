use Rattle.std.proofs.Common.{◌≡◌, pos, ◌*ℤ◌, get_or, unsigned_abs, Some, ap₂, arith, rules}
use Rattle.mp_num.specs.Checked.{within}
use Rattle.mp_cert.specs.Views.{mix_of}
use Rattle.mp_trial.specs.Sweeps.{rounded_up}
use Rattle.mp_finder.proofs.Firsts.{green_few, under_some}
use Rattle.mp_finder.proofs.greens.green_for.Goals as goal

pub round_up-requires-clause-under : goal.round_up-requires-clause-under
round_up-requires-clause-under c =
    let e : within (c.args.mix.now.whole *ℤ pos c.args.d) ≡ Some c.in_ok-under.under = search rules in
    let y : c.unsigned_abs-2.result ≡ unsigned_abs c.in_ok-under.under = search rules in
    let some = under_some c.args.cycle c.args.d c.requires.denominator (mix_of c.args.mix.now) c.requires.mix c.in_ok-under.under e in
    (omega (arith, some, y), omega (arith, c.unsigned_abs-2.ensures.bound))

pub returns-clause-few : goal.returns-clause-few
returns-clause-few c =
    let e : within (c.args.mix.now.whole *ℤ pos c.args.d) ≡ Some c.in_ok-under.under = search rules in
    let f : within (pos c.args.cycle *ℤ get_or c.args.mix.now.parts c.args.s (pos 0)) ≡ Some c.in_ok-over.over = search rules in
    let x : c.unsigned_abs.result ≡ unsigned_abs c.in_ok-over.over = search rules in
    let y : c.unsigned_abs-2.result ≡ unsigned_abs c.in_ok-under.under = search rules in
    let few = green_few c.args.cycle c.args.d c.requires.denominator (mix_of c.args.mix.now) c.requires.mix c.args.s c.in_ok-over.over c.in_ok-under.under c.requires.stage f e in
    omega (arith, c.round_up.ensures, few, ap₂ rounded_up x y, c.requires.cycle)
