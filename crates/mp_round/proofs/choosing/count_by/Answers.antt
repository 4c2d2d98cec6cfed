use Rattle.std.proofs.Common.{◌≡◌, ◌∙◌, ap, sym, pos, arith}
use Rattle.mp_model.specs.Arrivals.{count_in}
use Rattle.mp_model.specs.EventCore.{counts_in}
use Rattle.mp_round.proofs.Counting.{count_nothing}
use Rattle.mp_round.proofs.choosing.count_by.Goals as goal

nothing : (c : goal.In-None) → count_in c.args.ks.now (counts_in c.args.copy.now) c.args.k ≡ 0
nothing c = ap (λ copy. count_in c.args.ks.now (counts_in copy) c.args.k) c.in-None.is ∙ count_nothing c.args.ks.now c.args.k

pub returns-in-None-clause-value : goal.returns-in-None-clause-value
returns-in-None-clause-value c = ap pos (sym (nothing c))

pub returns-in-None-clause-few : goal.returns-in-None-clause-few
returns-in-None-clause-few c = omega (arith, nothing c)
