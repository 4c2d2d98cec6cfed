use Rattle.std.proofs.Common.{subst, sym, rules}
use Rattle.mp_trial.specs.Trials.{Trial}
use Rattle.mp_scaled.specs.Giving.{GivesTrial}
use Rattle.mp_scaled.proofs.Searching.{trial_above, trial_stable, trial_endless}
use Rattle.mp_scaled.proofs.search.run_trial.Goals as goal

pub returns-in-Above : goal.returns-in-Above
returns-in-Above c = trial_above c.args.net.now c.args.d c.args.e c.sweep_all.new.rates c.in-Above.ensures

pub returns-in-Stable : goal.returns-in-Stable
returns-in-Stable c = subst (λ (t : Trial). GivesTrial c.args.e c.serve.result t) (sym (trial_stable c.args.net.now c.args.d c.args.e c.sweep_all.new.rates c.in-Stable.ensures)) c.serve.ensures

pub returns-in-Moving : goal.returns-in-Moving
returns-in-Moving c = (trial_endless c.args.net.now c.args.d c.args.e c.sweep_all.new.rates c.in-Moving.ensures, search rules)
