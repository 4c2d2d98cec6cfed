use Rattle.std.proofs.Common.{◌==◌, ◌∙◌, ap, ap₂, List, ℕ, map}
use Rattle.mp_model.specs.EventCore.{Copy}
use Rattle.mp_model.specs.Network.{entry, from_of}
use Rattle.mp_press.proofs.Known.{all_known}
use Rattle.mp_press.specs.Queues.{naturals}
use Rattle.mp_round.proofs.Counting.{naturals_pos}
use Rattle.mp_round.proofs.Outs.{few_out}
use Rattle.mp_round.proofs.report.Report.of.Goals as goal

pub counts_of-requires-clause-known : goal.counts_of-requires-clause-known
counts_of-requires-clause-known c = rw (c.out_of.ensures, c.requires.on.queues) (all_known (λ k. from_of c.args.net.now k == c.args.l) _)

pub counts_of-requires-clause-limit : goal.counts_of-requires-clause-limit
counts_of-requires-clause-limit c = rw c.out_of.ensures (few_out c.args.net.now c.shares.ensures.acceptable c.args.l c.requires.known)

abbrev copy : ℕ → List ℕ → Copy
copy period counts = record { period = period; counts = counts }

pub returns : goal.returns
returns c =
    let q = entry c.args.state.now.queues in
    ap₂ copy c.period.ensures.value (ap naturals c.counts_of.ensures.items ∙ naturals_pos q c.out_of.result.now ∙ ap (map q) c.out_of.ensures)
