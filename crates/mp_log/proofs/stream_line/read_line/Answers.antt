use Rattle.std.proofs.Common.{length, arith, sym, ◌∙◌, ap, rules}
use Rattle.mp_model.specs.Stream.{read_counts}
use Rattle.mp_log.proofs.FedLemmas.{fed_few}
use Rattle.mp_log.proofs.KindLemmas.{other_kind}
use Rattle.mp_log.proofs.stream_line.read_line.Goals as goal

pub read_counts-requires-clause-few : goal.read_counts-requires-clause-few
read_counts-requires-clause-few c = omega (arith, fed_few c.args.net.now, ap length c.fed-fed.ensures)
