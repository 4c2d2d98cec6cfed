use Rattle.std.proofs.lemmas.Result.{IfOk-weaker}
use Rattle.mp_cert.proofs.FieldLemmas.{read_count}
use Rattle.mp_cert.proofs.read_numbers.read_numbers.Goals as goal

pub returns-clause-ok : goal.returns-clause-ok
returns-clause-ok c = rw c.in-Some.ensures.some c.read_spaced.ensures.ok

pub returns-clause-count : goal.returns-clause-count
returns-clause-count c = IfOk-weaker c.read_spaced.result _ _ (λ row is. read_count c.args.count _ row.items is) c.read_spaced.ensures.ok

pub returns-clause-fault : goal.returns-clause-fault
returns-clause-fault c = rw c.in-Some.ensures.some c.read_spaced.ensures.fault
