use Rattle.std.proofs.Common.{◌≡◌, length}
use Rattle.mp_cert.specs.TextMeaning.{spaced_numbers}
use Rattle.mp_cert.proofs.FieldLemmas.{prefixed}
use Rattle.mp_cert.proofs.read_numbers.read_spaced.Given as goal

abbrev pub invariant-loop-rest : goal.invariant-loop-rest
invariant-loop-rest l = prefixed l.row.items (spaced_numbers l.rest) ≡ spaced_numbers l.bytes

abbrev pub decreases-loop-rest : goal.decreases-loop-rest
decreases-loop-rest l = length l.rest
