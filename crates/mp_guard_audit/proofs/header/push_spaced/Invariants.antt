use Rattle.std.proofs.Common.{◌≡◌, ◌++◌, take}
use Rattle.mp_model.specs.Log.{spaced}
use Rattle.mp_guard_audit.proofs.header.push_spaced.Given as goal

abbrev pub invariant-loop-number : goal.invariant-loop-number
invariant-loop-number l = l.line.held ≡ l.initial.line.held ++ spaced (take l.number-index l.numbers)
