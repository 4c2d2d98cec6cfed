use Rattle.std.proofs.Common.{◌≡◌, drop}
use Rattle.mp_edge.specs.Outside.{file_named}
use Rattle.mp_edge.specs.Memory.{names_and_bytes}
use Rattle.mp_edge.proofs.memory.found.Given as goal

abbrev pub invariant-loop-called : goal.invariant-loop-called
invariant-loop-called l = file_named (names_and_bytes (drop l.called-index l.files)) l.name ≡ file_named (names_and_bytes l.files) l.name
