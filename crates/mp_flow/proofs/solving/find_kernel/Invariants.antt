use Rattle.mp_flow.proofs.KernelLemmas.{Kernelling}
use Rattle.mp_flow.proofs.solving.find_kernel.Given as goal
use Rattle.mp_num.specs.Row.{rows_of}

abbrev pub invariant-loop-i : goal.invariant-loop-i
invariant-loop-i l = Kernelling l.n l.j l.d (rows_of l.n l.width l.cells) l.i l.x.items
