use Rattle.std.proofs.Common.{◌≡◌, ◌≤◌, ◌++◌, length, take, ◌-◌}
use Rattle.mp_edge.specs.Outside.{Tells}
use Rattle.mp_text.proofs.cutter.find.Given as goal

abbrev pub invariant-loop-at : goal.invariant-loop-at
invariant-loop-at g l = record {
  within : l.have ≤ length l.buf;
  told : Tells (g.S.Source.left l.initial.src) (g.S.Source.left l.src) (λ was now. take l.initial.have l.initial.buf ++ was ≡ take l.have l.buf ++ now);
  later : g.S.Source.faults l.initial.src ≤ g.S.Source.faults l.src;
}

abbrev pub decreases-loop-at : goal.decreases-loop-at
decreases-loop-at g l = length l.buf - l.have
