use Rattle.std.proofs.Common.{◌≡◌, ◌≤◌, ◌+◌, ◌*◌, ◌++◌, length, take}
use Rattle.mp_model.specs.Log.{spaced}
use Rattle.mp_plan_run.proofs.header.push_greens.Given as goal

abbrev pub invariant-loop-green : goal.invariant-loop-green
invariant-loop-green l = record {
  held : l.line.held ≡ l.initial.line.held ++ spaced (take l.green-index l.greens);
  len : length l.line.held ≤ 50 + 41 * l.green-index;
}
