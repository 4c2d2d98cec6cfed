use Rattle.std.proofs.Common.{◌≤◌, ◌-◌}
use Rattle.mp_cert.specs.Views.{cert_of}
use Rattle.mp_scaled.proofs.Searching.{Halving}
use Rattle.mp_scaled.proofs.search.halve.Given as goal

abbrev pub invariant-loop-low : goal.invariant-loop-low
invariant-loop-low l = record {
  search : Halving l.net l.d l.limit (cert_of l.fn.first) l.low l.high (cert_of l.cert);
  order : l.low ≤ l.high;
  high : l.high ≤ l.limit;
}

abbrev pub decreases-loop-low : goal.decreases-loop-low
decreases-loop-low l = l.high - l.low
