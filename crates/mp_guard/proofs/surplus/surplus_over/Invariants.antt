use Rattle.std.proofs.Common.{◌≡◌, length}
use Rattle.mp_model.specs.Network.{from_of, out_of}
use Rattle.mp_guard.proofs.SurplusLemmas.{Spans, credited}
use Rattle.mp_guard.proofs.surplus.surplus_over.Given as goal

abbrev pub invariant-loop-n : goal.invariant-loop-n
invariant-loop-n l = record { len : length l.got ≡ length (out_of l.net (from_of l.net l.k)); spans : Spans (credited l.net l.k) l.n l.span.high l.span.low }
