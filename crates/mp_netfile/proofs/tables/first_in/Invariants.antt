use Rattle.mp_netfile.specs.TableRules.{breaks}
use Rattle.mp_netfile.proofs.Places.{PlaceFrom}
use Rattle.mp_netfile.proofs.tables.first_in.Given as goal

abbrev pub invariant-loop-i : goal.invariant-loop-i
invariant-loop-i l = PlaceFrom (breaks l.rule l.kind) l.tables l.i
