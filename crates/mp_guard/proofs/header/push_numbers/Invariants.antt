use Rattle.std.proofs.Common.{◌≡◌, ◌++◌, map}
use Rattle.mp_model.specs.Log.{text_of}
use Rattle.mp_model.specs.Network.{numbers_to}
use Rattle.mp_guard.specs.GuardHeader.{number_line}
use Rattle.mp_guard.proofs.header.push_numbers.Given as goal

abbrev pub invariant-loop-i : goal.invariant-loop-i
invariant-loop-i l = l.text.items ≡ l.initial.text.items ++ text_of (map (number_line l.word l.net l.numbers) (numbers_to l.i))
