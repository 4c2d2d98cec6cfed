use Rattle.std.proofs.Common.{map}
use Rattle.mp_model.specs.Log.{bound_line}
use Rattle.mp_model.specs.Network.{movement_numbers}
use Rattle.mp_guard.specs.GuardHeader.{wait_line}
use Rattle.mp_guard.specs.GuardText.{guard_lines}
use Rattle.mp_guard.proofs.HeaderLemmas.{parts}
use Rattle.mp_guard.proofs.header.push_header.Goals as goal

pub returns : goal.returns
returns c = parts c.push_numbers-2.result c.args.text.now.items c.push_guard.new.text.items c.push_numbers.new.text.items c.push_numbers-2.new.text.items (guard_lines c.args.guard.now) (map (bound_line c.args.net.now c.args.bounds.now) (movement_numbers c.args.net.now)) (map (wait_line c.args.net.now c.args.waits.now) (movement_numbers c.args.net.now)) c.in_ok-push_guard.ensures c.in_ok-push_numbers.ensures c.push_numbers-2.ensures
