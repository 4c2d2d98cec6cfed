use Rattle.mp_guard.proofs.PrintLemmas.{line_appended}
use Rattle.mp_guard.proofs.print.push_line.Goals as goal

pub returns : goal.returns
returns c = line_appended c.extend_from_slice-2.result c.args.text.now.items c.extend_from_slice.new.self.items c.push_spaced.new.text.items c.extend_from_slice-2.new.self.items c.args.words.now c.args.numbers.now c.in_ok-extend_from_slice.ensures.items c.in_ok-push_spaced.ensures c.extend_from_slice-2.ensures.items
