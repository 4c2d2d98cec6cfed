use Rattle.std.proofs.Common.{◌++◌, ◌∙◌, ap}
use Rattle.std.specs.Prelude.{codes, decimal}
use Rattle.std.proofs.lemmas.List.{append_assoc}
use Rattle.mp_guard.specs.GuardText.{green_words}
use Rattle.mp_guard.proofs.PrintLemmas.{line_appended}
use Rattle.mp_guard.proofs.print.push_greens.Goals as goal

pub returns : goal.returns
returns c = line_appended c.extend_from_slice-2.result c.args.text.now.items c.push_digits.new.text.items c.push_spaced.new.text.items c.extend_from_slice-2.new.self.items (green_words c.args.j) c.args.greens.now
    (c.in_ok-push_digits.ensures ∙ ap (λ bs. bs ++ decimal c.args.j) c.in_ok-extend_from_slice.ensures.items ∙ append_assoc c.args.text.now.items (codes "green ") (decimal c.args.j)) c.in_ok-push_spaced.ensures c.extend_from_slice-2.ensures.items
