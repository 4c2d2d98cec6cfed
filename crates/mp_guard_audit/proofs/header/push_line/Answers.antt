use Rattle.std.proofs.Common.{◌++◌, ◌∙◌, ap}
use Rattle.mp_guard.proofs.PrintLemmas.{line_is}
use Rattle.mp_model.specs.Log.{spaced}
use Rattle.mp_guard_audit.proofs.header.push_line.Goals as goal

pub returns-clause-held : goal.returns-clause-held
returns-clause-held c = c.push_spaced.ensures.held ∙ ap (λ xs. xs ++ spaced c.args.numbers.now) (c.push_text.ensures.held ∙ ap (λ xs. xs ++ c.args.words.now) c.requires.empty) ∙ line_is c.args.words.now c.args.numbers.now
