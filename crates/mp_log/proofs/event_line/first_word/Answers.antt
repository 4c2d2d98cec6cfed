use Rattle.std.proofs.Common.{◌+◌, ◌∷◌, length, take, drop, sym, ◌∙◌, ap}
use Rattle.std.specs.Prelude.{◌==◌}
use Rattle.std.specs.List.{slice_split}
use Rattle.mp_log.proofs.CountLemmas.{place_within, split_at, unsplit}
use Rattle.mp_log.proofs.event_line.first_word.Goals as goal

pub behind-requires : goal.behind-requires
behind-requires c = place_within 32 c.args.line.now c.in-Some.at (sym c.space.ensures ∙ c.in-Some.is)

pub returns-in-Some : goal.returns-in-Some
returns-in-Some c =
    split_at 32 c.args.line.now c.in-Some.at (sym c.space.ensures ∙ c.in-Some.is)
    ∙ ap (λ rest. take c.in-Some.at c.args.line.now ∷ slice_split (λ b. b == 32) rest) (sym c.behind.ensures)

pub returns-in-None : goal.returns-in-None
returns-in-None c = unsplit 32 c.args.line.now (sym c.space.ensures ∙ c.in-None.is)
