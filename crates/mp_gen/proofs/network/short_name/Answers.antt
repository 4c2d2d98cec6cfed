use Rattle.std.proofs.Common.{◌+◌, ◌∷◌, ◌∙◌, ap, refl}
use Rattle.mp_gen.proofs.Names.{one_digit}
use Rattle.mp_gen.proofs.network.short_name.Goals as goal

pub returns : goal.returns
returns c = c.in-Some.ensures.some.0 ∙ ap (λ ds. c.args.letter ∷ ds) (one_digit c.args.i (48 + c.args.i) c.requires.digit refl)
