use Rattle.mp_gen.proofs.Greatests.{is_greatest}
use Rattle.mp_gen.proofs.laws.greatest_of_law.Goals as goal

pub returns : goal.returns
returns c = is_greatest
