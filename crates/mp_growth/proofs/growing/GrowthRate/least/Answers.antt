use Rattle.std.proofs.Common.{◌∙◌, sym, FitsSigned, to_z-of_z, rules}
use Rattle.std.specs.Int.{w128}
use Rattle.mp_overload.proofs.Forms.{gives-least}
use Rattle.mp_growth.proofs.growing.GrowthRate.least.Goals as goal

pub returns-in-Some-clause-value : goal.returns-in-Some-clause-value
returns-in-Some-clause-value c =
    let fits : FitsSigned w128 c.in-Some.least = search rules in
    let is = (gives-least c.args.periods c.args.self.now.per c.args.self.now.lost).at c.in-Some.least (sym c.least_by.ensures ∙ c.in-Some.is) in
    simp to_z-of_z is
