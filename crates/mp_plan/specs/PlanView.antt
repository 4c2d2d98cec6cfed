-- What a plan shows.
use Rattle.std.specs.Prelude.{map}
use Rattle.mp_model.specs.Plans.{Plan}
use Rattle.mp_plan.specs.declared.plan.Plan.TheInside.{Inside}

-- A plan shows its cycle, its greens and its bounds.
abbrev pub plan_of : Inside → Plan
plan_of p = record { cycle = p.cycle; greens = map (λ greens. greens.items) p.greens.items; bounds = p.bounds.items }
