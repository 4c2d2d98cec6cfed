-- What a guard of the program shows.
use Rattle.std.specs.Prelude.{map}
use Rattle.mp_model.specs.Guard.{Guard}
use Rattle.mp_guard.specs.declared.guard.Guard.TheInside.{Inside}

-- A guard shows its numbers, its rates, and the greens of each junction.
abbrev pub shown : Inside → Guard
shown g = record { cycle = g.cycle; lost = g.lost; denominator = g.denominator; rates = g.rates.items; greens = map (λ row. row.items) g.greens.items }
