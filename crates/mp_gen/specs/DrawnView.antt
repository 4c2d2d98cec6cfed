-- What the arrivals of a demonstration show.
use Rattle.rand_pcg.specs.Lcg.{Lcg}
use Rattle.mp_gen.specs.declared.arrivals.DemoArrivals.TheInside.{Inside}

-- They show their generator.
abbrev pub generator_of : Inside → Lcg
generator_of arrivals = arrivals.words
