-- What a bucket shows, and what it keeps.
use Rattle.std.specs.Prelude.{◌≤◌, ◌*◌}
use Rattle.mp_feed.specs.Fill.{Fill, AreLimits}
use Rattle.mp_feed.specs.declared.bucket.Bucket.TheInside.{Inside}

-- A bucket shows its rate length, burst, rate and level.
abbrev pub fill_of : Inside → Fill
fill_of b = record { per = b.per; burst = b.burst; rate = b.rate; level = b.level }

-- Its numbers are in range, and its level is at most the rate length times the burst.
pub record IsFilled (b : Inside) : Type 0 where
  pub limits : AreLimits b.per b.burst b.rate
  pub level : b.level ≤ b.per * b.burst
