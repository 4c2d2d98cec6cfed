-- A sink over a fixed buffer, as its callers see it.
use Rattle.std.specs.Prelude.{ℕ, List}

-- A buffered sink holds bytes and has a count of faults.
pub record Buffered : Type 0 where
  pub held : List ℕ
  pub faults : ℕ
