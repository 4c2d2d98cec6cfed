-- A cutter of lines, as its callers see it.
use Rattle.std.specs.Prelude.{ℕ, List}

-- A cutter has the last line without its end, and the bytes behind it that were read.
pub record Cut : Type 0 where
  pub line : List ℕ
  pub held : List ℕ
