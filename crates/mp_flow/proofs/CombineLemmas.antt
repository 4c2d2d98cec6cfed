use Rattle.std.proofs.Common.{◌≡◌, ◌≢◌, ℕ, ℤ, pos, arith, to_z-of_z, List, Option, Some, None, unsigned_abs, int_div, refl, Bool, true, false, cond, ap, sym, ◌∙◌, int_eq, int_lt, ◌≤ℤ◌, ◌<ℤ◌}
use Rattle.std.proofs.lemmas.Int.{ints}
use Rattle.mp_flow.specs.Elimination.{negated, upright}
use Rattle.mp_num.specs.Row.{entry}

pub upright_stays : (j : ℕ) (row : List ℤ) → pos 0 ≤ℤ entry row j → upright j row ≡ Some row
unfolding upright
upright_stays j row h = let e : int_lt (entry row j) (pos 0) ≡ false = grind (arith, ints) in rw e refl

pub upright_turns : (j : ℕ) (row : List ℤ) → entry row j <ℤ pos 0 → upright j row ≡ negated row
unfolding upright
upright_turns j row h = let e : int_lt (entry row j) (pos 0) ≡ true = grind (arith, ints) in rw e refl

pub ruleset uprights = (to_z-of_z, upright_stays, upright_turns)
