use Rattle.std.proofs.Common.{◌≡◌, ◌<◌, ℕ, length, get_or}
use Rattle.mp_text.specs.Spaced.{IsSpaced}
use Rattle.mp_text.specs.declared.small_numbers.Spaced.{Spaced}
use Rattle.mp_text.proofs.small_numbers.SmallNumbers.new.Given as goal

abbrev pub invariant-loop-number : goal.invariant-loop-number
invariant-loop-number l = record {
  size : length l.texts ≡ 1000;
  made : (n : ℕ) (none : Spaced) → n < l.number → IsSpaced n (get_or l.texts n none);
}
