use Rattle.std.proofs.Common.{length, ap, arith}
use Rattle.mp_text.proofs.Spaces.{three_digits}
use Rattle.mp_text.proofs.small_numbers.spaced_digits.Goals as goal

pub slice_bounds-text-end : goal.slice_bounds-text-end
slice_bounds-text-end c = let short = three_digits c.args.number c.requires in let size = ap length c.format.ensures.text in let same = ap length c.as_bytes-digits.ensures.value in omega (arith, short, size, same)
