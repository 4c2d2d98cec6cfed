-- The digits of a small number, and a copy of them behind a line.
use Rattle.std.proofs.Common.{◌≡◌, ◌≤◌, ◌<◌, ◌+◌, ◌++◌, ℕ, List, [], length, take, decimal, sym, ◌∙◌, ap, arith}
use Rattle.std.proofs.lemmas.Fmt.{length-decimal-le_wide}
use Rattle.std.proofs.lemmas.List.{append-nil}
use borrow.Rule.Slice.PartMut.{put_mid}
use Rattle.mp_text.proofs.Filling.{filled}

pub three_digits : (n : ℕ) → n < 1000 → length (decimal n) ≤ 3
three_digits n small = length-decimal-le_wide 3 n (omega arith) (omega arith) (omega arith)

-- the front of a copy behind a line makes it longer
pub copied_behind : (buf text bytes : List ℕ) (have room size : ℕ) → have ≤ length buf → size ≤ length text → take size text ≡ bytes
    → take (have + size) (put_mid have room buf text) ≡ take have buf ++ bytes
copied_behind buf text bytes have room size within fits is =
    sym (append-nil (take (have + size) (put_mid have room buf text)))
    ∙ sym (filled buf text have room size (take size text) [] within fits (sym (append-nil (take size text))))
    ∙ ap (λ xs. take have buf ++ xs) is
