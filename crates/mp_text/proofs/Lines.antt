-- The first line of bytes in which a line feed stands.
use Rattle.std.proofs.Common.{◌≡◌, ◌≤◌, ◌<◌, ℕ, ◌+◌, ◌-◌, List, ◌∷◌, ◌++◌, length, take, drop, get_or, false, sym, ◌∙◌, ap, subst, arith, Some, None}
use Rattle.std.specs.List.{position, position_or_len}
use Rattle.std.proofs.lemmas.List.{take-append-drop, drop_more, drop-take, length-take-le, get_or-take, take-take}
use Rattle.std.proofs.lemmas.List.Quantifiers.{position-Some}
use Rattle.std.proofs.lemmas.List.Sums.{fails_before_first}
use Rattle.std.proofs.lemmas.Bool.Decides.{nat_tests}
use Rattle.std.proofs.lemmas.List.Elements.{All-from_get_or}
use Rattle.mp_text.specs.Cutting.{is_line_feed, NoLineFeed}

-- the bytes before it, the line feed, and those behind it
pub first_line : (buf : List ℕ) (have at : ℕ) → have ≤ length buf → position is_line_feed (take have buf) ≡ Some at
    → (at < have) × NoLineFeed (take at buf) × (take have buf ≡ take at buf ++ 10 ∷ take (have - (at + 1)) (drop (at + 1) buf))
first_line buf have at within is =
    let found = position-Some is_line_feed (take have buf) at 0 is in
    let before : at < have = omega (arith, length-take-le have buf within, found.0) in
    let byte : get_or (take have buf) at 0 ≡ 10 = let h = found.1 in grind (arith, nat_tests) in
    let size : length (take at buf) ≡ at = length-take-le at buf (omega arith) in
    let plain : (k : ℕ) → k < length (take at buf) → is_line_feed (get_or (take at buf) k 0) ≡ false = λ k l.
    let low : k < at = omega arith in
    rw (get_or-take at buf k 0 low, ← get_or-take have buf k 0 (omega arith)) (found.2 k low) in
    let rest : drop (at + 1) (take have buf) ≡ take (have - (at + 1)) (drop (at + 1) buf) =
    let P : ℕ → Type 0 = λ n. drop (at + 1) (take n buf) ≡ take (have - (at + 1)) (drop (at + 1) buf) in
    let back : (at + 1) + (have - (at + 1)) ≡ have = omega arith in
    subst P back (drop-take (at + 1) (have - (at + 1)) buf) in (
      before,
      All-from_get_or (λ b. is_line_feed b ≡ false) (take at buf) 0 plain,
      sym (take-append-drop at (take have buf))
          ∙ ap (λ xs. xs ++ drop at (take have buf)) (take-take at have buf (omega arith))
          ∙ ap (λ xs. take at buf ++ xs) (drop_more (take have buf) at 0 found.0 ∙ ap (λ b. b ∷ drop (at + 1) (take have buf)) byte ∙ ap (λ xs. 10 ∷ xs) rest),
    )

pub no_line_feed : (bytes : List ℕ) → position is_line_feed bytes ≡ None → NoLineFeed bytes
no_line_feed bytes is = λ k d l.
    let past : length bytes ≤ position_or_len is_line_feed bytes = grind (arith, nat_tests) in
    fails_before_first is_line_feed bytes k d (omega arith)
