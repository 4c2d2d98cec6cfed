-- Digits and the number that they make.
use Rattle.std.proofs.Common.{◌≡◌, ◌≤◌, ◌<◌, ◌+◌, ◌-◌, ◌*◌, ℕ, List, ◌++◌, true, take, drop, get_or, length, map, arith, sym, ◌∙◌, ap}
use Rattle.std.specs.Char.{digit_value}
use Rattle.std.specs.Int.Digits.{number_from_digits, number_from_digits_after}
use Rattle.std.specs.List.{list_all}
use Rattle.std.specs.Str.Parse.{digits_value}
use Rattle.std.proofs.lemmas.Bool.Decides.{nat_tests}
use Rattle.std.proofs.lemmas.Int.Digits.{digits_value_is, digits_value_more, number_after_append, number_after_ge}
use Rattle.std.proofs.lemmas.List.{take-append-drop, map-append}
use Rattle.std.proofs.lemmas.List.Sums.{AllPass-from_list_all}
use Rattle.mp_model.specs.Stream.{is_digit}

-- a digit is worth at most 9
pub digit_worth : (b : ℕ) → is_digit b ≡ true → (digit_value b ≡ b - 48) × (b - 48 ≤ 9)
digit_worth b passes = (grind (arith, nat_tests), grind (arith, nat_tests))

-- one digit more
pub next_value : (bs : List ℕ) (i n unit : ℕ) → list_all is_digit bs ≡ true → i < length bs → n ≡ digits_value 10 (take i bs) → unit ≡ get_or bs i 0 - 48
    → (n * 10 + unit ≡ digits_value 10 (take (i + 1) bs)) × (unit ≤ 9)
next_value bs i n unit digits within so_far is =
    let worth = digit_worth (get_or bs i 0) (AllPass-from_list_all is_digit bs digits i 0 within) in
    (omega (arith, digits_value_more 10 bs i within, worth.0), omega (arith, worth.1))

-- more digits make no smaller number
pub front_value : (bs : List ℕ) (i : ℕ) → digits_value 10 (take i bs) ≤ digits_value 10 bs
front_value bs i =
    let whole : digits_value 10 bs ≡ number_from_digits_after 10 (digits_value 10 (take i bs)) (map digit_value (drop i bs)) =
    ap (digits_value 10) (sym (take-append-drop i bs))
    ∙ digits_value_is 10 (take i bs ++ drop i bs)
    ∙ ap (number_from_digits 10) (map-append digit_value (take i bs) (drop i bs))
    ∙ number_after_append 10 0 (map digit_value (take i bs)) (map digit_value (drop i bs))
    ∙ ap (λ n. number_from_digits_after 10 n (map digit_value (drop i bs))) (sym (digits_value_is 10 (take i bs))) in
    omega (arith, whole, number_after_ge 10 (digits_value 10 (take i bs)) (map digit_value (drop i bs)) (omega arith))
