-- The numbers of a line, one field at a time.
use Rattle.std.proofs.Common.{◌≡◌, ◌≢◌, ◌<◌, ◌≤◌, ℕ, ◌+◌, List, [], ◌∷◌, ◌++◌, Bool, true, false, not, cond, ◌&&◌, nat_le, ◌^◌, ◌-◌, ℤ, pos, ◌≤ℤ◌, length, take, drop, get_or, refl, sym, ◌∙◌, ap, subst, Some, None, arith, ◌⊎◌, inl, inr}
use Rattle.std.specs.Prelude.{◌==◌}
use Rattle.std.specs.declared.option.Option.{Option}
use Rattle.std.specs.Str.Parse.{digits_value}
use Rattle.mp_model.specs.Stream.{is_digit, is_plain}
use Rattle.std.proofs.lemmas.Int.{ints}
use Rattle.std.proofs.lemmas.Option.{same_Some}
use Rattle.std.specs.List.{AllByRecursion, list_all, slice_split, onto_first, position, position_or_len}
use Rattle.std.specs.Option.{option_map, option_and_then, MatchOption, IfSome, IfNone}
use denote.Bor.{Bor}
use Rattle.std.proofs.lemmas.List.{append_assoc, append-nil, drop_more, take_all}
use Rattle.std.proofs.lemmas.List.Splits.{slice_split_first, slice_split_none, slice_split-cons_no}
use Rattle.std.proofs.lemmas.List.Sums.{fails_before_first, passes_at_first, prefix_len-le-length}
use Rattle.std.proofs.lemmas.Bool.Decides.{nat_tests}
use Rattle.std.proofs.Math.ListN.{drop_of_length-le}
use Rattle.mp_text.specs.Bigs.{big_of}
use Rattle.mp_cert.specs.TextMeaning.{onto, behind, numbers_of, fields_numbers, spaced_numbers, of_count, row_of}

abbrev is_space : ℕ → Bool
is_space b = b == 32

-- a place is before the end or is the end
pub before_or_at : (n m : ℕ) → n ≤ m → (n < m) ⊎ (n ≡ m)
before_or_at n m h = grind arith

pub space_at : (bytes : List ℕ) (at : ℕ) → position (λ b. b == 32) bytes ≡ Some at → at ≡ position_or_len (λ b. b == 32) bytes
space_at bytes at is = grind (arith, nat_tests)

pub no_space : (bytes : List ℕ) → position (λ b. b == 32) bytes ≡ None → length bytes ≡ position_or_len (λ b. b == 32) bytes
no_space bytes is =
    let past : length bytes ≤ position_or_len (λ b. b == 32) bytes = grind (arith, nat_tests) in
    omega (arith, prefix_len-le-length (λ (b : ℕ). not (b == 32)) bytes)

byte_is : (b : ℕ) → (b == 32) ≡ true → b ≡ 32
byte_is b passes = grind (arith, nat_tests)

field_before : (fields : List ℕ) (n : ℕ) → n ≡ position_or_len is_space fields → (n < length fields) ⊎ (n ≡ length fields)
    → numbers_of (slice_split is_space fields) ≡ onto (big_of (take n fields)) (spaced_numbers (drop n fields))
field_before fields n is (inl within) =
    let cut : slice_split is_space fields ≡ take n fields ∷ slice_split is_space (drop (n + 1) fields) =
    rw is (slice_split_first is_space fields 0 (let Q : ℕ → Type 0 = λ m. m < length fields in subst Q is within)) in
    let byte : get_or fields n 0 ≡ 32 = rw is (byte_is _ (passes_at_first is_space fields 0 (let Q : ℕ → Type 0 = λ m. m < length fields in subst Q is within))) in
    let rest : drop n fields ≡ 32 ∷ drop (n + 1) fields = drop_more fields n 0 within ∙ ap (λ b. b ∷ drop (n + 1) fields) byte in
    ap numbers_of cut ∙ ap (λ bs. onto (big_of (take n fields)) (spaced_numbers bs)) (sym rest)
field_before fields n is (inr past) =
    let cut : slice_split is_space fields ≡ fields ∷ [] = slice_split_none is_space fields (λ k d l. fails_before_first is_space fields k d (omega (arith, is, past))) in
    let all : take n fields ≡ fields = take_all n fields (omega arith) in
    let none : drop n fields ≡ [] = drop_of_length-le fields (omega arith) in
    ap numbers_of cut ∙ ap (λ bs. onto (big_of bs) (Some [])) (sym all) ∙ ap (λ bs. onto (big_of (take n fields)) (spaced_numbers bs)) (sym none)

-- a space, a field, and the rest
pub next_field : (fields : List ℕ) (n : ℕ) → n ≡ position_or_len (λ b. b == 32) fields
    → spaced_numbers (32 ∷ fields) ≡ onto (big_of (take n fields)) (spaced_numbers (drop n fields))
next_field fields n is = field_before fields n is (before_or_at n (length fields) (omega (arith, is, prefix_len-le-length (λ (b : ℕ). not (b == 32)) fields)))

-- numbers that were read, before those to come
abbrev pub prefixed : List ℤ → Option (List ℤ) → Option (List ℤ)
prefixed read to_come = option_map (λ xs. read ++ xs) to_come

prefixed_more : (read : List ℤ) (x : ℤ) (o : Option (List ℤ)) → prefixed read (onto (Some x) o) ≡ prefixed (read ++ x ∷ []) o
prefixed_more read x None = refl
prefixed_more read x (Some xs) = ap (λ ys. Some ys) (sym (append_assoc read (x ∷ []) xs))

pub prefixed_none : (o : Option (List ℤ)) → prefixed [] o ≡ o
prefixed_none None = refl
prefixed_none (Some xs) = refl

onto_first_some : (b : ℕ) (parts : List (List ℕ)) → fields_numbers (onto_first b parts) ≡ None
onto_first_some b [] = refl
onto_first_some b (part ∷ parts) = refl

other_byte : (b : ℕ) → b ≢ 32 → (b == 32) ≡ false
other_byte b other = grind (arith, nat_tests)

front_byte : (bytes : List ℕ) → 0 < length bytes → bytes ≡ get_or bytes 0 0 ∷ drop 1 bytes
front_byte [] some = absurd (omega arith)
front_byte (b ∷ bs) some = refl

-- bytes that do not begin with a space
pub begins_otherwise : (bytes : List ℕ) → 0 < length bytes → get_or bytes 0 0 ≢ 32 → spaced_numbers bytes ≡ None
begins_otherwise bytes some other =
    ap spaced_numbers (front_byte bytes some)
    ∙ ap fields_numbers (slice_split-cons_no is_space (get_or bytes 0 0) (drop 1 bytes) (other_byte (get_or bytes 0 0) other))
    ∙ onto_first_some (get_or bytes 0 0) (slice_split is_space (drop 1 bytes))

-- bytes that begin with a space
pub begins_with_field : (bytes : List ℕ) (n : ℕ) → 0 < length bytes → get_or bytes 0 0 ≡ 32 → n ≡ position_or_len (λ b. b == 32) (drop 1 bytes)
    → spaced_numbers bytes ≡ onto (big_of (take n (drop 1 bytes))) (spaced_numbers (drop n (drop 1 bytes)))
begins_with_field bytes n some space at =
    ap spaced_numbers (front_byte bytes some) ∙ ap (λ b. spaced_numbers (b ∷ drop 1 bytes)) space ∙ next_field (drop 1 bytes) n at

-- one number more
pub read_more : (read : List ℤ) (rest after : List ℕ) (x : ℤ) (whole : Option (List ℤ)) → prefixed read (spaced_numbers rest) ≡ whole
    → spaced_numbers rest ≡ onto (Some x) (spaced_numbers after) → prefixed (read ++ x ∷ []) (spaced_numbers after) ≡ whole
read_more read rest after x whole so_far number =
    sym (prefixed_more read x (spaced_numbers after)) ∙ ap (prefixed read) (sym number) ∙ so_far

-- a field that is no number
pub field_fails : (read : List ℤ) (rest : List ℕ) (count : ℕ) (whole : Option (List ℤ)) → prefixed read (spaced_numbers rest) ≡ whole → spaced_numbers rest ≡ None → of_count count whole ≡ None
field_fails read rest count whole so_far none = ap (of_count count) (sym so_far ∙ ap (prefixed read) none)

pub of_count_same : (n : ℕ) (ns : List ℤ) → length ns ≡ n → of_count n (Some ns) ≡ Some ns
of_count_same n ns same = let yes : (length ns == n) ≡ true = grind (arith, nat_tests) in rw yes refl

of_count_other : (n : ℕ) (ns : List ℤ) → length ns ≢ n → of_count n (Some ns) ≡ None
of_count_other n ns other = let differs : (length ns == n) ≡ false = grind (arith, nat_tests) in rw differs refl

-- the end of the line
all_read : (read : List ℤ) (rest : List ℕ) (whole : Option (List ℤ)) → prefixed read (spaced_numbers rest) ≡ whole → rest ≡ [] → Some read ≡ whole
all_read read rest whole so_far is = ap (λ xs. Some xs) (sym (append-nil read)) ∙ ap (λ bs. prefixed read (spaced_numbers bs)) (sym is) ∙ so_far

pub count_read : (read : List ℤ) (rest : List ℕ) (count : ℕ) (whole : Option (List ℤ)) → prefixed read (spaced_numbers rest) ≡ whole → rest ≡ [] → length read ≡ count → of_count count whole ≡ Some read
count_read read rest count whole so_far is same = ap (of_count count) (sym (all_read read rest whole so_far is)) ∙ of_count_same count read same

pub other_count : (read : List ℤ) (rest : List ℕ) (count : ℕ) (whole : Option (List ℤ)) → prefixed read (spaced_numbers rest) ≡ whole → rest ≡ [] → length read ≢ count → of_count count whole ≡ None
other_count read rest count whole so_far is other = ap (of_count count) (sym (all_read read rest whole so_far is)) ∙ of_count_other count read other

-- the bytes begin with the words exactly where some rest stands behind them
pub behind_words : (words rest : List ℕ) → behind words (words ++ rest) ≡ Some rest
behind_words [] rest = refl
behind_words (w ∷ words) rest = let same : (w == w) ≡ true = grind (arith, nat_tests) in rw same (behind_words words rest)

begins_at : (words line : List ℕ) (b w : ℕ) → ((rest : List ℕ) → b ∷ line ≢ (w ∷ words) ++ rest) → ((rest : List ℕ) → b ≡ w → line ≢ words ++ rest)
begins_at words line b w none rest same is = none rest (ap (λ c. c ∷ line) same ∙ ap (λ bs. w ∷ bs) is)

not_behind_at : (v : Bool) (b w : ℕ) (words line : List ℕ) → (b == w) ≡ v → (b ≡ w → behind words line ≡ None) → cond v (behind words line) None ≡ None
not_behind_at true b w words line is further = let same : b ≡ w = grind (arith, nat_tests) in further same
not_behind_at false b w words line is further = refl

pub not_behind : (words line : List ℕ) → ((rest : List ℕ) → line ≢ words ++ rest) → behind words line ≡ None
not_behind [] line none = absurd (none line refl)
not_behind (w ∷ words) [] none = refl
not_behind (w ∷ words) (b ∷ line) none = not_behind_at (b == w) b w words line refl (λ same. not_behind words line (λ rest. begins_at words line b w none rest same))

-- what `strip_prefix` says, in the word `behind`
pub some_behind : (words line : List ℕ) (r : Option (Bor (List ℕ))) → MatchOption r ((rest : List ℕ) → line ≢ words ++ rest) (λ x. line ≡ words ++ x.now) → IfSome r (λ x. behind words line ≡ Some x.now)
some_behind words line None cut = tt
some_behind words line (Some x) cut = ap (behind words) cut ∙ behind_words words x.now

pub none_behind : (words line : List ℕ) (r : Option (Bor (List ℕ))) → MatchOption r ((rest : List ℕ) → line ≢ words ++ rest) (λ x. line ≡ words ++ x.now) → IfNone r (behind words line ≡ None)
none_behind words line None cut = not_behind words line cut
none_behind words line (Some x) cut = tt

-- the row of a line, where the bytes behind its words are known
pub row_behind : (words line rest : List ℕ) (count : ℕ) → behind words line ≡ Some rest → row_of (record { words = words; count = count }) line ≡ of_count count (spaced_numbers rest)
row_behind words line rest count is = ap (λ o. of_count count (option_and_then spaced_numbers o)) is

-- none of the numbers is below 0, one after the other
abbrev pub EachNatural : List ℤ → Type 0
EachNatural ns = AllByRecursion (λ n. pos 0 ≤ℤ n) ns

-- so many numbers were read, none of them below 0
counted : (v : Bool) (n : ℕ) (ns row : List ℤ) → (length ns == n) ≡ v → cond v (Some ns) None ≡ Some row → (ns ≡ row) × (length row ≡ n)
counted true n ns row is read =
    let same = same_Some ns row read in
    let size : length ns ≡ n = grind (arith, nat_tests) in
    (same, sym (ap length same) ∙ size)
counted false n ns row is read = absurd (cc)

pub read_count : (count : ℕ) (o : Option (List ℤ)) (row : List ℤ) → of_count count o ≡ Some row → length row ≡ count
read_count count None row read = absurd (cc)
read_count count (Some ns) row read = (counted (length ns == count) count ns row refl read).1

big_natural : (v : Bool) (n : ℕ) (x : ℤ) → cond v (Some (pos n)) None ≡ Some x → pos 0 ≤ℤ x
big_natural true n x is = rw (← same_Some (pos n) x is) (omega (arith, ints))
big_natural false n x is = absurd (cc)

onto_natural : (o : Option ℤ) (rest : Option (List ℤ)) (ns : List ℤ) → ((x : ℤ) → o ≡ Some x → pos 0 ≤ℤ x) → ((ms : List ℤ) → rest ≡ Some ms → EachNatural ms) → onto o rest ≡ Some ns → EachNatural ns
onto_natural None rest ns one more is = absurd (cc)
onto_natural (Some x) None ns one more is = absurd (cc)
onto_natural (Some x) (Some ms) ns one more is = let P : List ℤ → Type 0 = EachNatural in subst P (same_Some (x ∷ ms) ns is) (one x refl, more ms refl)

numbers_natural : (fields : List (List ℕ)) (ns : List ℤ) → numbers_of fields ≡ Some ns → EachNatural ns
numbers_natural [] ns is = let P : List ℤ → Type 0 = EachNatural in subst P (same_Some [] ns is) tt
numbers_natural (field ∷ fields) ns is =
    onto_natural (big_of field) (numbers_of fields) ns
    (big_natural (is_plain field && list_all is_digit field && nat_le (digits_value 10 field) (2 ^ 127 - 1)) (digits_value 10 field))
    (numbers_natural fields) is

spaced_natural : (fields : List (List ℕ)) (ns : List ℤ) → fields_numbers fields ≡ Some ns → EachNatural ns
spaced_natural [] ns is = absurd (cc)
spaced_natural ([] ∷ fields) ns is = numbers_natural fields ns is
spaced_natural ((b ∷ bs) ∷ fields) ns is = absurd (cc)

natural_of_count : (count : ℕ) (o : Option (List ℤ)) (row : List ℤ) → ((ns : List ℤ) → o ≡ Some ns → EachNatural ns) → of_count count o ≡ Some row → EachNatural row
natural_of_count count None row all read = absurd (cc)
natural_of_count count (Some ns) row all read = all row (ap (λ xs. Some xs) (counted (length ns == count) count ns row refl read).0)

pub read_natural : (count : ℕ) (bytes : List ℕ) (row : List ℤ) → of_count count (spaced_numbers bytes) ≡ Some row → EachNatural row
read_natural count bytes row read = natural_of_count count (spaced_numbers bytes) row (spaced_natural (slice_split is_space bytes)) read
