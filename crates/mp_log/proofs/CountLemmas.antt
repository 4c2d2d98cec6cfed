-- Counts that were read, before those to come.
use Rattle.std.proofs.Common.{◌≡◌, ◌≢◌, ◌<◌, ◌≤◌, ℕ, ◌+◌, List, [], ◌∷◌, ◌++◌, true, false, length, take, drop, refl, sym, ◌∙◌, ap, Some, None, arith}
use Rattle.std.specs.Prelude.{◌==◌}
use Rattle.std.specs.declared.option.Option.{Option}
use Rattle.std.specs.List.{slice_split, position, position_or_len}
use Rattle.std.specs.Option.{option_map}
use Rattle.std.proofs.lemmas.List.{append_assoc, length-append}
use Rattle.std.proofs.lemmas.List.Splits.{slice_split_first, slice_split_none, length-slice_split}
use Rattle.std.proofs.lemmas.List.Sums.{fails_before_first}
use Rattle.std.proofs.lemmas.Option.{same_Some}
use Rattle.std.proofs.lemmas.List.Quantifiers.{position-Some}
use Rattle.std.proofs.lemmas.Bool.Decides.{nat_tests}
use Rattle.mp_model.specs.Stream.{without_blanks_before, without_blanks_behind, count_of, onto, counts_of_parts, of_length, read_counts}

-- the parts of a line between its commas
abbrev pub split : List ℕ → List (List ℕ)
split line = slice_split (λ b. b == 44) line

-- the count of a part, with blanks round it
abbrev pub part_count : List ℕ → Option ℕ
part_count part = count_of (without_blanks_behind (without_blanks_before part))

abbrev pub behind : List ℕ → Option (List ℕ) → Option (List ℕ)
behind read to_come = option_map (λ xs. read ++ xs) to_come

behind_more : (read : List ℕ) (x : ℕ) (o : Option (List ℕ)) → behind read (onto (Some x) o) ≡ behind (read ++ x ∷ []) o
behind_more read x None = refl
behind_more read x (Some xs) = ap (λ ys. Some ys) (sym (append_assoc read (x ∷ []) xs))

-- the first part, and the others, where a byte stands between two
pub split_at : (c : ℕ) (rest : List ℕ) (at : ℕ) → position (λ b. b == c) rest ≡ Some at → slice_split (λ b. b == c) rest ≡ take at rest ∷ slice_split (λ b. b == c) (drop (at + 1) rest)
split_at c rest at is =
    let here : position_or_len (λ b. b == c) rest ≡ at = grind (arith, nat_tests) in
    let within : position_or_len (λ b. b == c) rest < length rest = grind (arith, nat_tests) in
    slice_split_first (λ b. b == c) rest 0 within ∙ ap (λ n. take n rest ∷ slice_split (λ b. b == c) (drop (n + 1) rest)) here

pub unsplit : (c : ℕ) (rest : List ℕ) → position (λ b. b == c) rest ≡ None → slice_split (λ b. b == c) rest ≡ rest ∷ []
unsplit c rest is =
    let past : length rest ≤ position_or_len (λ b. b == c) rest = grind (arith, nat_tests) in
    slice_split_none (λ b. b == c) rest (λ k d l. fails_before_first (λ b. b == c) rest k d (omega arith))

pub read_more : (read rest after : List ℕ) (whole : Option (List ℕ)) (at x : ℕ) → behind read (counts_of_parts (split rest)) ≡ whole → position (λ b. b == 44) rest ≡ Some at
    → part_count (take at rest) ≡ Some x → after ≡ drop (at + 1) rest → behind (read ++ x ∷ []) (counts_of_parts (split after)) ≡ whole
read_more read rest after whole at x so_far is count same =
    rw same (sym (behind_more read x (counts_of_parts (split (drop (at + 1) rest))))
    ∙ ap (λ o. behind read (onto o (counts_of_parts (split (drop (at + 1) rest))))) (sym count)
    ∙ ap (λ ps. behind read (counts_of_parts ps)) (sym (split_at 44 rest at is)) ∙ so_far)

pub part_fails : (read rest : List ℕ) (whole : Option (List ℕ)) (at : ℕ) → behind read (counts_of_parts (split rest)) ≡ whole → position (λ b. b == 44) rest ≡ Some at
    → part_count (take at rest) ≡ None → None ≡ whole
part_fails read rest whole at so_far is count =
    ap (λ o. behind read (onto o (counts_of_parts (split (drop (at + 1) rest))))) (sym count)
    ∙ ap (λ ps. behind read (counts_of_parts ps)) (sym (split_at 44 rest at is)) ∙ so_far

pub last_more : (read rest : List ℕ) (whole : Option (List ℕ)) (x : ℕ) → behind read (counts_of_parts (split rest)) ≡ whole → position (λ b. b == 44) rest ≡ None
    → part_count rest ≡ Some x → Some (read ++ x ∷ []) ≡ whole
last_more read rest whole x so_far is count =
    ap (λ o. behind read (onto o (Some []))) (sym count) ∙ ap (λ ps. behind read (counts_of_parts ps)) (sym (unsplit 44 rest is)) ∙ so_far

pub last_fails : (read rest : List ℕ) (whole : Option (List ℕ)) → behind read (counts_of_parts (split rest)) ≡ whole → position (λ b. b == 44) rest ≡ None
    → part_count rest ≡ None → None ≡ whole
last_fails read rest whole so_far is count =
    ap (λ o. behind read (onto o (Some []))) (sym count) ∙ ap (λ ps. behind read (counts_of_parts ps)) (sym (unsplit 44 rest is)) ∙ so_far

-- as many counts as parts
onto_length : (o : Option ℕ) (rest : Option (List ℕ)) (n : ℕ) (ns : List ℕ) → ((ms : List ℕ) → rest ≡ Some ms → length ms ≡ n) → onto o rest ≡ Some ns → length ns ≡ n + 1
onto_length None rest n ns all is = absurd (cc)
onto_length (Some x) None n ns all is = absurd (cc)
onto_length (Some x) (Some ms) n ns all is = let same = same_Some (x ∷ ms) ns is in omega (arith, all ms refl, ap length same)

counts_length : (parts : List (List ℕ)) (ns : List ℕ) → counts_of_parts parts ≡ Some ns → length ns ≡ length parts
counts_length [] ns is = ap length (sym (same_Some [] ns is))
counts_length (part ∷ parts) ns is = onto_length (part_count part) (counts_of_parts parts) (length parts) ns (counts_length parts) is ∙ omega arith

of_other_length : (n : ℕ) (ns : List ℕ) → length ns ≢ n → of_length n (Some ns) ≡ None
of_other_length n ns other = let differs : (length ns == n) ≡ false = grind (arith, nat_tests) in rw differs refl

too_many_at : (read : List ℕ) (o : Option (List ℕ)) (n : ℕ) → length read ≡ n → ((ns : List ℕ) → o ≡ Some ns → 1 ≤ length ns) → of_length n (behind read o) ≡ None
too_many_at read None n full some = refl
too_many_at read (Some ns) n full some = of_other_length n (read ++ ns) (λ e. absurd (omega (arith, length-append read ns, some ns refl)))

-- where n counts are read and a part is left there are too many
pub too_many : (read rest line : List ℕ) (n : ℕ) → behind read (counts_of_parts (split rest)) ≡ counts_of_parts (split line) → length read ≡ n → read_counts n line ≡ None
too_many read rest line n so_far full =
    ap (of_length n) (sym so_far) ∙ too_many_at read (counts_of_parts (split rest)) n full
    (λ ns is. omega (arith, counts_length (split rest) ns is, length-slice_split (λ b. b == 44) rest))

pub none_read : (line : List ℕ) (n : ℕ) → None ≡ counts_of_parts (split line) → read_counts n line ≡ None
none_read line n none = ap (of_length n) (sym none)

pub all_read : (line ns : List ℕ) (n : ℕ) → Some ns ≡ counts_of_parts (split line) → length ns ≡ n → read_counts n line ≡ Some ns
all_read line ns n read size = let same : (length ns == n) ≡ true = grind (arith, nat_tests) in ap (of_length n) (sym read) ∙ rw same refl

pub few_read : (line ns : List ℕ) (n : ℕ) → Some ns ≡ counts_of_parts (split line) → length ns ≢ n → read_counts n line ≡ None
few_read line ns n read other = ap (of_length n) (sym read) ∙ of_other_length n ns other

-- the byte stands within the bytes
pub place_within : (c : ℕ) (rest : List ℕ) (at : ℕ) → position (λ b. b == c) rest ≡ Some at → at < length rest
place_within c rest at is = (position-Some (λ b. b == c) rest at 0 is).0
