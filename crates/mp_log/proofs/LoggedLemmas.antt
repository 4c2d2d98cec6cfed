-- Counts that were read off the line of a period, before those to come.
use Rattle.std.proofs.Common.{Bor, Bool, MatchBool, ◌≡◌, ◌≢◌, ◌≤◌, ◌<◌, ◌^◌, ℕ, suc, ◌+◌, List, [], ◌∷◌, ◌++◌, true, false, cond, length, take, drop, get_or, refl, sym, ◌∙◌, ap, subst, Option, MatchOption, Some, None, arith}
use Rattle.std.specs.Prelude.{◌==◌, codes, decimal, nat_lt}
use Rattle.std.specs.List.{position, position_or_len, All}
use Rattle.std.proofs.lemmas.List.{append_assoc, append-nil, append_cancel_left, length-append, take_at, take-append-drop, drop_more, get_or_at, get_or_append_left}
use Rattle.std.proofs.lemmas.List.Quantifiers.{position-Some}
use Rattle.std.proofs.lemmas.List.Elements.{All-push, All-head, All-tail}
use Rattle.std.proofs.lemmas.List.Sums.{position_or_len_is}
use Rattle.std.proofs.lemmas.Bool.Decides.{nat_tests}
use Rattle.mp_model.specs.Log.{spaced, period_line}
use Rattle.mp_model.specs.Stream.{count_of}
use Rattle.mp_log.specs.Logged.{BeginsPeriod, BeginsCounts, BeginsCount, EndsField}
use Rattle.mp_log.proofs.DigitLemmas.{spaceless, count_written, written_count}

-- no byte is a space
abbrev Spaceless : List ℕ → Type 0
Spaceless bytes = All (λ b. (b == 32) ≡ false) bytes

-- bytes up to the first space are those, and the rest is the rest
pub same_front : (xs ys t u : List ℕ) → Spaceless xs → Spaceless ys → xs ++ 32 ∷ t ≡ ys ++ 32 ∷ u → (xs ≡ ys) × (t ≡ u)
same_front [] [] t u p q e = (refl, cc)
same_front [] (y ∷ ys) t u p q e =
    let first : 32 ≡ y = cc in
    let other : (y == 32) ≡ false = All-head (λ b. (b == 32) ≡ false) y ys q in absurd (grind (arith, nat_tests))
same_front (x ∷ xs) [] t u p q e =
    let first : x ≡ 32 = cc in
    let other : (x == 32) ≡ false = All-head (λ b. (b == 32) ≡ false) x xs p in absurd (grind (arith, nat_tests))
same_front (x ∷ xs) (y ∷ ys) t u p q e =
    let first : x ≡ y = cc in
    let others : xs ++ 32 ∷ t ≡ ys ++ 32 ∷ u = cc in
    let rest = same_front xs ys t u (All-tail (λ b. (b == 32) ≡ false) x xs p) (All-tail (λ b. (b == 32) ≡ false) y ys q) others in
    (ap (λ z. z ∷ xs) first ∙ ap (λ zs. y ∷ zs) rest.0, rest.1)

-- the digits before a space say the number
pub same_count : (m n : ℕ) (t u : List ℕ) → m < 10 ^ 9 → n < 10 ^ 9 → decimal m ++ 32 ∷ t ≡ decimal n ++ 32 ∷ u → (m ≡ n) × (t ≡ u)
same_count m n t u small low e =
    let front = same_front (decimal m) (decimal n) t u (spaceless m small) (spaceless n low) e in
    let read : Some m ≡ Some n = sym (count_written m small) ∙ ap count_of front.0 ∙ count_written n low in
    (cc, front.1)

-- where the space stands
space_behind : (xs t : List ℕ) → Spaceless xs → position (λ b. b == 32) (xs ++ 32 ∷ t) ≡ Some (length xs)
space_behind xs t plain =
    let all = xs ++ 32 ∷ t in
    let size : length all ≡ length xs + length (32 ∷ t) = length-append xs (32 ∷ t) in
    let place : position_or_len (λ b. b == 32) all ≡ length xs =
    position_or_len_is (λ b. b == 32) all (length xs) 0 (omega arith) (λ k low. rw (get_or_append_left xs (32 ∷ t) 0 k low) (plain k 0 low)) (λ within. rw (get_or_at xs 32 t 0 (length xs) refl) refl) in
    let before : nat_lt (position_or_len (λ b. b == 32) all) (length all) ≡ true = let h = place in grind (arith, nat_tests) in
    ap (λ b. cond b (Some (position_or_len (λ b. b == 32) all)) None) before ∙ ap (λ n. Some n) place

-- a count that is found
pub count_found : (bytes digits : List ℕ) (at n : ℕ) → bytes ≡ codes " " ++ digits → position (λ b. b == 32) digits ≡ Some at → count_of (take at digits) ≡ Some n → n < 10 ^ 9
    → (at + 1 ≤ length bytes) × BeginsCount bytes n (drop (at + 1) bytes)
count_found bytes digits at n is found read small =
    let h = position-Some (λ b. b == 32) digits at 0 found in
    let byte : get_or digits at 0 ≡ 32 = let t = h.1 in grind (arith, nat_tests) in
    let behind : drop at digits ≡ 32 ∷ drop (at + 1) digits = drop_more digits at 0 h.0 ∙ ap (λ b. b ∷ drop (at + 1) digits) byte in
    let back : drop (at + 1) bytes ≡ drop at digits = ap (drop (at + 1)) is ∙ one_more digits at in
    let size : length bytes ≡ length digits + 1 = ap (length {A = ℕ}) is ∙ omega arith in (
      let within = h.0 in omega arith,
      record {
        digits = small;
        more = drop (at + 1) digits;
        spaced_rest = back ∙ behind;
        text = is ∙ ap (λ xs. 32 ∷ xs) (sym (take-append-drop at digits) ∙ ap (λ xs. xs ++ drop at digits) (sym (written_count (take at digits) n read)) ∙ ap (λ xs. decimal n ++ xs) (sym back));
      },
    )
  where
    one_more : (digits : List ℕ) (at : ℕ) → drop (at + 1) (32 ∷ digits) ≡ drop at digits
    one_more digits at = let P : ℕ → Type 0 = λ k. drop k (32 ∷ digits) ≡ drop at digits in let e : suc at ≡ at + 1 = omega arith in subst P e refl

-- what a count says of the digits behind its space
pub digits_are : (bytes digits : List ℕ) (n : ℕ) (rest : List ℕ) → bytes ≡ codes " " ++ digits → (b : BeginsCount bytes n rest) → digits ≡ decimal n ++ 32 ∷ b.more
digits_are bytes digits n rest is b =
    let both : 32 ∷ digits ≡ 32 ∷ (decimal n ++ rest) = sym is ∙ b.text in
    let same : digits ≡ decimal n ++ rest = cc in same ∙ ap (λ xs. decimal n ++ xs) b.spaced_rest

-- no count begins where there is no space in front, or none behind, or no count between
pub no_front : (bytes : List ℕ) → ((rest : List ℕ) → bytes ≢ codes " " ++ rest) → (n : ℕ) (rest : List ℕ) → ¬ BeginsCount bytes n rest
no_front bytes none n rest b = none (decimal n ++ rest) b.text

pub no_space : (bytes digits : List ℕ) → bytes ≡ codes " " ++ digits → position (λ b. b == 32) digits ≡ None → (n : ℕ) (rest : List ℕ) → ¬ BeginsCount bytes n rest
no_space bytes digits is none n rest b =
    let found : position (λ b. b == 32) digits ≡ Some (length (decimal n)) = ap (position (λ b. b == 32)) (digits_are bytes digits n rest is b) ∙ space_behind (decimal n) b.more (spaceless n b.digits) in
    absurd (cc)

pub no_count : (bytes digits : List ℕ) (at : ℕ) → bytes ≡ codes " " ++ digits → position (λ b. b == 32) digits ≡ Some at → count_of (take at digits) ≡ None → (n : ℕ) (rest : List ℕ) → ¬ BeginsCount bytes n rest
no_count bytes digits at is found none n rest b =
    let are = digits_are bytes digits n rest is b in
    let there : Some at ≡ Some (length (decimal n)) = sym found ∙ ap (position (λ b. b == 32)) are ∙ space_behind (decimal n) b.more (spaceless n b.digits) in
    let place : at ≡ length (decimal n) = cc in
    let front : take at digits ≡ decimal n = ap (take at) are ∙ take_at (decimal n) (32 ∷ b.more) at (sym place) in
    let read : count_of (take at digits) ≡ Some n = ap count_of front ∙ count_written n b.digits in
    absurd (cc)

-- so many counts were read, and what is left gives what the whole gives
pub record Reading (bytes : List ℕ) (fed : ℕ) (rest read : List ℕ) (i : ℕ) : Type 0 where
  pub few : length read ≡ i
  pub digits : All (λ a. a < 10 ^ 9) read
  pub so_far : bytes ≡ spaced read ++ rest
  pub only : (counts : List ℕ) (b : BeginsCounts bytes fed counts) → (more : List ℕ) × (counts ≡ read ++ more) × (rest ≡ spaced more ++ codes " s" ++ b.rest)

pub reading_start : (bytes : List ℕ) (fed : ℕ) (read : List ℕ) → read ≡ [] → Reading bytes fed bytes read 0
reading_start bytes fed read empty = record {
  few = ap (length {A = ℕ}) empty;
  digits = subst (λ (xs : List ℕ). All (λ a. a < 10 ^ 9) xs) (sym empty) (λ k d low. absurd (omega arith));
  so_far = ap (λ (xs : List ℕ). spaced xs ++ bytes) (sym empty);
  only = λ counts b. (counts, ap (λ (xs : List ℕ). xs ++ counts) (sym empty), b.text);
}

-- the counts and the letter of the stages begin with a space
space_first : (more rest : List ℕ) → (tail : List ℕ) × (spaced more ++ codes " s" ++ rest ≡ 32 ∷ tail)
space_first [] rest = (115 ∷ rest, refl)
space_first (x ∷ more) rest = ((decimal x ++ spaced more) ++ codes " s" ++ rest, refl)

spaced_push : (read : List ℕ) (n : ℕ) (rest : List ℕ) → spaced read ++ (32 ∷ decimal n ++ rest) ≡ spaced (read ++ n ∷ []) ++ rest
spaced_push [] n rest = ap (λ (xs : List ℕ). 32 ∷ xs ++ rest) (sym (append-nil (decimal n)))
spaced_push (x ∷ read) n rest =
    append_assoc (32 ∷ decimal x) (spaced read) (32 ∷ decimal n ++ rest) ∙ ap (λ xs. (32 ∷ decimal x) ++ xs) (spaced_push read n rest) ∙ sym (append_assoc (32 ∷ decimal x) (spaced (read ++ n ∷ [])) rest)

-- the next count, in front of those behind it
first_spaced : (y : ℕ) (more rest : List ℕ) → spaced (y ∷ more) ++ codes " s" ++ rest ≡ 32 ∷ (decimal y ++ (spaced more ++ codes " s" ++ rest))
first_spaced y more rest =
    ap (λ xs. xs ++ rest) (append_assoc (32 ∷ decimal y) (spaced more) (codes " s")) ∙ append_assoc (32 ∷ decimal y) (spaced more ++ codes " s") rest

begins_next : (y : ℕ) (more after rest : List ℕ) → y < 10 ^ 9 → rest ≡ spaced (y ∷ more) ++ codes " s" ++ after → BeginsCount rest y (spaced more ++ codes " s" ++ after)
begins_next y more after rest small is = record {
  digits = small;
  more = (space_first more after).0;
  spaced_rest = (space_first more after).1;
  text = is ∙ first_spaced y more after;
}

-- two counts at one place are one
one_count : (rest : List ℕ) (m n : ℕ) (t u : List ℕ) → BeginsCount rest m t → BeginsCount rest n u → (m ≡ n) × (t ≡ u)
one_count rest m n t u a b =
    let both : 32 ∷ (decimal m ++ t) ≡ 32 ∷ (decimal n ++ u) = sym a.text ∙ b.text in
    let tails : decimal m ++ t ≡ decimal n ++ u = cc in
    let same = same_count m n a.more b.more a.digits b.digits (ap (λ xs. decimal m ++ xs) (sym a.spaced_rest) ∙ tails ∙ ap (λ xs. decimal n ++ xs) b.spaced_rest) in
    (same.0, a.spaced_rest ∙ ap (λ xs. 32 ∷ xs) same.1 ∙ sym b.spaced_rest)

small_at : (read more : List ℕ) (y : ℕ) → All (λ a. a < 10 ^ 9) (read ++ y ∷ more) → y < 10 ^ 9
small_at [] more y all = All-head (λ a. a < 10 ^ 9) y more all
small_at (x ∷ read) more y all = small_at read more y (All-tail (λ a. a < 10 ^ 9) x (read ++ y ∷ more) all)

only_more : (rest read : List ℕ) (n : ℕ) (next counts more after : List ℕ) (fed : ℕ) → length counts ≡ fed → length read < fed → All (λ a. a < 10 ^ 9) counts → BeginsCount rest n next → counts ≡ read ++ more
    → rest ≡ spaced more ++ codes " s" ++ after → (others : List ℕ) × (counts ≡ (read ++ n ∷ []) ++ others) × (next ≡ spaced others ++ codes " s" ++ after)
only_more rest read n next counts [] after fed size few digits begins are is = let all : counts ≡ read = are ∙ append-nil read in absurd (omega (arith, ap (length {A = ℕ}) all))
only_more rest read n next counts (y ∷ more) after fed size few digits begins are is =
    let small : y < 10 ^ 9 = small_at read more y (subst (λ (xs : List ℕ). All (λ a. a < 10 ^ 9) xs) are digits) in
    let same = one_count rest n y next (spaced more ++ codes " s" ++ after) begins (begins_next y more after rest small is) in
    (more, are ∙ sym (append_assoc read (y ∷ []) more) ∙ ap (λ z. (read ++ z ∷ []) ++ more) (sym same.0), same.1)

pub reading_more : (bytes : List ℕ) (fed : ℕ) (rest read : List ℕ) (i n : ℕ) (next after : List ℕ) → Reading bytes fed rest read i → i < fed → BeginsCount rest n next → after ≡ read ++ n ∷ [] → Reading bytes fed next after (i + 1)
reading_more bytes fed rest read i n next after r more begins pushed = record {
  few = ap (length {A = ℕ}) pushed ∙ length-append read (n ∷ []) ∙ ap (λ k. k + 1) r.few;
  digits = subst (λ (xs : List ℕ). All (λ a. a < 10 ^ 9) xs) (sym pushed) (All-push (λ a. a < 10 ^ 9) read n r.digits begins.digits);
  so_far = r.so_far ∙ ap (λ xs. spaced read ++ xs) begins.text ∙ spaced_push read n next ∙ ap (λ xs. spaced xs ++ next) (sym pushed);
  only = λ counts b.
      let o = r.only counts b in
      let size = r.few in
      let found = only_more rest read n next counts o.0 b.rest fed b.count (omega arith) b.digits begins o.1 o.2 in
      (found.0, found.1 ∙ ap (λ (xs : List ℕ). xs ++ found.0) (sym pushed), found.2);
}

none_more : (rest read counts more after : List ℕ) (fed : ℕ) → length counts ≡ fed → length read < fed → All (λ a. a < 10 ^ 9) counts → counts ≡ read ++ more → rest ≡ spaced more ++ codes " s" ++ after
    → ((n : ℕ) (next : List ℕ) → ¬ BeginsCount rest n next) → ⊥
none_more rest read counts [] after fed size few digits are is none = let all : counts ≡ read = are ∙ append-nil read in absurd (omega (arith, ap (length {A = ℕ}) all))
none_more rest read counts (y ∷ more) after fed size few digits are is none =
    none y (spaced more ++ codes " s" ++ after) (begins_next y more after rest (small_at read more y (subst (λ (xs : List ℕ). All (λ a. a < 10 ^ 9) xs) are digits)) is)

pub reading_fails : (bytes : List ℕ) (fed : ℕ) (rest read : List ℕ) (i : ℕ) → Reading bytes fed rest read i → i < fed → ((n : ℕ) (next : List ℕ) → ¬ BeginsCount rest n next) → (counts : List ℕ) → ¬ BeginsCounts bytes fed counts
reading_fails bytes fed rest read i r more none counts b =
    let o = r.only counts b in
    let size = r.few in none_more rest read counts o.0 b.rest fed b.count (omega arith) b.digits o.1 o.2 none

-- the field `s` stands behind the last count
reading_ends : (bytes : List ℕ) (fed : ℕ) (rest read after : List ℕ) → Reading bytes fed rest read fed → rest ≡ codes " s" ++ after → EndsField after → BeginsCounts bytes fed read
reading_ends bytes fed rest read after r is whole = record {
  count = r.few;
  digits = r.digits;
  rest = after;
  whole = whole;
  text = r.so_far ∙ ap (λ xs. spaced read ++ xs) is ∙ sym (append_assoc (spaced read) (codes " s") after);
}

none_left : (rest read counts more after : List ℕ) → length counts ≡ length read → counts ≡ read ++ more → rest ≡ spaced more ++ codes " s" ++ after → rest ≡ codes " s" ++ after
none_left rest read counts [] after size are is = is
none_left rest read counts (y ∷ more) after size are is = absurd (omega (arith, ap (length {A = ℕ}) are, length-append read (y ∷ more)))

reading_lacks : (bytes : List ℕ) (fed : ℕ) (rest read : List ℕ) → Reading bytes fed rest read fed → ((after : List ℕ) → rest ≢ codes " s" ++ after) → (counts : List ℕ) → ¬ BeginsCounts bytes fed counts
reading_lacks bytes fed rest read r none counts b = let o = r.only counts b in none b.rest (none_left rest read counts o.0 b.rest (b.count ∙ sym r.few) o.1 o.2)

-- the counts stand behind the number of the period
abbrev pub front : ℕ → List ℕ
front period = codes "p " ++ decimal period ++ codes " a"

regrouped : (period : ℕ) (counts rest : List ℕ) → front period ++ spaced counts ++ codes " s" ++ rest ≡ front period ++ (spaced counts ++ codes " s" ++ rest)
regrouped period counts rest = ap (λ xs. xs ++ rest) (append_assoc (front period) (spaced counts) (codes " s")) ∙ append_assoc (front period) (spaced counts ++ codes " s") rest

pub period_from : (line : List ℕ) (period fed : ℕ) (bytes counts : List ℕ) → line ≡ front period ++ bytes → BeginsCounts bytes fed counts → BeginsPeriod line period fed counts
period_from line period fed bytes counts is b = record {
  count = b.count;
  digits = b.digits;
  rest = b.rest;
  whole = b.whole;
  text = is ∙ ap (λ xs. front period ++ xs) b.text ∙ sym (regrouped period counts b.rest);
}

pub counts_from : (line : List ℕ) (period fed : ℕ) (bytes counts : List ℕ) → line ≡ front period ++ bytes → BeginsPeriod line period fed counts → BeginsCounts bytes fed counts
counts_from line period fed bytes counts is b = record {
  count = b.count;
  digits = b.digits;
  rest = b.rest;
  whole = b.whole;
  text = append_cancel_left (front period) bytes (spaced counts ++ codes " s" ++ b.rest) (sym is ∙ b.text ∙ regrouped period counts b.rest);
}

pub no_period : (line : List ℕ) (period fed : ℕ) → ((rest : List ℕ) → line ≢ front period ++ rest) → (counts : List ℕ) → ¬ BeginsPeriod line period fed counts
no_period line period fed none counts b = none (spaced counts ++ codes " s" ++ b.rest) (b.text ∙ regrouped period counts b.rest)

parted : (period : ℕ) (rest : List ℕ) → front period ++ rest ≡ codes "p " ++ (decimal period ++ (codes " a" ++ rest))
parted period rest = append_assoc (codes "p " ++ decimal period) (codes " a") rest ∙ append_assoc (codes "p ") (decimal period) (codes " a" ++ rest)

pub no_start : (line : List ℕ) (period : ℕ) → ((rest : List ℕ) → line ≢ codes "p " ++ rest) → (rest : List ℕ) → line ≢ front period ++ rest
no_start line period none rest e = none (decimal period ++ (codes " a" ++ rest)) (e ∙ parted period rest)

number_is : (line number : List ℕ) (period : ℕ) (rest : List ℕ) → line ≡ codes "p " ++ number → line ≡ front period ++ rest → number ≡ decimal period ++ (codes " a" ++ rest)
number_is line number period rest is e = append_cancel_left (codes "p ") number (decimal period ++ (codes " a" ++ rest)) (sym is ∙ e ∙ parted period rest)

pub no_number : (line number digits : List ℕ) (period : ℕ) → line ≡ codes "p " ++ number → digits ≡ decimal period → ((rest : List ℕ) → number ≢ digits ++ rest) → (rest : List ℕ) → line ≢ front period ++ rest
no_number line number digits period is written none rest e = none (codes " a" ++ rest) (number_is line number period rest is e ∙ ap (λ (xs : List ℕ). xs ++ (codes " a" ++ rest)) (sym written))

pub behind_letter : (line number letter digits : List ℕ) (period : ℕ) (r : Option (Bor (List ℕ))) → line ≡ codes "p " ++ number → digits ≡ decimal period → number ≡ digits ++ letter
    → MatchOption r ((rest : List ℕ) → letter ≢ codes " a" ++ rest) (λ x. letter ≡ codes " a" ++ x.now) → MatchOption r ((rest : List ℕ) → line ≢ front period ++ rest) (λ x. line ≡ front period ++ x.now)
behind_letter line number letter digits period None is written behind none = λ rest e.
    none rest (append_cancel_left (decimal period) letter (codes " a" ++ rest) (ap (λ (xs : List ℕ). xs ++ letter) (sym written) ∙ sym behind ∙ number_is line number period rest is e))
behind_letter line number letter digits period (Some x) is written behind some =
    is ∙ ap (λ xs. codes "p " ++ xs) (behind ∙ ap (λ (xs : List ℕ). xs ++ letter) written ∙ ap (λ xs. decimal period ++ xs) some) ∙ sym (parted period x.now)

-- no field `s` stands behind it, where other bytes follow its letter
reading_goes_on : (bytes : List ℕ) (fed : ℕ) (rest read after : List ℕ) → Reading bytes fed rest read fed → rest ≡ codes " s" ++ after → ¬ EndsField after → (counts : List ℕ) → ¬ BeginsCounts bytes fed counts
reading_goes_on bytes fed rest read after r is goes_on counts b =
    let o = r.only counts b in
    let left : rest ≡ codes " s" ++ b.rest = none_left rest read counts o.0 b.rest (b.count ∙ sym r.few) o.1 o.2 in
    goes_on (subst EndsField (append_cancel_left (codes " s") b.rest after (sym left ∙ is)) b.whole)

-- whether the field `s` stands behind the last count
pub no_letter : (bytes : List ℕ) (fed : ℕ) (rest read : List ℕ) (i : ℕ) → Reading bytes fed rest read i → i ≡ fed → ((after : List ℕ) → rest ≢ codes " s" ++ after) → (counts : List ℕ) → ¬ BeginsCounts bytes fed counts
no_letter bytes fed rest read i r all none = reading_lacks bytes fed rest read (subst (λ k. Reading bytes fed rest read k) all r) none

pub last_letter : (bytes : List ℕ) (fed : ℕ) (rest read after : List ℕ) (i : ℕ) (ends : Bool) → Reading bytes fed rest read i → i ≡ fed → rest ≡ codes " s" ++ after → MatchBool ends (EndsField after) (¬ EndsField after)
    → MatchBool ends (BeginsCounts bytes fed read) ((counts : List ℕ) → ¬ BeginsCounts bytes fed counts)
last_letter bytes fed rest read after i true r all is whole = reading_ends bytes fed rest read after (subst (λ k. Reading bytes fed rest read k) all r) is whole
last_letter bytes fed rest read after i false r all is goes_on = reading_goes_on bytes fed rest read after (subst (λ k. Reading bytes fed rest read k) all r) is goes_on

-- counts before the letter of the stages are told by their digits
same_spaced : (xs ys t u : List ℕ) → length xs ≡ length ys → All (λ a. a < 10 ^ 9) xs → All (λ a. a < 10 ^ 9) ys → spaced xs ++ codes " s" ++ t ≡ spaced ys ++ codes " s" ++ u → xs ≡ ys
same_spaced [] [] t u size p q e = refl
same_spaced [] (y ∷ ys) t u size p q e = absurd (omega arith)
same_spaced (x ∷ xs) [] t u size p q e = absurd (omega arith)
same_spaced (x ∷ xs) (y ∷ ys) t u size p q e =
    let bytes : List ℕ = spaced (x ∷ xs) ++ codes " s" ++ t in
    let here = begins_next x xs t bytes (All-head (λ a. a < 10 ^ 9) x xs p) refl in
    let there = begins_next y ys u bytes (All-head (λ a. a < 10 ^ 9) y ys q) e in
    let same = one_count bytes x y (spaced xs ++ codes " s" ++ t) (spaced ys ++ codes " s" ++ u) here there in
    ap (λ z. z ∷ xs) same.0 ∙ ap (λ zs. y ∷ zs) (same_spaced xs ys t u (omega arith) (All-tail (λ a. a < 10 ^ 9) x xs p) (All-tail (λ a. a < 10 ^ 9) y ys q) same.1)

-- a line gives one list of counts
pub one_period : (line : List ℕ) (period fed : ℕ) (xs ys : List ℕ) → BeginsPeriod line period fed xs → BeginsPeriod line period fed ys → xs ≡ ys
one_period line period fed xs ys a b =
    same_spaced xs ys a.rest b.rest (a.count ∙ sym b.count) a.digits b.digits
    (append_cancel_left (front period) (spaced xs ++ codes " s" ++ a.rest) (spaced ys ++ codes " s" ++ b.rest) (sym (regrouped period xs a.rest) ∙ sym a.text ∙ b.text ∙ regrouped period ys b.rest))

-- a space stands before the stages, or before the queues
stages_apart : (stages queues : List ℕ) → EndsField (spaced stages ++ codes " q" ++ spaced queues)
stages_apart [] queues = refl
stages_apart (stage ∷ stages) queues = refl

-- the line of a period begins with its counts
pub period_begins : (period : ℕ) (counts stages queues : List ℕ) → All (λ a. a < 10 ^ 9) counts → BeginsPeriod (period_line period counts stages queues) period (length counts) counts
period_begins period counts stages queues small =
    let head : List ℕ = front period ++ spaced counts ++ codes " s" in
    record {
      count = refl;
      digits = small;
      rest = spaced stages ++ codes " q" ++ spaced queues;
      whole = stages_apart stages queues;
      text = ap (λ xs. xs ++ spaced queues) (append_assoc head (spaced stages) (codes " q")) ∙ append_assoc head (spaced stages ++ codes " q") (spaced queues);
    }
