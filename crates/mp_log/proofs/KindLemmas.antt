-- What a line is when its counts and its words are known.
use Rattle.std.proofs.Common.{◌≡◌, ◌≤◌, ◌<◌, ℕ, List, [], ◌∷◌, Bool, true, false, cond, length, take, drop, refl, sym, ◌∙◌, ap, subst, Some, None, arith}
use Rattle.std.specs.Prelude.{◌==◌, ◌&&◌, nat_le, codes}
use Rattle.std.specs.declared.option.Option.{Option}
use Rattle.std.specs.List.{slice_split, position, position_or_len, list_any}
use Rattle.std.proofs.lemmas.List.Splits.{length-slice_split}
use Rattle.std.proofs.lemmas.Bool.Decides.{nat_tests}
use Rattle.mp_model.specs.Network.{Network, fed, has, numbers_to, junction_numbers, link_numbers}
use Rattle.mp_model.specs.Stream.{LineKind, read_counts, hear_kind, decide_kind, words_kind, counts_kind, plain_kind, is_skipped}
use Rattle.mp_model.specs.Stream.LineKind.{hear_line, decide_line, bad_line, skipped_line}
use Rattle.mp_laws.proofs.Lists.{all_in, at_range, in_numbers}
use Rattle.mp_log.specs.Kinds.{number_to}

-- a number is there where it is from 1 to their number
pub numbered : (m n : ℕ) → 1 ≤ n → n ≤ m → has (numbers_to m) n ≡ true
numbered m n some most = at_range (λ k. has (numbers_to m) k ≡ true) 1 m n some (omega arith) (all_in (numbers_to m))

has_is : (m n : ℕ) → has (numbers_to m) n ≡ (nat_le 1 n && nat_le n m)
has_is m n = go (has (numbers_to m) n) refl (nat_le 1 n && nat_le n m) refl where
  go : (b : Bool) → has (numbers_to m) n ≡ b → (c : Bool) → (nat_le 1 n && nat_le n m) ≡ c → has (numbers_to m) n ≡ (nat_le 1 n && nat_le n m)
  go true is true test = is ∙ sym test
  go false is false test = is ∙ sym test
  go true is false test = absurd (let within = in_numbers m n is in grind (arith, nat_tests))
  go false is true test = absurd (let there = numbered m n (grind (arith, nat_tests)) (grind (arith, nat_tests)) in cc)

-- the kind of an event whose numbers were looked at
abbrev pub decided : Option ℕ → LineKind
decided None = bad_line
decided (Some j) = decide_line j

abbrev pub heard : Option ℕ → Option ℕ → LineKind
heard None l = bad_line
heard (Some j) None = bad_line
heard (Some j) (Some l) = hear_line j l

pub heard_none : (j : Option ℕ) → heard j None ≡ bad_line
heard_none None = refl
heard_none (Some j) = refl

pub decides : (net : Network) (j : Option ℕ) → decide_kind net j ≡ decided (number_to (length net.junctions) j)
decides net None = refl
decides net (Some j) = ap (λ b. cond b (decide_line j) bad_line) (has_is (length net.junctions) j) ∙ go (nat_le 1 j && nat_le j (length net.junctions)) where
  go : (b : Bool) → cond b (decide_line j) bad_line ≡ decided (cond b (Some j) None)
  go true = refl
  go false = refl

pub hears : (net : Network) (j l : Option ℕ) → hear_kind net j l ≡ heard (number_to (length net.junctions) j) (number_to (length net.links) l)
hears net None l = refl
hears net (Some j) None = go (nat_le 1 j && nat_le j (length net.junctions)) where
  go : (b : Bool) → bad_line ≡ heard (cond b (Some j) None) None
  go true = refl
  go false = refl
hears net (Some j) (Some l) =
    ap (λ b. cond (b && has (link_numbers net) l) (hear_line j l) bad_line) (has_is (length net.junctions) j)
    ∙ ap (λ b. cond ((nat_le 1 j && nat_le j (length net.junctions)) && b) (hear_line j l) bad_line) (has_is (length net.links) l)
    ∙ go (nat_le 1 j && nat_le j (length net.junctions)) (nat_le 1 l && nat_le l (length net.links)) where
      go : (b c : Bool) → cond (b && c) (hear_line j l) bad_line ≡ heard (cond b (Some j) None) (cond c (Some l) None)
      go true true = refl
      go true false = refl
      go false c = refl

-- four words or more are bad
pub many_words : (net : Network) (line word junction link more : List ℕ) → slice_split (λ b. b == 32) line ≡ word ∷ junction ∷ link ∷ slice_split (λ b. b == 32) more → words_kind net (slice_split (λ b. b == 32) line) ≡ bad_line
many_words net line word junction link more are = ap (words_kind net) are ∙ go (slice_split (λ b. b == 32) more) (omega (arith, length-slice_split (λ b. b == 32) more)) where
  go : (words : List (List ℕ)) → 1 ≤ length words → words_kind net (word ∷ junction ∷ link ∷ words) ≡ bad_line
  go [] some = absurd (omega arith)
  go (w ∷ ws) some = refl

-- a line that is neither skipped nor one of arrivals is what its words say
pub other_kind : (net : Network) (line : List ℕ) → is_skipped line ≡ false → read_counts (length (fed net)) line ≡ None → plain_kind net line ≡ words_kind net (slice_split (λ b. b == 32) line)
other_kind net line not none =
    ap (λ b. cond b skipped_line (counts_kind net line (read_counts (length (fed net)) line))) not ∙ ap (counts_kind net line) none
