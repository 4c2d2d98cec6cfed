-- How long the lists of numbers of a line are.
use Rattle.std.proofs.Common.{◌≡◌, ◌≤◌, ◌<◌, ◌^◌, ℕ, ℤ, pos, ◌+◌, ◌*◌, List, [], ◌∷◌, ◌++◌, length, map, get_or, refl, ◌∙◌, ap, arith}
use Rattle.std.specs.List.{flat_map, All}
use Rattle.std.specs.Fmt.{decimal, signed_decimal}
use Rattle.std.proofs.lemmas.List.{length-append, length-map}
use Rattle.std.proofs.lemmas.List.Elements.{All-head, All-tail}
use Rattle.std.proofs.lemmas.Fmt.{length-decimal-le_wide}
use Rattle.mp_model.specs.Log.{spaced, period_line, end_line_of}
use Rattle.mp_model.specs.declared.limits.TheConstants.{MOST_LOG_LINE_BYTES}
use Rattle.mp_log.proofs.DigitLemmas.{digits_few}
use Rattle.mp_log.specs.Fitting.{FitsLine}

pub spaced_signed : (ns : List ℕ) → flat_map (λ n. 32 ∷ signed_decimal n) (map pos ns) ≡ spaced ns
spaced_signed [] = refl
spaced_signed (n ∷ ns) = ap (λ xs. (32 ∷ decimal n) ++ xs) (spaced_signed ns)

-- numbers of at most k digits
pub spaced_short : (k : ℕ) (ns : List ℕ) → All (λ n. length (decimal n) ≤ k) ns → length (spaced ns) ≤ length ns * (k + 1)
spaced_short k [] all = omega arith
spaced_short k (n ∷ ns) all =
    omega (arith, length-append (32 ∷ decimal n) (spaced ns), All-head (λ m. length (decimal m) ≤ k) n ns all, spaced_short k ns (All-tail (λ m. length (decimal m) ≤ k) n ns all))

nine_digits : (n : ℕ) → n < 10 ^ 9 → length (decimal n) ≤ 9
nine_digits n low = length-decimal-le_wide 9 n (omega arith) low (omega arith)

two_digits : (n : ℕ) → n ≤ 16 → length (decimal n) ≤ 2
two_digits n low = length-decimal-le_wide 2 n (omega arith) (omega arith) (omega arith)

wide_digits : (n : ℕ) → n ≤ 2 ^ 85 → length (decimal n) ≤ 26
wide_digits n low = length-decimal-le_wide 26 n (omega arith) (omega arith) (omega arith)

-- what a line that fits takes of the buffer
pub record IsShort (arrivals stages : List ℕ) (queues : List ℤ) : Type 0 where
  pub arrivals_short : length (spaced arrivals) ≤ 1280
  pub stages_short : length (spaced stages) ≤ 192
  pub queues_short : length (flat_map (λ q. 32 ∷ signed_decimal q) queues) ≤ 13824

pub short : (period : ℕ) (arrivals stages : List ℕ) (queues : List ℤ) → FitsLine period arrivals stages queues → IsShort arrivals stages queues
short period arrivals stages queues f = record {
  arrivals_short = let h = spaced_short 9 arrivals (λ k d low. nine_digits (get_or arrivals k d) (f.arrivals_in k d low)) in let few = f.few_arrivals in omega arith;
  stages_short = let h = spaced_short 2 stages (λ k d low. two_digits (get_or stages k d) (f.stages_in k d low)) in let few = f.few_stages in omega arith;
  queues_short =
      let h = spaced_short 26 f.counts (λ k d low. wide_digits (get_or f.counts k d) (f.queues_in k d low)) in
      let size = ap length f.none_negative in
      let few = f.few_queues in
      let text = ap (λ qs. length (flat_map (λ q. 32 ∷ signed_decimal q) qs)) f.none_negative ∙ ap length (spaced_signed f.counts) in
      omega (arith, length-map f.counts pos);
}

-- the line of a period fits a buffer
pub period_short : (period : ℕ) (arrivals stages queues : List ℕ) → FitsLine period arrivals stages (map pos queues) → length (period_line period arrivals stages queues) < MOST_LOG_LINE_BYTES
period_short period arrivals stages queues f =
    let s = short period arrivals stages (map pos queues) f in
    let queues_are = ap (length {A = ℕ}) (spaced_signed queues) in
    let number = digits_few period in
    simp length-append (omega (arith, s.arrivals_short, s.stages_short, s.queues_short))

pub end_short : (period total_in total_out queued : ℕ) → length (end_line_of period total_in total_out queued) < MOST_LOG_LINE_BYTES
end_short period total_in total_out queued =
    let p = digits_few period in
    let i = digits_few total_in in
    let o = digits_few total_out in
    let q = digits_few queued in
    simp length-append (omega arith)
