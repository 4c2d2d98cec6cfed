-- How long an answer is.
use Rattle.std.proofs.Common.{◌≡◌, ◌<◌, ◌≤◌, ◌^◌, ℕ, ℤ, List, [], ◌∷◌, length, get_or, refl, sym, ◌∙◌, ap, arith}
use Rattle.std.specs.List.{flat_map, All, AllByRecursion}
use Rattle.std.specs.Fmt.{decimal, signed_decimal}
use Rattle.std.specs.Prelude.{unsigned_abs}
use Rattle.std.proofs.lemmas.List.{length-map}
use Rattle.std.proofs.lemmas.List.Elements.{All-cons}
use Rattle.std.proofs.lemmas.Fmt.{length-decimal-le_wide}
use Rattle.mp_model.specs.Network.{Network, Junction}
use Rattle.mp_model.specs.NetworkRules.{IsInRange}
use Rattle.mp_model.specs.Step.{AreStages}
use Rattle.mp_model.specs.Log.{spaced}
use Rattle.mp_log.proofs.LengthLemmas.{spaced_signed, spaced_short}
use Rattle.mp_press.specs.Queues.{naturals, AreCounts}
use Rattle.mp_control.specs.Input.{AreSmall}
use Rattle.mp_control.specs.Answers.{FitsAnswer}

-- signed counts are written as their numbers
pub counts_text : (counts : List ℤ) → AreSmall counts → flat_map (λ q. 32 ∷ signed_decimal q) counts ≡ spaced (naturals counts)
counts_text counts small = ap (λ zs. flat_map (λ q. 32 ∷ signed_decimal q) zs) (sym small.none_negative) ∙ spaced_signed (naturals counts)

nine_digits : (n : ℕ) → n < 10 ^ 9 → length (decimal n) ≤ 9
nine_digits n low = length-decimal-le_wide 9 n (omega arith) low (omega arith)

two_digits : (n : ℕ) → n ≤ 16 → length (decimal n) ≤ 2
two_digits n low = length-decimal-le_wide 2 n (omega arith) (omega arith) (omega arith)

-- what an answer takes of the buffer
pub record IsShort (counts : List ℤ) (stages : List ℕ) : Type 0 where
  pub counts_short : length (flat_map (λ q. 32 ∷ signed_decimal q) counts) ≤ 5120
  pub stages_short : length (spaced stages) ≤ 192

pub short : (counts : List ℤ) (stages : List ℕ) → FitsAnswer counts stages → IsShort counts stages
short counts stages f = record {
  counts_short =
      let h = spaced_short 9 (naturals counts) (λ k d low. nine_digits (get_or (naturals counts) k d) (f.small.digits k d low)) in
      let few = f.few_counts in
      omega (arith, length-map counts unsigned_abs, ap (length {A = ℕ}) (counts_text counts f.small));
  stages_short = let h = spaced_short 2 stages (λ k d low. two_digits (get_or stages k d) (f.stages_in k d low)) in let few = f.few_stages in omega arith;
}

-- stages are as many as the junctions, and none is above the most stages of a junction
stages_count : (js : List Junction) (ss : List ℕ) → AreStages js ss → length ss ≡ length js
stages_count [] [] are = refl
stages_count (j ∷ js) (s ∷ ss) are = let rest = stages_count js ss are.1 in omega arith
stages_count [] (s ∷ ss) are = absurd are
stages_count (j ∷ js) [] are = absurd are

stages_small : (js : List Junction) (ss : List ℕ) → AreStages js ss → AllByRecursion (λ j. length j.stages ≤ 16) js → All (λ s. s ≤ 16) ss
stages_small [] [] are most = λ k d low. absurd (omega arith)
stages_small (j ∷ js) (s ∷ ss) are most = All-cons (λ m. m ≤ 16) s ss (omega (arith, are.0, most.0)) (stages_small js ss are.1 most.1)
stages_small [] (s ∷ ss) are most = absurd are
stages_small (j ∷ js) [] are most = absurd are

-- an answer to the counts of a network fits
pub answer_fits : (net : Network) (counts : List ℤ) (stages : List ℕ) → IsInRange net → AreSmall counts → length counts ≡ length net.movements → AreStages net.junctions stages → FitsAnswer counts stages
answer_fits net counts stages range small size are = record {
  small = small;
  few_counts = let movements = range.movements in omega (arith, movements.1);
  few_stages = let junctions = range.junctions in omega (arith, stages_count net.junctions stages are, junctions.1);
  stages_in = stages_small net.junctions stages are range.stages;
}

-- small counts can be weighed
pub are_counts : (counts : List ℤ) → AreSmall counts → AreCounts counts
are_counts counts small = record {
  none_negative = small.none_negative;
  few = λ k d low. let h = small.digits k d low in omega arith;
}
