-- The arrivals of a demonstration, drawn word by word from a generator and kept to the buckets.
use Rattle.std.specs.Prelude.{◌≡◌, ◌==◌, ◌≤◌, ℕ, ◌%◌, min, if◌then◌else◌, List, [], ◌∷◌, ◌++◌, length}
use Rattle.rand_core.specs.Pcg32Seed.{pcg32_seed}
use Rattle.rand_pcg.specs.Lcg.{Lcg}
use Rattle.rand_pcg.specs.Pcg.{pcg32, pcg32_of_seed}
use Rattle.mp_model.specs.Network.{Network, link_at, fed}
use Rattle.mp_model.specs.Arrivals.{KeepsTo, counts_of, IsPermitted}
use Rattle.mp_gen.specs.DemoNetwork.{demo_network}

-- This is the generator that is seeded with the number n.
abbrev pub seeded : ℕ → Lcg
seeded n = pcg32_of_seed (pcg32_seed 16 n)

-- The wish of link l by a word is the word modulo 5 at link 1, and modulo 3 at every other link.
abbrev pub wish : ℕ → ℕ → ℕ
wish l word = word % (if l == 1 then 5 else 3)

-- After these counts of a link, the bucket accepts at most so many: with that count the link still keeps to its bucket, and with no greater one.
pub record IsMost (per burst rate : ℕ) (counts : List ℕ) (most : ℕ) : Type 0 where
  pub keeps : KeepsTo per burst rate (counts ++ most ∷ [])
  pub greatest : (count : ℕ) → KeepsTo per burst rate (counts ++ count ∷ []) → count ≤ most

-- After the arrivals A so many arrive on link l by a word: the lesser of the wish and the greatest count that the bucket of the link accepts.
pub record IsArrival (net : Network) (A : List (List ℕ)) (l word count : ℕ) : Type 0 where
  pub most : ℕ
  pub is_most : IsMost net.per (link_at net l).burst (link_at net l).rate (counts_of net A l) most
  pub lesser : count ≡ min (wish l word) most

-- After the arrivals A these are the counts of some links in the next period, where the generator gives one word for each of them in order, and what it is left as.
abbrev pub IsDrawn : Network → List (List ℕ) → List ℕ → Lcg → List ℕ → Lcg → Type 0
IsDrawn net A [] words [] left = left ≡ words
IsDrawn net A (l ∷ ls) words (count ∷ counts) left = IsArrival net A l (pcg32 words).0 count × IsDrawn net A ls (pcg32 words).1 counts left
IsDrawn net A [] words (count ∷ counts) left = ⊥
IsDrawn net A (l ∷ ls) words [] left = ⊥

-- After the arrivals A these are the arrivals of the next periods, each with a count per fed link that is drawn from what the period before left of the generator, and what it is left as.
abbrev pub AreDrawn : Network → List (List ℕ) → Lcg → List (List ℕ) → Lcg → Type 0
AreDrawn net A words [] left = left ≡ words
AreDrawn net A words (counts ∷ more) left = (next : Lcg) × IsDrawn net A (fed net) words counts next × AreDrawn net (A ++ counts ∷ []) next more left

-- These are the first arrivals of the demonstration n: drawn from the opening on by the generator that is seeded with n.
abbrev pub IsDemonstration : ℕ → List (List ℕ) → Type 0
IsDemonstration n A = (left : Lcg) × AreDrawn (demo_network n) [] (seeded n) A left

-- The arrivals of a demonstration are permitted.
abbrev pub DemoPermittedLaw : Type 0
DemoPermittedLaw = (n : ℕ) (A : List (List ℕ)) → IsDemonstration n A → IsPermitted (demo_network n) A

-- A demonstration has one list of arrivals for so many periods.
abbrev pub OneDemoLaw : Type 0
OneDemoLaw = (n : ℕ) (A B : List (List ℕ)) → IsDemonstration n A → IsDemonstration n B → length A ≡ length B → A ≡ B
