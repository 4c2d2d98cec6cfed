-- What the lists of the code give is the standing after the period.
use Rattle.std.proofs.Common.{◌≡◌, ℕ, ◌+◌, ◌-◌, ◌*◌, ◌%◌, ◌^◌, ◌≤◌, ◌<◌, mul-le-mul, List, length, get_or, map, sum_by, arith, sym, ◌∙◌, ap, ap₂, subst}
use Rattle.std.specs.List.{AllByRecursion, All}
use Rattle.std.proofs.lemmas.List.Elements.{All-from_get_or}
use Rattle.mp_model.specs.Network.{Network, movement_numbers, link_numbers, link_at, no_link, numbers_to, entry}
use Rattle.mp_model.specs.NetworkRules.{IsInRange}
use Rattle.mp_model.specs.Arrivals.{arrivals_of}
use Rattle.mp_model.specs.Step.{departing_by}
use Rattle.mp_laws.proofs.Lists.{at_index, at_in, at_range, each_in}
use Rattle.mp_feed.specs.Fill.{Fill}
use Rattle.mp_step.specs.BucketLevels.{level_then}
use Rattle.mp_step.specs.OpenStep.{closed_by}
use Rattle.mp_step.specs.Standing.{Standing, IsOn, moved, received}
use Rattle.mp_step.proofs.Following.{map-map}

abbrev pub standing : ℕ → List (List ℕ) → List Fill → List ℕ → List ℕ → List ℕ → ℕ → ℕ → Standing
standing period splits buckets queues phases levels total_in total_out = record { queues = queues; phases = phases; levels = levels; period = period; total_in = total_in; total_out = total_out; splits = splits; buckets = buckets }

pub standing_same : (period : ℕ) (splits : List (List ℕ)) (buckets : List Fill) (q q' ph ph' ls ls' : List ℕ) (i i' o o' : ℕ) → q ≡ q' → ph ≡ ph' → ls ≡ ls' → i ≡ i' → o ≡ o' →
    standing period splits buckets q ph ls i o ≡ standing period splits buckets q' ph' ls' i' o'
standing_same period splits buckets q q' ph ph' ls ls' i i' o o' a b c d e =
    ap₂ (λ q ph. standing period splits buckets q ph ls i o) a b ∙ ap₂ (λ ls i. standing period splits buckets q' ph' ls i o) c d ∙ ap (standing period splits buckets q' ph' ls' i') e

-- the lists and sums of a period make the standing after it
pub closed_is : (net : Network) (st : Standing) (y : ℕ → ℕ) (counts ph q nq np nl ls : List ℕ) (i o : ℕ) → ph ≡ st.phases → q ≡ st.queues → ls ≡ st.levels →
    nq ≡ map (moved net counts (entry ph) (entry q) y) (movement_numbers net) → np ≡ map (λ l. (entry ph l + received net counts y l) % net.shares) (link_numbers net) →
    nl ≡ map (level_then net (entry ls) counts) (link_numbers net) →
    i ≡ sum_by (arrivals_of net counts) (link_numbers net) → o ≡ departing_by net y →
    standing (st.period + 1) st.splits st.buckets nq np nl (st.total_in + i) (st.total_out + o) ≡ closed_by net st y counts
closed_is net st y counts ph q nq np nl ls i o phs qs lss nqs nps nls is os =
    standing_same (st.period + 1) st.splits st.buckets nq _ np _ nl _ (st.total_in + i) _ (st.total_out + o) _
    (nqs ∙ ap₂ (λ a b. map (moved net counts (entry a) (entry b) y) (movement_numbers net)) phs qs)
    (nps ∙ ap (λ a. map (λ l. (entry a l + received net counts y l) % net.shares) (link_numbers net)) phs ∙ sym (map-map (λ n. n % net.shares) (λ l. entry st.phases l + received net counts y l) (link_numbers net)))
    (nls ∙ ap (λ ls. map (level_then net (entry ls) counts) (link_numbers net)) lss)
    (ap (λ n. st.total_in + n) is) (ap (λ n. st.total_out + n) os)

-- a fact of each entry by its number is one of each element
pub all_by_numbers : (P : ℕ → Type 0) (xs : List ℕ) (n : ℕ) → length xs ≡ n → AllByRecursion (λ l. P (entry xs l)) (numbers_to n) → All P xs
all_by_numbers P xs n size h = All-from_get_or P xs 0 (λ i lt. let back : (i + 1) - 1 ≡ i = omega arith in subst (λ t. P (get_or xs t 0)) back (at_range (λ l. P (entry xs l)) 1 n (i + 1) (omega arith) (omega arith) h))

-- the phases of a run fit
pub phases_fit : (net : Network) → IsInRange net → (st : Standing) → IsOn net st → All (λ phase. phase < 2 ^ 32) st.phases
phases_fit net range st on = all_by_numbers (λ phase. phase < 2 ^ 32) st.phases (length net.links) on.phases
    (each_in (λ l. entry st.phases l < 2 ^ 32) (link_numbers net) (λ l h. omega (arith, range.shares, at_in (λ l. entry st.phases l < net.shares) l (link_numbers net) h on.phase_in)))

-- and its levels
pub levels_fit : (net : Network) → IsInRange net → (st : Standing) → IsOn net st → All (λ level. level < 2 ^ 64) st.levels
levels_fit net range st on = all_by_numbers (λ level. level < 2 ^ 64) st.levels (length net.links) on.levels
    (each_in (λ l. entry st.levels l < 2 ^ 64) (link_numbers net) (λ l h.
    let most = mul-le-mul range.per (at_index (λ link. link.burst ≤ 10000) no_link net.links (l - 1) range.bursts (omega arith)) in
    omega (arith, most, at_in (λ l. entry st.levels l ≤ net.per * (link_at net l).burst) l (link_numbers net) h on.within)))
