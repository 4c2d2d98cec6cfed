-- The bound of a run whose junctions decide by old reports.
use Rattle.std.proofs.Common.{◌≡◌, ◌==◌, ℕ, zero, suc, ◌+◌, ◌-◌, ◌*◌, ◌≤◌, Bool, true, false, cond, List, [], ◌∷◌, length, get_or, map, zip, pos, arith, refl, sym, ◌∙◌, ap, ap₂, subst, mul-le-mul_right, zero-le}
use Rattle.std.specs.List.{AllByRecursion}
use Rattle.std.proofs.lemmas.List.{length-map}
use Rattle.mp_model.specs.Arrivals.{arrivals_of, next_level, count_in, IsPermitted, StaysWithin}
use Rattle.mp_model.specs.Bounds.{AreBounds, IsRoot, greatest_change, greatest_drift, queue_bound}
use Rattle.mp_model.specs.Certificate.{Cert, Certifies}
use Rattle.mp_model.specs.DriftValue.{drift_value}
use Rattle.mp_model.specs.Network.{Network, Junction, movement_numbers, link_numbers, link_at, numbers_to, from_of, flow_of, downstream, share_of, has, stage_at, targets, entry}
use Rattle.mp_model.specs.NetworkRules.{IsNetwork, HasStages}
use Rattle.mp_model.specs.Pressure.{pressure, pressure_by, greatest_stage, positive_weight, positive_weight_by}
use Rattle.mp_model.specs.Reports.{Period, History, state_ago, reported_queue, reported_stage, reported_stages, advance_by, first_history, reported_run_from, reported_run, IsTimelyAge, AllTimely, ages_of_now, prompt_period}
use Rattle.mp_model.specs.Run.{run_from}
use Rattle.mp_model.specs.Slack.{IsSlack}
use Rattle.mp_model.specs.Step.{State, queue, step}
use Rattle.mp_laws.specs.Periods.{IsWithin, phase_of}
use Rattle.mp_laws.specs.Reports.{DifferBy, IsPrompt}
use Rattle.mp_laws.specs.Stages.{AllNearlyGreatest}
use Rattle.mp_laws.proofs.Bounds.{step_is, top_kept, bounded_at, opening_value, Stays, BoundedBy}
use Rattle.mp_laws.proofs.Bridge.{to_plain, plain_holds}
use Rattle.mp_laws.proofs.Changes.{changes, near_by}
use Rattle.mp_laws.proofs.FirstGreatest.{first_agree}
use Rattle.mp_laws.proofs.Greatest.{greatest_stage_by_is}
use Rattle.mp_laws.proofs.Lists.{AllOf-map, all_of, at_in, each_in, numbered}
use Rattle.mp_laws.proofs.Permitted.{stays}
use Rattle.mp_laws.proofs.PlainCertificate.{PlainCert, Holds}
use Rattle.mp_laws.proofs.Sums.{sum_by-same}
use Rattle.mp_laws.proofs.Tied.{greatest_drift_same, excess_is}

-- from each state of a run to the next no queue changes by more than its greatest change
abbrev pub Linked : Network → State → List State → Type 0
Linked net now [] = Unit {0}
Linked net now (before ∷ earlier) = AllByRecursion (λ k. DifferBy (greatest_change net k) (queue before k) (queue now k)) (movement_numbers net) × Linked net before earlier

differ_more : (J n x y z : ℕ) → DifferBy J y x → DifferBy (n * J) y z → DifferBy (suc n * J) x z
differ_more J n x y z a b = let u = a.up in let d = a.down in let v = b.up in let e = b.down in record { up = omega arith; down = omega arith }

-- so a queue some periods ago differs by at most so many greatest changes
pub ago : (net : Network) (default now : State) (earlier : List State) → Linked net now earlier → (age k : ℕ) → has (movement_numbers net) k ≡ true → age ≤ length earlier →
    DifferBy (age * greatest_change net k) (queue now k) (queue (get_or (now ∷ earlier) age default) k)
ago net default now earlier linked zero k in' h = record { up = omega arith; down = omega arith }
ago net default now [] linked (suc n) k in' h = absurd (omega arith)
ago net default now (before ∷ earlier) linked (suc n) k in' h =
    differ_more (greatest_change net k) n (queue now k) (queue before k) (queue (get_or (before ∷ earlier) n default) k)
    (at_in (λ k. DifferBy (greatest_change net k) (queue before k) (queue now k)) k (movement_numbers net) in' linked.0)
    (ago net default before earlier linked.1 n k in' (omega arith))

one_or_other : (P : ℕ → Type 0) (b : Bool) (x y : ℕ) → P x → P y → P (cond b x y)
one_or_other P true x y p q = p
one_or_other P false x y p q = q

-- a fact of each age, and of 0, holds of the age of each link
pub age_is : (P : ℕ → Type 0) → P 0 → (ls ages : List ℕ) (l : ℕ) → AllByRecursion P ages → P (count_in ls ages l)
age_is P z [] ages l h = z
age_is P z (f ∷ fs) [] l h = z
age_is P z (f ∷ fs) (a ∷ ages) l h = one_or_other P (f == l) a (count_in fs ages l) h.0 (age_is P z fs ages l h.1)

differ_wider : (d e x y : ℕ) → d ≤ e → DifferBy d x y → DifferBy e x y
differ_wider d e x y le h = let u = h.up in let v = h.down in record { up = omega arith; down = omega arith }

-- the reported queues are near those of now
pub reports_near : (net : Network) (history : History) → Linked net history.now history.earlier → (j : Junction) (ages : List ℕ) → AllByRecursion (IsTimelyAge net (length history.earlier)) ages →
    AllByRecursion (λ k. DifferBy (net.delay * greatest_change net k) (queue history.now k) (reported_queue net history j ages k)) (movement_numbers net)
reports_near net history linked j ages timely = each_in _ (movement_numbers net) (λ k in'.
    let age = count_in (targets net j) ages (from_of net k) in
    let is = age_is (IsTimelyAge net (length history.earlier)) (zero-le, zero-le) (targets net j) ages (from_of net k) timely in
    differ_wider (age * greatest_change net k) (net.delay * greatest_change net k) (queue history.now k) (reported_queue net history j ages k)
    (mul-le-mul_right (greatest_change net k) is.0) (ago net history.now history.now history.earlier linked age k in' is.1))

-- so the stages are nearly greatest
stages_near : (net : Network) → IsNetwork net → (history : History) → Linked net history.now history.earlier → (js : List Junction) (ages : List (List ℕ)) → AllByRecursion (HasStages net) js → AllByRecursion (λ j. 1 ≤ length j.stages) js →
    length ages ≡ length js → AllByRecursion (AllByRecursion (IsTimelyAge net (length history.earlier))) ages →
    AllNearlyGreatest net (queue history.now) js (map (λ p. reported_stage net history p.0 p.1) (zip js ages))
stages_near net ok history linked [] ages has' some same timely = tt
stages_near net ok history linked (j ∷ js) [] has' some same timely = absurd (omega arith)
stages_near net ok history linked (j ∷ js) (a ∷ ages) has' some same timely = (
  near_by net ok (queue history.now) (reported_queue net history j a) (reports_near net history linked j a timely.0) j has'.0 (reported_stage net history j a)
      (greatest_stage_by_is net (queue history.now) (reported_queue net history j a) j some.0),
  stages_near net ok history linked js ages has'.1 some.1 (omega arith) timely.1,
)

module _ (net : Network) (ok : IsNetwork net) (cert : PlainCert) (holds : Holds net cert) (some : 1 ≤ cert.e) where
  reported_bounded : (root : ℕ) → IsRoot root (greatest_drift net cert.e cert.d) → (periods : List Period) (history : History) (level : ℕ → ℕ) → IsWithin net level → Linked net history.now history.earlier →
      drift_value net (queue history.now) (phase_of net history.now) level ≤ greatest_drift net cert.e cert.d → AllTimely net (length history.earlier) periods →
      Stays net level (map (λ period. period.counts) periods) → AllByRecursion (BoundedBy net root) (reported_run_from net history periods)
  reported_bounded root is [] history level within linked top timely stays = (bounded_at net ok cert holds some root is history.now level within top, tt)
  reported_bounded root is (period ∷ periods) history level within linked top timely stays =
      let counts = period.counts in
      let stages = reported_stages net history period.ages in
      let next : ℕ → ℕ = λ l. next_level net.per (link_at net l).rate (level l) (arrivals_of net counts l) in
      let now = step net stages (arrivals_of net counts) history.now in
      let moves = step_is net ok stages counts history.now level within in
      let within' = AllOf-map (λ l. StaysWithin net.per (link_at net l).burst (link_at net l).rate (level l) (map (λ counts. arrivals_of net counts l) (map (λ period. period.counts) (period ∷ periods)))) (λ l. next l ≤ net.per * (link_at net l).burst) (λ l s. s.0) (link_numbers net) stays in (
        bounded_at net ok cert holds some root is history.now level within top,
        reported_bounded root is periods (advance_by net period history) next within'
            (changes net ok stages (arrivals_of net counts) (queue history.now) (phase_of net history.now) level (queue now) (phase_of net now) next moves within', linked)
            (top_kept net ok cert holds some stages (arrivals_of net counts) (queue history.now) (phase_of net history.now) level (queue now) (phase_of net now) next
            (stages_near net ok history linked net.junctions period.ages ok.stages ok.some_stage timely.0.junctions timely.0.timely) moves within top)
            (subst (λ n. AllTimely net n periods) (omega arith) timely.1)
            (AllOf-map (λ l. StaysWithin net.per (link_at net l).burst (link_at net l).rate (level l) (map (λ counts. arrivals_of net counts l) (map (λ period. period.counts) (period ∷ periods)))) (λ l. StaysWithin net.per (link_at net l).burst (link_at net l).rate (next l) (map (λ counts. arrivals_of net counts l) (map (λ period. period.counts) periods))) (λ l s. s.1) (link_numbers net) stays),
      )

-- the bound
pub bound_of_reported : (net : Network) → IsNetwork net → (cert : Cert) → Certifies net cert → (E D : ℕ) → IsSlack cert E D → (bounds : List ℕ) → AreBounds net E D bounds →
    (periods : List Period) → IsPermitted net (map (λ period. period.counts) periods) → AllTimely net 0 periods →
    AllByRecursion (λ state. AllByRecursion (λ k. queue state k ≤ entry bounds k) (movement_numbers net)) (reported_run net periods)
bound_of_reported net ok cert c E D slack bounds are periods permitted timely =
    let e = excess_is cert.e c.excess in
    let all = reported_bounded net ok (to_plain cert) (plain_holds net ok cert c.rules e.0) e.1 are.root (subst (IsRoot are.root) (greatest_drift_same net ok cert c E D slack) are.is_root) periods (first_history net) (λ l. 0)
    (all_of (λ l. 0 ≤ net.per * (link_at net l).burst) (λ l. zero-le) (link_numbers net)) tt (opening_value net ok _ _) timely (stays net (map (λ period. period.counts) periods) permitted) in
    AllOf-map (BoundedBy net are.root) (λ state. AllByRecursion (λ k. queue state k ≤ entry bounds k) (movement_numbers net))
    (λ state h. each_in _ (movement_numbers net) (λ k i.
    let b : entry bounds k ≡ queue_bound net are.root k = ap (λ bs. entry bs k) are.are ∙ numbered (queue_bound net are.root) (length net.movements) k i in
    subst (λ n. queue state k ≤ n) (sym b) (at_in (λ k. queue state k ≤ queue_bound net are.root k) k (movement_numbers net) i h)))
    (reported_run net periods) all

-- ages of 0 read the queues of now
no_age : (ls : List ℕ) (l : ℕ) → count_in ls (map (λ l. 0) ls) l ≡ 0
no_age ls l = age_is (λ (n : ℕ). n ≡ 0) refl ls (map (λ l. 0) ls) l (zeros ls)
  where
    zeros : (ls : List ℕ) → AllByRecursion (λ (n : ℕ). n ≡ 0) (map (λ l. 0) ls)
    zeros [] = tt
    zeros (l ∷ ls) = (refl, zeros ls)

now_reported : (net : Network) (history : History) (j : Junction) (k : ℕ) → reported_queue net history j (ages_of_now net j) k ≡ queue history.now k
now_reported net history j k = ap (λ age. queue (state_ago history age) k) (no_age (targets net j) (from_of net k))

prompt_stage : (net : Network) (history : History) (j : Junction) → reported_stage net history j (ages_of_now net j) ≡ greatest_stage net (queue history.now) j
prompt_stage net history j =
    let q = queue history.now in
    let r = reported_queue net history j (ages_of_now net j) in
    first_agree (λ s. pos (pressure_by net q r (stage_at j s))) (λ s. pos (pressure net q (stage_at j s))) (numbers_to (length j.stages))
    (all_of (λ s. pos (pressure_by net q r (stage_at j s)) ≡ pos (pressure net q (stage_at j s)))
    (λ s. ap pos (sum_by-same (λ k. flow_of net k * positive_weight_by net q r k) (λ k. flow_of net k * positive_weight net q k)
    (λ k. ap (λ n. flow_of net k * (net.shares * q k - n)) (sum_by-same (λ i. share_of net i * r i) (λ i. share_of net i * q i) (λ i. ap (λ n. share_of net i * n) (now_reported net history j i)) (downstream net k))) (stage_at j s))) (numbers_to (length j.stages)))

prompt_stages : (net : Network) (history : History) (js : List Junction) → map (λ p. reported_stage net history p.0 p.1) (zip js (map (ages_of_now net) js)) ≡ map (greatest_stage net (queue history.now)) js
prompt_stages net history [] = refl
prompt_stages net history (j ∷ js) = ap₂ ◌∷◌ (prompt_stage net history j) (prompt_stages net history js)

-- ages that are all 0 take the greatest stages
zero_stage : (net : Network) (history : History) (j : Junction) (ages : List ℕ) → AllByRecursion (λ (n : ℕ). n ≡ 0) ages → reported_stage net history j ages ≡ greatest_stage net (queue history.now) j
zero_stage net history j ages zeros =
    let q = queue history.now in
    let r = reported_queue net history j ages in
    first_agree (λ s. pos (pressure_by net q r (stage_at j s))) (λ s. pos (pressure net q (stage_at j s))) (numbers_to (length j.stages))
    (all_of (λ s. pos (pressure_by net q r (stage_at j s)) ≡ pos (pressure net q (stage_at j s)))
    (λ s. ap pos (sum_by-same (λ k. flow_of net k * positive_weight_by net q r k) (λ k. flow_of net k * positive_weight net q k)
    (λ k. ap (λ n. flow_of net k * (net.shares * q k - n)) (sum_by-same (λ i. share_of net i * r i) (λ i. share_of net i * q i)
    (λ i. ap (λ n. share_of net i * n) (ap (λ age. queue (state_ago history age) i) (age_is (λ (n : ℕ). n ≡ 0) refl (targets net j) ages (from_of net i) zeros))) (downstream net k))) (stage_at j s))) (numbers_to (length j.stages)))

pub zero_stages : (net : Network) (history : History) (js : List Junction) (ages : List (List ℕ)) → length ages ≡ length js → AllByRecursion (AllByRecursion (λ (n : ℕ). n ≡ 0)) ages → map (λ p. reported_stage net history p.0 p.1) (zip js ages) ≡ map (greatest_stage net (queue history.now)) js
zero_stages net history [] [] same zeros = refl
zero_stages net history [] (a ∷ ages) same zeros = absurd (omega arith)
zero_stages net history (j ∷ js) [] same zeros = absurd (omega arith)
zero_stages net history (j ∷ js) (a ∷ ages) same zeros = ap₂ ◌∷◌ (zero_stage net history j a zeros.0) (zero_stages net history js ages (omega arith) zeros.1)

prompt_run : (net : Network) (A : List (List ℕ)) (history : History) → reported_run_from net history (map (prompt_period net) A) ≡ run_from net history.now A
prompt_run net [] history = refl
prompt_run net (counts ∷ A) history =
    let next = ap (λ stages. step net stages (arrivals_of net counts) history.now) (prompt_stages net history net.junctions) in
    ap (λ states. history.now ∷ states) (prompt_run net A (advance_by net (prompt_period net counts) history) ∙ ap (λ state. run_from net state A) next)

prompt_lengths : (net : Network) (js : List Junction) → AllByRecursion (λ p. length p.1 ≡ length (targets net p.0)) (zip js (map (ages_of_now net) js))
prompt_lengths net [] = tt
prompt_lengths net (j ∷ js) = (length-map (targets net j) (λ l. 0), prompt_lengths net js)

all_zero : (net : Network) (n : ℕ) (ls : List ℕ) → AllByRecursion (IsTimelyAge net n) (map (λ l. 0) ls)
all_zero net n [] = tt
all_zero net n (l ∷ ls) = ((zero-le, zero-le), all_zero net n ls)

prompt_zeros : (net : Network) (n : ℕ) (js : List Junction) → AllByRecursion (AllByRecursion (IsTimelyAge net n)) (map (ages_of_now net) js)
prompt_zeros net n [] = tt
prompt_zeros net n (j ∷ js) = (all_zero net n (targets net j), prompt_zeros net n js)

prompt_timely : (net : Network) (n : ℕ) (A : List (List ℕ)) → AllTimely net n (map (prompt_period net) A)
prompt_timely net n [] = tt
prompt_timely net n (counts ∷ A) = (
  record { junctions = length-map net.junctions (ages_of_now net); targets = prompt_lengths net net.junctions; timely = prompt_zeros net n net.junctions },
  prompt_timely net (n + 1) A,
)

-- where each junction decides by reports of now
pub prompt : (net : Network) (A : List (List ℕ)) → IsPrompt net A
prompt net A = record { timely = prompt_timely net 0 A; run = prompt_run net A (first_history net) }
