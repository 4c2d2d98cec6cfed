-- Worked cases of the run and the bounds, each computed from the definitions.
use Rattle.std.proofs.Common.{◌≡◌, ℕ, ◌-◌, List, [], ◌∷◌, map, pos, negsuc, codes, slice_index, refl, lit≤, lit<, arith}
use Rattle.std.specs.Fmt.{digits}
use Rattle.mp_model.specs.Network.{Network, entry}
use Rattle.mp_model.specs.Split.{split_counts, credit}
use Rattle.mp_model.specs.Pressure.{weight}
use Rattle.mp_model.specs.Arrivals.{IsPermitted}
use Rattle.mp_model.specs.Step.{queue}
use Rattle.mp_model.specs.Run.{run}
use Rattle.mp_model.specs.Load.{load, capacity, ShowsOverload, IsTight}
use Rattle.mp_model.specs.Bounds.{credit_term, step_term, drift_constant, queue_threshold, greatest_drift, AreBounds}
use Rattle.mp_model.specs.Log.{log_text, plain_log_text}
use Rattle.mp_model.specs.EventCore.{Event, Answer, Core, core_opening, core_after, apply}
use Rattle.mp_model.specs.EventCore.Event.{hear, decide, close}
use Rattle.mp_model.specs.EventPeriods.{periods_of}
use Rattle.mp_model.specs.EventCore.Answer.{heard, not_adjacent, chose, stale, undecided, above_at, closed}
use Rattle.mp_model.specs.Stream.{LineKind, kinds, line_events, arrivals_of_kinds}
use Rattle.mp_model.specs.Worked.{delayed_merge, two_approaches, two_approaches_at, tandem, fed_tandem, roundabout}

abbrev one_to_two : List ℕ
one_to_two = 1 ∷ 2 ∷ []

-- the log of the arrivals of a stream
abbrev log_of : Network → ℕ → ℕ → List ℕ → List ℕ → List ℕ
log_of net E D bounds text = log_text net E D bounds (arrivals_of_kinds (kinds net text))

-- the log without slack and bounds of the arrivals of a stream
abbrev plain_log_of : Network → List ℕ → List ℕ
plain_log_of net text = plain_log_text net (arrivals_of_kinds (kinds net text))

-- the answers to the events of the lines of a stream
abbrev answers : Network → Core → List Event → List Answer
answers net core [] = []
answers net core (e ∷ es) = (apply net core e).0 ∷ answers net (apply net core e).1 es

abbrev core_of : Network → Core → List LineKind → Core
core_of net core [] = core
core_of net core (kind ∷ rest) = core_of net (core_after net core (line_events net core kind)) rest

abbrev line_answers : Network → Core → List LineKind → List (List Answer)
line_answers net core [] = []
line_answers net core (kind ∷ rest) = answers net core (line_events net core kind) ∷ line_answers net (core_after net core (line_events net core kind)) rest

abbrev stream_answers : Network → List ℕ → List (List Answer)
stream_answers net text = line_answers net (core_opening net) (kinds net text)

-- two approaches: the constants, the bounds and the header
two_terms : map (credit_term two_approaches) one_to_two ≡ 8 ∷ 8 ∷ []
two_terms = refl

two_steps : map (step_term two_approaches) one_to_two ≡ 8 ∷ 8 ∷ []
two_steps = refl

two_drift : drift_constant two_approaches ≡ 448
two_drift = refl

two_threshold : queue_threshold two_approaches 3 4 ≡ 18
two_threshold = refl

two_greatest : greatest_drift two_approaches 3 4 ≡ 8192
two_greatest = refl

pub two_bounds : AreBounds two_approaches 3 4 (24 ∷ 24 ∷ [])
two_bounds = record { root = 90; is_root = record { within = lit≤ tt; most = lit< tt }; are = refl }

two_header : log_of two_approaches 3 4 (24 ∷ 24 ∷ []) [] ≡ codes "maxpressure 1\nslack 3/4\nbound 1 ao 24\nbound 2 bo 24\nend 0 in 0 out 0 queued 0\n"
unfolding digits
two_header = refl

-- a tie goes to the lowest stage, and arrivals are not served in their own period
two_log : log_of two_approaches 3 4 (24 ∷ 24 ∷ []) (codes "2,1\n0,0\n0,0\n") ≡ codes "maxpressure 1\nslack 3/4\nbound 1 ao 24\nbound 2 bo 24\np 1 a 2 1 s 1 q 2 1\np 2 a 0 0 s 1 q 0 1\np 3 a 0 0 s 2 q 0 0\nend 3 in 3 out 3 queued 0\n"
unfolding digits
two_log = refl

two_plain_log : plain_log_of two_approaches (codes "2,1\n0,0\n0,0\n") ≡ codes "maxpressure 1\np 1 a 2 1 s 1 q 2 1\np 2 a 0 0 s 1 q 0 1\np 3 a 0 0 s 2 q 0 0\nend 3 in 3 out 3 queued 0\n"
unfolding digits
two_plain_log = refl

two_plain_empty : plain_log_of two_approaches [] ≡ codes "maxpressure 1\nend 0 in 0 out 0 queued 0\n"
unfolding digits
two_plain_empty = refl

-- with the certificate of slack 1/4
two_wide : AreBounds two_approaches 1 4 (62 ∷ 62 ∷ [])
two_wide = record { root = 240; is_root = record { within = lit≤ tt; most = lit< tt }; are = refl }

two_wide_threshold : queue_threshold two_approaches 1 4 ≡ 56
two_wide_threshold = refl

two_wide_greatest : greatest_drift two_approaches 1 4 ≡ 58048
two_wide_greatest = refl

-- vectors against two approaches with greater rates
two_overload : ShowsOverload (two_approaches_at 5) (1 ∷ 1 ∷ [])
two_overload = record { vector = record { lengths = refl; some = lit≤ tt }; above = lit< tt }

two_loads : load (two_approaches_at 5) (entry (1 ∷ 1 ∷ [])) ≡ 10
two_loads = refl

two_capacity : capacity (two_approaches_at 5) (entry (1 ∷ 1 ∷ [])) ≡ 2
two_capacity = refl

two_tight : IsTight (two_approaches_at 4) (1 ∷ 1 ∷ [])
two_tight = record { vector = record { lengths = refl; some = lit≤ tt }; equal = refl }

-- three in the first period are above the bucket
above_at_once : ¬ IsPermitted two_approaches ((3 ∷ 0 ∷ []) ∷ [])
above_at_once p = absurd (omega (arith, p.windows.0 [] (3 ∷ []) [] refl))

above_answers : stream_answers two_approaches (codes "3,0\n") ≡ (chose 1 ∷ above_at 1 ∷ []) ∷ []
above_answers = refl

-- each period alone would pass, but not both together
above_together : ¬ IsPermitted two_approaches ((2 ∷ 0 ∷ []) ∷ (1 ∷ 0 ∷ []) ∷ [])
above_together p = absurd (omega (arith, p.windows.0 [] (2 ∷ 1 ∷ []) [] refl))

together_answers : stream_answers two_approaches (codes "2,0\n1,0\n") ≡ (chose 1 ∷ closed ∷ []) ∷ (chose 1 ∷ above_at 1 ∷ []) ∷ []
together_answers = refl

-- a window of four that is met with equality
four_answers : stream_answers two_approaches (codes "2,0\n0,0\n0,0\n1,0\n") ≡ (chose 1 ∷ closed ∷ []) ∷ (chose 1 ∷ closed ∷ []) ∷ (chose 1 ∷ closed ∷ []) ∷ (chose 1 ∷ closed ∷ []) ∷ []
four_answers = refl

four_log : log_of two_approaches 3 4 (24 ∷ 24 ∷ []) (codes "2,0\n0,0\n0,0\n1,0\n") ≡ codes "maxpressure 1\nslack 3/4\nbound 1 ao 24\nbound 2 bo 24\np 1 a 2 0 s 1 q 2 0\np 2 a 0 0 s 1 q 0 0\np 3 a 0 0 s 1 q 0 0\np 4 a 1 0 s 1 q 1 0\nend 4 in 3 out 2 queued 1\n"
unfolding digits
four_log = refl

-- the split by shares 5, 1, 1
abbrev five_one_one : ℕ → ℕ
five_one_one k = slice_index (5 ∷ 1 ∷ 1 ∷ []) (k - 1)

abbrev one_to_three : List ℕ
one_to_three = 1 ∷ 2 ∷ 3 ∷ []

splits : map (λ n. map (split_counts 7 five_one_one one_to_three n) one_to_three) (1 ∷ 2 ∷ 3 ∷ 4 ∷ 5 ∷ 6 ∷ 7 ∷ 8 ∷ [])
    ≡ (1 ∷ 0 ∷ 0 ∷ []) ∷ (2 ∷ 0 ∷ 0 ∷ []) ∷ (2 ∷ 1 ∷ 0 ∷ []) ∷ (3 ∷ 1 ∷ 0 ∷ []) ∷ (3 ∷ 1 ∷ 1 ∷ []) ∷ (4 ∷ 1 ∷ 1 ∷ []) ∷ (5 ∷ 1 ∷ 1 ∷ []) ∷ (6 ∷ 1 ∷ 1 ∷ []) ∷ []
splits = refl

split_credits : map (credit 7 five_one_one one_to_three 7) one_to_three ≡ pos 0 ∷ pos 0 ∷ pos 0 ∷ []
split_credits = refl

middle_credits : map (credit 7 five_one_one one_to_three 3) one_to_three ≡ pos 1 ∷ negsuc 3 ∷ pos 3 ∷ []
middle_credits = refl

-- the tandem
tandem_drift : drift_constant tandem ≡ 16
tandem_drift = refl

tandem_threshold : queue_threshold tandem 1 4 ≡ 8
tandem_threshold = refl

tandem_greatest : greatest_drift tandem 1 4 ≡ 340
tandem_greatest = refl

pub tandem_bounds : AreBounds tandem 1 4 (10 ∷ 9 ∷ [])
tandem_bounds = record { root = 18; is_root = record { within = lit≤ tt; most = lit< tt }; are = refl }

-- a vehicle passes one link in a period
tandem_log : log_of tandem 1 4 (10 ∷ 9 ∷ []) (codes "1\n0\n0\n") ≡ codes "maxpressure 1\nslack 1/4\nbound 1 xy 10\nbound 2 yo 9\np 1 a 1 s 1 1 q 1 0\np 2 a 0 s 1 1 q 0 1\np 3 a 0 s 1 1 q 0 0\nend 3 in 1 out 1 queued 0\n"
unfolding digits
tandem_log = refl

tandem_plain_log : plain_log_of tandem (codes "1\n0\n0\n") ≡ codes "maxpressure 1\np 1 a 1 s 1 1 q 1 0\np 2 a 0 s 1 1 q 0 1\np 3 a 0 s 1 1 q 0 0\nend 3 in 1 out 1 queued 0\n"
unfolding digits
tandem_plain_log = refl

-- the fed tandem
fed_terms : map (credit_term fed_tandem) one_to_two ≡ 4 ∷ 12 ∷ []
fed_terms = refl

fed_steps : map (step_term fed_tandem) one_to_two ≡ 4 ∷ 4 ∷ []
fed_steps = refl

fed_drift : drift_constant fed_tandem ≡ 160
fed_drift = refl

fed_threshold : queue_threshold fed_tandem 3 8 ≡ 13
fed_threshold = refl

fed_greatest : greatest_drift fed_tandem 3 8 ≡ 4784
fed_greatest = refl

fed_bounds : AreBounds fed_tandem 3 8 (18 ∷ 20 ∷ [])
fed_bounds = record { root = 69; is_root = record { within = lit≤ tt; most = lit< tt }; are = refl }

-- the first movement is held while more stands downstream
fed_log : log_of fed_tandem 3 8 (18 ∷ 20 ∷ []) (codes "1,3\n0,0\n0,0\n0,0\n0,0\n0,0\n") ≡ codes "maxpressure 1\nslack 3/8\nbound 1 xy 18\nbound 2 yo 20\np 1 a 1 3 s 1 1 q 1 3\np 2 a 0 0 s 1 1 q 1 2\np 3 a 0 0 s 1 1 q 1 1\np 4 a 0 0 s 1 1 q 1 0\np 5 a 0 0 s 1 1 q 0 1\np 6 a 0 0 s 1 1 q 0 0\nend 6 in 4 out 4 queued 0\n"
unfolding digits
fed_log = refl

fed_plain_log : plain_log_of fed_tandem (codes "1,3\n0,0\n0,0\n0,0\n0,0\n0,0\n") ≡ codes "maxpressure 1\np 1 a 1 3 s 1 1 q 1 3\np 2 a 0 0 s 1 1 q 1 2\np 3 a 0 0 s 1 1 q 1 1\np 4 a 0 0 s 1 1 q 1 0\np 5 a 0 0 s 1 1 q 0 1\np 6 a 0 0 s 1 1 q 0 0\nend 6 in 4 out 4 queued 0\n"
unfolding digits
fed_plain_log = refl

fed_weights : map (λ state. weight fed_tandem (queue state) 1) (run fed_tandem ((1 ∷ 3 ∷ []) ∷ (0 ∷ 0 ∷ []) ∷ (0 ∷ 0 ∷ []) ∷ [])) ≡ pos 0 ∷ negsuc 1 ∷ negsuc 0 ∷ pos 0 ∷ []
fed_weights = refl

-- a link of rate 0 has spent its burst
fed_answers : stream_answers fed_tandem (codes "1,3\n0,1\n") ≡ (heard ∷ chose 1 ∷ chose 1 ∷ closed ∷ []) ∷ (heard ∷ chose 1 ∷ chose 1 ∷ above_at 2 ∷ []) ∷ []
fed_answers = refl

-- the roundabout
round_terms : map (credit_term roundabout) one_to_two ≡ 8 ∷ 8 ∷ []
round_terms = refl

round_steps : map (step_term roundabout) one_to_two ≡ 16 ∷ 16 ∷ []
round_steps = refl

round_drift : drift_constant roundabout ≡ 1280
round_drift = refl

round_threshold : queue_threshold roundabout 7 8 ≡ 11
round_threshold = refl

round_greatest : greatest_drift roundabout 7 8 ≡ 12096
round_greatest = refl

pub round_bounds : AreBounds roundabout 7 8 (14 ∷ 14 ∷ [])
round_bounds = record { root = 109; is_root = record { within = lit≤ tt; most = lit< tt }; are = refl }

-- the vehicle goes round once: the split goes on from the vehicles before
round_log : log_of roundabout 7 8 (14 ∷ 14 ∷ []) (codes "1\n0\n0\n") ≡ codes "maxpressure 1\nslack 7/8\nbound 1 xx 14\nbound 2 xo 14\np 1 a 1 s 1 q 1 0\np 2 a 0 s 1 q 0 1\np 3 a 0 s 1 q 0 0\nend 3 in 1 out 1 queued 0\n"
unfolding digits
round_log = refl

round_plain_log : plain_log_of roundabout (codes "1\n0\n0\n") ≡ codes "maxpressure 1\np 1 a 1 s 1 q 1 0\np 2 a 0 s 1 q 0 1\np 3 a 0 s 1 q 0 0\nend 3 in 1 out 1 queued 0\n"
unfolding digits
round_plain_log = refl

round_answers : stream_answers roundabout (codes "1\n0\n0\n") ≡ (heard ∷ chose 1 ∷ closed ∷ []) ∷ (heard ∷ chose 1 ∷ closed ∷ []) ∷ (heard ∷ chose 1 ∷ closed ∷ []) ∷ []
round_answers = refl

-- the core has the queues and totals of the run
round_core : (core_of roundabout (core_opening roundabout) (kinds roundabout (codes "1\n0\n"))).queues ≡ 0 ∷ 1 ∷ []
round_core = refl

-- junctions may hear and decide in any order, but not decide by stale copies or hear what is not theirs
stale_answers : stream_answers tandem (codes "decide 1\n") ≡ (stale 1 2 ∷ []) ∷ []
stale_answers = refl

apart_answers : stream_answers tandem (codes "hear 2 1\n") ≡ (not_adjacent 2 1 ∷ []) ∷ []
apart_answers = refl

order_answers : stream_answers tandem (codes "hear 1 2\ndecide 2\ndecide 1\n1\n") ≡ (heard ∷ []) ∷ (chose 1 ∷ []) ∷ (chose 1 ∷ []) ∷ (closed ∷ []) ∷ []
order_answers = refl

other_order_answers : stream_answers tandem (codes "decide 2\nhear 1 2\ndecide 1\n1\n") ≡ (chose 1 ∷ []) ∷ (heard ∷ []) ∷ (chose 1 ∷ []) ∷ (closed ∷ []) ∷ []
other_order_answers = refl

one_line_answers : stream_answers tandem (codes "1\n") ≡ (heard ∷ chose 1 ∷ chose 1 ∷ closed ∷ []) ∷ []
one_line_answers = refl

undecided_answer : (apply tandem (core_opening tandem) (close (1 ∷ []))).0 ≡ undecided 1
undecided_answer = refl

-- with a delay of 1 the first junction decides in period 2 by what it heard in period 1, and so holds back what it need not
merge_core : Network → List ℕ → Core
merge_core net text = core_of net (core_opening net) (kinds net text)

old_reports : (merge_core delayed_merge (codes "1,1,3\n0,0,0\n0,0,0\n")).queues ≡ 1 ∷ 0 ∷ 1 ∷ []
unfolding merge_core
old_reports = refl

old_report_stages : (merge_core delayed_merge (codes "1,1,3\n0,0,0\n")).last ≡ 1 ∷ 1 ∷ []
unfolding merge_core
old_report_stages = refl

-- hearing anew it decides otherwise
new_report : (merge_core delayed_merge (codes "1,1,3\nhear 1 3\n0,0,0\n")).last ≡ 2 ∷ 1 ∷ []
unfolding merge_core
new_report = refl

new_report_queues : (merge_core delayed_merge (codes "1,1,3\nhear 1 3\n0,0,0\n")).queues ≡ 1 ∷ 0 ∷ 2 ∷ []
unfolding merge_core
new_report_queues = refl

-- the ages of the copies by which the junctions decided
abbrev merge_events : List Event
merge_events = hear 1 3 ∷ decide 1 ∷ decide 2 ∷ close (1 ∷ 1 ∷ 3 ∷ []) ∷ decide 1 ∷ decide 2 ∷ close (0 ∷ 0 ∷ 0 ∷ []) ∷ decide 1 ∷ []

merge_ages : map (λ period. period.ages) (periods_of delayed_merge merge_events) ≡ ((0 ∷ []) ∷ [] ∷ []) ∷ ((1 ∷ []) ∷ [] ∷ []) ∷ []
merge_ages = refl

-- a copy that is two periods old is stale
merge_stale : (apply delayed_merge (core_after delayed_merge (core_opening delayed_merge) merge_events) (decide 1)).0 ≡ stale 1 3
merge_stale = refl
