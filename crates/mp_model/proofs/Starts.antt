-- Worked cases of start queues and old reports, each computed from the definitions.
use Rattle.std.proofs.Common.{◌≡◌, List, [], ◌∷◌, map, codes, refl, lit≤, lit<}
use Rattle.std.specs.Fmt.{digits}
use Rattle.mp_model.specs.Bounds.{drift_constant, queue_threshold, greatest_drift, start_drift, AreBounds}
use Rattle.mp_model.specs.Log.{log_text}
use Rattle.mp_model.specs.Reports.{Period, reported_run}
use Rattle.mp_model.specs.Worked.{two_approaches_from, delayed_tandem, delayed_merge}

-- 50 and 30 vehicles stand at the start
started_drift : start_drift (two_approaches_from 50 30) ≡ 54400
started_drift = refl

started_greatest : greatest_drift (two_approaches_from 50 30) 3 4 ≡ 54400
started_greatest = refl

pub started_bounds : AreBounds (two_approaches_from 50 30) 3 4 (60 ∷ 60 ∷ [])
started_bounds = record { root = 233; is_root = record { within = lit≤ tt; most = lit< tt }; are = refl }

started_log : log_text (two_approaches_from 50 30) 3 4 (60 ∷ 60 ∷ []) ((0 ∷ 0 ∷ []) ∷ []) ≡ codes "maxpressure 1\nslack 3/4\nbound 1 ao 60\nbound 2 bo 60\np 1 a 0 0 s 1 q 48 30\nend 1 in 80 out 2 queued 78\n"
unfolding digits
started_log = refl

-- few vehicles at the start leave the bounds as they are
few_bounds : AreBounds (two_approaches_from 5 0) 3 4 (24 ∷ 24 ∷ [])
few_bounds = record { root = 90; is_root = record { within = lit≤ tt; most = lit< tt }; are = refl }

few_log : log_text (two_approaches_from 5 0) 3 4 (24 ∷ 24 ∷ []) [] ≡ codes "maxpressure 1\nslack 3/4\nbound 1 ao 24\nbound 2 bo 24\nend 0 in 5 out 0 queued 5\n"
unfolding digits
few_log = refl

-- the tandem with reports that may be two periods old
tandem_drift : drift_constant delayed_tandem ≡ 48
tandem_drift = refl

tandem_threshold : queue_threshold delayed_tandem 1 4 ≡ 24
tandem_threshold = refl

tandem_greatest : greatest_drift delayed_tandem 1 4 ≡ 2548
tandem_greatest = refl

pub delayed_bounds : AreBounds delayed_tandem 1 4 (26 ∷ 25 ∷ [])
delayed_bounds = record { root = 50; is_root = record { within = lit≤ tt; most = lit< tt }; are = refl }

-- the merge with reports of the period before
merge_drift : drift_constant delayed_merge ≡ 464
merge_drift = refl

merge_threshold : queue_threshold delayed_merge 1 4 ≡ 58
merge_threshold = refl

merge_greatest : greatest_drift delayed_merge 1 4 ≡ 63968
merge_greatest = refl

merge_bounds : AreBounds delayed_merge 1 4 (64 ∷ 64 ∷ 66 ∷ [])
merge_bounds = record { root = 252; is_root = record { within = lit≤ tt; most = lit< tt }; are = refl }

-- in period 2 the old report of an empty link chooses stage 1, whose movement is held; in period 3 a report of now chooses stage 2
abbrev merge_periods : List Period
merge_periods =
    record { counts = 1 ∷ 1 ∷ 3 ∷ []; ages = (0 ∷ []) ∷ [] ∷ [] } ∷ record { counts = 0 ∷ 0 ∷ 0 ∷ []; ages = (1 ∷ []) ∷ [] ∷ [] } ∷ record { counts = 0 ∷ 0 ∷ 0 ∷ []; ages = (0 ∷ []) ∷ [] ∷ [] } ∷ []

merge_queues : map (λ state. state.queues) (reported_run delayed_merge merge_periods) ≡ (0 ∷ 0 ∷ 0 ∷ []) ∷ (1 ∷ 1 ∷ 3 ∷ []) ∷ (1 ∷ 1 ∷ 2 ∷ []) ∷ (1 ∷ 0 ∷ 1 ∷ []) ∷ []
merge_queues = refl

-- with a report of now in period 2 stage 2 is chosen there
prompt_queues : map (λ state. state.queues) (reported_run delayed_merge (record { counts = 1 ∷ 1 ∷ 3 ∷ []; ages = (0 ∷ []) ∷ [] ∷ [] } ∷ record { counts = 0 ∷ 0 ∷ 0 ∷ []; ages = (0 ∷ []) ∷ [] ∷ [] } ∷ [])) ≡ (0 ∷ 0 ∷ 0 ∷ []) ∷ (1 ∷ 1 ∷ 3 ∷ []) ∷ (1 ∷ 0 ∷ 2 ∷ []) ∷ []
prompt_queues = refl
