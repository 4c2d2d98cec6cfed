-- The drift of a frame, and the bounds that it gives.
use Rattle.std.proofs.Common.{◌≡◌, ℕ, ◌+◌, ◌-◌, ◌*◌, ◌/◌, ◌≤◌, ◌<◌, min, Bool, true, false, cond, ◌&&◌, nat_lt, List, [], ◌∷◌, sum_by, nat_abs, arith, refl, sym, ◌∙◌, ap, subst, le_trans, mul-le-mul, mul-le-mul_left, mul-le-mul_right}
use Rattle.std.proofs.lemmas.Bool.{ltb-true, ltb-false, and_parts}
use Rattle.mp_laws.proofs.Bounds.{bound_queue, keeps_below, small_value}
use Rattle.mp_laws.proofs.Bridge.{plain_holds, to_plain}
use Rattle.mp_laws.proofs.Drift.{is_covered, near_queue, one_movement, stretched}
use Rattle.mp_laws.proofs.Lists.{at_in, each_in, numbered}
use Rattle.mp_laws.proofs.Margin.{margin}
use Rattle.mp_laws.proofs.Serve.{capacity_at, short}
use Rattle.mp_laws.proofs.Sums.{sum_by-add, sum_by-le_at, sum_by-mul, sum_by-same_at, sum_by-same, sum_by-zero, terms_le}
use Rattle.mp_laws.proofs.Tied.{excess_is, period_plain, slack_above, slack_is}
use Rattle.mp_laws.specs.Stages.{AllNearlyGreatest}
use Rattle.mp_model.specs.Bounds.{credit_term, report_shift, start_drift, step_term}
use Rattle.mp_model.specs.DriftValue.{corrected_queue, drift_value}
use Rattle.mp_model.specs.Frames.{frame_bound, frame_constant, frame_network, frame_threshold, greatest_frame_drift, is_chosen}
use Rattle.mp_model.specs.Load.{capacity, load}
use Rattle.mp_model.specs.Network.{Network, Junction, entry, flow_of, movement_numbers, stage_at}
use Rattle.mp_model.specs.NetworkRules.{IsNetwork}
use Rattle.mp_model.specs.Pressure.{AllGreatest, positive_weight, pressure, queued_downstream}
use Rattle.mp_model.specs.Step.{has_green}
use Rattle.mp_framed.proofs.Networks.{frame_is_network, frame_load}
use Rattle.mp_framed.specs.Frames.{FrameDriftLaw, FrameKeptLaw, FrameQueueLaw, FrameServedLaw, IsPart}

-- the stages of a frame are greatest, so old reports shift nothing: this is the network without a delay
abbrev prompt : Network → Network
prompt net = record net { delay = 0 }

prompt_ok : (net : Network) → IsNetwork net → IsNetwork (prompt net)
prompt_ok net ok = record {
  shares = ok.shares;
  per = ok.per;
  share = ok.share;
  flow = ok.flow;
  some_stage = ok.some_stage;
  split = ok.split;
  from = ok.from;
  to = ok.to;
  placed = ok.placed;
  stages = ok.stages;
  together = ok.together;
  way_out = ok.way_out;
}

no_shift : (net : Network) (ks : List ℕ) → sum_by (λ k. flow_of net k * report_shift (prompt net) k) ks ≡ 0
no_shift net ks = sum_by-same (λ k. flow_of net k * report_shift (prompt net) k) (λ k. 0) (λ k. omega arith) ks ∙ sum_by-zero ks

prompt_near : (net : Network) (q : ℕ → ℕ) (js : List Junction) (ss : List ℕ) → AllGreatest net q js ss → AllNearlyGreatest (prompt net) q js ss
prompt_near net q [] [] g = tt
prompt_near net q [] (s ∷ ss) g = elim g [ ]
prompt_near net q (j ∷ js) [] g = elim g [ ]
prompt_near net q (j ∷ js) (s ∷ ss) g = (
  record {
    is_stage = g.0.is_stage;
    near = λ t a b. let most : pressure (prompt net) q (stage_at j t) ≤ pressure (prompt net) q (stage_at j s) = g.0.most t a b in omega arith;
  },
  prompt_near net q js ss g.1,
)

prompt_capacity : (net : Network) → IsNetwork net → (q : ℕ → ℕ) (stages : List ℕ) → AllGreatest net q net.junctions stages →
    capacity net q ≤ sum_by (λ k. cond (has_green net stages k) (flow_of net k * positive_weight net q k) 0) (movement_numbers net)
prompt_capacity net ok q stages greatest = omega (arith, capacity_at (prompt net) (prompt_ok net ok) q stages (prompt_near net q net.junctions stages greatest), no_shift net (movement_numbers net))

-- what is served of one movement
served_term : (W c q p y m : ℕ) (green : Bool) → p ≤ W * q → ((green && nat_lt 0 p) ≡ true → min (m * c) q ≤ y) → m * cond green (c * p) 0 ≤ y * p + W * (m * c * (m * c) / 4)
served_term W c q p y m false h least = omega arith
served_term W c q p y m true h least = at (nat_lt 0 p) refl
  where
    at : (b : Bool) → nat_lt 0 p ≡ b → m * (c * p) ≤ y * p + W * (m * c * (m * c) / 4)
    at true e = omega (arith, short W (m * c) q p h, mul-le-mul_right p (least e))
    at false e = let z : p ≡ 0 = omega (arith, ltb-false 0 p e) in omega (arith, ap (λ n. m * (c * n)) z)

pub frame_served : FrameServedLaw
frame_served net ok F stages q pass greatest served =
    let m = F - 1 in
    let ks = movement_numbers net in
    let f : ℕ → ℕ = λ k. cond (has_green net stages k) (flow_of net k * positive_weight net q k) 0 in
    let y : ℕ → ℕ = λ k. pass k * positive_weight net q k in
    let z : ℕ → ℕ = λ k. m * flow_of net k * (m * flow_of net k) / 4 in
    let each = sum_by-le_at (λ k. m * f k) (λ k. y k + net.shares * z k) ks (each_in (λ k. m * f k ≤ y k + net.shares * z k) ks (λ k here.
    served_term net.shares (flow_of net k) (q k) (positive_weight net q k) (pass k) m (has_green net stages k) (omega arith)
    (at_in (λ k. is_chosen net stages q k ≡ true → min ((F - 1) * flow_of net k) (q k) ≤ pass k) k ks here served.chosen))) in
    omega (arith, mul-le-mul_left m (prompt_capacity net ok q stages greatest), each, sum_by-mul m f ks, sum_by-add y (λ k. net.shares * z k) ks, sum_by-mul net.shares z ks)

-- what passes counts its whole weight, since nothing else passes
whole_weight : (y x z : ℕ) (green : Bool) → ((green && nat_lt 0 (x - z)) ≡ false → y ≡ 0) → y * x ≡ y * (x - z) + y * z
whole_weight y x z green others = at (green && nat_lt 0 (x - z)) refl
  where
    at : (b : Bool) → (green && nat_lt 0 (x - z)) ≡ b → y * x ≡ y * (x - z) + y * z
    at true e = let s : x ≡ (x - z) + z = omega (arith, ltb-true 0 (x - z) (and_parts green (nat_lt 0 (x - z)) e).1) in omega (arith, ap (λ n. y * n) s)
    at false e = let none = others e in omega (arith, ap (λ n. n * x) none, ap (λ n. n * (x - z)) none, ap (λ n. n * z) none)

-- the last step, over plain numbers
close_frame : (W H F m d e v v' load capacity p c4 u s sum : ℕ) →
    v' + 2 * W * H * H * p ≤ v + 2 * W * H * (F * load) + F * (2 * u) + F * F * s → m * capacity ≤ p + W * c4 → d * (F * load) + e * W * (m * H) * sum ≤ d * (m * H * capacity) →
    d * v' + 2 * (W * H * (W * H)) * m * e * sum ≤ d * v + d * (2 * (W * H * (W * H)) * c4 + 2 * F * u + F * F * s)
close_frame W H F m d e v v' load capacity p c4 u s sum a b c = omega (arith, mul-le-mul_left d a, mul-le-mul_left (d * (2 * W * H * H)) b, mul-le-mul_left (2 * W * H) c)

module _ (net : Network) (ok : IsNetwork net) (stages : List ℕ) (m : ℕ) (pass arrivals q phase level q' phase' level' : ℕ → ℕ) (part : IsPart net stages m pass arrivals q phase level q' phase' level') where
  -- the passing takes off the positive weights
  value_moves :
      drift_value net q' phase' level' + 2 * net.shares * net.per * net.per * sum_by (λ k. pass k * positive_weight net q k) (movement_numbers net)
      ≤ drift_value net q phase level + 2 * net.shares * net.per * (m * load net q)
      + m * (2 * sum_by (λ k. credit_term net k * step_term net k) (movement_numbers net)) + m * m * sum_by (λ k. step_term net k * step_term net k) (movement_numbers net)
  value_moves =
      let ks = movement_numbers net in
      let p : ℕ → ℕ = λ k. pass k * positive_weight net q k in
      let a : ℕ → ℕ = λ k. pass k * queued_downstream net q k in
      let whole = sum_by-same_at (λ k. pass k * (net.shares * q k)) (λ k. p k + a k) ks (each_in _ ks (λ k here.
      whole_weight (pass k) (net.shares * q k) (queued_downstream net q k) (has_green net stages k) (at_in (λ k. is_chosen net stages q k ≡ false → pass k ≡ 0) k ks here part.served.others))) in
      let c = 2 * net.shares * net.per * net.per in
      omega (arith, stretched net ok m pass arrivals q phase level q' phase' level' part.stretch, ap (λ n. c * n) whole, ap (λ n. c * n) (sum_by-add p a ks))

pub frame_drift : FrameDriftLaw
frame_drift net ok F two cert c E D slack stages pass arrivals q phase level q' phase' level' part =
    let framed = frame_network net F in
    let framed_ok = frame_is_network net ok F two in
    let holds = plain_holds framed framed_ok cert c.rules (excess_is cert.e c.excess).0 in
    let ks = movement_numbers net in
    let d = nat_abs cert.d in
    let e = nat_abs cert.e in
    let balance : d * (F * load net q) + e * net.shares * ((F - 1) * net.per) * sum_by q ks ≤ d * ((F - 1) * net.per * capacity net q) =
    omega (arith, margin framed (is_covered framed framed_ok) (to_plain cert) holds q, ap (λ n. d * n) (frame_load net F q)) in
    period_plain d e E D (drift_value net q phase level) (drift_value net q' phase' level') (frame_constant net F) (2 * (net.shares * net.per * (net.shares * net.per)) * (F - 1)) (sum_by q ks) holds.d (slack_is framed cert c E D slack)
    (close_frame net.shares net.per F (F - 1) d e (drift_value net q phase level) (drift_value net q' phase' level') (load net q) (capacity net q) (sum_by (λ k. pass k * positive_weight net q k) ks)
    (sum_by (λ k. (F - 1) * flow_of net k * ((F - 1) * flow_of net k) / 4) ks) (sum_by (λ k. credit_term net k * step_term net k) ks) (sum_by (λ k. step_term net k * step_term net k) ks) (sum_by q ks)
    (value_moves net ok stages F pass arrivals q phase level q' phase' level' part) (frame_served net ok F stages q pass part.greatest part.served) balance)

pub frame_kept : FrameKeptLaw
frame_kept net ok F two cert c E D slack stages pass arrivals q phase level q' phase' level' part within top =
    let framed = frame_network net F in
    let w : 1 ≤ net.shares * net.per = mul-le-mul ok.shares ok.per in
    let ww : 1 ≤ net.shares * net.per * (net.shares * net.per) = mul-le-mul w w in
    let some : 1 ≤ E = slack_above (nat_abs cert.e) D E (nat_abs cert.d) (slack_is framed cert c E D slack) (excess_is cert.e c.excess).1 slack.lowest.denominator in
    let less : 1 ≤ F - 1 = omega arith in
    keeps_below D (drift_value net q phase level) (drift_value net q' phase' level') (frame_constant net F) (2 * (net.shares * net.per * (net.shares * net.per)) * (F - 1) * E) (sum_by q (movement_numbers net)) (frame_threshold net F E D) _ (start_drift net)
    slack.lowest.denominator (omega (arith, mul-le-mul (mul-le-mul ww less) some))
    (frame_drift net ok F two cert c E D slack stages pass arrivals q phase level q' phase' level' part)
    refl top (small_value net ok q phase level within (frame_threshold net F E D))

-- within a frame the corrected queue moves by at most a step term a period
near_bound : (x x' K M f m W H q r v : ℕ) → x' ≤ x + m * M → W * H * q ≤ x' + K → m ≤ f → x * x ≤ v → v < (r + 1) * (r + 1) → 1 ≤ W * H → q ≤ (r + K + f * M) / (W * H)
near_bound x x' K M f m W H q r v moves near few top root some =
    let b : q ≤ (r + (K + f * M)) / (W * H) = bound_queue W H q (K + f * M) x v r some top root (omega (arith, mul-le-mul_right M few)) in
    let e : r + (K + f * M) ≡ r + K + f * M = omega arith in
    subst (λ n. q ≤ n / (W * H)) e b

pub frame_queues : FrameQueueLaw
frame_queues net ok F E D bounds are m few pass arrivals q phase level q' phase' level' stretch within top = each_in _ (movement_numbers net) (λ k here.
    let x : ℕ → ℕ = λ k. nat_abs (corrected_queue net q phase level k) in
    let b : entry bounds k ≡ frame_bound net F are.root k = ap (λ bs. entry bs k) are.are ∙ numbered (frame_bound net F are.root) _ k here in
    let square = le_trans (at_in (λ k. x k * x k ≤ drift_value net q phase level) k (movement_numbers net) here (terms_le (λ k. x k * x k) (movement_numbers net))) top in
    subst (λ n. q' k ≤ n) (sym b)
    (near_bound (x k) (nat_abs (corrected_queue net q' phase' level' k)) (credit_term net k) (step_term net k) (F - 1) m net.shares net.per (q' k) are.root (greatest_frame_drift net F E D)
    (one_movement net ok m pass arrivals q phase level q' phase' level' stretch k here).1 (near_queue net ok q' phase' level' within k here).1 (omega arith) square are.is_root.most (mul-le-mul ok.shares ok.per)))
