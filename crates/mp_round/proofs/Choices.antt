-- The greatest stage rests on the queues of the junction's movements and of those behind it.
use Rattle.std.proofs.Common.{◌≡◌, ◌==◌, ℕ, ◌-◌, ◌*◌, true, length, Option, Some, None, IfSome, pos, refl, ◌∙◌, ap, ap₂, eq-eqb, eqb-true, sum_by}
use Rattle.std.specs.List.{list_any}
use Rattle.mp_laws.proofs.FirstGreatest.{first_agree}
use Rattle.mp_laws.proofs.Lists.{all_of, any_at, at_in, each_in, filter_has, filter_sub, has_filter}
use Rattle.mp_laws.proofs.Sums.{sum_by-same_at}
use Rattle.mp_model.specs.Network.{Network, flow_of, from_of, goes_to, has, junction_at, link_numbers, movement_numbers, next, out_of, out_of_target, own, share_of, stage_at, stage_numbers, targets, to_of}
use Rattle.mp_model.specs.NetworkRules.{IsNetwork}
use Rattle.mp_model.specs.Pressure.{greatest_stage_by, pressure_by, queued_downstream}
use Rattle.mp_press.proofs.Known.{stage_known, stage_own, has_numbers}
use Rattle.mp_press.specs.Written.{IsAmong}

module _ (net : Network) (ok : IsNetwork net) (j : ℕ) where
  -- a movement out of a link that the junction feeds stands behind it
  is_next : (k l i : ℕ) → has (own net (junction_at net j)) k ≡ true → to_of net k ≡ Some l → has (link_numbers net) l ≡ true → has (out_of net l) i ≡ true → has (next net (junction_at net j)) i ≡ true
  is_next k l i mine to there here =
      let jn = junction_at net j in
      let meets : list_any (λ k. goes_to (to_of net k) l) (own net jn) ≡ true = any_at (λ k. goes_to (to_of net k) l) k (own net jn) mine (ap (λ o. goes_to o l) to ∙ eq-eqb l l refl) in
      let target : has (targets net jn) l ≡ true = has_filter (λ l. list_any (λ k. goes_to (to_of net k) l) (own net jn)) l (link_numbers net) there meets in
      let from' : from_of net i ≡ l = eqb-true (from_of net i) l (filter_has (λ k. from_of net k == l) (movement_numbers net) i here) in
      has_filter (λ k. has (targets net jn) (from_of net k)) i (movement_numbers net) (filter_sub (λ k. from_of net k == l) (movement_numbers net) i here) (ap (has (targets net jn)) from' ∙ target)

  behind_same : (r r' : ℕ → ℕ) → ((k : ℕ) → has (next net (junction_at net j)) k ≡ true → r k ≡ r' k) → (k : ℕ) → has (own net (junction_at net j)) k ≡ true → (to : Option ℕ) → to_of net k ≡ to → IfSome to (λ l. has (link_numbers net) l ≡ true) →
      sum_by (λ i. share_of net i * r i) (out_of_target net to) ≡ sum_by (λ i. share_of net i * r' i) (out_of_target net to)
  behind_same r r' same k mine None e t = refl
  behind_same r r' same k mine (Some l) e t = sum_by-same_at (λ i. share_of net i * r i) (λ i. share_of net i * r' i) (out_of net l) (each_in _ (out_of net l) (λ i h. ap (λ n. share_of net i * n) (same i (is_next k l i mine e t h))))

  pub greatest_same : (q q' r r' : ℕ → ℕ) → ((k : ℕ) → has (own net (junction_at net j)) k ≡ true → q k ≡ q' k) → ((k : ℕ) → has (next net (junction_at net j)) k ≡ true → r k ≡ r' k) →
      greatest_stage_by net q r (junction_at net j) ≡ greatest_stage_by net q' r' (junction_at net j)
  greatest_same q q' r r' mine behind =
      let jn = junction_at net j in
      first_agree (λ s. pos (pressure_by net q r (stage_at jn s))) (λ s. pos (pressure_by net q' r' (stage_at jn s))) (stage_numbers jn) (all_of (λ s. pos (pressure_by net q r (stage_at jn s)) ≡ pos (pressure_by net q' r' (stage_at jn s)))
      (λ s. ap pos (sum_by-same_at (λ k. flow_of net k * (net.shares * q k - queued_downstream net r k)) (λ k. flow_of net k * (net.shares * q' k - queued_downstream net r' k)) (stage_at jn s)
      (each_in _ (stage_at jn s) (λ k h.
      let own' : has (own net jn) k ≡ true = at_in (λ k. has (own net jn) k ≡ true) k (stage_at jn s) h (stage_own net ok (j - 1) s) in
      let there : has (movement_numbers net) k ≡ true = has_numbers (length net.movements) k (at_in (IsAmong (length net.movements)) k (stage_at jn s) h (stage_known net ok (j - 1) s)) in
      ap₂ (λ a b. flow_of net k * (net.shares * a - b)) (mine k own') (behind_same r r' behind k own' (to_of net k) refl (at_in (λ k. IfSome (to_of net k) (λ l. has (link_numbers net) l ≡ true)) k (movement_numbers net) there ok.to))))))
      (stage_numbers jn))
