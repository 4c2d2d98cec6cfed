-- Sharper forms of the laws on weights, stages, the exchange, certificates and vectors fail.
use Rattle.std.proofs.Common.{◌≡◌, ◌≢◌, ◌≤◌, ◌<◌, ℕ, ◌+◌, ◌*◌, List, [], ◌∷◌, length, sum_by, pos, ◌+ℤ◌, ◌-ℤ◌, ◌*ℤ◌, ◌≤ℤ◌, arith, refl, sym, lit≤, lit<}
use Rattle.std.proofs.lemmas.Int.{ints}
use Rattle.mp_model.specs.Sums.{int_sum_by}
use Rattle.mp_model.specs.Network.{Network, Junction, no_junction, movement_numbers, junction_at, stage_at, from_of, share_of, into_link, entry}
use Rattle.mp_model.specs.NetworkRules.{IsNetwork}
use Rattle.mp_model.specs.Pressure.{queued_downstream, weight, positive_weight, pressure, greatest_stage}
use Rattle.mp_model.specs.Load.{load, capacity, IsVector, IsTight}
use Rattle.mp_model.specs.Certificate.{Cert, MeetsRules, Certifies, Carries}
use Rattle.mp_model.specs.Slack.{IsSlack, ShowsSlack}
use Rattle.mp_model.specs.Worked.{two_approaches, two_approaches_at, two_approaches_cert, tandem, tandem_cert}
use Rattle.mp_laws.proofs.Cases.{two_network, two_certified, two_case, tandem_case, even_cert, even_rules, refused_cases, le, gcd_one_four}
use Rattle.mp_laws.proofs.SharperSplits.{apart}

-- the positive weight would be one more
weight_one_more : ¬ ((net : Network) (q : ℕ → ℕ) (k : ℕ) → pos 0 ≤ℤ weight net q k → pos (positive_weight net q k + 1) ≡ weight net q k)
weight_one_more law = let h : pos 1 ≡ pos 0 = law tandem (λ k. 0) 1 (omega (arith, ints)) in absurd (omega (arith, ints))

-- the greatest stage would be above every other
greatest_alone : ¬ ((net : Network) → IsNetwork net → (q : ℕ → ℕ) (t : ℕ) → 1 ≤ t → t ≤ length (junction_at net 1).stages → t ≢ greatest_stage net q (junction_at net 1) →
    pressure net q (stage_at (junction_at net 1) t) < pressure net q (stage_at (junction_at net 1) (greatest_stage net q (junction_at net 1))))
greatest_alone law = let h : 0 < 0 = law two_approaches (two_network 1) (λ k. 0) 2 (lit≤ tt) (lit≤ tt) (λ e. let n : 2 ≡ 1 = e in absurd (omega arith)) in absurd (omega arith)

-- where ties are left open, there would be one greatest stage
stage_without_first : ¬ ((net : Network) (q : ℕ → ℕ) (j : Junction) (s t : ℕ) →
    ((i : ℕ) → 1 ≤ i → i ≤ length j.stages → pressure net q (stage_at j i) ≤ pressure net q (stage_at j s)) →
    ((i : ℕ) → 1 ≤ i → i ≤ length j.stages → pressure net q (stage_at j i) ≤ pressure net q (stage_at j t)) → s ≡ t)
stage_without_first law = apart 1 2 (lit< tt) (law two_approaches (λ k. 0) no_junction 1 2 (λ i a b. lit≤ tt) (λ i a b. lit≤ tt))

-- the share total would be one more, or what passes into links one vehicle more
weights_one_more : ¬ ((net : Network) (y q : ℕ → ℕ) →
    pos (sum_by (λ k. (net.shares + 1) * y k * q k) (movement_numbers net)) -ℤ pos (sum_by (λ k. q k * share_of net k * sum_by y (into_link net (from_of net k))) (movement_numbers net)) ≡ int_sum_by (λ k. pos (y k) *ℤ weight net q k) (movement_numbers net))
weights_one_more law = let h : pos 3 ≡ pos 1 = law tandem (λ k. 1) (λ k. 1) in absurd (omega (arith, ints))

exchange_one_more : ¬ ((net : Network) (y q : ℕ → ℕ) →
    sum_by (λ k. q k * share_of net k * (sum_by y (into_link net (from_of net k)) + 1)) (movement_numbers net) ≡ sum_by (λ j. y j * queued_downstream net q j) (movement_numbers net))
exchange_one_more law = apart 1 3 (lit< tt) (sym (law tandem (λ k. 1) (λ k. 1)))

-- at the vector 1, 1 two approaches meet the margin with equality: 4 * 2 + 3 * 8 = 4 * 8
margin_one_more : ¬ ((net : Network) → IsNetwork net → (cert : Cert) → MeetsRules net cert → pos 0 ≤ℤ cert.e → (p : ℕ → ℕ) →
    (cert.d *ℤ pos (load net p) +ℤ cert.e *ℤ pos (net.shares * net.per * sum_by p (movement_numbers net)) +ℤ pos 1) ≤ℤ (cert.d *ℤ pos (net.per * capacity net p)))
margin_one_more law = let h : pos 33 ≤ℤ pos 32 = law two_approaches (two_network 1) two_approaches_cert two_certified.rules (le 0 3 (lit≤ tt)) (entry (1 ∷ 1 ∷ [])) in absurd (omega (arith, ints))

-- with no excess too, at rate 4: 2 * 8 = 2 * 8
margin_of_none_one_more : ¬ ((net : Network) → IsNetwork net → (cert : Cert) → cert.e ≡ pos 0 → MeetsRules net cert → (p : ℕ → ℕ) → (cert.d *ℤ pos (load net p) +ℤ pos 1) ≤ℤ (cert.d *ℤ pos (net.per * capacity net p)))
margin_of_none_one_more law = let h : pos 17 ≤ℤ pos 16 = law (two_approaches_at 4) (two_network 4) even_cert refl even_rules (entry (1 ∷ 1 ∷ [])) in absurd (omega (arith, ints))

-- a tight vector would show an overload
tight_is_no_overload : ¬ ((net : Network) → IsNetwork net → (p : List ℕ) → IsTight net p → ¬ Carries net)
tight_is_no_overload law = law (two_approaches_at 4) (two_network 4) refused_cases.four.1.tight.0 refused_cases.four.1.tight.1 refused_cases.carried

-- a vector would be tight with a load one lower
tight_one_lower : ¬ ((net : Network) → IsNetwork net → (p : List ℕ) → IsVector net p → load net (entry p) + 1 ≡ net.per * capacity net (entry p) → (cert : Cert) → ¬ Certifies net cert)
tight_one_lower law = law tandem tandem_case.acceptable.network (1 ∷ 1 ∷ []) (record { lengths = refl; some = lit≤ tt }) refl tandem_cert tandem_case.certified

-- a certificate would have less slack than a vector shows
slack_one_lower : ¬ ((net : Network) → IsNetwork net → (cert : Cert) → Certifies net cert → (p : List ℕ) (E D : ℕ) → ShowsSlack net p E D → (cert.e *ℤ pos D +ℤ pos 1) ≤ℤ (pos E *ℤ cert.d))
slack_one_lower law = let h : pos 13 ≤ℤ pos 12 = law two_approaches (two_network 1) two_approaches_cert two_certified (1 ∷ 1 ∷ []) 3 4 (record { vector = record { lengths = refl; some = lit≤ tt }; equal = refl }) in absurd (omega (arith, ints))

-- two approaches have certificates of two slacks, 3/4 and 1/4
abbrev low_cert : Cert
low_cert = record { d = pos 4; e = pos 1; h = pos 2 ∷ pos 2 ∷ []; mixes = record { whole = pos 1; parts = pos 1 ∷ pos 1 ∷ [] } ∷ [] }

low_certified : Certifies two_approaches low_cert
low_certified = record {
  rules = record {
    lengths = record { rates = refl; mixes = refl; parts = (refl, tt) };
    denominator = le 1 4 (lit≤ tt);
    rates = (le 0 2 (lit≤ tt), (le 0 2 (lit≤ tt), tt));
    wholes = (le 1 1 (lit≤ tt), tt);
    parts = ((le 0 1 (lit≤ tt), (le 0 1 (lit≤ tt), tt)), tt);
    masses = (le 2 4 (lit≤ tt), tt);
    serves = (le 2 2 (lit≤ tt), (le 2 2 (lit≤ tt), tt));
    balances = (le 8 8 (lit≤ tt), (le 8 8 (lit≤ tt), tt));
  };
  excess = le 1 1 (lit≤ tt);
}

certificates_differ : ¬ ((net : Network) → IsNetwork net → (cert cert' : Cert) (E D E' D' : ℕ) → Certifies net cert → Certifies net cert' → IsSlack cert E D → IsSlack cert' E' D' → E ≡ E')
certificates_differ law =
    apart 1 3 (lit< tt) (sym (law two_approaches (two_network 1) two_approaches_cert low_cert 3 4 1 4 two_certified low_certified two_case.slack (record { lowest = record { denominator = lit≤ tt; coprime = gcd_one_four }; equal = refl })))
