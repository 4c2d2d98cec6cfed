-- How a command comes to the greatest slack, and to a session under a certificate.
use Rattle.std.proofs.Common.{◌≡◌, ◌≤◌, ◌<◌, ◌+◌, ◌*◌, ◌+ℤ◌, ◌*ℤ◌, ◌≤ℤ◌, ℕ, ℤ, pos, List, map, refl, sym, ◌∙◌, ap, subst, arith, nat_abs, unsigned_abs, inl, inr, ⊎_elim, Err, mul-le-mul_left, Some, None, Ok}
use Rattle.std.specs.declared.option.Option.{Option}
use Rattle.std.proofs.lemmas.Int.{ints}
use Rattle.std.proofs.Math.Nat.{le_of_mul-le-mul_left}
use Rattle.mp_model.specs.Arrivals.{IsPermitted}
use Rattle.mp_model.specs.Bounds.{AreBounds, HasRoom}
use Rattle.mp_model.specs.Certificate.{Cert, HasLengths, Certifies}
use Rattle.mp_model.specs.Log.{text_of, header_lines}
use Rattle.mp_model.specs.Load.{ShowsOverload, load, capacity}
use Rattle.mp_model.specs.Network.{Network, entry}
use Rattle.mp_model.specs.NetworkRules.{IsNetwork}
use Rattle.mp_model.specs.Reports.{AllTimely, Period}
use Rattle.mp_model.specs.Slack.{IsSlack, IsGreatestSlack}
use Rattle.mp_laws.proofs.Permitted.{bound_of_run}
use Rattle.mp_laws.proofs.Reported.{bound_of_reported}
use Rattle.mp_laws.proofs.Slacks.{lowest_unique}
use Rattle.mp_laws.proofs.Tied.{slack_is, excess_is, tight, margin_of}
use Rattle.mp_num.specs.Fraction.{Fraction, numerator, denominator}
use Rattle.mp_flow.specs.declared.network.CalcFault.TheVariants as calc
use Rattle.mp_flow.specs.declared.network.Place.TheVariants as at
use Rattle.mp_cert.specs.Checking.{check_outcome}
use Rattle.mp_cert.specs.declared.types.CertFault.{CertFault}
use Rattle.mp_cert.specs.declared.types.CertFault.TheVariants as fault
use Rattle.mp_cert.proofs.CheckLaw.{first_fault, complete}
use Rattle.mp_verdict.specs.Laws.{IsAdmitted}
use Rattle.mp_drift.specs.Bounded.{FindsGreatest, HoldsBounds}
use Rattle.mp_drift.specs.Session.{IsRefused}
use Rattle.mp_press.specs.Queues.{naturals}
use Rattle.mp_run.proofs.BoundLemmas.{naturals_are}
use Rattle.mp_session.specs.SessionView.{SessionView, IsBounded}
use Rattle.mp_event_run.specs.Running.{StaysWithin as ReportsStayWithin}
use Rattle.mp_drift.specs.declared.session.OpenFault.{OpenFault}
use Rattle.mp_drift.specs.declared.session.OpenFault.TheVariants as opening
use Rattle.mp_gen.specs.Demonstration.{Demonstrated}
use Rattle.mp_gen.specs.DemoText.{demo_summary}
use Rattle.mp_run.specs.Running.{StaysWithin}
use Rattle.mp_cli.specs.declared.outcome.CertRule.{CertRule}
use Rattle.mp_cli.specs.declared.outcome.Outcome.{Outcome}
use Rattle.mp_cli.specs.declared.outcome.Outcome.TheVariants.{Critical, Overloaded, Certificate, Overflow}
use Rattle.mp_cli.specs.Checking.{RefusesCert}
use Rattle.mp_cli.specs.Outcomes.{outcome_of_opening, outcome_of_fault, outcome_of_rule, broken_rule}
use Rattle.mp_cli.specs.Demonstrating.{IsShownRun}
use Rattle.mp_cli.specs.Ports.{Ports, IsUntouched, Answers}
use Rattle.mp_cli.specs.Sessions.{HoldsWith, IsUnopened, IsUnaccepted, Opens, OnSession, OnAnySession, AtGreatest}
use Rattle.mp_cli.specs.Verdicts.{IsUnadmitted, IsUnfinished, OfAdmitted, HasGreatestSlack}

-- equal fractions have equal cross products
crossed : (e d E D E' D' : ℕ) → 1 ≤ d → e * D ≡ E * d → e * D' ≡ E' * d → E * D' ≡ E' * D
crossed e d E D E' D' some first second =
    let a : E * d * D' ≡ e * D * D' = ap (λ n. n * D') (sym first) in
    let b : E' * d * D ≡ e * D' * D = ap (λ n. n * D) (sym second) in
    let low : E * D' ≤ E' * D = le_of_mul-le-mul_left {k = d} (omega arith) some in
    let high : E' * D ≤ E * D' = le_of_mul-le-mul_left {k = d} (omega arith) some in
    omega arith

-- a certificate has one slack
slack_same : (net : Network) (cert : Cert) → Certifies net cert → (E D E' D' : ℕ) → IsSlack cert E D → IsSlack cert E' D' → (E ≡ E') × (D ≡ D')
slack_same net cert certifies E D E' D' s s' =
    lowest_unique E D E' D' s.lowest.denominator s'.lowest.denominator
    (crossed (nat_abs cert.e) (nat_abs cert.d) E D E' D' (excess_is cert.d certifies.rules.denominator).1 (slack_is net cert certifies E D s) (slack_is net cert certifies E' D' s')) s.lowest.coprime s'.lowest.coprime

-- a certificate that certifies breaks no rule
unopened : (outcome : Outcome) (net : Network) (cert : Cert) → Certifies net cert → IsUnaccepted outcome net cert → IsUnopened outcome net cert
unopened (Certificate rule) net cert certifies is =
    let overflow : is.fault ≡ fault.Overflow = complete net cert certifies.rules.lengths (Err is.fault) (sym is.told) certifies in
    absurd (let wrong = sym is.names ∙ ap broken_rule overflow in cc)
unopened outcome net cert certifies is = is

module _ (net : Network) (cert : Cert) (by : OfAdmitted net (λ c. c ≡ cert)) where
  admitted : IsAdmitted net cert by.vector by.slack
  admitted = subst (λ (c : Cert). IsAdmitted net c by.vector by.slack) by.is by.admitted

  -- a fact of the certificate that an admitted network was given
  pub admits : (P : Cert → Type 0) → P cert → OfAdmitted net P
  admits P is = record { cert = by.cert; vector = by.vector; slack = by.slack; reached = by.reached; admitted = by.admitted; is = subst P (sym by.is) is }

  pub has_greatest : HasGreatestSlack net cert
  has_greatest = record { certifies = admitted.certifies; num = unsigned_abs by.slack.num; den = unsigned_abs by.slack.den; slack = admitted.reaches; greatest = admitted.greatest }

  -- its slack is the greatest
  pub greatest_at : (num den : ℕ) → IsSlack cert num den → IsGreatestSlack net num den
  greatest_at num den slack =
      let same = slack_same net cert admitted.certifies (unsigned_abs by.slack.num) (unsigned_abs by.slack.den) num den admitted.reaches slack in
      subst (λ (E : ℕ). IsGreatestSlack net E den) same.0 (subst (λ (D : ℕ). IsGreatestSlack net (unsigned_abs by.slack.num) D) same.1 admitted.greatest)

  abbrev with_greatest : (P : ℕ → ℕ → List ℕ → Type 0) → HoldsWith net P cert → HoldsWith net (AtGreatest net P) cert
  with_greatest P holds =
      let greatest = greatest_at holds.num holds.den holds.slack in
      record { certifies = holds.certifies; num = holds.num; den = holds.den; slack = holds.slack; holds = record { bounds = holds.holds.bounds; are = holds.holds.are; room = holds.holds.room; within = holds.holds.within; reported = holds.holds.reported; is = (greatest, holds.holds.is) } }

  -- under the certificate of the greatest slack no rule is broken
  pub on_session : (outcome : Outcome) (ports : Ports) (P : ℕ → ℕ → List ℕ → Type 0) → OnAnySession outcome net cert ports P → OfAdmitted net (λ c. OnSession outcome net c ports (AtGreatest net P))
  on_session outcome ports P so = admits (λ c. OnSession outcome net c ports (AtGreatest net P))
      (⊎_elim (λ (refused : IsUnaccepted outcome net cert × IsUntouched ports). inl (unopened outcome net cert admitted.certifies refused.0, refused.1)) (λ (opens : Opens net P cert). inr (record { checked = opens.checked; holds = with_greatest P opens.holds; found = opens.found })) so)

over_plain : (D E : ℤ) (l s c : ℕ) → pos 1 ≤ℤ D → pos 1 ≤ℤ E → (D *ℤ pos l +ℤ E *ℤ pos s) ≤ℤ (D *ℤ pos c) → c < l → ⊥
over_plain (pos d) (pos e) l s c some more m above =
    let p : d * (c + 1) ≤ d * l = mul-le-mul_left d (omega (arith, above)) in
    let x : pos (d * l) ≡ pos d *ℤ pos l = refl in
    let y : pos (d * c) ≡ pos d *ℤ pos c = refl in
    let z : pos (e * s) ≡ pos e *ℤ pos s = refl in
    absurd (omega (arith, ints))
over_plain D E l s c some more m above = absurd (omega (arith, ints))

-- a certified network is not overloaded
not_overloaded : (net : Network) → IsNetwork net → (cert : Cert) → Certifies net cert → (p : List ℕ) → ShowsOverload net p → ⊥
not_overloaded net network cert certifies p shows =
    let more = certifies.excess in
    over_plain cert.d cert.e (load net (entry p)) _ (net.per * capacity net (entry p)) certifies.rules.denominator more (margin_of net network cert certifies.rules (omega (arith, ints, more)) (entry p)) shows.above

-- a demonstration network is certified, and so neither critical nor overloaded
pub demo_unfinished : (outcome : Outcome) (net : Network) → IsNetwork net → (cert : Cert) × Certifies net cert → IsUnadmitted outcome net → IsUnfinished outcome net
demo_unfinished (Critical against) net network certified is = absurd (tight net network (naturals against.p) is.tight certified.0 certified.1)
demo_unfinished (Overloaded against) net network certified is = absurd (not_overloaded net network certified.0 certified.1 (naturals against.p) is.shows)
demo_unfinished outcome net network certified is = is

-- why a certificate is not accepted
no_rule : (broken : CertFault) → broken_rule broken ≡ None → broken ≡ fault.Overflow
no_rule fault.Overflow none = refl
no_rule broken none = absurd (let wrong = none in cc)

pub fault_so : (broken : CertFault) (net : Network) (cert : Cert) → HasLengths net cert → check_outcome net cert ≡ Err broken → RefusesCert (outcome_of_fault broken) net cert
fault_so broken net cert lengths refused = by (broken_rule broken) refl
  where
    by : (named : Option CertRule) → broken_rule broken ≡ named → RefusesCert (outcome_of_rule named) net cert
    by (Some rule) names = record { fault = broken; names = names; told = refused; first = first_fault net cert lengths (Err broken) (sym refused) }
    by None names = refused ∙ ap Err (no_rule broken names)

refused_unaccepted : (outcome : Outcome) (net : Network) (cert : Cert) → RefusesCert outcome net cert → IsUnaccepted outcome net cert
refused_unaccepted (Certificate rule) net cert refused = refused
refused_unaccepted (Overflow at.Certificate) net cert refused = refused
refused_unaccepted outcome net cert refused = absurd refused

-- why a session was not opened
pub opening_so : (broken : OpenFault) (net : Network) (cert : Cert) → HasLengths net cert → IsRefused net cert broken → IsUnaccepted (outcome_of_opening broken) net cert
opening_so (opening.Cert broken) net cert lengths refused = refused_unaccepted (outcome_of_fault broken) net cert (fault_so broken net cert lengths refused)
opening_so (opening.Calc (calc.Overflow at.Bound)) net cert lengths refused = refused
opening_so (opening.Calc (calc.Overflow at.Room)) net cert lengths refused = refused
opening_so (opening.Calc broken) net cert lengths refused = absurd refused
opening_so opening.NoMemory net cert lengths refused = tt

-- what is known under a certificate when a session is open
pub record Stood (net : Network) (cert : Cert) (num den : ℕ) (bounds : List ℕ) : Type 0 where
  pub checked : check_outcome net cert ≡ Ok tt
  pub certifies : Certifies net cert
  pub slack : IsSlack cert num den
  pub found : FindsGreatest net num den
  pub are : AreBounds net num den bounds
  pub room : HasRoom bounds
  pub within : (A : List (List ℕ)) → IsPermitted net A → StaysWithin net bounds A
  pub reported : (periods : List Period) → IsPermitted net (map (λ period. period.counts) periods) → AllTimely net 0 periods → ReportsStayWithin net bounds periods

pub opens_with : (net : Network) (cert : Cert) (num den : ℕ) (bounds : List ℕ) → Stood net cert num den bounds → (P : ℕ → ℕ → List ℕ → Type 0) → P num den bounds → Opens net P cert
opens_with net cert num den bounds stood P is = record {
  checked = stood.checked;
  holds = record { certifies = stood.certifies; num = num; den = den; slack = stood.slack; holds = record { bounds = bounds; are = stood.are; room = stood.room; within = stood.within; reported = stood.reported; is = is } };
  found = stood.found;
}

-- what stands under an accepted certificate with the bounds of its slack
stood_by : (net : Network) → IsNetwork net → (cert : Cert) (slack : Fraction) (numbers : List ℤ) → HoldsBounds net (numerator slack) (denominator slack) numbers → check_outcome net cert ≡ Ok tt → Certifies net cert → IsSlack cert (numerator slack) (denominator slack)
    → FindsGreatest net (numerator slack) (denominator slack) → Stood net cert (numerator slack) (denominator slack) (naturals numbers)
stood_by net ok cert slack numbers holds checked certifies is found =
    let list : naturals numbers ≡ holds.bounds = ap naturals holds.listed ∙ naturals_are holds.bounds in
    record {
      checked = checked;
      certifies = certifies;
      slack = is;
      found = found;
      are = subst (λ (bounds : List ℕ). AreBounds net (numerator slack) (denominator slack) bounds) (sym list) holds.are;
      room = subst HasRoom (sym list) holds.room;
      within = λ A permitted. subst (λ (bounds : List ℕ). StaysWithin net bounds A) (sym list) (bound_of_run net ok cert certifies (numerator slack) (denominator slack) is holds.bounds holds.are A permitted);
      reported = λ periods permitted timely. subst (λ (bounds : List ℕ). ReportsStayWithin net bounds periods) (sym list) (bound_of_reported net ok cert certifies (numerator slack) (denominator slack) is holds.bounds holds.are periods permitted timely);
    }

-- what a session stands for behind its opening
pub stood_of : (net : Network) (cert : Cert) (s : SessionView) → IsBounded s → s.net ≡ net → check_outcome net cert ≡ Ok tt → Certifies net cert → IsSlack cert (numerator s.slack) (denominator s.slack) → FindsGreatest net (numerator s.slack) (denominator s.slack)
    → Stood net cert (numerator s.slack) (denominator s.slack) (naturals s.bounds)
stood_of net cert s bounded same checked certifies slack found =
    stood_by net (subst IsNetwork same bounded.acceptable.network) cert s.slack s.bounds (subst (λ (n : Network). HoldsBounds n (numerator s.slack) (denominator s.slack) s.bounds) same bounded.bounds) checked certifies slack found

-- the header of a session is that of its parts
pub header_same : (n net : Network) (f slack : Fraction) (b bounds : List ℤ) → n ≡ net → f ≡ slack → b ≡ bounds → text_of (header_lines n (numerator f) (denominator f) (naturals b)) ≡ text_of (header_lines net (numerator slack) (denominator slack) (naturals bounds))
header_same n net f slack b bounds one two three =
    ap (λ (m : Network). text_of (header_lines m (numerator f) (denominator f) (naturals b))) one ∙ ap (λ (x : Fraction). text_of (header_lines net (numerator x) (denominator x) (naturals b))) two
    ∙ ap (λ (ns : List ℤ). text_of (header_lines net (numerator slack) (denominator slack) (naturals ns))) three

-- the summary of a demonstration is that of its run under the certificate
pub shown_run : (net : Network) (cert : Cert) (n : ℕ) (s s' : SessionView) (greatest : ℕ) (outcome : Outcome) (ports : Ports) → Stood net cert (numerator s.slack) (denominator s.slack) (naturals s.bounds) → s.net ≡ net → s' ≡ record s { round = s'.round }
    → Demonstrated s.net n s'.round.standing greatest → ((shown : Demonstrated s'.net n s'.round.standing greatest) → Answers outcome ports (demo_summary n s'.net (numerator s'.slack) (denominator s'.slack) (naturals s'.bounds) shown.arrivals)) → Opens net (IsShownRun outcome net n ports) cert
shown_run net cert n s s' greatest outcome ports stood on same shown told =
    let net_same : s'.net ≡ s.net = ap (λ (b : SessionView). b.net) same in
    let slack_kept : s'.slack ≡ s.slack = ap (λ (b : SessionView). b.slack) same in
    let bounds_same : s'.bounds ≡ s.bounds = ap (λ (b : SessionView). b.bounds) same in
    let there : Demonstrated s'.net n s'.round.standing greatest = subst (λ (m : Network). Demonstrated m n s'.round.standing greatest) (sym net_same) shown in
    let A = there.arrivals in
    let written =
    subst (λ (m : Network). Answers outcome ports (demo_summary n m (numerator s.slack) (denominator s.slack) (naturals s.bounds) A)) (net_same ∙ on)
    (subst (λ (f : Fraction). Answers outcome ports (demo_summary n s'.net (numerator f) (denominator f) (naturals s.bounds) A)) slack_kept
    (subst (λ (bounds : List ℤ). Answers outcome ports (demo_summary n s'.net (numerator s'.slack) (denominator s'.slack) (naturals bounds) A)) bounds_same (told there))) in
    opens_with net cert (numerator s.slack) (denominator s.slack) (naturals s.bounds) stood (IsShownRun outcome net n ports)
    (record { arrivals = A; periods = there.periods; drawn = there.drawn; permitted = subst (λ (m : Network). IsPermitted m A) (net_same ∙ on) there.permitted; answers = written })
