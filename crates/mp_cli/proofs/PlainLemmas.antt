-- A stream of arrivals alone ends as a stream of events does: at its end, or above a bucket.
use Rattle.std.proofs.Common.{◌≡◌, ◌≤◌, ◌^◌, ℕ, ◌+◌, List, [], ◌∷◌, ◌++◌, length, map, refl, sym, ◌∙◌, ap, subst, arith, ⊎_elim, append_assoc, Some, None}
use Rattle.std.specs.declared.option.Option.{Option}
use Rattle.std.specs.List.{AllByRecursion}
use Rattle.std.proofs.lemmas.List.{append-nil, length-append, length-map}
use Rattle.mp_model.specs.Arrivals.{IsPermitted, KeepsTo, counts_of}
use Rattle.mp_model.specs.EventCore.{Answer, Core, Event, all_lacking, apply, arrivals_events, closed_by, closed_of, core_after, core_opening}
use Rattle.mp_model.specs.EventCore.Answer.{above_at, closed}
use Rattle.mp_model.specs.EventCore.Event.{close}
use Rattle.mp_model.specs.Network.{Network, fed, link_at}
use Rattle.mp_model.specs.NetworkRules.{IsNetwork}
use Rattle.mp_model.specs.Stream.{LineKind, arrivals_of_kinds, line_kind, raw_lines, without_events}
use Rattle.mp_model.specs.Stream.LineKind.{skipped_line, arrivals_line, long_line, bad_line, hear_line, decide_line}
use Rattle.mp_model.specs.StreamEnd.{earlier, end_at, end_from, first_refusal, refusal_of}
use Rattle.mp_model.specs.StreamEnd.StreamEnd.{above_in}
use Rattle.mp_laws.proofs.LineEvents.{after_append, closed_append, performs_line, refusal_append}
use Rattle.mp_laws.proofs.Levels.{first_above, windows_kept}
use Rattle.mp_laws.proofs.Lists.{at_in}
use Rattle.mp_laws.specs.Buckets.{IsFirstAbove}
use Rattle.mp_laws.specs.Lines.{PerformsLine}
use Rattle.mp_stream.proofs.BucketLemmas.{none_above}
use Rattle.mp_stream.specs.Course.{IsTaken}
use Rattle.mp_event_run.proofs.Permits.{within_limit}
use Rattle.mp_cli.specs.Complete.{IsExcessiveStream, IsGoodStream, IsStreamAbove, IsWholeStream}

-- a line that is skipped or of arrivals
abbrev IsPlain : LineKind → Type 0
IsPlain skipped_line = Unit {0}
IsPlain (arrivals_line counts) = Unit {0}
IsPlain kind = ⊥

-- a line that is taken where events are not is plain, and the same where they are taken
plain_line : (a k : LineKind) → without_events a ≡ k → IsTaken k → IsPlain k × (a ≡ k)
plain_line skipped_line k e taken = (subst IsPlain e tt, e)
plain_line (arrivals_line counts) k e taken = (subst IsPlain e tt, e)
plain_line long_line k e taken = absurd (subst IsTaken (sym e) taken)
plain_line bad_line k e taken = absurd (subst IsTaken (sym e) taken)
plain_line (hear_line j l) k e taken = absurd (subst IsTaken (sym e) taken)
plain_line (decide_line j) k e taken = absurd (subst IsTaken (sym e) taken)

-- the lines begin with plain ones of these kinds
record Begins (net : Network) (raws : List (List ℕ)) (ks : List LineKind) : Type 0 where
  are : AllByRecursion IsPlain ks
  rest : List LineKind
  lines : map (line_kind net) raws ≡ ks ++ rest

begins : (net : Network) (raws : List (List ℕ)) (ks ms : List LineKind) → map (λ raw. without_events (line_kind net raw)) raws ≡ ks ++ ms → AllByRecursion IsTaken ks → Begins net raws ks
begins net raws [] ms e taken = record { are = tt; rest = map (line_kind net) raws; lines = refl }
begins net [] (k ∷ ks) ms e taken = cc
begins net (raw ∷ raws) (k ∷ ks) ms e taken =
    let first : without_events (line_kind net raw) ≡ k = cc in
    let others : map (λ raw. without_events (line_kind net raw)) raws ≡ ks ++ ms = cc in
    let one = plain_line (line_kind net raw) k first taken.0 in
    let more = begins net raws ks ms others taken.1 in
    record { are = (one.0, more.are); rest = more.rest; lines = ap (λ x. x ∷ map (line_kind net) raws) one.1 ∙ ap (λ xs. k ∷ xs) more.lines }

none_left : (xs : List LineKind) → length xs ≡ 0 → xs ≡ []
none_left [] e = refl
none_left (x ∷ xs) e = absurd (omega (arith, e))

all_more : (P : LineKind → Type 0) (xs : List LineKind) (y : LineKind) → AllByRecursion P xs → P y → AllByRecursion P (xs ++ y ∷ [])
all_more P [] y all one = (one, tt)
all_more P (x ∷ xs) y all one = (all.0, all_more P xs y all.1 one)

-- what a line of arrivals does behind some events
module _ (net : Network) (ok : IsNetwork net) (es : List Event) (line : ℕ) (counts : List ℕ) where
  abbrev before : List (List ℕ)
  before = closed_of net (core_opening net) es

  abbrev core : Core
  core = core_after net (core_opening net) es

  abbrev lack : List Event
  lack = all_lacking net core

  abbrev ready : Core
  ready = core_after net core lack

  abbrev said : Answer
  said = (apply net ready (close counts)).0

  performs : PerformsLine net core counts
  performs = performs_line net ok es counts

  refusal_is : first_refusal net line core (arrivals_events net core counts) ≡ earlier (refusal_of line (ready.period + 1) said) None
  refusal_is = refusal_append net line lack (close counts ∷ []) core (performs.quiet line)

  first_of : (l : ℕ) → said ≡ above_at l → IsFirstAbove net before counts l
  first_of l is =
      let there : core_after net (core_opening net) (es ++ lack) ≡ ready = after_append net es lack (core_opening net) in
      let same : closed_of net (core_opening net) (es ++ lack) ≡ before = closed_append net es lack (core_opening net) ∙ ap (λ A. before ++ A) performs.none ∙ append-nil before in
      subst (λ A. IsFirstAbove net A counts l) same (first_above net (es ++ lack) counts l (ap (λ c. (apply net c (close counts)).0) there ∙ is))

  -- permitted arrivals close
  shuts : (rest : List (List ℕ)) → IsPermitted net (before ++ counts ∷ rest) → said ≡ closed
  shuts rest permitted =
      ⊎_elim (λ (is : said ≡ closed). is) (λ (is : (l : ℕ) × (said ≡ above_at l)). absurd (none_above net before rest counts is.0 permitted (first_of is.0 is.1))) performs.answer

  closes : said ≡ closed → closed_of net (core_opening net) (es ++ arrivals_events net core counts) ≡ before ++ counts ∷ []
  closes is =
      closed_append net es (arrivals_events net core counts) (core_opening net)
      ∙ ap (λ A. before ++ A) (closed_append net lack (close counts ∷ []) core ∙ ap (λ A. A ++ closed_of net ready (close counts ∷ [])) performs.none ∙ ap (λ a. closed_by a (close counts) []) is)

  -- and others are above a bucket
  refused : (l : ℕ) → IsFirstAbove net before counts l → (p : ℕ) × (m : ℕ) × (first_refusal net line core (arrivals_events net core counts) ≡ Some (above_in line p m))
  refused l first =
      ⊎_elim (λ (is : said ≡ closed).
      let keeps = at_in (λ m. KeepsTo net.per (link_at net m).burst (link_at net m).rate (counts_of net (closed_of net (core_opening net) (es ++ arrivals_events net core counts)) m)) l (fed net) first.of_fed (windows_kept net (es ++ arrivals_events net core counts)) in
      absurd (first.above (subst (λ A. KeepsTo net.per (link_at net l).burst (link_at net l).rate (counts_of net A l)) (closes is) keeps)))
      (λ (is : (m : ℕ) × (said ≡ above_at m)). (ready.period + 1, is.0, refusal_is ∙ ap (λ a. earlier (refusal_of line (ready.period + 1) a) None) is.1)) performs.answer

-- behind some events the stream goes on past lines of these kinds, and closes their arrivals
record GoesPast (net : Network) (es : List Event) (line : ℕ) (ks rest : List LineKind) : Type 0 where
  events : List Event
  ends : end_from net line (core_after net (core_opening net) es) (ks ++ rest) ≡ end_from net (line + length ks) (core_after net (core_opening net) events) rest
  arrivals : closed_of net (core_opening net) events ≡ closed_of net (core_opening net) es ++ arrivals_of_kinds ks

goes_past : (net : Network) → IsNetwork net → (ks rest : List LineKind) (es : List Event) (line : ℕ) → AllByRecursion IsPlain ks → IsPermitted net (closed_of net (core_opening net) es ++ arrivals_of_kinds ks) → line + length ks ≤ 2 ^ 48 + 1 →
    GoesPast net es line ks rest
goes_past net ok [] rest es line all permitted few = record { events = es; ends = ap (λ n. end_from net n (core_after net (core_opening net) es) rest) (omega arith); arrivals = sym (append-nil (closed_of net (core_opening net) es)) }
goes_past net ok (skipped_line ∷ ks) rest es line all permitted few =
    let core = core_after net (core_opening net) es in
    let next = goes_past net ok ks rest es (line + 1) all.1 permitted (omega (arith, few)) in
    let number : line + 1 + length ks ≡ line + length (skipped_line ∷ ks) = omega arith in
    record {
      events = next.events;
      ends = ap (λ o. end_at o (end_from net (line + 1) core (ks ++ rest))) (within_limit net line core skipped_line (omega (arith, few))) ∙ next.ends ∙ ap (λ n. end_from net n (core_after net (core_opening net) next.events) rest) number;
      arrivals = next.arrivals;
    }
goes_past net ok (arrivals_line counts ∷ ks) rest es line all permitted few =
    let before = closed_of net (core_opening net) es in
    let core = core_after net (core_opening net) es in
    let evs = arrivals_events net core counts in
    let shut = shuts net ok es line counts (arrivals_of_kinds ks) permitted in
    let shuts_to = closes net ok es line counts shut in
    let apart : (before ++ counts ∷ []) ++ arrivals_of_kinds ks ≡ before ++ counts ∷ arrivals_of_kinds ks = append_assoc before (counts ∷ []) (arrivals_of_kinds ks) in
    let through = subst (λ A. IsPermitted net (A ++ arrivals_of_kinds ks)) (sym shuts_to) (subst (IsPermitted net) (sym apart) permitted) in
    let next = goes_past net ok ks rest (es ++ evs) (line + 1) all.1 through (omega (arith, few)) in
    let number : line + 1 + length ks ≡ line + length (arrivals_line counts ∷ ks) = omega arith in
    let unrefused : first_refusal net line core evs ≡ None = refusal_is net ok es line counts ∙ ap (λ a. earlier (refusal_of line ((core_after net core (all_lacking net core)).period + 1) a) None) shut in
    record {
      events = next.events;
      ends = ap (λ o. end_at o (end_from net (line + 1) (core_after net core evs) (ks ++ rest))) (within_limit net line core (arrivals_line counts) (omega (arith, few)) ∙ unrefused)
          ∙ ap (λ c. end_from net (line + 1) c (ks ++ rest)) (sym (after_append net es evs (core_opening net))) ∙ next.ends ∙ ap (λ n. end_from net n (core_after net (core_opening net) next.events) rest) number;
      arrivals = next.arrivals ∙ ap (λ A. A ++ arrivals_of_kinds ks) shuts_to ∙ apart;
    }
goes_past net ok (kind ∷ ks) rest es line all permitted few = absurd all.0

pub plain_whole : (net : Network) → IsNetwork net → (left : Option (List ℕ)) → IsGoodStream net left → IsWholeStream net left
plain_whole net ok left good =
    let raws = raw_lines good.text in
    let ks = good.kinds in
    let few : length ks ≤ 2 ^ 48 = good.few in
    let b = begins net raws ks [] good.lines.lines good.lines.taken in
    let whole : length (map (λ raw. without_events (line_kind net raw)) raws) ≡ length (ks ++ []) = ap (length {A = LineKind}) good.lines.lines in
    let same : length (map (line_kind net) raws) ≡ length (ks ++ b.rest) = ap (length {A = LineKind}) b.lines in
    let none : b.rest ≡ [] = none_left b.rest (omega (arith, whole, same, length-map raws (λ raw. without_events (line_kind net raw)), length-map raws (line_kind net), length-append ks [], length-append ks b.rest)) in
    let past = goes_past net ok ks b.rest [] 1 b.are good.permitted (omega arith) in
    record {
      text = good.text;
      told = good.told;
      ends = ap (end_from net 1 (core_opening net)) b.lines ∙ past.ends ∙ ap (end_from net (1 + length ks) (core_after net (core_opening net) past.events)) none;
    }

pub plain_above : (net : Network) → IsNetwork net → (left : Option (List ℕ)) → IsExcessiveStream net left → IsStreamAbove net left
plain_above net ok left s =
    let above = s.above in
    let raws = raw_lines s.text in
    let ks = above.kinds in
    let kind = arrivals_line above.counts in
    let few : s.line ≤ 2 ^ 48 = s.few in
    let number = above.number in
    let front = begins net raws ks (kind ∷ above.more) above.lines.lines above.lines.taken in
    let b = begins net raws (ks ++ kind ∷ []) above.more (above.lines.lines ∙ sym (append_assoc ks (kind ∷ []) above.more)) (all_more IsTaken ks kind above.lines.taken tt) in
    let past = goes_past net ok ks (kind ∷ b.rest) [] 1 front.are above.permitted (omega arith) in
    let core = core_after net (core_opening net) past.events in
    let n = 1 + length ks in
    let why = refused net ok past.events n above.counts s.link (subst (λ A. IsFirstAbove net A above.counts s.link) (sym past.arrivals) above.above) in
    record {
      text = s.text;
      told = s.told;
      line = n;
      period = why.0;
      link = why.1;
      ends = ap (end_from net 1 (core_opening net)) (b.lines ∙ append_assoc ks (kind ∷ []) b.rest) ∙ past.ends
          ∙ ap (λ o. end_at o (end_from net (n + 1) (core_after net core (arrivals_events net core above.counts)) b.rest)) (within_limit net n core kind (omega arith) ∙ why.2);
    }
