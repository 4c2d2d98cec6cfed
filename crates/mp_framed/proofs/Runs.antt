-- Over a framed run the drift value at the beginning of each frame stays at most its greatest, and each queue at most its bound.
use Rattle.std.proofs.Common.{◌≡◌, ◌==◌, ℕ, ◌+◌, ◌*◌, ◌%◌, ◌≤◌, ◌<◌, Bool, true, false, cond, List, [], ◌∷◌, map, arith, refl, sym, ◌∙◌, ap, subst, ⊎_elim, mod-lt, zero-le, eq-eqb, eqb-true}
use Rattle.std.proofs.Math.Nat.{mod-add-mod, mod-eq_of_lt, mod_self, zero-mod}
use Rattle.std.specs.List.{AllByRecursion}
use Rattle.std.proofs.lemmas.Bool.{cases_lt, eqb-false, true≢false}
use Rattle.mp_laws.proofs.Bounds.{Stays, all_greatest, opening_drift}
use Rattle.mp_laws.proofs.Lists.{AllOf-map, all_of, each_in}
use Rattle.mp_laws.proofs.Permitted.{stays}
use Rattle.mp_laws.specs.Periods.{IsWithin, phase_of}
use Rattle.mp_model.specs.Arrivals.{StaysWithin, arrivals_of, next_level}
use Rattle.mp_model.specs.Certificate.{Cert, Certifies}
use Rattle.mp_model.specs.DriftValue.{drift_value}
use Rattle.mp_model.specs.Frames.{AreFrameBounds, FramedState, begins, frame_network, framed_advance, framed_opening, framed_passed, framed_run_from, framed_step, greatest_frame_drift, in_frame}
use Rattle.mp_model.specs.Network.{Network, entry, link_at, link_numbers, movement_numbers}
use Rattle.mp_model.specs.NetworkRules.{IsNetwork}
use Rattle.mp_model.specs.Run.{greatest_stages}
use Rattle.mp_model.specs.Slack.{IsSlack}
use Rattle.mp_model.specs.Step.{queue}
use Rattle.mp_framed.proofs.Drift.{frame_kept, frame_queues}
use Rattle.mp_framed.proofs.Parts.{next_part}
use Rattle.mp_framed.proofs.Stretches.{no_stretch}
use Rattle.mp_framed.specs.Accounts.{InFrame, Keeps}
use Rattle.mp_framed.specs.Frames.{FrameBoundLaw, IsPart}

-- the period after a number, within a frame and at its end
next_rest : (F p : ℕ) → 2 ≤ F → ((p + 1) % F == 0) ≡ false → (p + 1) % F ≡ p % F + 1
next_rest F p two e = at (p % F) refl
  where
    at : (m : ℕ) → p % F ≡ m → (p + 1) % F ≡ p % F + 1
    at m is =
        let lt : p % F < F = mod-lt p (omega arith) in
        let turn : (p % F + 1) % F ≡ (p + 1) % F = mod-add-mod p F 1 in
        ⊎_elim (λ (less : p % F + 1 < F). sym turn ∙ mod-eq_of_lt less)
        (λ (no : F ≤ p % F + 1).
        let end : p % F + 1 ≡ F = omega arith in
        let none : (p + 1) % F ≡ 0 = sym turn ∙ ap (λ n. n % F) end ∙ mod_self F in
        absurd (eqb-false ((p + 1) % F) 0 e none))
        (cases_lt (p % F + 1) F)

last_rest : (F p : ℕ) → 2 ≤ F → ((p + 1) % F == 0) ≡ true → p % F + 1 ≡ F
last_rest F p two e =
    let lt : p % F < F = mod-lt p (omega arith) in
    let turn : (p % F + 1) % F ≡ (p + 1) % F = mod-add-mod p F 1 in
    ⊎_elim (λ (less : p % F + 1 < F).
    let same = sym (mod-eq_of_lt less) ∙ turn ∙ eqb-true ((p + 1) % F) 0 e in
    absurd (omega arith))
    (λ (no : F ≤ p % F + 1). omega arith)
    (cases_lt (p % F + 1) F)

-- the framed state of a frame that begins
abbrev pub fresh : Network → FramedState → FramedState
fresh net now = record { state = now.state; first = now.state.queues; stages = greatest_stages net (queue now.state); before = now.stages }

pub same_state : (net : Network) (F : ℕ) (now : FramedState) → (in_frame net F now).state ≡ now.state
same_state net F now = at (begins F now)
  where
    at : (b : Bool) → (cond b (fresh net now) now).state ≡ now.state
    at true = refl
    at false = refl

module _ (net : Network) (ok : IsNetwork net) (F : ℕ) (two : 2 ≤ F) (cert : Cert) (certified : Certifies (frame_network net F) cert) (E D : ℕ) (slack : IsSlack cert E D) where
  -- at the beginning of a period its frame has begun
  pub begun : (now : FramedState) (level : ℕ → ℕ) → IsWithin net level → Keeps net F E D now level → InFrame net F E D (in_frame net F now) level (now.state.period % F)
  begun now level within keeps = at (begins F now) refl
    where
      first : begins F now ≡ true → InFrame net F E D (fresh net now) level 0
      first e = record {
        pass = λ k. 0;
        arrivals = λ l. 0;
        phase = phase_of net now.state;
        first_level = level;
        part = record {
          greatest = all_greatest net (queue now.state) net.junctions ok.some_stage;
          stretch = no_stretch net ok now.state level within;
          served = record {
            chosen = each_in _ (movement_numbers net) (λ k here c. omega arith);
            others = each_in _ (movement_numbers net) (λ k here c. refl);
          };
        };
        within = within;
        top = keeps.fresh e;
      }

      at : (b : Bool) → begins F now ≡ b → InFrame net F E D (cond b (fresh net now) now) level (now.state.period % F)
      at true e = subst (InFrame net F E D (fresh net now) level) (sym (eqb-true (now.state.period % F) 0 e)) (first e)
      at false e = keeps.inside e

  -- after the period the next frame begins with the drift value kept, or the frame goes on
  pub kept : (counts : List ℕ) (frame : FramedState) (level : ℕ → ℕ) → IsWithin net level → InFrame net F E D frame level (frame.state.period % F) →
      Keeps net F E D (framed_step net F counts frame) (λ l. next_level net.per (link_at net l).rate (level l) (arrivals_of net counts l))
  kept counts frame level within f =
      let next = framed_step net F counts frame in
      let next_levels : ℕ → ℕ = λ l. next_level net.per (link_at net l).rate (level l) (arrivals_of net counts l) in
      let m = frame.state.period % F in
      let pass : ℕ → ℕ = λ k. f.pass k + framed_passed net F frame k in
      let arrivals : ℕ → ℕ = λ l. f.arrivals l + arrivals_of net counts l in
      let longer : IsPart net frame.stages (m + 1) pass arrivals (entry frame.first) f.phase f.first_level (queue next.state) (phase_of net next.state) next_levels =
      next_part net ok F m frame refl f.pass f.arrivals f.phase f.first_level level within f.part counts in
      let part : (n : ℕ) → m + 1 ≡ n → IsPart net frame.stages n pass arrivals (entry frame.first) f.phase f.first_level (queue next.state) (phase_of net next.state) next_levels =
      λ n e. subst (λ n. IsPart net frame.stages n pass arrivals (entry frame.first) f.phase f.first_level (queue next.state) (phase_of net next.state) next_levels) e longer in
      record {
        fresh = λ e.
            frame_kept net ok F two cert certified E D slack frame.stages pass arrivals (entry frame.first) f.phase f.first_level (queue next.state) (phase_of net next.state) next_levels
            (part F (last_rest F frame.state.period two e)) f.within f.top;
        inside = λ e. record {
          pass = pass;
          arrivals = arrivals;
          phase = f.phase;
          first_level = f.first_level;
          part = part ((frame.state.period + 1) % F) (sym (next_rest F frame.state.period two e));
          within = f.within;
          top = f.top;
        };
      }

  module _ (bounds : List ℕ) (are : AreFrameBounds net F E D bounds) where
    abbrev pub Bounded : FramedState → Type 0
    Bounded now = AllByRecursion (λ k. queue now.state k ≤ entry bounds k) (movement_numbers net)

    pub bounded_at : (now : FramedState) (level : ℕ → ℕ) → IsWithin net level → Keeps net F E D now level → Bounded now
    bounded_at now level within keeps =
        let frame = in_frame net F now in
        let f = begun now level within keeps in
        subst (λ state. AllByRecursion (λ k. queue state k ≤ entry bounds k) (movement_numbers net)) (same_state net F now)
        (frame_queues net ok F E D bounds are (now.state.period % F) (mod-lt now.state.period (omega arith)) f.pass f.arrivals (entry frame.first) f.phase f.first_level (queue frame.state) (phase_of net frame.state) level f.part.stretch within f.top)

    run_bounded : (A : List (List ℕ)) (now : FramedState) (level : ℕ → ℕ) → IsWithin net level → Keeps net F E D now level → Stays net level A → AllByRecursion Bounded (framed_run_from net F now A)
    run_bounded [] now level within keeps all = (bounded_at now level within keeps, tt)
    run_bounded (counts ∷ A) now level within keeps all =
        let next : ℕ → ℕ = λ l. next_level net.per (link_at net l).rate (level l) (arrivals_of net counts l) in
        let frame = in_frame net F now in
        let f : InFrame net F E D frame level (frame.state.period % F) = subst (λ p. InFrame net F E D frame level (p % F)) (sym (ap (λ s. s.period) (same_state net F now))) (begun now level within keeps) in (
          bounded_at now level within keeps,
          run_bounded A (framed_advance net F counts now) next
              (AllOf-map (λ l. StaysWithin net.per (link_at net l).burst (link_at net l).rate (level l) (map (λ counts. arrivals_of net counts l) (counts ∷ A))) (λ l. next l ≤ net.per * (link_at net l).burst) (λ l s. s.0) (link_numbers net) all)
              (kept counts frame level within f)
              (AllOf-map (λ l. StaysWithin net.per (link_at net l).burst (link_at net l).rate (level l) (map (λ counts. arrivals_of net counts l) (counts ∷ A))) (λ l. StaysWithin net.per (link_at net l).burst (link_at net l).rate (next l) (map (λ counts. arrivals_of net counts l) A)) (λ l s. s.1) (link_numbers net) all),
        )

-- at the opening a frame begins
pub opens : (net : Network) → IsNetwork net → (F E D : ℕ) → Keeps net F E D (framed_opening net) (λ l. 0)
opens net ok F E D = record {
  fresh = λ e. omega (arith, opening_drift net ok);
  inside = λ e. absurd (true≢false (sym (eq-eqb (0 % F) 0 (zero-mod F)) ∙ e));
}

pub frame_bound_of : FrameBoundLaw
frame_bound_of net ok F two cert certified E D slack bounds are A permitted =
    run_bounded net ok F two cert certified E D slack bounds are A (framed_opening net) (λ l. 0) (all_of (λ l. 0 ≤ net.per * (link_at net l).burst) (λ l. zero-le) (link_numbers net)) (opens net ok F E D) (stays net A permitted)
