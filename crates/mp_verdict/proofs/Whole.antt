-- The whole game.
use Rattle.std.proofs.Common.{◌≡◌, ℕ, zero, suc, ◌+◌, ◌≤◌, ◌<◌, Bool, true, false, cond, List, [], ◌∷◌, length, get_or, sum_by, unsigned_abs, Option, Some, None, arith, refl, sym, ◌∙◌, ap, subst, ⊎_elim}
use Rattle.std.specs.List.{range_with_len}
use Rattle.std.proofs.lemmas.Option.{option_and_then_some, same_Some}
use Rattle.std.proofs.lemmas.Bool.{cases_lt, false≢true}
use Rattle.std.proofs.lemmas.List.Sums.{sum_by-cons}
use Rattle.mp_model.specs.Network.{Network, Junction, movement_numbers, junction_at, own, stands_in, has, no_junction, numbers_to}
use Rattle.mp_model.specs.NetworkRules.{IsNetwork}
use Rattle.mp_laws.proofs.Lists.{all_in, all_places, at_in, has_filter, back_one}
use Rattle.mp_num.specs.Passing.{stepped}
use Rattle.mp_num.proofs.OutcomeLemmas.{option_map_some}
use Rattle.mp_flow.specs.declared.network.Place.{Place}
use Rattle.mp_flow.specs.Systems.{Flows, AreFlows}
use Rattle.mp_verdict.specs.Stated.{Reached, at_place, run_reached}
use Rattle.mp_verdict.specs.Game.{Score, slack_alone, is_lower, alone, taken, tried, all_tried, played, played_from, after_junction, game}
use Rattle.mp_verdict.specs.declared.TheConstants.{TURN_LIMIT}
use Rattle.mp_verdict.proofs.Plain.{CarriesAt, IsEnd}
use Rattle.mp_verdict.proofs.RatesAt.{d_of, f_of, g_of}
use Rattle.mp_verdict.proofs.Sound.{IsSound, IsSoundAt, weights_of}
use Rattle.mp_verdict.proofs.Reaching.{then_reached, same_reached, at_place_reached}
use Rattle.mp_verdict.proofs.Playing.{run_sound}
use Rattle.mp_verdict.proofs.Turns.{played_sound}

taken_some : (new old : Score) (b : Bool) → taken new old b ≡ None → ⊥
taken_some new old true e = cc
taken_some new old false e = cc

tried_some : (net : Network) (flows : Flows) (n : ℕ) (ks : List ℕ) (score : Option Score) (k : ℕ) → tried net flows n ks score k ≡ Some None → ⊥
unfolding tried
tried_some net flows n ks None k e = option_and_then_some _ (slack_alone net flows k) None e (λ a ha e'. (let x = same_Some _ _ e' in cc))
tried_some net flows n ks (Some old) k e = option_and_then_some _ (slack_alone net flows k) None e (λ a ha e'. option_map_some _ (is_lower a old.slack) None e' (λ b hb e''. taken_some (record { slack = a; junction = n; values = alone k ks }) old b (sym e'')))

-- no score after the movements: there was none, and no movement
first_none : (net : Network) (flows : Flows) (n : ℕ) (own_ks ks : List ℕ) (score : Option Score) → stepped (tried net flows n own_ks) score ks ≡ Some None → (score ≡ None) × (ks ≡ [])
unfolding stepped
first_none net flows n own_ks [] score e = (same_Some _ _ e, refl)
first_none net flows n own_ks (k ∷ ks) score e =
    option_and_then_some _ (tried net flows n own_ks score k) None e (λ mid hm e'.
    (let r = first_none net flows n own_ks ks mid e' in absurd (tried_some net flows n own_ks score k (hm ∙ ap Some r.0))))

module _ (net : Network) (ok : IsNetwork net) (flows : Flows) (are : AreFlows net flows) where
  one_more : (n : ℕ) → IsSoundAt net flows n None → own net (junction_at net (n + 1)) ≡ [] → IsSoundAt net flows (n + 1) None
  one_more n before here i some i' =
      let P : ℕ → Type 0 = λ k. own net (junction_at net k) ≡ [] in
      ⊎_elim (λ (h : i < n + 1). before i some (omega arith)) (λ (h : n + 1 ≤ i). let e : n + 1 ≡ i = omega arith in subst P e here) (cases_lt i (n + 1))

  from_sound : (n : ℕ) (mid next : Option Score) → n < length net.junctions → IsSoundAt net flows n mid → (mid ≡ None → own net (junction_at net (n + 1)) ≡ []) → played_from net flows (n + 1) mid ≡ Reached next → IsSoundAt net flows (n + 1) next
  from_sound n None next l sound none e = subst (IsSoundAt net flows (n + 1)) (same_reached None next e) (one_more n sound (none refl))
  from_sound n (Some st) next l sound none e =
      then_reached (played net flows (n + 1) (TURN_LIMIT + 1) TURN_LIMIT st) _ next e (λ end he e1.
      subst (IsSoundAt net flows (n + 1)) (same_reached (Some end) next e1) (played_sound net ok flows are n (TURN_LIMIT + 1) TURN_LIMIT st end l sound he))

  -- a junction
  junction_sound : (n : ℕ) (score next : Option Score) → n < length net.junctions → IsSoundAt net flows n score → after_junction net flows score (n + 1) ≡ Reached next → IsSoundAt net flows (n + 1) next
  unfolding after_junction all_tried
  junction_sound n score next l sound e =
      let ks = own net (junction_at net (n + 1)) in
      then_reached (at_place (Place.Game (n + 1)) (all_tried net flows (n + 1) score)) _ next e (λ mid hm e1.
      (let there : stepped (tried net flows (n + 1) ks) score ks ≡ Some mid = at_place_reached (Place.Game (n + 1)) (all_tried net flows (n + 1) score) mid hm in
      from_sound n mid next l (run_sound net ok flows are n ks score mid l (all_in ks) sound there)
      (λ none. (first_none net flows (n + 1) ks ks score (there ∙ ap Some none)).1) e1))

  passed_sound : (count n a : ℕ) (score fin : Option Score) → a ≡ n + 1 → n + count ≤ length net.junctions → IsSoundAt net flows n score →
      run_reached (after_junction net flows) score (range_with_len a count) ≡ Reached fin → IsSoundAt net flows (n + count) fin
  unfolding run_reached
  passed_sound zero n a score fin ea l sound e =
      let same : n ≡ n + 0 = omega arith in
      subst (λ (k : ℕ). IsSoundAt net flows k fin) same (subst (IsSoundAt net flows n) (same_reached score fin e) sound)
  passed_sound (suc count) n a score fin ea l sound e =
      then_reached (after_junction net flows score a) _ fin e (λ mid hm e1.
      (let here : after_junction net flows score (n + 1) ≡ Reached mid = subst (λ (k : ℕ). after_junction net flows score k ≡ Reached mid) ea hm in
      let same : n + 1 + count ≡ n + suc count = omega arith in
      subst (λ (k : ℕ). IsSoundAt net flows k fin) same
      (passed_sound count (n + 1) (a + 1) mid fin (omega arith) (omega arith) (junction_sound n score mid (omega arith) sound here) e1)))

  none_before : IsSoundAt net flows 0 None
  none_before i some l = absurd (omega arith)

  -- the score after the first n junctions
  pub some_sound : (n : ℕ) (score : Option Score) → n ≤ length net.junctions → run_reached (after_junction net flows) None (numbers_to n) ≡ Reached score → IsSoundAt net flows n score
  some_sound n score l e =
      let same : 0 + n ≡ n = omega arith in
      subst (λ (k : ℕ). IsSoundAt net flows k score) same (passed_sound n 0 1 None score refl (omega arith) none_before e)

  -- and at the end of the game
  pub game_sound : (score : Option Score) → game net flows ≡ Reached score → IsSoundAt net flows (length net.junctions) score
  unfolding game
  game_sound score e = some_sound (length net.junctions) score (omega arith) e

  pub game_end : (st : Score) → (s : IsSound net flows (length net.junctions) st) → IsEnd net (d_of flows) (f_of flows) (g_of flows) st.junction (weights_of net st) s.whole st.slack.num (unsigned_abs st.slack.den)
  game_end st s =
      let P : Junction → Type 0 = CarriesAt net (d_of flows) (f_of flows) (g_of flows) st.slack.num (unsigned_abs st.slack.den) in
      record { worst = s.worst; carries = all_places P no_junction net.junctions (λ i l. subst (λ (m : ℕ). P (get_or net.junctions m no_junction)) (back_one i) (s.carries (suc i) (omega arith) (omega arith))) }

-- ---- a network with a movement ends its game with a score
not_there : (net : Network) (j : Junction) (k : ℕ) → has (movement_numbers net) k ≡ true → own net j ≡ [] → (b : Bool) → stands_in j k ≡ b → cond {A = ℕ} b 1 0 ≡ 0
not_there net j k m none true e = absurd (false≢true (ap (λ ks. has ks k) (sym none) ∙ has_filter (stands_in j) k (movement_numbers net) m e))
not_there net j k m none false e = refl

none_stand : (net : Network) (k : ℕ) → has (movement_numbers net) k ≡ true → (js : List Junction) → ((i : ℕ) → i < length js → own net (get_or js i no_junction) ≡ []) → sum_by (λ j. cond (stands_in j k) 1 0) js ≡ 0
none_stand net k m [] h = refl
none_stand net k m (j ∷ js) h =
    omega (arith, sum_by-cons (λ j. cond (stands_in j k) 1 0) j js, not_there net j k m (h 0 (omega arith)) (stands_in j k) refl, none_stand net k m js (λ i l. h (suc i) (omega arith)))

pub some_own : (net : Network) → IsNetwork net → (flows : Flows) → (k : ℕ) → has (movement_numbers net) k ≡ true → IsSoundAt net flows (length net.junctions) None → ⊥
some_own net ok flows k m h =
    let one = at_in (λ k. sum_by (λ j. cond (stands_in j k) 1 0) net.junctions ≡ 1) k (movement_numbers net) m ok.placed in
    let none = none_stand net k m net.junctions (λ i l. subst (λ (n : ℕ). own net (get_or net.junctions n no_junction) ≡ []) (back_one i) (h (suc i) (omega arith) (omega arith))) in
    omega (arith, one, none)
