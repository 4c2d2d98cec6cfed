-- The movements of a junction, tried alone.
use Rattle.std.proofs.Common.{to_z-of_z, ◌≡◌, ◌==◌, ℕ, suc, ◌+◌, ◌<◌, ◌≤◌, Bool, true, false, cond, List, [], ◌∷◌, All, map, drop, get_or, length, ℤ, pos, ◌≤ℤ◌, Option, Some, None, option_map, option_and_then, Result, Ok, Err, refl, ap, sym, ◌∙◌, subst, arith}
use Rattle.std.specs.List.{AllByRecursion}
use Rattle.std.proofs.lemmas.Int.{ints}
use Rattle.std.proofs.lemmas.List.{length-map, drop_all, drop_more}
use Rattle.std.proofs.lemmas.List.Elements.{All-from_recursion}
use Rattle.mp_num.specs.Fraction.{Fraction}
use Rattle.mp_num.specs.Passing.{stepped}
use Rattle.mp_model.specs.Network.{Network, junction_at, own}
use Rattle.mp_flow.specs.Systems.{Flows}
use Rattle.mp_flow.specs.declared.network.Place.{Place}
use Rattle.mp_flow.specs.declared.network.CalcFault.{CalcFault}
use Rattle.mp_verdict.specs.Game.{Score, slack_alone, alone, lower_of, tried, all_tried}
use Rattle.mp_verdict.specs.Stated.{Reached, PassesAt, at_place, Gives}
use Rattle.mp_admit.specs.declared.score.Score.{Score as Kept}
use Rattle.mp_admit.specs.Scores.{scores_of, lower_than, IfStands, StandsIn, AreValues}
use Rattle.mp_admit.proofs.RowLemmas.{own_known, Lining, lining_start, lining_more, lining_end}
use Rattle.mp_admit.proofs.FaultLemmas.{fault_kept}

-- ---- the values of one movement alone
alone_sign : (k : ℕ) (ks : List ℕ) → AllByRecursion (λ z. pos 0 ≤ℤ z) (alone k ks)
alone_sign k [] = tt
alone_sign k (m ∷ ks) = (go (m == k), alone_sign k ks)
  where
    go : (b : Bool) → pos 0 ≤ℤ cond {A = ℤ} b (pos 1) (pos 0)
    go true = omega (arith, ints)
    go false = omega (arith, ints)

pub alone_values : (net : Network) (j k : ℕ) (values : List ℤ) → values ≡ alone k (own net (junction_at net j)) → AreValues net j values
alone_values net j k values e = record {
  size = ap length e ∙ length-map (own net (junction_at net j)) (λ m. cond (m == k) (pos 1) (pos 0));
  sign = subst (λ (zs : List ℤ). All (λ z. pos 0 ≤ℤ z) zs) (sym e) (All-from_recursion (λ z. pos 0 ≤ℤ z) (alone k (own net (junction_at net j))) (alone_sign k (own net (junction_at net j))));
}

pub ruleset aloning = (to_z-of_z, own_known, lining_start, lining_more, lining_end, alone_values)

-- ---- one movement
pub tried_no_slack : (place : Place) (net : Network) (flows : Flows) (j : ℕ) (ks : List ℕ) (score : Option Score) (k : ℕ) → slack_alone net flows k ≡ None → at_place place (tried net flows j ks score k) ≡ PassesAt place
unfolding tried
tried_no_slack place net flows j ks score k e = rw e refl

tried_is : (net : Network) (flows : Flows) (j : ℕ) (ks : List ℕ) (score : Option Score) (k : ℕ) (slack : Fraction) → slack_alone net flows k ≡ Some slack → tried net flows j ks score k ≡ lower_of (record { slack = slack; junction = j; values = alone k ks }) score
unfolding tried
tried_is net flows j ks score k slack e = rw e refl

pub tried_no_order : (place : Place) (net : Network) (flows : Flows) (j : ℕ) (ks : List ℕ) (score : Option Score) (k : ℕ) (slack : Fraction) → slack_alone net flows k ≡ Some slack → lower_than slack score ≡ None → at_place place (tried net flows j ks score k) ≡ PassesAt place
tried_no_order place net flows j ks None k slack e l = cc
tried_no_order place net flows j ks (Some old) k slack e l = ap (at_place place) (tried_is net flows j ks (Some old) k slack e) ∙ rw l refl

pub tried_kept : (place : Place) (net : Network) (flows : Flows) (j : ℕ) (ks : List ℕ) (score : Option Score) (k : ℕ) (slack : Fraction) → slack_alone net flows k ≡ Some slack → lower_than slack score ≡ Some false → at_place place (tried net flows j ks score k) ≡ Reached score
tried_kept place net flows j ks None k slack e l = cc
tried_kept place net flows j ks (Some old) k slack e l = ap (at_place place) (tried_is net flows j ks (Some old) k slack e) ∙ rw l refl

pub tried_taken : (place : Place) (net : Network) (flows : Flows) (j : ℕ) (ks : List ℕ) (score : Option Score) (k : ℕ) (slack : Fraction) (values : List ℤ) → slack_alone net flows k ≡ Some slack → lower_than slack score ≡ Some true → values ≡ alone k ks →
    at_place place (tried net flows j ks score k) ≡ Reached (Some (record { slack = slack; junction = j; values = values }))
tried_taken place net flows j ks None k slack values e l v = ap (at_place place) (tried_is net flows j ks None k slack e) ∙ rw v refl
tried_taken place net flows j ks (Some old) k slack values e l v = ap (at_place place) (tried_is net flows j ks (Some old) k slack e) ∙ rw (l, v) refl

pub stands_alone : (net : Network) (kept : Kept) (j : ℕ) (values : List ℤ) → kept.junction ≡ j → kept.values ≡ values → (1 ≤ j) × (j ≤ length net.junctions) → AreValues net j values → StandsIn net kept
stands_alone net kept j values e v h a = record {
  junction = (omega (arith, e, h), omega (arith, e, h));
  values = subst (λ (i : ℕ). AreValues net i kept.values) (sym e) (subst (λ (zs : List ℤ). AreValues net j zs) (sym v) a);
}

pub ruleset trying = (to_z-of_z, tried_no_slack, tried_no_order, tried_kept, tried_taken, stands_alone)

-- ---- all movements, one after the other
pub record Trials (f : Option Score → ℕ → Option (Option Score)) (start : Option Score) (ks : List ℕ) (i : ℕ) (now : Option Score) : Type 0 where
  pub rest : stepped f start ks ≡ stepped f now (drop i ks)

pub trials_start : (f : Option Score → ℕ → Option (Option Score)) (start : Option Score) (ks : List ℕ) → Trials f start ks 0 start
trials_start f start ks = record { rest = refl }

run_at : (f : Option Score → ℕ → Option (Option Score)) (now : Option Score) (ks : List ℕ) (i : ℕ) → i < length ks → stepped f now (drop i ks) ≡ option_and_then (λ t. stepped f t (drop (i + 1) ks)) (f now (get_or ks i 0))
unfolding stepped
run_at f now ks i h = rw (drop_more ks i 0 h) refl

pub trials_more : (f : Option Score → ℕ → Option (Option Score)) (start : Option Score) (ks : List ℕ) (i k : ℕ) (now next : Option Score) → Trials f start ks i now → i < length ks → k ≡ get_or ks i 0 → f now k ≡ Some next → Trials f start ks (i + 1) next
trials_more f start ks i k now next t h e v = record { rest = t.rest ∙ run_at f now ks i h ∙ ap (option_and_then (λ t. stepped f t (drop (i + 1) ks))) (ap (f now) (sym e) ∙ v) }

pub trials_passes : (f : Option Score → ℕ → Option (Option Score)) (start : Option Score) (ks : List ℕ) (i k : ℕ) (now : Option Score) → Trials f start ks i now → i < length ks → k ≡ get_or ks i 0 → f now k ≡ None → stepped f start ks ≡ None
trials_passes f start ks i k now t h e v = t.rest ∙ run_at f now ks i h ∙ ap (option_and_then (λ t. stepped f t (drop (i + 1) ks))) (ap (f now) (sym e) ∙ v)

pub trials_end : (f : Option Score → ℕ → Option (Option Score)) (start : Option Score) (ks : List ℕ) (i : ℕ) (now : Option Score) → Trials f start ks i now → length ks ≤ i → stepped f start ks ≡ Some now
unfolding stepped
trials_end f start ks i now t h = t.rest ∙ rw (drop_all i ks h) refl

-- the trials at a junction
abbrev pub trial : Network → Flows → ℕ → Option Score → ℕ → Option (Option Score)
trial net flows j = tried net flows j (own net (junction_at net j))

pub record TrialsAt (net : Network) (flows : Flows) (j : ℕ) (start : Option Kept) (i : ℕ) (now : Option Kept) : Type 0 where
  pub trials : Trials (trial net flows j) (scores_of start) (own net (junction_at net j)) i (scores_of now)
  pub stands : IfStands net now

pub at_start : (net : Network) (flows : Flows) (j : ℕ) (start : Option Kept) → IfStands net start → TrialsAt net flows j start 0 start
at_start net flows j start s = record { trials = trials_start (trial net flows j) (scores_of start) (own net (junction_at net j)); stands = s }

reached_some : {X : Type 0} (place : Place) (o : Option X) (x : X) → at_place place o ≡ Reached x → o ≡ Some x
reached_some place None x e = cc
reached_some place (Some y) x e = let s : y ≡ x = cc in ap Some s

pub at_more : (net : Network) (flows : Flows) (j : ℕ) (place : Place) (start now next : Option Kept) (i k : ℕ) (ks : List ℕ) → TrialsAt net flows j start i now → ks ≡ own net (junction_at net j) → i < length ks → k ≡ get_or ks i 0 →
    at_place place (trial net flows j (scores_of now) k) ≡ Reached (scores_of next) → IfStands net next → TrialsAt net flows j start (i + 1) next
at_more net flows j place start now next i k ks t same h e g s = record {
  trials = trials_more (trial net flows j) (scores_of start) (own net (junction_at net j)) i k (scores_of now) (scores_of next) t.trials (subst (λ (l : List ℕ). i < length l) same h) (e ∙ ap (λ (l : List ℕ). get_or l i 0) same) (reached_some place _ _ g);
  stands = s;
}

pub at_end : (net : Network) (flows : Flows) (j : ℕ) (place : Place) (start now : Option Kept) (i : ℕ) (ks : List ℕ) → TrialsAt net flows j start i now → ks ≡ own net (junction_at net j) → length ks ≤ i → at_place place (all_tried net flows j (scores_of start)) ≡ Reached (scores_of now)
unfolding all_tried
at_end net flows j place start now i ks t same h = ap (at_place place) (trials_end (trial net flows j) (scores_of start) (own net (junction_at net j)) i (scores_of now) t.trials (subst (λ (l : List ℕ). length l ≤ i) same h))

pub at_stands : (net : Network) (flows : Flows) (j : ℕ) (start now : Option Kept) (i : ℕ) → TrialsAt net flows j start i now → IfStands net now
at_stands net flows j start now i t = t.stands

pub at_fault : {X X' : Type 0} (seen : X → Option Score) (seen' : X' → Option Score) (net : Network) (flows : Flows) (j : ℕ) (place : Place) (start now : Option Kept) (i k : ℕ) (ks : List ℕ) (fault : CalcFault) → TrialsAt net flows j start i now → ks ≡ own net (junction_at net j) → i < length ks → k ≡ get_or ks i 0 →
    Gives seen (Err fault) (at_place place (trial net flows j (scores_of now) k)) → Gives seen' (Err fault) (at_place place (all_tried net flows j (scores_of start)))
unfolding all_tried
at_fault seen seen' net flows j place start now i k ks fault t same h e g =
    fault_kept seen seen' place fault (trial net flows j (scores_of now) k) (stepped (trial net flows j) (scores_of start) (own net (junction_at net j)))
    (λ n. trials_passes (trial net flows j) (scores_of start) (own net (junction_at net j)) i k (scores_of now) t.trials (subst (λ (l : List ℕ). i < length l) same h) (e ∙ ap (λ (l : List ℕ). get_or l i 0) same) n) g

pub ruleset trials = (to_z-of_z, own_known, at_start, at_end, at_stands)
