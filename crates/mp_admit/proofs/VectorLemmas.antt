-- The vector from its parts.
use Rattle.std.proofs.Common.{to_z-of_z, ◌≡◌, ℕ, suc, ◌+◌, ◌≤◌, List, [], ◌∷◌, length, map, ℤ, pos, ◌≤ℤ◌, All, Option, Some, None, option_map, option_and_then, Result, Ok, Err, inl, inr, refl, ap, sym, ◌∙◌, subst, arith}
use Rattle.std.specs.List.{AllByRecursion}
use Rattle.std.proofs.lemmas.List.{length-map}
use Rattle.std.proofs.lemmas.List.Elements.{All-from_recursion}
use Rattle.std.proofs.lemmas.List.FromFn.{length-range_with_len}
use Rattle.mp_num.specs.Divisor.{reduced}
use Rattle.mp_num.specs.Passing.{each}
use Rattle.mp_model.specs.Network.{Network, movement_numbers, junction_at, own}
use Rattle.mp_model.specs.NetworkRules.{IsNetwork}
use Rattle.mp_flow.specs.Systems.{Worths, stated_worths}
use Rattle.mp_flow.specs.Calculating.{worths_of}
use Rattle.mp_flow.specs.Calculating as flow
use Rattle.mp_flow.specs.declared.network.Place.{Place}
use Rattle.mp_flow.specs.declared.network.CalcFault.{CalcFault}
use Rattle.mp_verdict.specs.Game.{Score}
use Rattle.mp_verdict.specs.Vector.{value_beside, spread, link_values, vector_entry, vector_by, vector_of}
use Rattle.mp_verdict.specs.Stated.{Reached, at_place, Gives}
use Rattle.mp_verdict.specs.Laws.{IsNatural}
use Rattle.mp_verdict.proofs.Handing.{brought_shape}
use Rattle.mp_verdict.proofs.VectorOf.{vector_is}
use Rattle.mp_admit.specs.declared.score.Score.{Score as Kept}
use Rattle.mp_admit.specs.Scores.{score_of, StandsIn}
use Rattle.mp_admit.specs.Spreads.{vector_from, BringSigned}
use Rattle.mp_admit.proofs.FaultLemmas.{fault_kept}

-- ---- the steps of the vector
pub no_values : {X X' : Type 0} (seen : X → List ℤ) (seen' : X' → List ℤ) (net : Network) (values : List ℤ) (fault : CalcFault) → Gives seen (Err fault) (at_place Place.Adjoint (link_values net values)) → Gives seen' (Err fault) (at_place Place.Adjoint (vector_from net values))
unfolding vector_from
no_values seen seen' net values fault g = fault_kept seen seen' Place.Adjoint fault (link_values net values) (vector_from net values) (λ n. rw n refl) g

reached_some : {X : Type 0} (place : Place) (o : Option X) (x : X) → at_place place o ≡ Reached x → o ≡ Some x
reached_some place None x e = cc
reached_some place (Some y) x e = let s : y ≡ x = cc in ap Some s

pub some_of : {X : Type 0} (place : Place) (o : Option X) (x : X) → at_place place o ≡ Reached x → o ≡ Some x
some_of = reached_some

pub no_worths : {X : Type 0} (seen : X → List ℤ) (net : Network) (values u v : List ℤ) (fault : CalcFault) → at_place Place.Adjoint (link_values net values) ≡ Reached u → v ≡ u → flow.Gives Place.Adjoint worths_of (Err fault) (stated_worths net v) → Gives seen (Err fault) (at_place Place.Adjoint (vector_from net values))
unfolding vector_from
no_worths {X} seen net values u v fault e s (inl p) = subst (λ (f : CalcFault). Gives {X = X} seen (Err f) (at_place Place.Adjoint (vector_from net values))) (sym p.0) (rw (reached_some Place.Adjoint (link_values net values) u e, ap (stated_worths net) (sym s) ∙ p.1) refl)
no_worths {X} seen net values u v fault e s (inr m) = subst (λ (f : CalcFault). Gives {X = X} seen (Err f) (at_place Place.Adjoint (vector_from net values))) (sym m) tt

from_worths : (net : Network) (values u v : List ℤ) (worths : Worths) → at_place Place.Adjoint (link_values net values) ≡ Reached u → v ≡ u → stated_worths net v ≡ Some worths → vector_from net values ≡ option_map reduced (each (vector_entry net values worths) (movement_numbers net))
unfolding vector_from vector_by
from_worths net values u v worths e s w = rw (reached_some Place.Adjoint (link_values net values) u e, ap (stated_worths net) (sym s) ∙ w) refl

pub no_entries : {X X' : Type 0} (seen : X → List ℤ) (seen' : X' → List ℤ) (net : Network) (values u v : List ℤ) (worths : Worths) (fault : CalcFault) → at_place Place.Adjoint (link_values net values) ≡ Reached u → v ≡ u → stated_worths net v ≡ Some worths →
    Gives seen (Err fault) (at_place Place.Adjoint (each (vector_entry net values worths) (movement_numbers net))) → Gives seen' (Err fault) (at_place Place.Adjoint (vector_from net values))
no_entries seen seen' net values u v worths fault e s w g =
    fault_kept seen seen' Place.Adjoint fault (each (vector_entry net values worths) (movement_numbers net)) (vector_from net values) (λ n. from_worths net values u v worths e s w ∙ ap (option_map reduced) n) g

pub vector_reached : (net : Network) (values u v row out : List ℤ) (worths : Worths) → at_place Place.Adjoint (link_values net values) ≡ Reached u → v ≡ u → stated_worths net v ≡ Some worths →
    at_place Place.Adjoint (each (vector_entry net values worths) (movement_numbers net)) ≡ Reached row → out ≡ reduced row → at_place Place.Adjoint (vector_from net values) ≡ Reached out
vector_reached net values u v row out worths e s w r o =
    ap (at_place Place.Adjoint) (from_worths net values u v worths e s w ∙ ap (option_map reduced) (reached_some Place.Adjoint (each (vector_entry net values worths) (movement_numbers net)) row r)) ∙ ap Reached (sym o)

-- ---- the vector of a score
all_by : (zs : List ℤ) → All (λ z. pos 0 ≤ℤ z) zs → AllByRecursion (λ z. pos 0 ≤ℤ z) zs
all_by [] h = tt
all_by (z ∷ zs) h = (h 0 (pos 0) (omega arith), all_by zs (λ k u l. h (suc k) u (omega arith)))

pub spread_brings : (net : Network) (kept : Kept) (values : List ℤ) → IsNetwork net → StandsIn net kept → values ≡ spread net (score_of kept) → BringSigned net values
spread_brings net kept values ok s e = record {
  shape = λ u h. brought_shape net ok (score_of kept) (all_by kept.values s.values.sign) u (ap (link_values net) (sym e) ∙ h);
}

pub length-spread : (net : Network) (kept : Kept) (values : List ℤ) → values ≡ spread net (score_of kept) → length values ≡ length net.movements
unfolding spread
length-spread net kept values e = ap length e ∙ length-map (movement_numbers net) (value_beside (own net (junction_at net kept.junction)) kept.values) ∙ length-range_with_len 1 (length net.movements)

of_from : (net : Network) (score : Score) (values : List ℤ) → values ≡ spread net score → vector_from net values ≡ vector_of net score
unfolding vector_from vector_of
of_from net score values e = rw e refl

pub vector_found : (net : Network) (kept : Kept) (values p q : List ℤ) → values ≡ spread net (score_of kept) → at_place Place.Adjoint (vector_from net values) ≡ Reached p → q ≡ p → at_place Place.Adjoint (vector_of net (score_of kept)) ≡ Reached q
vector_found net kept values p q e r s = ap (at_place Place.Adjoint) (sym (of_from net (score_of kept) values e)) ∙ r ∙ ap Reached (sym s)

pub vector_refused : {X X' : Type 0} (seen : X → List ℤ) (seen' : X' → List ℤ) (net : Network) (kept : Kept) (values : List ℤ) (fault : CalcFault) → values ≡ spread net (score_of kept) → Gives seen (Err fault) (at_place Place.Adjoint (vector_from net values)) → Gives seen' (Err fault) (at_place Place.Adjoint (vector_of net (score_of kept)))
vector_refused seen seen' net kept values fault e g = fault_kept seen seen' Place.Adjoint fault (vector_from net values) (vector_of net (score_of kept)) (λ n. sym (of_from net (score_of kept) values e) ∙ n) g

pub vector_natural : (net : Network) (kept : Kept) (values p q : List ℤ) → IsNetwork net → StandsIn net kept → values ≡ spread net (score_of kept) → at_place Place.Adjoint (vector_from net values) ≡ Reached p → q ≡ p → IsNatural net q
vector_natural net kept values p q ok s e r same =
    let v : vector_of net (score_of kept) ≡ Some q = sym (of_from net (score_of kept) values e) ∙ reached_some Place.Adjoint (vector_from net values) p r ∙ ap Some (sym same) in
    let i = vector_is net ok (score_of kept) (all_by kept.values s.values.sign) q v in
    record { lengths = i.count; signs = All-from_recursion (λ v. pos 0 ≤ℤ v) q i.signs }

pub ruleset vectors = (to_z-of_z, spread_brings, length-spread, vector_reached, vector_found, vector_natural)
