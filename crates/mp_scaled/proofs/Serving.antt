-- The programs of the junctions, one after the other.
use Rattle.std.proofs.Common.{to_z-of_z, ◌≡◌, ℕ, suc, ◌+◌, ◌<◌, ◌≤◌, Bool, true, false, List, [], ◌∷◌, ◌++◌, map, take, drop, get_or, length, ℤ, pos, ◌*ℤ◌, Option, Some, None, Ok, Err, refl, ap, ap₂, sym, ◌∙◌, arith}
use Rattle.std.specs.Prelude.{int_lt}
use Rattle.std.proofs.lemmas.List.{drop_all, drop_more, take_all, take_more}
use Rattle.std.proofs.lemmas.List.FromFn.{length-range_with_len, get_or-range_with_len}
use Rattle.mp_num.specs.Checked.{within}
use Rattle.mp_model.specs.Network.{Network, junction_at, junction_numbers}
use Rattle.mp_model.specs.Certificate as model
use Rattle.mp_cert.specs.Views.{mix_of, cert_of}
use Rattle.mp_cert.specs.declared.types.Mix.{Mix}
use Rattle.mp_cert.specs.declared.types.Cert.{Cert}
use Rattle.mp_flow.specs.declared.network.Place.{Place}
use Rattle.mp_simplex.specs.declared.Optimum.{Optimum}
use Rattle.mp_simplex.specs.Outcome.{Outcome, Optimal, Ray, Passes, Limit, maximised}
use Rattle.mp_verdict.specs.Program.{program, optimum_at}
use Rattle.mp_verdict.specs.declared.TheConstants.{TURN_LIMIT}
use Rattle.mp_verdict.specs.Stated.{Reached, PassesAt, LimitAt}
use Rattle.mp_verdict.proofs.Reaching.{optimum_reached}
use Rattle.mp_trial.specs.Trials.{Trial, Fits, Unfit, PassesIn, LimitIn, is_above_whole, by_value, by_outcome, certificate_with, served_by}
use Rattle.mp_scaled.specs.declared.fault.ScaleFault.{ScaleFault}
use Rattle.mp_scaled.specs.declared.fault.ScaleFault.TheVariants as fault
use Rattle.mp_scaled.specs.Giving.{certificate_in, GivesMix, GivesTrial}

-- ---- the row of the rates
pub record Rowing (D e : ℕ) (h : List ℕ) (i : ℕ) (now : List ℤ) : Type 0 where
  pub cells : now ≡ pos D ∷ pos e ∷ map (λ rate. pos rate) (take i h)

pub rowing_start : (D e : ℕ) (h : List ℕ) (x y : ℤ) → x ≡ pos D → y ≡ pos e → Rowing D e h 0 (x ∷ y ∷ [])
rowing_start D e h x y a b = record { cells = ap₂ (λ s t. s ∷ t ∷ []) a b }

map-more : (xs : List ℕ) (y : ℕ) → map (λ rate. pos rate) (xs ++ y ∷ []) ≡ map (λ rate. pos rate) xs ++ pos y ∷ []
map-more [] y = refl
map-more (x ∷ xs) y = ap (λ zs. pos x ∷ zs) (map-more xs y)

pub rowing_more : (D e : ℕ) (h : List ℕ) (i : ℕ) (now : List ℤ) (z : ℤ) → Rowing D e h i now → i < length h → z ≡ pos (get_or h i 0) → Rowing D e h (i + 1) (now ++ z ∷ [])
rowing_more D e h i now z s lt is = record {
  cells = ap₂ (λ a b. a ++ b ∷ []) s.cells is ∙ sym (ap (λ t. pos D ∷ pos e ∷ t) (ap (map (λ rate. pos rate)) (take_more h i 0 lt) ∙ map-more (take i h) (get_or h i 0)));
}

pub rowing_end : (D e : ℕ) (h : List ℕ) (i : ℕ) (now : List ℤ) → Rowing D e h i now → length h ≤ i → now ≡ pos D ∷ pos e ∷ map (λ rate. pos rate) h
rowing_end D e h i now s le = s.cells ∙ ap (λ t. pos D ∷ pos e ∷ map (λ rate. pos rate) t) (take_all i h le)

pub ruleset rowing = (to_z-of_z, rowing_start, rowing_more, rowing_end)

-- ---- one junction
pub ruleset comparing = (to_z-of_z)

pub outcome_passes : (D j : ℕ) (place at : Place) (outcome : Outcome) → optimum_at place j outcome ≡ PassesAt at → (go : model.Mix → Trial) → by_outcome D j outcome go ≡ PassesIn j
outcome_passes D j place at (Optimal o) e go = absurd (cc)
outcome_passes D j place at (Ray x) e go = refl
outcome_passes D j place at (Passes pivots) e go = refl
outcome_passes D j place at Limit e go = absurd (cc)

pub outcome_limit : (D j i : ℕ) (place : Place) (outcome : Outcome) → optimum_at place j outcome ≡ LimitAt i → (go : model.Mix → Trial) → by_outcome D j outcome go ≡ LimitIn j
outcome_limit D j i place (Optimal o) e go = absurd (cc)
outcome_limit D j i place (Ray x) e go = absurd (cc)
outcome_limit D j i place (Passes pivots) e go = absurd (cc)
outcome_limit D j i place Limit e go = refl

pub outcome_value : (D j : ℕ) (place : Place) (outcome : Outcome) (o : Optimum) (above : Option Bool) → optimum_at place j outcome ≡ Reached o → is_above_whole D o ≡ above → (go : model.Mix → Trial) → by_outcome D j outcome go ≡ by_value j o above go
outcome_value D j place outcome o above e is go = ap (λ t. by_outcome D j t go) (optimum_reached place j outcome o e) ∙ ap (λ t. by_value j o t go) is

pub value_passes : (D : ℕ) (o : Optimum) → within (pos D *ℤ o.value.den) ≡ None → is_above_whole D o ≡ None
unfolding is_above_whole
value_passes D o e = rw e refl

pub value_is : (D : ℕ) (o : Optimum) (most : ℤ) (above : Bool) → within (pos D *ℤ o.value.den) ≡ Some most → int_lt most o.value.num ≡ above → is_above_whole D o ≡ Some above
unfolding is_above_whole
value_is D o most above e is = rw e (ap Some is)

-- ---- all junctions
pub record Serving (net : Network) (D e : ℕ) (h : List ℕ) (j : ℕ) (now : List Mix) : Type 0 where
  pub rest : served_by net D e h [] (junction_numbers net) ≡ served_by net D e h (map mix_of now) (drop j (junction_numbers net))

pub serving_start : (net : Network) (D e : ℕ) (h : List ℕ) → Serving net D e h 0 []
serving_start net D e h = record { rest = refl }

served_at : (net : Network) (D e : ℕ) (h : List ℕ) (mixes : List model.Mix) (j : ℕ) → j < length net.junctions →
    served_by net D e h mixes (drop j (junction_numbers net))
    ≡ by_outcome D (j + 1) (maximised (program net (junction_at net (j + 1)) (map pos h)) TURN_LIMIT) (λ mix. served_by net D e h (mixes ++ mix ∷ []) (drop (j + 1) (junction_numbers net)))
unfolding served_by
served_at net D e h mixes j lt =
    let n = length net.junctions in
    let size = length-range_with_len 1 n in
    let here : get_or (junction_numbers net) j 0 ≡ j + 1 = get_or-range_with_len 1 n j 0 lt ∙ omega arith in
    ap (served_by net D e h mixes) (drop_more (junction_numbers net) j 0 (omega (arith, size)))
    ∙ ap (λ i. by_outcome D i (maximised (program net (junction_at net i) (map pos h)) TURN_LIMIT) (λ mix. served_by net D e h (mixes ++ mix ∷ []) (drop (j + 1) (junction_numbers net)))) here

mixes-append : (xs : List Mix) (y : Mix) → map mix_of (xs ++ y ∷ []) ≡ map mix_of xs ++ mix_of y ∷ []
mixes-append [] y = refl
mixes-append (x ∷ xs) y = ap (λ zs. mix_of x ∷ zs) (mixes-append xs y)

module _ (net : Network) (D e : ℕ) (h : List ℕ) (j : ℕ) (now : List Mix) (row : List ℤ) (s : Serving net D e h j now) (lt : j < length net.junctions) (cells : row ≡ pos D ∷ pos e ∷ map (λ rate. pos rate) h) where
  served_here : served_by net D e h [] (junction_numbers net) ≡ by_outcome D (j + 1) (maximised (program net (junction_at net (j + 1)) (drop 2 row)) TURN_LIMIT) (λ mix. served_by net D e h (map mix_of now ++ mix ∷ []) (drop (j + 1) (junction_numbers net)))
  served_here =
      s.rest ∙ served_at net D e h (map mix_of now) j lt
      ∙ ap (λ t. by_outcome D (j + 1) (maximised (program net (junction_at net (j + 1)) t) TURN_LIMIT) (λ mix. served_by net D e h (map mix_of now ++ mix ∷ []) (drop (j + 1) (junction_numbers net)))) (sym (ap (drop 2) cells))

  pub serving_more : (mix : Mix) → GivesMix D (j + 1) (maximised (program net (junction_at net (j + 1)) (drop 2 row)) TURN_LIMIT) (Ok (Some mix)) → Serving net D e h (j + 1) (now ++ mix ∷ [])
  serving_more mix g = record { rest = served_here ∙ g _ ∙ ap (λ ms. served_by net D e h ms (drop (j + 1) (junction_numbers net))) (sym (mixes-append now mix)) }

  pub serving_unfit : GivesMix D (j + 1) (maximised (program net (junction_at net (j + 1)) (drop 2 row)) TURN_LIMIT) (Ok None) → served_by net D e h [] (junction_numbers net) ≡ Unfit
  serving_unfit g = served_here ∙ g _

  pub serving_fault : (f : ScaleFault) → GivesMix D (j + 1) (maximised (program net (junction_at net (j + 1)) (drop 2 row)) TURN_LIMIT) (Err f) → GivesTrial e (Err f) (served_by net D e h [] (junction_numbers net))
  serving_fault (fault.Sweeps x) g = absurd g
  serving_fault (fault.Overflow i) g = served_here ∙ g _
  serving_fault (fault.PivotLimit i) g = served_here ∙ g _
  serving_fault fault.NoMemory g = tt

pub serving_end : (net : Network) (D e : ℕ) (h : List ℕ) (j : ℕ) (now : List Mix) (row : List ℤ) (cert : Cert) → Serving net D e h j now → length net.junctions ≤ j → row ≡ pos D ∷ pos e ∷ map (λ rate. pos rate) h →
    cert_of cert ≡ certificate_in row (map mix_of now) → served_by net D e h [] (junction_numbers net) ≡ Fits (cert_of cert)
unfolding served_by
serving_end net D e h j now row cert s le cells is =
    let size = length-range_with_len 1 (length net.junctions) in
    let built : cert_of cert ≡ certificate_with D e h (map mix_of now) = is ∙ ap (λ t. certificate_in t (map mix_of now)) cells in
    s.rest ∙ rw (drop_all j (junction_numbers net) (omega (arith, size))) (ap Fits (sym built))

pub ruleset serving = (to_z-of_z, serving_start, serving_more, serving_unfit, serving_end)
