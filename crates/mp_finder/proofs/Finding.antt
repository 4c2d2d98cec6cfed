-- The greens of the junctions, one after the other.
use Rattle.std.proofs.Common.{◌≡◌, ◌≤◌, ◌<◌, ℕ, ◌+◌, List, [], ◌∷◌, ◌++◌, map, drop, length, Option, Ok, Err, Result, refl, sym, ap, subst, ◌∙◌, arith}
use Rattle.std.specs.declared.vec.Vec.{Vec}
use Rattle.std.proofs.lemmas.List.{drop_all, drop_more}
use Rattle.std.proofs.lemmas.List.FromFn.{length-range_with_len}
use Rattle.mp_model.specs.Certificate.{Cert, mix_at}
use Rattle.mp_model.specs.Guard.{Guard}
use Rattle.mp_model.specs.Network.{Network, junction_numbers}
use Rattle.mp_trial.specs.Trials.{Trial, trial}
use Rattle.mp_finder.specs.Finding.{Finding, Guarded, by_greens, by_trial, finding, found_by, guard_with}
use Rattle.mp_finder.specs.Giving.{GivesFinding, GivesGreens}
use Rattle.mp_finder.specs.Greens.{all_wanted, greens_by}
use Rattle.mp_finder.specs.declared.fault.FindFault.{FindFault}
use Rattle.mp_finder.specs.declared.fault.FindFault.TheVariants as fault
use Rattle.mp_finder.proofs.Lists.{number_at}

rows-append : {A : Type 0} (xs : List (Vec ℕ A)) (y : Vec ℕ A) → map (λ row. row.items) (xs ++ y ∷ []) ≡ map (λ row. row.items) xs ++ y.items ∷ []
rows-append [] y = refl
rows-append (x ∷ xs) y = ap (λ zs. x.items ∷ zs) (rows-append xs y)

pub record Going {A : Type 0} (net : Network) (C L D : ℕ) (cert : Cert) (h : List ℕ) (i : ℕ) (now : List (Vec ℕ A)) : Type 0 where
  pub rest : found_by net C L D cert h [] (junction_numbers net) ≡ found_by net C L D cert h (map (λ row. row.items) now) (drop i (junction_numbers net))

pub going_start : {A : Type 0} (net : Network) (C L D : ℕ) (cert : Cert) (h : List ℕ) → Going {A = A} net C L D cert h 0 []
going_start net C L D cert h = record { rest = refl }

module _ {A : Type 0} (net : Network) (C L D : ℕ) (cert : Cert) (h wants : List ℕ) (i : ℕ) (now : List (Vec ℕ A)) (s : Going net C L D cert h i now) (lt : i < length net.junctions) (want : wants ≡ all_wanted net C D h) where
  abbrev here : Option (List ℕ)
  here = greens_by net C D wants (i + 1) (mix_at cert (i + 1))

  abbrev onward : List ℕ → Finding
  onward own = found_by net C L D cert h (map (λ row. row.items) now ++ own ∷ []) (drop (i + 1) (junction_numbers net))

  going_at : found_by net C L D cert h [] (junction_numbers net) ≡ by_greens C L (i + 1) here onward
  unfolding found_by
  going_at =
      s.rest ∙ ap (found_by net C L D cert h (map (λ row. row.items) now)) (drop_more (junction_numbers net) i 0 (omega (arith, length-range_with_len 1 (length net.junctions))))
      ∙ ap (λ j. by_greens C L j (greens_by net C D (all_wanted net C D h) j (mix_at cert j)) onward) (number_at (length net.junctions) i lt)
      ∙ ap (λ w. by_greens C L (i + 1) (greens_by net C D w (i + 1) (mix_at cert (i + 1))) onward) (sym want)

  pub going_more : (own : Vec ℕ A) → GivesGreens C L (i + 1) here (Ok own) → Going net C L D cert h (i + 1) (now ++ own ∷ [])
  going_more own g = record { rest = going_at ∙ g onward ∙ ap (λ rows. found_by net C L D cert h rows (drop (i + 1) (junction_numbers net))) (sym (rows-append now own)) }

  pub going_fault : (f : FindFault) → GivesGreens {A = A} C L (i + 1) here (Err f) → GivesFinding (Err f) (found_by net C L D cert h [] (junction_numbers net))
  going_fault fault.NoRates g = absurd g
  going_fault fault.Sweeps g = absurd g
  going_fault (fault.Overflow j) g = going_at ∙ g onward
  going_fault (fault.PivotLimit j) g = absurd g
  going_fault (fault.Full j) g = going_at ∙ g onward
  going_fault fault.NoMemory g = tt

pub going_end : {A : Type 0} (net : Network) (C L D : ℕ) (cert : Cert) (h rates : List ℕ) (i : ℕ) (now : List (Vec ℕ A)) → Going net C L D cert h i now → length net.junctions ≤ i → rates ≡ h →
    found_by net C L D cert h [] (junction_numbers net) ≡ Guarded (guard_with C L D rates (map (λ row. row.items) now))
unfolding found_by
going_end net C L D cert h rates i now s le is =
    s.rest ∙ ap (found_by net C L D cert h (map (λ row. row.items) now)) (drop_all i (junction_numbers net) (omega (arith, length-range_with_len 1 (length net.junctions))))
    ∙ ap (λ r. Guarded (guard_with C L D r (map (λ row. row.items) now))) (sym is)

pub ruleset going = (going_start, going_more, going_end)

-- ---- the trial
pub finding_from : (net : Network) (C L D : ℕ) (t : Trial) (result : Result Guard FindFault) → trial net D 0 ≡ t → GivesFinding result (by_trial net C L D t) → GivesFinding result (finding net C L D)
finding_from net C L D t result is g = subst (λ (t : Trial). GivesFinding result (by_trial net C L D t)) (sym is) g
