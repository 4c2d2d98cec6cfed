-- The greens by the stated calculation are those of the plan.
use Rattle.std.proofs.Common.{◌≡◌, ◌==◌, ◌≤◌, ◌<◌, ℕ, zero, suc, ◌+◌, ◌-◌, ◌*◌, max, Bool, true, false, cond, List, [], ◌∷◌, ◌++◌, length, map, filter, sum, take, get_or, Option, Some, None, option_map, option_and_then, Err, arith, refl, sym, ◌∙◌, ap, ap₂, subst, take_all}
use Rattle.std.specs.List.{AllByRecursion, range_with_len}
use Rattle.std.proofs.lemmas.Option.{option_and_then_some, same_Some}
use Rattle.std.proofs.lemmas.List.{take_more}
use Rattle.std.proofs.lemmas.List.FromFn.{map-range_with_len_more}
use Rattle.std.proofs.lemmas.List.Sums.{sum_by-cons}
use Rattle.mp_model.specs.GuardedBursts.{quotient_up}
use Rattle.mp_model.specs.Network.{Network, Junction, flow_of, junction_at, junction_numbers, no_junction, numbers_to, share_of, stage_at, stage_numbers}
use Rattle.mp_model.specs.Plans.{flow_before, greatest_of, green_of, home_of, planned_greens, wanted}
use Rattle.mp_num.specs.Passing.{each, stepped}
use Rattle.mp_num.proofs.OutcomeLemmas.{option_map_some}
use Rattle.mp_plan.specs.declared.fault.PlanFault.{PlanFault}
use Rattle.mp_plan.specs.declared.fault.PlanFault.TheVariants.{Cycle, Flow, Full, Overflow, NoMemory}
use Rattle.mp_plan.specs.Ends.{GreensEnd, JunctionEnds}
use Rattle.mp_plan.specs.Made.{GreensPass, HasGreens, IsFirstFull, IsFull}
use Rattle.mp_plan.specs.Stated.{fitting, green_with, greener, stated_green, stated_greens, stated_sum, stated_wanted, wanted_from}
use Rattle.mp_plan.proofs.Fitting.{fitting_is}

-- ---- a copy of a list so far
pub record Copying (xs : List ℕ) (i : ℕ) (now : List ℕ) : Type 0 where
  pub copied : now ≡ take i xs

pub copying_start : (xs : List ℕ) → Copying xs 0 []
copying_start xs = record { copied = refl }

pub copying_more : (xs : List ℕ) (i x : ℕ) (now : List ℕ) → Copying xs i now → i < length xs → x ≡ get_or xs i 0 → Copying xs (i + 1) (now ++ x ∷ [])
copying_more xs i x now s h e = record { copied = ap₂ (λ a b. a ++ b ∷ []) s.copied e ∙ sym (take_more xs i 0 h) }

pub copying_end : (xs : List ℕ) (i : ℕ) (now : List ℕ) → Copying xs i now → length xs ≤ i → now ≡ xs
copying_end xs i now s h = s.copied ∙ take_all i xs h

pub entry_le_sum : (xs : List ℕ) (i : ℕ) → i < length xs → get_or xs i 0 ≤ sum xs
entry_le_sum [] i h = absurd (omega arith)
entry_le_sum (x ∷ xs) zero h = omega (arith, sum_by-cons (λ n. n) x xs)
entry_le_sum (x ∷ xs) (suc i) h = omega (arith, sum_by-cons (λ n. n) x xs, entry_le_sum xs i (omega arith))

pub ruleset copying = (copying_start, copying_more, copying_end, entry_le_sum)

-- ---- what each gives is what the values are
pub each_is : {X Y : Type 0} (f : X → Option Y) (g : X → Y) → ((x : X) (y : Y) → f x ≡ Some y → y ≡ g x) → (xs : List X) (ys : List Y) → each f xs ≡ Some ys → ys ≡ map g xs
unfolding each
each_is f g is [] ys e = sym (same_Some _ _ e)
each_is f g is (x ∷ xs) ys e =
    option_and_then_some _ (f x) ys e (λ y hy e'.
    option_map_some _ (each f xs) ys e' (λ rest hr e''. e'' ∙ ap₂ ◌∷◌ (is x y hy) (each_is f g is xs rest hr)))

module _ (net : Network) (f : List ℕ) (d cycle : ℕ) where
  wanted_is : (k n : ℕ) → stated_wanted net f d cycle k ≡ Some n → n ≡ wanted net f d cycle k
  unfolding stated_wanted wanted_from
  wanted_is k n e =
      option_and_then_some _ (fitting (cycle * share_of net k * flow_before net f k)) n e (λ above ha e1.
      option_and_then_some _ (fitting (net.shares * net.per * d)) n e1 (λ whole hw e2.
      option_map_some _ (fitting (whole * flow_of net k)) n e2 (λ below hb e3.
      e3 ∙ ap₂ quotient_up (fitting_is _ above ha) (fitting_is _ below hb ∙ ap (λ w. w * flow_of net k) (fitting_is _ whole hw)))))

  module _ (j : Junction) (s : ℕ) where
    want : ℕ → ℕ
    want k = max 1 (wanted net f d cycle k)

    greatest_from : (acc : ℕ) (ks : List ℕ) (g : ℕ) → stepped (green_with net f d cycle j s) acc ks ≡ Some g → g ≡ max acc (greatest_of (map want (filter (λ k. home_of j k == s) ks)))
    unfolding stepped green_with want
    greatest_from acc [] g e = sym (same_Some _ _ e) ∙ omega arith
    greatest_from acc (k ∷ ks) g e =
        option_and_then_some _ (green_with net f d cycle j s acc k) g e (λ next hn e'. go (home_of j k == s) refl next hn (greatest_from next ks g e'))
      where
        go : (b : Bool) → (home_of j k == s) ≡ b → (next : ℕ) → greener b acc (stated_wanted net f d cycle k) ≡ Some next → g ≡ max next (greatest_of (map want (filter (λ k. home_of j k == s) ks))) →
            g ≡ max acc (greatest_of (map want (cond b (k ∷ filter (λ k. home_of j k == s) ks) (filter (λ k. home_of j k == s) ks))))
        go true h next hn r = option_map_some _ (stated_wanted net f d cycle k) next hn (λ n hw e''. let is = wanted_is k n hw in omega (arith, r, e'', is))
        go false h next hn r = let same = same_Some _ _ hn in omega (arith, r, same)

    green_is : (g : ℕ) → stated_green net f d cycle j s ≡ Some g → g ≡ green_of net f d cycle j s
    unfolding stated_green want
    green_is g e = greatest_from 0 (stage_at j s) g e ∙ omega arith

  pub greens_are : (j : Junction) (greens : List ℕ) → stated_greens net f d cycle j ≡ Some greens → greens ≡ planned_greens net f d cycle j
  unfolding stated_greens
  greens_are j greens e =
      option_and_then_some _ (each (stated_green net f d cycle j) (stage_numbers j)) greens e (λ gs hg e'.
      option_map_some _ (stated_sum gs) greens e' (λ all ha e''. e'' ∙ each_is (stated_green net f d cycle j) (green_of net f d cycle j) (λ s g h. green_is j s g h) (stage_numbers j) gs hg))

sum_from : (acc : ℕ) (ns : List ℕ) (s : ℕ) → stepped (λ so_far n. fitting (so_far + n)) acc ns ≡ Some s → s ≡ acc + sum ns
unfolding stepped
sum_from acc [] s e = sym (same_Some _ _ e) ∙ omega arith
sum_from acc (n ∷ ns) s e = option_and_then_some _ (fitting (acc + n)) s e (λ next hn e'. let is = fitting_is (acc + n) next hn in omega (arith, is, sum_by-cons (λ n. n) n ns, sum_from next ns s e'))

pub sum_is : (ns : List ℕ) (s : ℕ) → stated_sum ns ≡ Some s → s ≡ sum ns
unfolding stated_sum
sum_is ns s e = sum_from 0 ns s e ∙ omega arith

-- the greens of a junction from its parts
pub greens_found : (net : Network) (f : List ℕ) (d cycle : ℕ) (j : Junction) (greens : List ℕ) (all : ℕ) → each (stated_green net f d cycle j) (stage_numbers j) ≡ Some greens → stated_sum greens ≡ Some all → stated_greens net f d cycle j ≡ Some greens
unfolding stated_greens
greens_found net f d cycle j greens all e h = ap (option_and_then (λ greens. option_map (λ (all : ℕ). greens) (stated_sum greens))) e ∙ ap (option_map (λ (all : ℕ). greens)) h

pub greens_pass : (net : Network) (f : List ℕ) (d cycle : ℕ) (j : Junction) → each (stated_green net f d cycle j) (stage_numbers j) ≡ None → stated_greens net f d cycle j ≡ None
unfolding stated_greens
greens_pass net f d cycle j e = ap (option_and_then (λ greens. option_map (λ (all : ℕ). greens) (stated_sum greens))) e

pub sum_passes : (net : Network) (f : List ℕ) (d cycle : ℕ) (j : Junction) (greens : List ℕ) → each (stated_green net f d cycle j) (stage_numbers j) ≡ Some greens → stated_sum greens ≡ None → stated_greens net f d cycle j ≡ None
unfolding stated_greens
sum_passes net f d cycle j greens e h = ap (option_and_then (λ greens. option_map (λ (all : ℕ). greens) (stated_sum greens))) e ∙ ap (option_map (λ (all : ℕ). greens)) h

-- ---- junction by junction
pub record Planned (net : Network) (f : List ℕ) (d cycle i : ℕ) (rows : List (List ℕ)) : Type 0 where
  pub rows_are : rows ≡ map (λ j. planned_greens net f d cycle (junction_at net j)) (numbers_to i)
  pub fit : AllByRecursion (HasGreens net f d cycle) (numbers_to i)

pub planned_start : (net : Network) (f : List ℕ) (d cycle : ℕ) → Planned net f d cycle 0 []
planned_start net f d cycle = record { rows_are = refl; fit = tt }

pub all_more : (P : ℕ → Type 0) (a n : ℕ) → AllByRecursion P (range_with_len a n) → P (a + n) → AllByRecursion P (range_with_len a (n + 1))
all_more P a zero all p = let e : a + 0 ≡ a = omega arith in (rw e at p, tt)
all_more P a (suc n) all p =
    let e : a + suc n ≡ a + 1 + n = omega arith in
    let rest : AllByRecursion P (range_with_len (a + 1) (n + 1)) = all_more P (a + 1) n all.1 (rw e at p) in
    let whole : AllByRecursion P (range_with_len a (suc (n + 1))) = (all.0, rest) in
    let same : suc n + 1 ≡ suc (n + 1) = omega arith in
    rw same whole

pub planned_more : (net : Network) (f : List ℕ) (d cycle i : ℕ) (rows next : List (List ℕ)) (row : List ℕ) → Planned net f d cycle i rows → stated_greens net f d cycle (junction_at net (i + 1)) ≡ Some row → sum row ≤ cycle → next ≡ rows ++ row ∷ [] →
    Planned net f d cycle (i + 1) next
planned_more net f d cycle i rows next row so_far stated fit is = record {
  rows_are =
      is ∙ ap₂ (λ a b. a ++ b ∷ []) so_far.rows_are (greens_are net f d cycle (junction_at net (i + 1)) row stated)
      ∙ sym (map-range_with_len_more (λ j. planned_greens net f d cycle (junction_at net j)) 1 i (i + 1) (omega arith));
  fit =
      let e : 1 + i ≡ i + 1 = omega arith in
      all_more (HasGreens net f d cycle) 1 i so_far.fit (rw e (record { greens = row; stated = stated; fit = fit }));
}

pub full_at : (net : Network) (f : List ℕ) (d cycle i : ℕ) (rows : List (List ℕ)) → Planned net f d cycle i rows → i < length net.junctions → IsFull net f d cycle (i + 1) → IsFirstFull net f d cycle (i + 1)
full_at net f d cycle i rows so_far h full = record {
  low = omega arith;
  high = omega arith;
  before = let e : i + 1 - 1 ≡ i = omega arith in rw e so_far.fit;
  full = full;
}

pub pass_at : (net : Network) (f : List ℕ) (d cycle i : ℕ) (rows : List (List ℕ)) → Planned net f d cycle i rows → i < length net.junctions → stated_greens net f d cycle (junction_at net (i + 1)) ≡ None → GreensPass net f d cycle
pass_at net f d cycle i rows so_far h passes = record {
  junction = i + 1;
  low = omega arith;
  high = omega arith;
  before = let e : i + 1 - 1 ≡ i = omega arith in rw e so_far.fit;
  passes = passes;
}

read_from : {X Y : Type 0} (f : ℕ → Y) (g : X → Y) (d : X) (xs : List X) (a : ℕ) → ((i : ℕ) → i < length xs → f (a + i) ≡ g (get_or xs i d)) → map f (range_with_len a (length xs)) ≡ map g xs
read_from f g d [] a h = refl
read_from f g d (x ∷ xs) a h =
    let here : a ≡ a + 0 = omega arith in
    ap₂ ◌∷◌ (ap f here ∙ h 0 (omega arith)) (read_from f g d xs (a + 1) (λ i lt. let e : a + 1 + i ≡ a + suc i = omega arith in ap f e ∙ h (suc i) (omega arith)))

pub read_mapped : {X Y : Type 0} (g : X → Y) (d : X) (xs : List X) → map (λ k. g (get_or xs (k - 1) d)) (numbers_to (length xs)) ≡ map g xs
read_mapped g d xs = read_from (λ k. g (get_or xs (k - 1) d)) g d xs 1 (λ i lt. let e : 1 + i - 1 ≡ i = omega arith in ap (λ n. g (get_or xs n d)) e)

pub planned_end : (net : Network) (f : List ℕ) (d cycle i : ℕ) (rows : List (List ℕ)) → Planned net f d cycle i rows → i ≡ length net.junctions → (rows ≡ map (planned_greens net f d cycle) net.junctions) × AllByRecursion (HasGreens net f d cycle) (junction_numbers net)
planned_end net f d cycle i rows so_far e = (
  so_far.rows_are ∙ ap (λ n. map (λ j. planned_greens net f d cycle (junction_at net j)) (numbers_to n)) e ∙ read_mapped (planned_greens net f d cycle) no_junction net.junctions,
  subst (λ n. AllByRecursion (HasGreens net f d cycle) (numbers_to n)) e so_far.fit,
)

-- the cause at a junction is the cause of all
pub refused_at : (A B C : Type 0) (net : Network) (f : List ℕ) (d cycle i : ℕ) (rows : List (List ℕ)) → Planned net f d cycle i rows → i < length net.junctions → (fault : PlanFault) → JunctionEnds {A = A} net f d cycle (i + 1) (Err fault) → GreensEnd {A = B} {B = C} net f d cycle (Err fault)
refused_at A B C net f d cycle i rows so_far h (Cycle link) e = absurd e
refused_at A B C net f d cycle i rows so_far h Flow e = absurd e
refused_at A B C net f d cycle i rows so_far h (Full junction) e = subst (IsFirstFull net f d cycle) (sym e.0) (full_at net f d cycle i rows so_far h e.1)
refused_at A B C net f d cycle i rows so_far h Overflow e = pass_at net f d cycle i rows so_far h e
refused_at A B C net f d cycle i rows so_far h NoMemory e = tt
