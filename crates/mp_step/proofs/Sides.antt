-- What the spans show of the two halves of the cells.
use Rattle.std.proofs.Common.{◌≡◌, ◌≤◌, ℕ, ◌+◌, ◌-◌, ◌*◌, ℤ, pos, Bool, true, false, cond, List, [], ◌∷◌, ◌++◌, length, take, drop, replicate, arith, refl, sym, ◌∙◌, ap, ap₂, subst, not, ◌⊎◌, inl, inr, ⊎_elim}
use Rattle.std.specs.Prelude.{slice_range}
use Rattle.std.proofs.lemmas.List.{length-take-le, length-drop, length-append, take-append-le, drop-append-le, drop-drop, take_all, take_at, drop_at, take-replicate, drop-replicate, replicate-append-replicate}
use Rattle.std.specs.List.{refill}
use Rattle.mp_region.proofs.Parts.{refilled}
use Rattle.mp_region.specs.Cells.{Cells, Extent, ShareNoCell, part_of}
use Rattle.mp_step.specs.Halves.{half_of, queues_in, phases_in, levels_in}
use Rattle.mp_step.specs.Held.{Held}
use Rattle.mp_step.specs.SpansView.{held_in, span_at, AreAt, IsLaid}
use Rattle.mp_step.specs.declared.spans.Spans.TheInside.{Inside}

-- This is what is held where these halves are of now and after the period.
abbrev pub held_by : ℕ → ℕ → List ℤ → List ℤ → Held
held_by movements links now next = record {
  queues = queues_in movements now;
  phases = phases_in movements links now;
  levels = levels_in movements links now;
  next_queues = queues_in movements next;
  next_phases = phases_in movements links next;
  next_levels = levels_in movements links next;
}

-- a range of n cells from a place of the second list
from_second : (xs ys : List ℤ) (a n : ℕ) → slice_range (xs ++ ys) (length xs + a) (length xs + a + n) ≡ take n (drop a ys)
from_second xs ys a n =
    let many : length xs + a + n - (length xs + a) ≡ n = omega arith in
    ap₂ take many (sym (drop-drop a (length xs) (xs ++ ys)) ∙ ap (drop a) (drop_at xs ys (length xs) refl))

from_first : (xs ys : List ℤ) (a n : ℕ) → a + n ≤ length xs → slice_range (xs ++ ys) a (a + n) ≡ take n (drop a xs)
from_first xs ys a n h =
    let many : a + n - a ≡ n = omega arith in
    let room : n ≤ length (drop a xs) = omega (arith, length-drop a xs) in
    ap₂ take many (drop-append-le a xs ys (omega arith)) ∙ take-append-le n (drop a xs) ys room

-- all that is left
last_of : (m l : ℕ) (xs : List ℤ) → length xs ≡ half_of m l → take l (drop (m + l) xs) ≡ levels_in m l xs
last_of m l xs e =
    take_all l (drop (m + l) xs) (omega (arith, length-drop (m + l) xs)) ∙ sym (drop-drop l m xs)

abbrev pub held : List ℤ → List ℤ → List ℤ → List ℤ → List ℤ → List ℤ → Held
held q p v nq np nv = record { queues = q; phases = p; levels = v; next_queues = nq; next_phases = np; next_levels = nv }

pub same : (q p v nq np nv q' p' v' nq' np' nv' : List ℤ) → (q ≡ q') × ((p ≡ p') × (v ≡ v')) → (nq ≡ nq') × ((np ≡ np') × (nv ≡ nv')) → held q p v nq np nv ≡ held q' p' v' nq' np' nv'
same q p v nq np nv q' p' v' nq' np' nv' now next =
    ap₂ (λ q p. held q p v nq np nv) now.0 now.1.0 ∙ ap₂ (λ v nq. held q' p' v nq np nv) now.1.1 next.0 ∙ ap₂ (held q' p' v' nq') next.1.0 next.1.1

module _ (m l : ℕ) (region : Cells) (low high : List ℤ) (cells : region.cells ≡ low ++ high) (e : length low ≡ half_of m l) (f : length high ≡ half_of m l) where
  part_low : (span : Extent) (at n a : ℕ) → span ≡ span_at at n → at ≡ a → a + n ≤ half_of m l → part_of region span ≡ take n (drop a low)
  part_low span at n a is begin h =
      ap (part_of region) is ∙ ap₂ (λ xs at. slice_range xs at (at + n)) cells begin ∙ from_first low high a n (omega arith)

  part_high : (span : Extent) (at n a : ℕ) → span ≡ span_at at n → at ≡ half_of m l + a → part_of region span ≡ take n (drop a high)
  part_high span at n a is begin =
      let there : at ≡ length low + a = omega arith in
      ap (part_of region) is ∙ ap₂ (λ xs at. slice_range xs at (at + n)) cells there ∙ from_second low high a n

  all_low : (q p v : Extent) → AreAt 0 m l q p v → (part_of region q ≡ queues_in m low) × ((part_of region p ≡ phases_in m l low) × (part_of region v ≡ levels_in m l low))
  all_low q p v at = (
    part_low q 0 m 0 at.first refl (omega arith),
    (
      part_low p (0 + m) l m at.second (omega arith) (omega arith),
      part_low v (0 + (m + l)) l (m + l) at.third (omega arith) (omega arith) ∙ last_of m l low e,
    ),
  )

  all_high : (q p v : Extent) → AreAt (half_of m l) m l q p v → (part_of region q ≡ queues_in m high) × ((part_of region p ≡ phases_in m l high) × (part_of region v ≡ levels_in m l high))
  all_high q p v at = (
    part_high q (half_of m l) m 0 at.first (omega arith),
    (
      part_high p (half_of m l + m) l m at.second (omega arith),
      part_high v (half_of m l + (m + l)) l (m + l) at.third (omega arith) ∙ last_of m l high f,
    ),
  )

-- the spans of now over the first half, and over the second
pub held_first : (s : Inside) (m l : ℕ) (low high : List ℤ) → s.region.cells ≡ low ++ high → length low ≡ half_of m l → length high ≡ half_of m l →
    AreAt 0 m l s.queues s.phases s.levels → AreAt (half_of m l) m l s.next_queues s.next_phases s.next_levels → held_in s ≡ held_by m l low high
held_first s m l low high cells e f now next =
    same _ _ _ _ _ _ _ _ _ _ _ _ (all_low m l s.region low high cells e f s.queues s.phases s.levels now) (all_high m l s.region low high cells e f s.next_queues s.next_phases s.next_levels next)

pub held_second : (s : Inside) (m l : ℕ) (low high : List ℤ) → s.region.cells ≡ low ++ high → length low ≡ half_of m l → length high ≡ half_of m l →
    AreAt (half_of m l) m l s.queues s.phases s.levels → AreAt 0 m l s.next_queues s.next_phases s.next_levels → held_in s ≡ held_by m l high low
held_second s m l low high cells e f now next =
    same _ _ _ _ _ _ _ _ _ _ _ _ (all_high m l s.region low high cells e f s.queues s.phases s.levels now) (all_low m l s.region low high cells e f s.next_queues s.next_phases s.next_levels next)

-- which half is of now, by where its spans begin
pub in_front : (b : Bool) (m l : ℕ) → 1 ≤ m → cond b (half_of m l) 0 ≡ 0 → b ≡ false
in_front true m l h e = absurd (omega arith)
in_front false m l h e = refl

pub behind : (b : Bool) (m l : ℕ) → (cond b (half_of m l) 0 ≡ 0 → ⊥) → b ≡ true
behind true m l h = refl
behind false m l h = absurd (h refl)

-- where the spans lie in the region
abbrev pub lies : Extent → ℕ → ℕ → ℕ → Type 0
lies x used z n = (x.at ≡ z) × ((x.len ≡ n) × (x.at + x.len ≤ used))

begins : (x : Extent) (used z n : ℕ) → x ≡ span_at z n → z + n ≤ used → lies x used z n
begins x used z n e h =
    let at : x.at ≡ z = ap (λ (t : Extent). t.at) e in
    let len : x.len ≡ n = ap (λ (t : Extent). t.len) e in
    (at, (len, omega arith))

side_fits : (b : Bool) (half : ℕ) → (cond b half 0 ≤ half) × (cond b 0 half ≤ half)
side_fits true half = (omega arith, omega arith)
side_fits false half = (omega arith, omega arith)

sides_apart : (b : Bool) (half : ℕ) → (cond b half 0 + half ≤ cond b 0 half) ⊎ (cond b 0 half + half ≤ cond b half 0)
sides_apart true half = inr (omega arith)
sides_apart false half = inl (omega arith)

apart_by : (x y : Extent) (used z w n : ℕ) → lies x used z n → lies y used w n → (z + n ≤ w) ⊎ (w + n ≤ z) → ShareNoCell x y
apart_by x y used z w n a b (inl h) = λ cell p q. omega (arith, a, b, p, q)
apart_by x y used z w n a b (inr h) = λ cell p q. omega (arith, a, b, p, q)

-- two spans that a flip exchanges
pub record CanFlip (used : ℕ) (x y : Extent) : Type 0 where
  pub len : x.len ≡ y.len
  pub apart : ShareNoCell x y
  pub within : (x.at + x.len ≤ used) × (y.at + y.len ≤ used)

can_flip : (b : Bool) (half used o n z w : ℕ) (x y : Extent) → used ≡ 2 * half → o + n ≤ half → z ≡ cond b half 0 + o → w ≡ cond b 0 half + o → x ≡ span_at z n → y ≡ span_at w n → CanFlip used x y
can_flip b half used o n z w x y size few zs ws xs ys =
    let fits = side_fits b half in
    let first = begins x used z n xs (omega (arith, fits)) in
    let second = begins y used w n ys (omega (arith, fits)) in
    record {
      len = omega (arith, first, second);
      apart = apart_by x y used z w n first second (⊎_elim (λ (h : cond b half 0 + half ≤ cond b 0 half). inl (omega arith)) (λ (h : cond b 0 half + half ≤ cond b half 0). inr (omega arith)) (sides_apart b half));
      within = (first.1.1, second.1.1);
    }

pub flip_queues : (s : Inside) → IsLaid s → CanFlip s.region.used s.queues s.next_queues
flip_queues s laid = can_flip laid.back (half_of laid.movements laid.links) s.region.used 0 laid.movements _ _ s.queues s.next_queues laid.used (omega arith) (omega arith) (omega arith) laid.now.first laid.next.first

pub flip_phases : (s : Inside) → IsLaid s → CanFlip s.region.used s.phases s.next_phases
flip_phases s laid = can_flip laid.back (half_of laid.movements laid.links) s.region.used laid.movements laid.links _ _ s.phases s.next_phases laid.used (omega arith) refl refl laid.now.second laid.next.second

pub flip_levels : (s : Inside) → IsLaid s → CanFlip s.region.used s.levels s.next_levels
flip_levels s laid = can_flip laid.back (half_of laid.movements laid.links) s.region.used (laid.movements + laid.links) laid.links _ _ s.levels s.next_levels laid.used (omega arith) refl refl laid.now.third laid.next.third

-- a flip turns the sides round
pub turned : (b : Bool) (m l : ℕ) (q p v nq np nv : Extent) → AreAt (cond b (half_of m l) 0) m l q p v → AreAt (cond b 0 (half_of m l)) m l nq np nv →
    AreAt (cond (not b) (half_of m l) 0) m l nq np nv × AreAt (cond (not b) 0 (half_of m l)) m l q p v
turned true m l q p v nq np nv a b = (b, a)
turned false m l q p v nq np nv a b = (b, a)

-- the lengths of what is held
pub count_laid : (s : Inside) → (laid : IsLaid s) → (length (part_of s.region s.queues) ≡ laid.movements) × ((length (part_of s.region s.phases) ≡ laid.links) × (length (part_of s.region s.levels) ≡ laid.links))
count_laid s laid =
    let all : s.region.used ≤ length s.region.cells = omega (arith, laid.size, laid.used) in
    let count : (x y : Extent) (n : ℕ) → CanFlip s.region.used x y → x.len ≡ n → length (part_of s.region x) ≡ n = λ x y n can e. omega (arith, length-take-le x.len (drop x.at s.region.cells) (omega (arith, can.within.0, length-drop x.at s.region.cells)), ap (λ k. length (take k (drop x.at s.region.cells))) (spread x.at x.len)) in (
      count s.queues s.next_queues laid.movements (flip_queues s laid) (ap (λ (t : Extent). t.len) laid.now.first),
      (
        count s.phases s.next_phases laid.links (flip_phases s laid) (ap (λ (t : Extent). t.len) laid.now.second),
        count s.levels s.next_levels laid.links (flip_levels s laid) (ap (λ (t : Extent). t.len) laid.now.third),
      ),
    )
  where
    spread : (a n : ℕ) → a + n - a ≡ n
    spread a n = omega arith

-- the half of now is the first one, or the second
module _ (s : Inside) (laid : IsLaid s) (h : Held) (shown : held_in s ≡ h) (m l : ℕ) (some : length h.queues ≡ m) (many : length h.phases ≡ l) where
  movements_are : laid.movements ≡ m
  movements_are = sym (count_laid s laid).0 ∙ ap (λ (h : Held). length h.queues) shown ∙ some

  links_are : laid.links ≡ l
  links_are = sym (count_laid s laid).1.0 ∙ ap (λ (h : Held). length h.phases) shown ∙ many

  pub half_is : s.queues.len + 2 * s.phases.len ≡ half_of m l
  half_is =
      let q : s.queues.len ≡ laid.movements = ap (λ (t : Extent). t.len) laid.now.first in
      let p : s.phases.len ≡ laid.links = ap (λ (t : Extent). t.len) laid.now.second in
      omega (arith, movements_are, links_are)

  pub size_is : length s.region.cells ≡ 2 * half_of m l
  size_is = omega (arith, laid.size, movements_are, links_are)

  pub front : s.queues.at ≡ 0 → AreAt 0 m l s.queues s.phases s.levels × AreAt (half_of m l) m l s.next_queues s.next_phases s.next_levels
  front e =
      let at : s.queues.at ≡ cond laid.back (half_of laid.movements laid.links) 0 = ap (λ (t : Extent). t.at) laid.now.first in
      let b : laid.back ≡ false = in_front laid.back laid.movements laid.links laid.some (sym at ∙ e) in
      turn (subst (λ b. AreAt (cond b (half_of laid.movements laid.links) 0) laid.movements laid.links s.queues s.phases s.levels) b laid.now)
      (subst (λ b. AreAt (cond b 0 (half_of laid.movements laid.links)) laid.movements laid.links s.next_queues s.next_phases s.next_levels) b laid.next)
    where
      turn : AreAt 0 laid.movements laid.links s.queues s.phases s.levels → AreAt (half_of laid.movements laid.links) laid.movements laid.links s.next_queues s.next_phases s.next_levels →
          AreAt 0 m l s.queues s.phases s.levels × AreAt (half_of m l) m l s.next_queues s.next_phases s.next_levels
      turn now next = (
        subst (λ k. AreAt 0 m k s.queues s.phases s.levels) links_are (subst (λ k. AreAt 0 k laid.links s.queues s.phases s.levels) movements_are now),
        subst (λ k. AreAt (half_of m k) m k s.next_queues s.next_phases s.next_levels) links_are (subst (λ k. AreAt (half_of k laid.links) k laid.links s.next_queues s.next_phases s.next_levels) movements_are next),
      )

  pub back : (s.queues.at ≡ 0 → ⊥) → AreAt (half_of m l) m l s.queues s.phases s.levels × AreAt 0 m l s.next_queues s.next_phases s.next_levels
  back e =
      let at : s.queues.at ≡ cond laid.back (half_of laid.movements laid.links) 0 = ap (λ (t : Extent). t.at) laid.now.first in
      let b : laid.back ≡ true = behind laid.back laid.movements laid.links (λ z. e (at ∙ z)) in
      turn (subst (λ b. AreAt (cond b (half_of laid.movements laid.links) 0) laid.movements laid.links s.queues s.phases s.levels) b laid.now)
      (subst (λ b. AreAt (cond b 0 (half_of laid.movements laid.links)) laid.movements laid.links s.next_queues s.next_phases s.next_levels) b laid.next)
    where
      turn : AreAt (half_of laid.movements laid.links) laid.movements laid.links s.queues s.phases s.levels → AreAt 0 laid.movements laid.links s.next_queues s.next_phases s.next_levels →
          AreAt (half_of m l) m l s.queues s.phases s.levels × AreAt 0 m l s.next_queues s.next_phases s.next_levels
      turn now next = (
        subst (λ k. AreAt (half_of m k) m k s.queues s.phases s.levels) links_are (subst (λ k. AreAt (half_of k laid.links) k laid.links s.queues s.phases s.levels) movements_are now),
        subst (λ k. AreAt 0 m k s.next_queues s.next_phases s.next_levels) links_are (subst (λ k. AreAt 0 k laid.links s.next_queues s.next_phases s.next_levels) movements_are next),
      )

  -- what is held by the halves of these cells
  pub held_front : (region : Cells) (low high : List ℤ) → region.cells ≡ low ++ high → length low ≡ half_of m l → length high ≡ half_of m l → s.queues.at ≡ 0 → held_in (record s { region = region }) ≡ held_by m l low high
  held_front region low high cells e f first = held_first (record s { region = region }) m l low high cells e f (front first).0 (front first).1

  pub held_back : (region : Cells) (low high : List ℤ) → region.cells ≡ low ++ high → length low ≡ half_of m l → length high ≡ half_of m l → (s.queues.at ≡ 0 → ⊥) → held_in (record s { region = region }) ≡ held_by m l high low
  held_back region low high cells e f first = held_second (record s { region = region }) m l low high cells e f (back first).0 (back first).1

pub carry : (P : Held → Held → Type 0) (a b a' b' : Held) → a ≡ a' → b ≡ b' → P a' b' → P a b
carry P a b a' b' e f h = subst (λ b. P a b) (sym f) (subst (λ a. P a b') (sym e) h)

-- the cells at the opening
abbrev zeros : ℕ → List ℤ
zeros n = replicate n (pos 0)

pub opening_halves : (m l n : ℕ) (starts : List ℤ) → n ≡ 2 * half_of m l → length starts ≡ m → starts ++ drop m (replicate n (pos 0)) ≡ (starts ++ replicate (2 * l) (pos 0)) ++ replicate (half_of m l) (pos 0)
opening_halves m l n starts e f =
    let rest : n - m ≡ 2 * l + half_of m l = omega arith in
    ap (λ xs. starts ++ xs) (drop-replicate m n (pos 0) ∙ ap zeros rest ∙ sym (replicate-append-replicate (2 * l) (half_of m l) (pos 0)))
    ∙ sym (append_assoc starts (zeros (2 * l)) (zeros (half_of m l)))
  where
    append_assoc : (xs ys zs : List ℤ) → (xs ++ ys) ++ zs ≡ xs ++ (ys ++ zs)
    append_assoc [] ys zs = refl
    append_assoc (x ∷ xs) ys zs = ap (λ t. x ∷ t) (append_assoc xs ys zs)

pub opening_held : (m l : ℕ) (starts : List ℤ) → length starts ≡ m →
    held_by m l (starts ++ replicate (2 * l) (pos 0)) (replicate (half_of m l) (pos 0)) ≡ held starts (replicate l (pos 0)) (replicate l (pos 0)) (replicate m (pos 0)) (replicate l (pos 0)) (replicate l (pos 0))
opening_held m l starts e =
    let some : 2 * l - l ≡ l = omega arith in
    let left : half_of m l - m ≡ 2 * l = omega arith in
    let rest : drop m (starts ++ zeros (2 * l)) ≡ zeros (2 * l) = drop_at starts (zeros (2 * l)) m e in
    let other : drop m (zeros (half_of m l)) ≡ zeros (2 * l) = drop-replicate m (half_of m l) (pos 0) ∙ ap zeros left in
    let first : take l (zeros (2 * l)) ≡ zeros l = take-replicate l (2 * l) (pos 0) (omega arith) in
    let last : drop l (zeros (2 * l)) ≡ zeros l = drop-replicate l (2 * l) (pos 0) ∙ ap zeros some in
    same _ _ _ _ _ _ _ _ _ _ _ _ (take_at starts (zeros (2 * l)) m e, (ap (take l) rest ∙ first, ap (drop l) rest ∙ last))
    (take-replicate m (half_of m l) (pos 0) (omega arith), (ap (take l) other ∙ first, ap (drop l) other ∙ last))

-- the cells are cut into two halves
pub record Cut (s : Inside) (h : Held) (m l : ℕ) (low high : List ℤ) : Type 0 where
  pub laid : IsLaid s
  pub shown : held_in s ≡ h
  pub some : length h.queues ≡ m
  pub many : length h.phases ≡ l
  pub cells : s.region.cells ≡ low ++ high
  pub low_len : length low ≡ half_of m l
  pub high_len : length high ≡ half_of m l

pub cut : (s : Inside) → IsLaid s → (h : Held) → held_in s ≡ h → (m l : ℕ) → length h.queues ≡ m → length h.phases ≡ l → (all low high : List ℤ) → (mid : ℕ) → all ≡ s.region.cells → all ≡ low ++ high → length low ≡ mid → mid ≡ s.queues.len + 2 * s.phases.len →
    Cut s h m l low high
cut s laid h shown m l some many all low high mid is value front mids =
    let half = half_is s laid h shown m l some many in
    let size = size_is s laid h shown m l some many in
    record {
      laid = laid;
      shown = shown;
      some = some;
      many = many;
      cells = sym is ∙ value;
      low_len = front ∙ mids ∙ half;
      high_len = omega (arith, front, mids, half, size, ap length is, ap length value, length-append low high);
    }

-- the spans over these cells
abbrev pub left : Inside → List ℤ → Inside
left s cells = record s { region = record s.region { cells = refill (length s.region.cells) s.region.cells cells } }

left_is : (s : Inside) (h : Held) (m l : ℕ) (low high new old : List ℤ) → Cut s h m l low high → length new ≡ half_of m l → length old ≡ half_of m l → refill (length s.region.cells) s.region.cells (new ++ old) ≡ new ++ old
left_is s h m l low high new old c e f =
    refilled (length s.region.cells) s.region.cells (new ++ old) (omega (arith, length-append new old, size_is s c.laid h c.shown m l c.some c.many)) refl

pub before_front : (s : Inside) (h : Held) (m l : ℕ) (low high : List ℤ) → Cut s h m l low high → s.queues.at ≡ 0 → h ≡ held_by m l low high
before_front s h m l low high c e = sym c.shown ∙ held_front s c.laid h c.shown m l c.some c.many s.region low high c.cells c.low_len c.high_len e

pub before_back : (s : Inside) (h : Held) (m l : ℕ) (low high : List ℤ) → Cut s h m l low high → (s.queues.at ≡ 0 → ⊥) → h ≡ held_by m l high low
before_back s h m l low high c e = sym c.shown ∙ held_back s c.laid h c.shown m l c.some c.many s.region low high c.cells c.low_len c.high_len e

pub after_front : (s : Inside) (h : Held) (m l : ℕ) (low high : List ℤ) → Cut s h m l low high → (next : List ℤ) → length next ≡ length high → s.queues.at ≡ 0 → held_in (left s (low ++ next)) ≡ held_by m l low next
after_front s h m l low high c next size e =
    held_front s c.laid h c.shown m l c.some c.many (left s (low ++ next)).region low next (left_is s h m l low high low next c c.low_len (size ∙ c.high_len)) c.low_len (size ∙ c.high_len) e

pub after_back : (s : Inside) (h : Held) (m l : ℕ) (low high : List ℤ) → Cut s h m l low high → (next : List ℤ) → length next ≡ length low → (s.queues.at ≡ 0 → ⊥) → held_in (left s (next ++ high)) ≡ held_by m l high next
after_back s h m l low high c next size e =
    held_back s c.laid h c.shown m l c.some c.many (left s (next ++ high)).region next high (left_is s h m l low high next high c (size ∙ c.low_len) c.high_len) (size ∙ c.low_len) c.high_len e
