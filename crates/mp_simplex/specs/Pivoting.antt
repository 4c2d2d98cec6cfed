-- The stated calculation of the pivots. In a row the factor stands at place 0, the entry of variable k at place k, and the right side last; the rows below row 0 have 0 at place 0.
use Rattle.std.specs.Prelude.{ℕ, zero, suc, ◌+◌, ◌-◌, ℤ, pos, ◌*ℤ◌, Bool, true, false, ◌&&◌, ◌||◌, if◌then◌else◌, List, [], ◌∷◌, ◌++◌, get_or, take, drop, set, position, Option, Some, None, option_map, option_and_then, int_lt, nat_lt}
use Rattle.std.specs.Ordering.{int_eq}
use Rattle.mp_num.specs.Checked.{within}
use Rattle.mp_num.specs.Divisor.{reduced}
use Rattle.mp_num.specs.Passing.{each, stepped, counting}
use Rattle.mp_num.specs.Row.{entry, combined}
use Rattle.mp_simplex.specs.declared.turns.Choice.{Choice}
use Rattle.mp_simplex.specs.declared.turns.Choice.TheVariants.{Best, Endless, Passing, Leaves}

-- A number is negative where it is below 0.
abbrev pub negative : ℤ → Bool
negative x = int_lt x (pos 0)

-- The entering variable is the lowest whose entry in row 0 is negative; the place before it is given.
unfoldable pub entering : ℕ → List (List ℤ) → Option ℕ
entering right rows = position negative (take (right - 1) (drop 1 (get_or rows 0 [])))

-- A row is better by its product, u below v; where the two are equal, by a lower basic variable.
abbrev pub better_by : Bool → ℤ → ℤ → Bool
better_by lower u v = int_lt u v || (int_eq u v && lower)

-- Row i is compared with row b by the products of right sides and entries at j.
unfoldable pub better : ℕ → ℕ → List (List ℤ) → List ℕ → ℕ → ℕ → Option Bool
better j right rows basis i b =
    option_and_then (λ u. option_map (λ v. better_by (nat_lt (get_or basis i 0) (get_or basis b 0)) u v)
    (within (entry (get_or rows b []) right *ℤ entry (get_or rows i []) j)))
    (within (entry (get_or rows i []) right *ℤ entry (get_or rows b []) j))

-- The kept row is i where it is better, and b otherwise.
abbrev pub kept : ℕ → ℕ → Bool → Option ℕ
kept i b true = Some i
kept i b false = Some b

-- A row with a positive entry is kept where none is yet, or where it is better than the best so far.
abbrev pub against : ℕ → ℕ → List (List ℤ) → List ℕ → ℕ → Option ℕ → Option (Option ℕ)
against j right rows basis i None = Some (Some i)
against j right rows basis i (Some b) = option_map (kept i b) (better j right rows basis i b)

-- A look at row i passes over it where its entry at j is not positive.
unfoldable pub looked : ℕ → ℕ → List (List ℤ) → List ℕ → Option ℕ → ℕ → Option (Option ℕ)
looked j right rows basis best i = if int_lt (pos 0) (entry (get_or rows i []) j) then against j right rows basis i best else Some best

-- The leaving row is the best of rows 1 to count, if any has a positive entry at j.
unfoldable pub leaving : ℕ → ℕ → ℕ → List (List ℤ) → List ℕ → Option (Option ℕ)
leaving j right count rows basis = stepped (looked j right rows basis) None (counting count 1)

-- The ratio test leads to a pivot, to an endless variable, or passes.
abbrev pub leaving_choice : ℕ → Option (Option ℕ) → Choice
leaving_choice j None = Passing
leaving_choice j (Some None) = Endless j
leaving_choice j (Some (Some i)) = Leaves i j

-- The tableau is best where no variable enters.
abbrev pub entering_choice : (ℕ → Option (Option ℕ)) → Option ℕ → Choice
entering_choice leaves None = Best
entering_choice leaves (Some k) = leaving_choice (k + 1) (leaves (k + 1))

-- The choice is what is to be done with a tableau.
unfoldable pub choice : ℕ → ℕ → List (List ℤ) → List ℕ → Choice
choice right count rows basis = entering_choice (λ j. leaving j right count rows basis) (entering right rows)

-- A pivot combines every other row with row i at variable j, and reduces row i.
unfoldable pub pivoted : ℕ → ℕ → List (List ℤ) → Option (List (List ℤ))
pivoted i j rows =
    (let pivot = get_or rows i [] in
    option_and_then (λ above. option_map (λ below. above ++ reduced pivot ∷ below) (each (combined j pivot) (drop (i + 1) rows))) (each (combined j pivot) (take i rows)))

-- The turns end with the number of pivots done, and with the tableau where something is to be read off.
pub data Ended : Type 0 where
  BestAt : ℕ → List (List ℤ) → List ℕ → Ended
  EndlessAt : ℕ → ℕ → List (List ℤ) → List ℕ → Ended
  PassedAt : ℕ → Ended
  Limited : Ended

-- A choice is followed by an end, or by a pivot.
abbrev pub follow : Choice → ℕ → List (List ℤ) → List ℕ → (ℕ → ℕ → Ended) → Ended
follow Best done rows basis go = BestAt done rows basis
follow (Endless j) done rows basis go = EndlessAt done j rows basis
follow Passing done rows basis go = PassedAt done
follow (Leaves i j) done rows basis go = go i j

-- A pivot that passes ends the turns.
abbrev pub moved : ℕ → (List (List ℤ) → Ended) → Option (List (List ℤ)) → Ended
moved done go None = PassedAt done
moved done go (Some next) = go next

-- The turns are counted down from the pivots that are left, and up by those done.
unfoldable pub turns : ℕ → ℕ → ℕ → ℕ → List (List ℤ) → List ℕ → Ended
turns zero right count done rows basis = follow (choice right count rows basis) done rows basis (λ i j. Limited)
turns (suc left) right count done rows basis =
    follow (choice right count rows basis) done rows basis (λ i j. moved done (λ next. turns left right count (done + 1) next (set basis i j)) (pivoted i j rows))
