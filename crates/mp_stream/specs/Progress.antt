-- The middle of a run over a stream.
use Rattle.std.specs.Prelude.{◌≡◌, ◌⊎◌, ℕ, List, [], ◌++◌, length, Option}
use Rattle.std.specs.List.{AllByRecursion}
use Rattle.mp_edge.specs.Outside.{Tells}
use Rattle.mp_model.specs.Log.{text_of}
use Rattle.mp_model.specs.Stream.{LineKind}
use Rattle.mp_text.specs.Cutting.{NoLineFeed}
use Rattle.mp_stream.specs.Course.{Course, kinds_for, kinds_of, StartsWith}

-- Lines of these kinds, each ended by a line feed, stand before the rest of a text, or nothing is left of it.
abbrev pub StandsBefore : {R : Type 0} → Course R → List LineKind → List ℕ → List ℕ → Type 0
StandsBefore run kinds text rest = ((raws : List (List ℕ)) × AllByRecursion NoLineFeed raws × (text ≡ text_of raws ++ rest) × (kinds ≡ kinds_for run raws)) ⊎ (rest ≡ [])

-- Lines of these kinds were taken off a text, and this is left of it.
abbrev pub Leaves : {R : Type 0} → Course R → List LineKind → List ℕ → List ℕ → Type 0
Leaves run kinds text rest = StartsWith run text kinds (kinds_of run rest) × StandsBefore run kinds text rest

-- In the middle of a run: the kinds of the lines so far, behind which it stands and which are permitted, what is to come, and what was written.
pub record Progress {R : Type 0} (run : Course R) (Stands : List LineKind → Type 0) (whole left : Option (List ℕ)) (held : List ℕ) (was now : Option (List ℕ)) (count : ℕ) : Type 0 where
  pub kinds : List LineKind
  pub counted : length kinds ≡ count
  pub stands : Stands kinds
  pub permitted : run.Permits kinds
  pub to_come : Tells whole left (λ text rest. Leaves run kinds text (held ++ rest))
  pub written : Tells was now (λ before after. after ≡ before ++ text_of (run.lines kinds))
