-- What a round shows of what it keeps, and what its type keeps.
use Rattle.std.specs.Prelude.{◌≡◌, ℕ, true, List, map, Option, None}
use Rattle.mp_model.specs.EventCore.{Copy}
use Rattle.mp_round.specs.RoundView.{RoundView}
use Rattle.mp_round.specs.declared.round.Round.TheInside.{Inside}

-- A round shows where its state stands, its weighed queues, the copies, and the stages of now and of the last closed period.
abbrev pub shown_of : Inside → RoundView
shown_of round = record { standing = round.state; weighed = round.cache; copies = round.copies; decided = round.decided.items; last = round.last.items }

-- No junction has a copy, or has decided.
pub record IsIdle (copies : List (List (Option Copy))) (decided : List (Option ℕ)) : Type 0 where
  pub unheard : copies ≡ map (map (λ copy. None)) copies
  pub undecided : decided ≡ map (λ stage. None) decided

-- A round that is quiet is idle.
abbrev pub IsQuiet : Inside → Type 0
IsQuiet round = round.quiet ≡ true → IsIdle round.copies round.decided.items
