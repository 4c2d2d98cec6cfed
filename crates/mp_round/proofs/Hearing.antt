-- A hearing, by the place of its link.
use Rattle.std.proofs.Common.{◌≡◌, ℕ, ◌-◌, false, List, [], get_or, set, map, Option, None, is_none, sym, ◌∙◌, ap}
use Rattle.mp_model.specs.EventCore.{Answer, Copy, Core, accepted, apply, hear_at, is_stale}
use Rattle.mp_model.specs.EventCore.Answer.{heard, not_adjacent}
use Rattle.mp_model.specs.EventCore.Event.{hear}
use Rattle.mp_model.specs.Network.{Network, junction_at, out_of, entry, targets, has}
use Rattle.mp_round.proofs.Finding.{IsAt, beside_found, has_at, with_found}
use Rattle.mp_round.proofs.Placing.{targets_differ}
use Rattle.mp_round.specs.RoundView.{RoundView, core_of, with_report}

-- the counts of now of a link
abbrev pub report_now : Network → RoundView → ℕ → Copy
report_now net round l = record { period = round.standing.period; counts = map (entry round.standing.queues) (out_of net l) }

abbrev core_with : RoundView → ℕ → List (Option Copy) → Answer × Core
core_with round j row = (heard, core_of (record round { copies = set round.copies (j - 1) row }))

-- a link that the junction feeds is heard
pub hears : (net : Network) (round : RoundView) (j l i : ℕ) → IsAt (targets net (junction_at net j)) l i → (heard, core_of (with_report round j i (report_now net round l))) ≡ apply net (core_of round) (hear j l)
hears net round j l i at =
    let ts = targets net (junction_at net j) in
    sym (ap (hear_at net (core_of round) j l) (has_at ts l i at) ∙ ap (core_with round j) (with_found ts (get_or round.copies (j - 1) []) l i (report_now net round l) (targets_differ net (junction_at net j)) at))

-- and any other is not adjacent
pub not_heard : (net : Network) (round : RoundView) (j l : ℕ) → has (targets net (junction_at net j)) l ≡ false → (not_adjacent j l, core_of round) ≡ apply net (core_of round) (hear j l)
not_heard net round j l e = sym (ap (hear_at net (core_of round) j l) e)

-- whether a link is stale stands at its place
pub stale_at : (net : Network) (round : RoundView) (j l i : ℕ) → IsAt (targets net (junction_at net j)) l i → is_stale net (core_of round) j l ≡ is_none (accepted net.delay round.standing.period (get_or (get_or round.copies (j - 1) []) i None))
stale_at net round j l i at = ap (λ (o : Option Copy). is_none (accepted net.delay round.standing.period o)) (beside_found (targets net (junction_at net j)) (get_or round.copies (j - 1) []) l i at)
