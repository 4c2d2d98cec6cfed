use Rattle.std.proofs.Common.{◌≡◌, ℕ, List, length, sym, ◌∙◌, ap, subst}
use Rattle.std.proofs.lemmas.List.FromFn.{length-map-range_with_len}
use Rattle.mp_guard.specs.Bursts.{AreBursts, ComeToRest, bounds_of, waits_of}
use Rattle.mp_guard.specs.GuardHeader.{guard_header}
use Rattle.mp_model.specs.Log.{text_of}
use Rattle.mp_cli.specs.declared.outcome.Outcome.{Outcome}
use Rattle.mp_cli.specs.Guarding.{HasNoBursts}
use Rattle.mp_cli.proofs.GuardLemmas.{no_bursts}
use Rattle.mp_cli.proofs.controlling_guard.header_of.Goals as goal

pub returns-in-Err-clause-refused : goal.returns-in-Err-clause-refused
returns-in-Err-clause-refused c =
    subst (λ (outcome : Outcome). HasNoBursts outcome c.args.net.now c.args.guard.now) (sym c.outcome_of_bursts.ensures)
    (no_bursts c.in-Err.fault c.args.net.now c.args.guard.now c.in-Ok.surpluses.items c.in-Ok.ensures (λ same. rw c.deref.ensures.value at c.in-Err.ensures.sweeps same))

pub header_text-requires-clause-bounds : goal.header_text-requires-clause-bounds
header_text-requires-clause-bounds c = ap (length {A = ℕ}) (c.deref-4.ensures.value ∙ c.in-Ok-bounds.ensures) ∙ length-map-range_with_len _ 1 (length c.args.net.now.movements)

pub header_text-requires-clause-waits : goal.header_text-requires-clause-waits
header_text-requires-clause-waits c = ap (length {A = ℕ}) (c.deref-5.ensures.value ∙ c.in-Ok-waits.ensures) ∙ length-map-range_with_len _ 1 (length c.args.net.now.movements)

pub returns-in-Ok-header_text-clause-header : goal.returns-in-Ok-header_text-clause-header
returns-in-Ok-header_text-clause-header c =
    let net = c.args.net.now in
    let guard = c.args.guard.now in
    let surpluses = c.in-Ok.surpluses.items in
    let bursts = c.in-Ok-bursts.bursts.items in
    let found : AreBursts net guard surpluses bursts = subst (λ (numbers : List ℕ). AreBursts net guard numbers bursts) c.deref.ensures.value c.in-Ok-bursts.ensures.ok in
    let rest : ComeToRest net guard = record { surpluses = surpluses; are = c.in-Ok.ensures; bursts = bursts; found = found } in
    let one : c.deref-4.result.now ≡ bounds_of net guard surpluses bursts =
    c.deref-4.ensures.value ∙ c.in-Ok-bounds.ensures ∙ ap (λ (numbers : List ℕ). bounds_of net guard numbers c.deref-3.result.now) c.deref-2.ensures.value ∙ ap (λ (numbers : List ℕ). bounds_of net guard surpluses numbers) c.deref-3.ensures.value in
    let two : c.deref-5.result.now ≡ waits_of net guard = c.deref-5.ensures.value ∙ c.in-Ok-waits.ensures in
    let same = c.in-Ok-header_text.ensures ∙ ap (λ (bounds : List ℕ). text_of (guard_header net guard bounds c.deref-5.result.now)) one ∙ ap (λ (waits : List ℕ). text_of (guard_header net guard (bounds_of net guard surpluses bursts) waits)) two in
    record { rest = rest; is = same }
