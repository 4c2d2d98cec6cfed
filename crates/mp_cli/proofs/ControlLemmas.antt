-- How the controller ends, and that a good input is answered to its end.
use Rattle.std.proofs.Common.{◌≡◌, ◌++◌, ◌∷◌, ℕ, List, [], length, refl, sym, ◌∙◌, ap, subst, arith}
use Rattle.std.specs.declared.option.Option.{Option}
use Rattle.std.specs.Prelude.{Some}
use Rattle.std.specs.List.{AllByRecursion}
use Rattle.std.proofs.lemmas.List.{append-nil, length-append}
use Rattle.mp_edge.specs.Outside.{Tells}
use Rattle.mp_model.specs.ControlLog.{InputLine}
use Rattle.mp_model.specs.ControlLog.InputLine.{long_line, bad_line}
use Rattle.mp_model.specs.Network.{Network}
use Rattle.mp_control.specs.Controlling.{IsTaken, StartsWith, RefusedAt, HasTooMany}
use Rattle.mp_control.specs.declared.driving.ControlEnd.{ControlEnd}
use Rattle.mp_control.specs.declared.driving.ControlEnd.TheVariants.{Done, Read, Write, LineLimit, Long, Grammar}
use Rattle.mp_run.specs.declared.run.RunEnd.TheVariants as run
use Rattle.mp_cli.specs.declared.outcome.Outcome.{Outcome}
use Rattle.mp_cli.specs.declared.outcome.Outcome.TheVariants.{Run}
use Rattle.mp_cli.specs.Complete.{IsGoodInput}
use Rattle.mp_cli.specs.Controlling.{run_end, ControlEnds, ControlsOn}
use Rattle.mp_cli.specs.Ports.{Ports}
use Rattle.mp_cli.specs.Statuses.{status_of, run_status}

-- each end says what its outcome says
pub controls_to : (net : Network) (ports : Ports) (end : ControlEnd) → ControlEnds net end ports → ControlsOn (Run (run_end end)) net ports
controls_to net ports Done ends = ends
controls_to net ports Read ends = ends
controls_to net ports Write ends = ends
controls_to net ports LineLimit ends = ends
controls_to net ports (Long n) ends = ends
controls_to net ports (Grammar n) ends = ends

pub read_alone : (end : ControlEnd) → run_status (run_end end) ≡ 10 → end ≡ Read
read_alone Read is = refl
read_alone end is = absurd (omega arith)

pub write_alone : (end : ControlEnd) → run_status (run_end end) ≡ 11 → end ≡ Write
write_alone Write is = refl
write_alone end is = absurd (omega arith)

pub none_stored : (end : ControlEnd) → ¬ (run_status (run_end end) ≡ 2)
none_stored Done is = absurd (omega arith)
none_stored end is = absurd (omega arith)

-- where all lines are taken, so is each
taken_at : (lines more : List InputLine) (line : InputLine) → AllByRecursion IsTaken (lines ++ line ∷ more) → IsTaken line
taken_at [] more line all = all.0
taken_at (l ∷ ls) more line all = taken_at ls more line all.1

pub no_refusal : (net : Network) (line : InputLine) (n : ℕ) (left rest was now : Option (List ℕ)) → IsGoodInput net left → RefusedAt net line n left rest was now → IsTaken line
no_refusal net line n left rest was now good refused =
    let told : Tells (Some good.text) rest (λ text rest. (more : List InputLine) × StartsWith net text refused.lines (line ∷ more)) =
    subst (λ (l : Option (List ℕ)). Tells l rest (λ text rest. (more : List InputLine) × StartsWith net text refused.lines (line ∷ more))) good.told refused.read in
    let same : good.lines ≡ refused.lines ++ line ∷ told.2.0 = sym (append-nil good.lines) ∙ sym good.all.all ∙ told.2.1.all in
    taken_at refused.lines told.2.0 line (subst (λ ls. AllByRecursion IsTaken ls) same good.all.taken)

pub not_too_many : (net : Network) (left rest was now : Option (List ℕ)) → IsGoodInput net left → HasTooMany net left rest was now → ⊥
not_too_many net left rest was now good many =
    let told : Tells (Some good.text) rest (λ text rest. (line : InputLine) × (more : List InputLine) × StartsWith net text many.lines (line ∷ more)) =
    subst (λ (l : Option (List ℕ)). Tells l rest (λ text rest. (line : InputLine) × (more : List InputLine) × StartsWith net text many.lines (line ∷ more))) good.told many.read in
    let same : good.lines ≡ many.lines ++ told.2.0 ∷ told.2.1 = sym (append-nil good.lines) ∙ sym good.all.all ∙ told.2.2.all in
    let few = good.few in
    let number = many.number in
    absurd (omega (arith, ap length same, length-append many.lines (told.2.0 ∷ told.2.1)))

-- a good input is answered to its end, where nothing meets a fault
pub good_input : (outcome : Outcome) (net : Network) (ports : Ports) → (status_of outcome ≡ 10 → ⊥) → (status_of outcome ≡ 11 → ⊥) → IsGoodInput net ports.input_before → ControlsOn outcome net ports → status_of outcome ≡ 0
good_input (Run run.Done) net ports read write good ends = refl
good_input (Run run.Read) net ports read write good ends = absurd (read refl)
good_input (Run run.Write) net ports read write good ends = absurd (write refl)
good_input (Run run.LineLimit) net ports read write good ends = absurd (not_too_many net ports.input_before ports.input_after ports.output_before ports.output_after good ends)
good_input (Run (run.Long n)) net ports read write good ends = absurd (no_refusal net long_line n ports.input_before ports.input_after ports.output_before ports.output_after good ends)
good_input (Run (run.Grammar n)) net ports read write good ends = absurd (no_refusal net bad_line n ports.input_before ports.input_after ports.output_before ports.output_after good ends)
good_input outcome net ports read write good ends = absurd ends
