-- The line of an outcome, and how it is put in parts.
use Rattle.std.proofs.Common.{◌≡◌, ◌≤◌, ◌++◌, ℕ, List, [], Result, Ok, Err, inl, inr, codes, refl, sym, ◌∙◌, ap, arith}
use Rattle.std.specs.declared.option.Option.{Option}
use Rattle.std.proofs.lemmas.List.{append_assoc, append-nil}
use Rattle.mp_edge.specs.Outside.{Tells, Puts, HasCause}
use Rattle.mp_edge.proofs.Counts.{Rose-within}
use Rattle.mp_edge.proofs.Gains.{GainsPrefix-then}
use Rattle.mp_edge.proofs.Told.{Tells-same}
use Rattle.mp_run.specs.declared.run.RunEnd.TheVariants as end
use Rattle.mp_cli.specs.declared.outcome.FileRole.{FileRole}
use Rattle.mp_cli.specs.declared.outcome.Outcome.{Outcome}
use Rattle.mp_cli.specs.declared.outcome.Outcome.TheVariants.{Done, Run, Store}
use Rattle.mp_cli.specs.Commands.{Command}
use Rattle.mp_cli.specs.Ends.{ErrorOutput, Reports}
use Rattle.mp_cli.specs.Messages.{message_of, words_of, vector_behind}
use Rattle.mp_cli.specs.Statuses.{status_of}

-- an outcome that is no success and no fault of the store is reported by its words
pub message_is : (command : Command) (outcome : Outcome) → (status_of outcome ≡ 0 → ⊥) → ((role : FileRole) → outcome ≡ Store role → ⊥) → message_of command outcome ≡ (words_of outcome ++ codes "\n") ++ vector_behind outcome
message_is command Done fails other = absurd (fails refl)
message_is command (Run end.Done) fails other = absurd (fails refl)
message_is command (Store role) fails other = absurd (other role refl)
message_is command outcome fails other = refl

-- the line of an outcome was put, or a prefix of it
pub reported : {T E : Type 0} (r : Result T E) (command : Command) (outcome : Outcome) (err : ErrorOutput) → Tells err.before err.after (Puts r (message_of command outcome)) → HasCause err.faults_before err.faults_after r → Reports command outcome err
reported (Ok x) command outcome err told cause = inl told
reported (Err e) command outcome err told cause = inr (cause.failed, told)

-- of a success nothing is reported
pub nothing_said : (command : Command) (outcome : Outcome) → status_of outcome ≡ 0 → message_of command outcome ≡ []
nothing_said command Done zero = refl
nothing_said command (Run end.Done) zero = refl
nothing_said command outcome zero = absurd (omega arith)

pub nothing_reported : (command : Command) (outcome : Outcome) (was : Option (List ℕ)) (count : ℕ) → status_of outcome ≡ 0 → Reports command outcome (record { before = was; after = was; faults_before = count; faults_after = count })
nothing_reported command outcome was count zero = inl (Tells-same was _ (λ old. sym (ap (λ text. old ++ text) (nothing_said command outcome zero) ∙ append-nil old)))

-- what was put first stands before what is put behind it
pub puts_behind : {T E : Type 0} (r : Result T E) (line more x y z : List ℕ) → y ≡ x ++ line → Puts r more y z → Puts r (line ++ more) x z
puts_behind (Ok t) line more x y z first then = then ∙ ap (λ m. m ++ more) first ∙ append_assoc x line more
puts_behind (Err e) line more x y z first then = GainsPrefix-then line more x y z first then

-- a cause stays one where the count was lower before
pub cause_within : {T E : Type 0} (r : Result T E) (a b c : ℕ) → a ≤ b → HasCause b c r → HasCause a c r
cause_within (Ok t) a b c early cause = record { later = omega (arith, early, cause.later); failed = cause.failed }
cause_within (Err e) a b c early cause = record { later = omega (arith, early, cause.later); failed = Rose-within a b c c early cause.failed (omega arith) }
