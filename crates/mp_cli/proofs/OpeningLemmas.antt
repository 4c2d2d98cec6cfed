-- What is known of a file that was opened, or refused.
use Rattle.std.proofs.Common.{◌≡◌, ◌≤◌, ◌<◌, ℕ, List, length, true, refl, sym, ◌∙◌, ap, subst, arith, Result, Ok, Err, Some, None}
use Rattle.std.proofs.lemmas.Bool.Decides.{nat_tests}
use Rattle.std.specs.Prelude.{nat_lt}
use Rattle.mp_edge.specs.Outside.{Tells, OfFile}
use Rattle.mp_edge.proofs.Told.{OfFile-weaker}
use Rattle.mp_model.specs.declared.limits.TheConstants.{MOST_FILE_BYTES}
use Rattle.mp_net.specs.declared.fault.NetRule.{NetRule}
use Rattle.mp_net.specs.declared.fault.NetRule.TheVariants as rule
use Rattle.mp_net.specs.declared.fault.Section.TheVariants as section
use Rattle.mp_net.specs.declared.fault.Spot.{Spot}
use Rattle.mp_netfile.specs.Meaning.{file_meaning}
use Rattle.mp_cli.specs.declared.outcome.FileRole.TheVariants as file
use Rattle.mp_cli.specs.declared.outcome.TextKind.{TextKind}
use Rattle.mp_cli.specs.declared.outcome.Outcome.{Outcome}
use Rattle.mp_cli.specs.declared.outcome.Outcome.TheVariants.{Store, LongText, Text, NoMemory}
use Rattle.mp_cli.specs.Opening.{Reads, RefusesText, IsUnread}
use Rattle.mp_cli.specs.Ports.{Files}

-- a long file breaks the first rule
long_file : (bytes : List ℕ) → MOST_FILE_BYTES < length bytes → file_meaning bytes ≡ Err (rule.TooLong, record { section = section.Top; number = 0 })
long_file bytes long =
    let past : nat_lt MOST_FILE_BYTES (length bytes) ≡ true = grind (arith, nat_tests) in
    rw past refl

pub long_refused : (files : Files) (name : List ℕ) → OfFile files name (λ bytes. MOST_FILE_BYTES < length bytes) → OfFile files name (λ bytes. file_meaning bytes ≡ Err (rule.TooLong, record { section = section.Top; number = 0 }))
long_refused files name told = OfFile-weaker files name (λ bytes. MOST_FILE_BYTES < length bytes) (λ bytes. file_meaning bytes ≡ Err (rule.TooLong, record { section = section.Top; number = 0 })) long_file told

-- what was read of a file
pub reads_value : {X E : Type 0} (meaning : List ℕ → Result X E) (files : Files) (name into : List ℕ) (value : X) → OfFile files name (λ bytes. (into ≡ bytes) × (length bytes ≤ MOST_FILE_BYTES)) → length into ≤ MOST_FILE_BYTES → meaning into ≡ Ok value → Reads meaning files name (λ v. v ≡ value)
reads_value meaning files name into value told few is = record {
  bytes = into;
  there = OfFile-weaker files name (λ bytes. (into ≡ bytes) × (length bytes ≤ MOST_FILE_BYTES)) (λ bytes. bytes ≡ into) (λ bytes read. sym read.0) told;
  few = few;
  value = value;
  means = is;
  is = refl;
}

pub rule_read : (files : Files) (name into : List ℕ) (broken : NetRule) (spot : Spot) → OfFile files name (λ bytes. (into ≡ bytes) × (length bytes ≤ MOST_FILE_BYTES)) → file_meaning into ≡ Err (broken, spot)
    → OfFile files name (λ bytes. file_meaning bytes ≡ Err (broken, spot))
rule_read files name into broken spot told is =
    OfFile-weaker files name (λ bytes. (into ≡ bytes) × (length bytes ≤ MOST_FILE_BYTES)) (λ bytes. file_meaning bytes ≡ Err (broken, spot)) (λ bytes read. ap file_meaning (sym read.0) ∙ is) told

pub line_read : {X : Type 0} (meaning : List ℕ → Result X ℕ) (files : Files) (name into : List ℕ) (n : ℕ) → OfFile files name (λ bytes. (into ≡ bytes) × (length bytes ≤ MOST_FILE_BYTES)) → meaning into ≡ Err n
    → OfFile files name (λ bytes. (length bytes ≤ MOST_FILE_BYTES) × (meaning bytes ≡ Err n))
line_read meaning files name into n told is =
    OfFile-weaker files name (λ bytes. (into ≡ bytes) × (length bytes ≤ MOST_FILE_BYTES)) (λ bytes. (length bytes ≤ MOST_FILE_BYTES) × (meaning bytes ≡ Err n)) (λ bytes read. (read.1, ap meaning (sym read.0) ∙ is)) told

-- a text that was not read is refused as that
pub unread_refused : {X : Type 0} (outcome : Outcome) (kind : TextKind) (meaning : List ℕ → Result X ℕ) (files : Files) (other : List ℕ) → IsUnread outcome kind files other → RefusesText outcome kind meaning files other
unread_refused (Text is n) kind meaning files other unread = absurd unread
unread_refused outcome kind meaning files other unread = unread

-- a fact of the value that was read
pub reads_more : {X E : Type 0} (meaning : List ℕ → Result X E) (files : Files) (name : List ℕ) (value : X) (P : X → Type 0) → Reads meaning files name (λ v. v ≡ value) → P value → Reads meaning files name P
reads_more meaning files name value P reads is = record { bytes = reads.bytes; there = reads.there; few = reads.few; value = reads.value; means = reads.means; is = subst P (sym reads.is) is }

-- the files stay the same while the network is read
of_before : (files later : Files) (name : List ℕ) (P : List ℕ → Type 0) → Tells files later (λ was now. now ≡ was) → OfFile later name P → OfFile files name P
of_before None later name P same told = tt
of_before (Some fs) later name P same told = subst (λ (f : Files). OfFile f name P) (same.1 ∙ ap Some same.2) told

pub reads_before : {X E : Type 0} (meaning : List ℕ → Result X E) (files later : Files) (name : List ℕ) (P : X → Type 0) → Tells files later (λ was now. now ≡ was) → Reads meaning later name P → Reads meaning files name P
reads_before meaning files later name P same reads = record {
  bytes = reads.bytes;
  there = of_before files later name (λ bytes. bytes ≡ reads.bytes) same reads.there;
  few = reads.few;
  value = reads.value;
  means = reads.means;
  is = reads.is;
}

pub text_before : {X : Type 0} (outcome : Outcome) (kind : TextKind) (meaning : List ℕ → Result X ℕ) (files later : Files) (other : List ℕ) → Tells files later (λ was now. now ≡ was)
    → RefusesText outcome kind meaning later other → RefusesText outcome kind meaning files other
text_before (Text is n) kind meaning files later other same refused = (refused.0, of_before files later other (λ bytes. (length bytes ≤ MOST_FILE_BYTES) × (meaning bytes ≡ Err n)) same refused.1)
text_before (LongText is) kind meaning files later other same refused = (refused.0, of_before files later other (λ bytes. MOST_FILE_BYTES < length bytes) same refused.1)
text_before (Store file.Other) kind meaning files later other same refused = tt
text_before NoMemory kind meaning files later other same refused = tt
text_before outcome kind meaning files later other same refused = absurd refused
