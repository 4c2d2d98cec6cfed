-- The files of a command, and how they are refused.
use Rattle.std.specs.Prelude.{◌≡◌, ◌≤◌, ◌<◌, ℕ, ℤ, List, length, Result, Ok, Err}
use Rattle.mp_edge.specs.Outside.{OfFile}
use Rattle.mp_model.specs.Certificate.{Cert}
use Rattle.mp_model.specs.Network.{Network}
use Rattle.mp_model.specs.NetworkRules.{IsAcceptable}
use Rattle.mp_model.specs.declared.limits.TheConstants.{MOST_FILE_BYTES}
use Rattle.mp_cert.specs.TextMeaning.{cert_meaning, vector_meaning}
use Rattle.mp_guard.specs.GuardText.{guard_meaning}
use Rattle.mp_model.specs.Guard as model
use Rattle.mp_netfile.specs.Meaning.{file_meaning}
use Rattle.mp_cli.specs.declared.outcome.FileRole.TheVariants as file
use Rattle.mp_cli.specs.declared.outcome.TextKind.{TextKind}
use Rattle.mp_cli.specs.declared.outcome.TextKind.TheVariants.{Certificate, Vector, Guard}
use Rattle.mp_cli.specs.declared.outcome.Outcome.{Outcome}
use Rattle.mp_cli.specs.declared.outcome.Outcome.TheVariants.{Store, Network as BadNetwork, LongText, Text, NoMemory}
use Rattle.mp_cli.specs.Ports.{Files, Ports, RefusedOr}

-- The file of the name has at most 1,048,576 bytes, they mean a value, and the fact is true of it. Where the files are not told, these are the bytes of some file.
pub record Reads {X E : Type 0} (meaning : List ℕ → Result X E) (files : Files) (name : List ℕ) (P : X → Type 0) : Type 0 where
  pub bytes : List ℕ
  pub there : OfFile files name (λ told. told ≡ bytes)
  pub few : length bytes ≤ MOST_FILE_BYTES
  pub value : X
  pub means : meaning bytes ≡ Ok value
  pub is : P value

-- A network is refused by the first rule that its file breaks, by a fault of the store, or since memory ran out.
abbrev pub RefusesNetwork : Outcome → Files → List ℕ → Type 0
RefusesNetwork (BadNetwork rule spot) files name = OfFile files name (λ bytes. file_meaning bytes ≡ Err (rule, spot))
RefusesNetwork (Store file.Net) files name = Unit {0}
RefusesNetwork NoMemory files name = Unit {0}
RefusesNetwork outcome files name = ⊥

-- A command on the network of a file: the file is refused, or it is one of a network that meets all rules, and the fact is true of it.
abbrev pub OnNetwork : Outcome → List ℕ → Ports → (Network → Type 0) → Type 0
OnNetwork outcome name ports P = RefusedOr (RefusesNetwork outcome ports.files name) ports (Reads file_meaning ports.files name (λ net. IsAcceptable net × P net))

-- The other file is not read where it is longer than 1,048,576 bytes, by a fault of the store, or since memory ran out.
abbrev pub IsUnread : Outcome → TextKind → Files → List ℕ → Type 0
IsUnread (LongText is) kind files other = (is ≡ kind) × OfFile files other (λ bytes. MOST_FILE_BYTES < length bytes)
IsUnread (Store file.Other) kind files other = Unit {0}
IsUnread NoMemory kind files other = Unit {0}
IsUnread outcome kind files other = ⊥

-- A text of at most 1,048,576 bytes is refused by its first line that is not in the grammar; else it was not read.
abbrev pub RefusesText : {X : Type 0} → Outcome → TextKind → (List ℕ → Result X ℕ) → Files → List ℕ → Type 0
RefusesText (Text is n) kind meaning files other = (is ≡ kind) × OfFile files other (λ bytes. (length bytes ≤ MOST_FILE_BYTES) × (meaning bytes ≡ Err n))
RefusesText outcome kind meaning files other = IsUnread outcome kind files other

-- A command on the certificate of the other file: the file is refused, or the fact is true of the certificate.
abbrev pub OnCert : Outcome → Network → List ℕ → Ports → (Cert → Type 0) → Type 0
OnCert outcome net other ports P = RefusedOr (RefusesText outcome Certificate (cert_meaning net) ports.files other) ports (Reads (cert_meaning net) ports.files other P)

-- A command on the vector of the other file: the file is refused, or the fact is true of the vector's numbers.
abbrev pub OnVector : Outcome → Network → List ℕ → Ports → (List ℤ → Type 0) → Type 0
OnVector outcome net other ports P = RefusedOr (RefusesText outcome Vector (vector_meaning net) ports.files other) ports (Reads (vector_meaning net) ports.files other P)

-- A command on the guard of the other file: the file is refused, or the fact is true of the guard.
abbrev pub OnGuard : Outcome → Network → List ℕ → Ports → (model.Guard → Type 0) → Type 0
OnGuard outcome net other ports P = RefusedOr (RefusesText outcome Guard (guard_meaning net) ports.files other) ports (Reads (guard_meaning net) ports.files other P)
