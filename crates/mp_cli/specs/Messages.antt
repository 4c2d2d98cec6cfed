-- The line on the error output of each outcome.
use Rattle.std.specs.Prelude.{ℕ, Bool, true, false, List, [], ◌∷◌, ◌++◌, codes, decimal}
use Rattle.mp_net.specs.declared.fault.NetRule.{NetRule}
use Rattle.mp_net.specs.declared.fault.NetRule.TheVariants.{TooLong, BadToml, UnknownKey, MissingKey, BadVersion, BadNumber, BadName, Repeated, UnknownLink, BadShares, BadStage, Unserved, NoMovement, NoFedLink, NoWayOut}
use Rattle.mp_net.specs.declared.fault.Section.{Section}
use Rattle.mp_net.specs.declared.fault.Section.TheVariants.{Top, Link, Movement, Junction}
use Rattle.mp_net.specs.declared.fault.Spot.{Spot}
use Rattle.mp_cert.specs.Texts.{vector_text}
use Rattle.mp_flow.specs.declared.network.Place.{Place}
use Rattle.mp_flow.specs.declared.network.Place.TheVariants as at
use Rattle.mp_guard.specs.declared.fault.GuardFault.{GuardFault}
use Rattle.mp_guard.specs.declared.fault.GuardFault.TheVariants as guarding
use Rattle.mp_run.specs.declared.run.RunEnd.{RunEnd}
use Rattle.mp_run.specs.declared.run.RunEnd.TheVariants as run
use Rattle.mp_cli.specs.declared.outcome.CertRule.{CertRule}
use Rattle.mp_cli.specs.declared.outcome.CertRule.TheVariants.{D, E, H, Whole, Part, Mass, Serve, Balance}
use Rattle.mp_cli.specs.declared.outcome.TextKind.{TextKind}
use Rattle.mp_cli.specs.declared.outcome.TextKind.TheVariants.{Certificate, Vector, Guard}
use Rattle.mp_cli.specs.declared.outcome.Outcome.{Outcome}
use Rattle.mp_cli.specs.declared.outcome.Outcome.TheVariants as end
use Rattle.mp_cli.specs.Commands.{Command, file_of}

-- This is the number of a rule of the network file.
abbrev pub rule_number : NetRule → ℕ
rule_number TooLong = 0
rule_number BadToml = 1
rule_number UnknownKey = 2
rule_number MissingKey = 3
rule_number BadVersion = 4
rule_number BadNumber = 5
rule_number BadName = 6
rule_number Repeated = 7
rule_number UnknownLink = 8
rule_number BadShares = 9
rule_number BadStage = 10
rule_number Unserved = 11
rule_number NoMovement = 12
rule_number NoFedLink = 13
rule_number NoWayOut = 14

-- A section is named, with the number in it but for the top.
abbrev pub section_text : Section → ℕ → List ℕ
section_text Top n = codes " top"
section_text Link n = codes " link " ++ decimal n
section_text Movement n = codes " movement " ++ decimal n
section_text Junction n = codes " junction " ++ decimal n

-- This is the text of a spot.
abbrev pub spot_text : Spot → List ℕ
spot_text spot = section_text spot.section spot.number

-- This is what the text of the other file is to be.
abbrev pub kind_text : TextKind → List ℕ
kind_text Certificate = codes "certificate text "
kind_text Vector = codes "vector text "
kind_text Guard = codes "guard text "

-- This is a rule of a certificate, with the number of the movement or junction, or of the junction and the stage.
abbrev pub cert_rule_text : CertRule → List ℕ
cert_rule_text D = codes "d"
cert_rule_text E = codes "e"
cert_rule_text (H k) = codes "h " ++ decimal k
cert_rule_text (Whole j) = codes "whole " ++ decimal j
cert_rule_text (Part j s) = (codes "part " ++ decimal j) ++ (codes " " ++ decimal s)
cert_rule_text (Mass j) = codes "mass " ++ decimal j
cert_rule_text (Serve k) = codes "serve " ++ decimal k
cert_rule_text (Balance k) = codes "balance " ++ decimal k

-- This is a rule of a guard, with the number of the movement or junction, or of the junction and the stage.
abbrev pub guard_rule_text : GuardFault → List ℕ
guard_rule_text guarding.Cycle = codes "cycle"
guard_rule_text guarding.Lost = codes "lost"
guard_rule_text guarding.D = codes "d"
guard_rule_text (guarding.H k) = codes "h " ++ decimal k
guard_rule_text (guarding.Green j s) = (codes "green " ++ decimal j) ++ (codes " " ++ decimal s)
guard_rule_text (guarding.Mass j) = codes "mass " ++ decimal j
guard_rule_text (guarding.Balance k) = codes "balance " ++ decimal k
guard_rule_text (guarding.Serve k) = codes "serve " ++ decimal k

-- This is the place of a calculation that exceeds 128 bits, with the number of the junction.
abbrev pub place_text : Place → List ℕ
place_text at.Flow = codes "flow"
place_text (at.Game j) = codes "game " ++ decimal j
place_text at.Adjoint = codes "adjoint"
place_text at.Vector = codes "vector"
place_text (at.Mix j) = codes "mix " ++ decimal j
place_text at.Certificate = codes "certificate"
place_text at.Bound = codes "bound"
place_text at.Room = codes "room"

-- This is a line, named by its number.
abbrev pub line_text : ℕ → List ℕ
line_text n = codes "line " ++ decimal n

-- These are the words of a run's end, and none where it was done.
abbrev pub run_words : RunEnd → List ℕ
run_words run.Done = []
run_words (run.Long n) = line_text n ++ codes " long"
run_words (run.Grammar n) = line_text n ++ codes " grammar"
run_words (run.Above n p l) = (line_text n ++ (codes " above period " ++ decimal p)) ++ (codes " link " ++ decimal l)
run_words run.LineLimit = codes "lines"
run_words run.Read = codes "read"
run_words run.Write = codes "write"

-- These are the words of an event that is refused at a line, of a junction and a link.
abbrev pub event_words : ℕ → List ℕ → ℕ → ℕ → List ℕ
event_words n word j l = (((line_text n ++ codes " event ") ++ word) ++ (codes " junction " ++ decimal j)) ++ (codes " link " ++ decimal l)

-- These are the words of an outcome other than a fault of the store.
abbrev pub words_of : Outcome → List ℕ
words_of end.Words = codes "words"
words_of (end.Network rule spot) = (codes "network N" ++ decimal (rule_number rule)) ++ spot_text spot
words_of (end.LongText kind) = kind_text kind ++ codes "long"
words_of (end.Text kind n) = kind_text kind ++ line_text n
words_of end.Admitted = codes "network admitted"
words_of (end.Critical against) = codes "network critical"
words_of (end.Overloaded against) = codes "network overloaded"
words_of (end.Certificate rule) = codes "certificate fails " ++ cert_rule_text rule
words_of (end.BrokenGuard rule) = codes "guard fails " ++ guard_rule_text rule
words_of end.ZeroVector = codes "vector fails zero"
words_of end.WeakVector = codes "vector fails weak"
words_of end.NoCertificate = codes "scale none"
words_of (end.Overflow place) = codes "overflow " ++ place_text place
words_of end.GrowthOverflow = codes "overflow growth"
words_of (end.PivotLimit j) = codes "pivots " ++ decimal j
words_of (end.SweepLimit e) = codes "sweeps " ++ decimal e
words_of (end.Uneven link) = codes "uneven link " ++ decimal link
words_of end.LongFrames = codes "frames per"
words_of (end.FastFrames link) = codes "frames rate " ++ decimal link
words_of (end.CyclicPlan link) = codes "plan cycle link " ++ decimal link
words_of (end.FullPlan j) = codes "plan full junction " ++ decimal j
words_of end.PlanOverflow = codes "overflow plan"
words_of end.NoGuard = codes "guard none"
words_of (end.FullGuard j) = codes "guard full " ++ decimal j
words_of end.BurstLimit = codes "sweeps bound"
words_of (end.Run how) = run_words how
words_of (end.Stale n j l) = event_words n (codes "stale") j l
words_of (end.NotAdjacent n j l) = event_words n (codes "notadjacent") j l
words_of (end.Differs n) = codes "log differs " ++ line_text n
words_of end.Read = codes "read"
words_of end.Write = codes "write"
words_of end.NoMemory = codes "memory"
words_of end.Done = []
words_of (end.Store file) = []

-- An outcome is a fault of the store.
abbrev pub is_store : Outcome → Bool
is_store (end.Store file) = true
is_store outcome = false

-- Behind the line of a critical or overloaded network stands the vector that shows it.
abbrev pub vector_behind : Outcome → List ℕ
vector_behind (end.Critical against) = vector_text against.p
vector_behind (end.Overloaded against) = vector_text against.p
vector_behind outcome = []

-- This is what is reported of an outcome of a command, with the name of the file at a fault of the store: nothing where all was done.
abbrev pub message_of : Command → Outcome → List ℕ
message_of command end.Done = []
message_of command (end.Run run.Done) = []
message_of command (end.Store role) = codes "store " ++ (file_of command role ++ 10 ∷ [])
message_of command outcome = (words_of outcome ++ codes "\n") ++ vector_behind outcome
