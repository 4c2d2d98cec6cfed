-- What the words of the command line ask for.
use Rattle.std.specs.Prelude.{◌≤◌, ◌<◌, ◌^◌, ℕ, zero, suc, Bool, not, ◌&&◌, nat_lt, if◌then◌else◌, List, [], ◌∷◌, codes, nat_eq, Option, Some, None}
use Rattle.std.specs.Cmp.Lexicographic.{pointwise}
use Rattle.mp_model.specs.Stream.{count_of}
use Rattle.mp_cli.specs.declared.command.Command.{Command as SaidCommand}
use Rattle.mp_cli.specs.declared.command.Command.TheVariants as said
use Rattle.mp_cli.specs.declared.outcome.FileRole.{FileRole}
use Rattle.mp_cli.specs.declared.outcome.FileRole.TheVariants.{Net, Other}

-- A command has the names of its files, and its numbers.
pub data Command : Type 0 where
  Run : List ℕ → Command
  RunWith : List ℕ → List ℕ → Command
  Show : List ℕ → Command
  Certify : List ℕ → Command
  Check : List ℕ → List ℕ → Command
  Refute : List ℕ → List ℕ → Command
  Audit : List ℕ → Command
  AuditWith : List ℕ → List ℕ → Command
  Control : List ℕ → Command
  Demo : ℕ → Command
  Scale : List ℕ → ℕ → Command
  Overload : List ℕ → Command
  Frames : List ℕ → ℕ → Command
  Plan : List ℕ → ℕ → Command
  Guard : List ℕ → ℕ → ℕ → ℕ → Command
  ControlGuard : List ℕ → List ℕ → Command
  RunGuard : List ℕ → List ℕ → Command
  AuditGuard : List ℕ → List ℕ → Command
  Unknown : Command

-- This is the command of the code, with the names in place of what points to them.
abbrev pub asked : SaidCommand → Command
asked (said.Run net) = Run net.now
asked (said.RunWith net cert) = RunWith net.now cert.now
asked (said.Show net) = Show net.now
asked (said.Certify net) = Certify net.now
asked (said.Check net cert) = Check net.now cert.now
asked (said.Refute net vector) = Refute net.now vector.now
asked (said.Audit net) = Audit net.now
asked (said.AuditWith net cert) = AuditWith net.now cert.now
asked (said.Control net) = Control net.now
asked (said.Demo n) = Demo n
asked (said.Scale net d) = Scale net.now d
asked (said.Overload net) = Overload net.now
asked (said.Frames net f) = Frames net.now f
asked (said.Plan net c) = Plan net.now c
asked (said.Guard net cycle lost d) = Guard net.now cycle lost d
asked (said.ControlGuard net guard) = ControlGuard net.now guard.now
asked (said.RunGuard net guard) = RunGuard net.now guard.now
asked (said.AuditGuard net guard) = AuditGuard net.now guard.now
asked said.Unknown = Unknown

-- The word is the one that is listed.
abbrev pub is_word : List ℕ → List ℕ → Bool
is_word word listed = pointwise nat_eq word listed

-- A demonstration is asked for by a count.
abbrev pub demo_with : Option ℕ → Command
demo_with (Some n) = Demo n
demo_with None = Unknown

-- This is the demonstration of a number.
abbrev pub demo_of : List ℕ → Command
demo_of number = demo_with (count_of number)

-- A scaling is asked for by a count of at least 1.
abbrev pub scale_with : List ℕ → Option ℕ → Command
scale_with net (Some zero) = Unknown
scale_with net (Some (suc n)) = Scale net (suc n)
scale_with net None = Unknown

-- This is the scaling of a network to a denominator.
abbrev pub scale_of : List ℕ → List ℕ → Command
scale_of net denominator = scale_with net (count_of denominator)

-- A number is in a range where it is neither below the least nor above the most.
abbrev pub is_in : ℕ → ℕ → ℕ → Bool
is_in least most n = not (nat_lt n least) && not (nat_lt most n)

-- A run by frames is asked for by a count from 2 to 60.
abbrev pub frames_with : List ℕ → Option ℕ → Command
frames_with net (Some n) = if is_in 2 60 n then Frames net n else Unknown
frames_with net None = Unknown

-- This is the run of a network by frames of a length.
abbrev pub frames_of : List ℕ → List ℕ → Command
frames_of net length = frames_with net (count_of length)

-- A run by a cyclic plan is asked for by a count from 1 to 3,600.
abbrev pub plan_with : List ℕ → Option ℕ → Command
plan_with net (Some n) = if is_in 1 3600 n then Plan net n else Unknown
plan_with net None = Unknown

-- This is the run of a network by a plan of a cycle.
abbrev pub plan_of : List ℕ → List ℕ → Command
plan_of net cycle = plan_with net (count_of cycle)

-- A guard has a cycle of 1 to 3,600 periods, a change of which loses at most one, and a denominator of 1 to 999,999,999.
abbrev pub guard_on : List ℕ → ℕ → ℕ → ℕ → Command
guard_on net cycle lost d = if is_in 1 3600 cycle && is_in 0 1 lost && is_in 1 999999999 d then Guard net cycle lost d else Unknown

-- A guard is asked for by three counts.
abbrev pub guard_with : List ℕ → Option ℕ → Option ℕ → Option ℕ → Command
guard_with net (Some cycle) (Some lost) (Some d) = guard_on net cycle lost d
guard_with net cycle lost d = Unknown

-- This is the guard of a network with a cycle, the lost periods of a change, and a denominator.
abbrev pub guard_of : List ℕ → List ℕ → List ℕ → List ℕ → Command
guard_of net cycle lost denominator = guard_with net (count_of cycle) (count_of lost) (count_of denominator)

-- A word asks for a command with the name of a network, or with a number.
unfoldable pub command_on_one : List ℕ → List ℕ → Command
command_on_one word net =
    if is_word word (codes "run") then Run net
    else if is_word word (codes "show") then Show net
    else if is_word word (codes "certify") then Certify net
    else if is_word word (codes "audit") then Audit net
    else if is_word word (codes "control") then Control net
    else if is_word word (codes "overload") then Overload net
    else if is_word word (codes "demo") then demo_of net
    else Unknown

-- A word asks for a command with the name of a network and that of another file, or with a number.
unfoldable pub command_on_two : List ℕ → List ℕ → List ℕ → Command
command_on_two word net other =
    if is_word word (codes "runwith") then RunWith net other
    else if is_word word (codes "auditwith") then AuditWith net other
    else if is_word word (codes "check") then Check net other
    else if is_word word (codes "refute") then Refute net other
    else if is_word word (codes "scale") then scale_of net other
    else if is_word word (codes "runguard") then RunGuard net other
    else if is_word word (codes "auditguard") then AuditGuard net other
    else if is_word word (codes "controlguard") then ControlGuard net other
    else if is_word word (codes "frames") then frames_of net other
    else if is_word word (codes "plan") then plan_of net other
    else Unknown

-- A word asks for a command with the name of a network and three numbers.
unfoldable pub command_on_four : List ℕ → List ℕ → List ℕ → List ℕ → List ℕ → Command
command_on_four word net first second third = if is_word word (codes "guard") then guard_of net first second third else Unknown

-- The listed words are a word with a name or a number, or a word with the name of a network and another name, or one or three numbers.
abbrev pub command_of : List (List ℕ) → Command
command_of (word ∷ net ∷ []) = command_on_one word net
command_of (word ∷ net ∷ other ∷ []) = command_on_two word net other
command_of (word ∷ net ∷ first ∷ second ∷ third ∷ []) = command_on_four word net first second third
command_of words = Unknown

-- The numbers of a command are in their ranges: a denominator is at least 1 and has at most 9 digits, a frame has 2 to 60 periods, a cycle 1 to 3,600, and a change loses at most one.
abbrev pub HasRanges : Command → Type 0
HasRanges (Scale net d) = (1 ≤ d) × (d < 10 ^ 9)
HasRanges (Frames net f) = (2 ≤ f) × (f ≤ 60)
HasRanges (Plan net c) = (1 ≤ c) × (c ≤ 3600)
HasRanges (Guard net cycle lost d) = ((1 ≤ cycle) × (cycle ≤ 3600)) × (lost ≤ 1) × (1 ≤ d) × (d < 10 ^ 9)
HasRanges command = Unit {0}

-- This is the name of a file of the command, and nothing where it has none.
abbrev pub file_of : Command → FileRole → List ℕ
file_of (Run net) Net = net
file_of (RunWith net cert) Net = net
file_of (RunWith net cert) Other = cert
file_of (Show net) Net = net
file_of (Certify net) Net = net
file_of (Check net cert) Net = net
file_of (Check net cert) Other = cert
file_of (Refute net vector) Net = net
file_of (Refute net vector) Other = vector
file_of (Audit net) Net = net
file_of (AuditWith net cert) Net = net
file_of (AuditWith net cert) Other = cert
file_of (Control net) Net = net
file_of (Scale net d) Net = net
file_of (Overload net) Net = net
file_of (Frames net f) Net = net
file_of (Plan net c) Net = net
file_of (Guard net cycle lost d) Net = net
file_of (ControlGuard net guard) Net = net
file_of (ControlGuard net guard) Other = guard
file_of (RunGuard net guard) Net = net
file_of (RunGuard net guard) Other = guard
file_of (AuditGuard net guard) Net = net
file_of (AuditGuard net guard) Other = guard
file_of command role = []
