-- Each rule of a certificate as a comparison of two calculations.
use Rattle.std.specs.Prelude.{ℕ, ◌*◌, ℤ, pos, Bool, true, not, int_lt, if◌then◌else◌, Option, Some, option_map, option_and_then}
use Rattle.mp_model.specs.Network.{Network, junction_at, stage_at, stage_numbers, junction_of_movement, from_of, share_of, flow_of, rate_before, into_link, has}
use Rattle.mp_model.specs.Certificate.{Cert, int_entry, rate_of, mix_at}
use Rattle.mp_num.specs.Passing.{stepped}
use Rattle.mp_num.specs.Operations.{times, plus, num, summed}
use Rattle.mp_cert.specs.declared.types.CertFault.{CertFault}
use Rattle.mp_cert.specs.declared.types.CertFault.TheVariants.{D, E, H, Whole, Part, Mass, Serve, Balance, Overflow}

-- A number is at most another, where both are there.
unfoldable pub at_most : Option ℤ → Option ℤ → Option Bool
at_most a b = option_and_then (λ x. option_map (λ y. not (int_lt y x)) b) a

-- A number of the certificate is at least a limit.
abbrev pub at_least : ℤ → ℤ → Option Bool
at_least limit x = Some (not (int_lt x limit))

-- The parts of junction j sum to at most its whole times the denominator.
unfoldable pub mass_holds : Cert → ℕ → Option Bool
mass_holds cert j = at_most (summed (λ part. Some part) (mix_at cert j).parts) (times (Some (mix_at cert j).whole) (Some cert.d))

-- A sum takes in the part of stage s where the stage holds movement k.
unfoldable pub part_added : Network → Cert → ℕ → ℕ → ℤ → ℕ → Option ℤ
part_added net cert j k sum s = if has (stage_at (junction_at net j) s) k then plus (Some sum) (Some (int_entry (mix_at cert j).parts s)) else Some sum

-- This is the sum of the parts of the stages of junction j that hold movement k.
unfoldable pub parts_for : Network → Cert → ℕ → ℕ → Option ℤ
parts_for net cert j k = stepped (part_added net cert j k) (pos 0) (stage_numbers (junction_at net j))

-- At junction j, the whole times the rate of movement k is at most its flow times the parts of the stages that hold it.
unfoldable pub served_at : Network → Cert → ℕ → ℕ → Option Bool
served_at net cert j k = at_most (times (Some (mix_at cert j).whole) (Some (rate_of cert k))) (times (num (flow_of net k)) (parts_for net cert j k))

-- A movement is served at its junction.
abbrev pub serve_holds : Network → Cert → ℕ → Option Bool
serve_holds net cert k = served_at net cert (junction_of_movement net k) k

-- This is the sum of the rates of the movements into the link that movement k leaves.
unfoldable pub inflow : Network → Cert → ℕ → Option ℤ
inflow net cert k = summed (λ j. Some (rate_of cert j)) (into_link net (from_of net k))

-- What comes to the link of movement k is the denominator times the link's rate, and the rate length times the inflow.
unfoldable pub coming : Network → Cert → ℕ → Option ℤ
coming net cert k = plus (times (Some cert.d) (num (rate_before net k))) (times (num net.per) (inflow net cert k))

-- Movement k needs its share of what comes, and the share total and rate length times the excess.
unfoldable pub need : Network → Cert → ℕ → Option ℤ
need net cert k = plus (times (num (share_of net k)) (coming net cert k)) (times (num (net.shares * net.per)) (Some cert.e))

-- Movement k is in balance where the share total and rate length times its rate is at least what it needs.
unfoldable pub balance_holds : Network → Cert → ℕ → Option Bool
balance_holds net cert k = at_most (need net cert k) (times (num (net.shares * net.per)) (Some (rate_of cert k)))

-- A rule holds, fails, or exceeds 128 bits in one of its calculations. Overflow names no rule.
abbrev pub holds : Network → Cert → CertFault → Option Bool
holds net cert D = at_least (pos 1) cert.d
holds net cert E = at_least (pos 1) cert.e
holds net cert (H k) = at_least (pos 0) (rate_of cert k)
holds net cert (Whole j) = at_least (pos 1) (mix_at cert j).whole
holds net cert (Part j s) = at_least (pos 0) (int_entry (mix_at cert j).parts s)
holds net cert (Mass j) = mass_holds cert j
holds net cert (Serve k) = serve_holds net cert k
holds net cert (Balance k) = balance_holds net cert k
holds net cert Overflow = Some true
