-- Terms of the stated calculation as code.
use Rattle.std.proofs.Common.{to_z-of_z, ◌≡◌, ◌≤◌, ℕ, ◌+◌, ◌-◌, List, length, arith, true, refl}
use Rattle.mp_model.specs.Network.{Network, movement_numbers, link_numbers, numbers_to, has, from_of}
use Rattle.mp_model.specs.NetworkRules.{IsNetwork}
use Rattle.mp_laws.proofs.Lists.{at_in, all_in, at_range, in_numbers}

pub has_numbers : (n k : ℕ) → (1 ≤ k) × (k ≤ n) → has (numbers_to n) k ≡ true
has_numbers n k h = at_range (λ k. has (numbers_to n) k ≡ true) 1 n k h.0 (omega arith) (all_in (numbers_to n))

pub among : (n k : ℕ) → has (numbers_to n) k ≡ true → (1 ≤ k) × (k ≤ n)
among n k h = let i = in_numbers n k h in (i.0, omega (arith, i))

-- the link that a movement leaves is one of the network
pub from_known : (net : Network) (k : ℕ) → IsNetwork net → (1 ≤ k) × (k ≤ length net.movements) → (1 ≤ from_of net k) × (from_of net k ≤ length net.links)
from_known net k ok h =
    among (length net.links) (from_of net k) (at_in (λ k. has (link_numbers net) (from_of net k) ≡ true) k (movement_numbers net) (has_numbers (length net.movements) k h) ok.from)

pub ruleset terms = (to_z-of_z, from_known)
