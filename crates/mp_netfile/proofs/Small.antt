-- What the ranges of a file say of its numbers.
use Rattle.std.proofs.Common.{◌≡◌, ℕ, ℤ, pos, negsuc, ◌≤◌, ◌*◌, false, length, codes, arith, refl}
use Rattle.std.proofs.lemmas.Bool.Decides.{nat_tests}
use Rattle.toml.specs.Data.{Data}
use Rattle.mp_net.specs.NumberRules.{outside}
use Rattle.mp_net.specs.declared.fault.Section.TheVariants.{Top, Link, Movement}
use Rattle.mp_tree.specs.Tree.{section}
use Rattle.mp_netfile.specs.Keys.{first_table, has_unlisted_key, unknown_key}
use Rattle.mp_netfile.specs.Values.{natural, integer_or_zero, number_at, version_of}
use Rattle.mp_netfile.specs.Meaning.{is_outside, has_bad_number, bad_number_in}
use Rattle.mp_netfile.proofs.Spotless.{or_none}

pub inside : (low high : ℕ) (z : ℤ) → is_outside low high z ≡ false → outside low high (natural z) ≡ false
inside low high (pos n) h = h
inside low high (negsuc n) h = cc

pub at_most : (low high n : ℕ) → outside low high n ≡ false → n ≤ high
at_most low high n h = grind (arith, nat_tests)

pub natural_small : (low high : ℕ) (z : ℤ) → is_outside low high z ≡ false → natural z ≤ high
natural_small low high z h = at_most low high (natural z) (inside low high z h)

-- the numbers of the top table are in range
pub record IsTopInRange (top : Data) : Type 0 where
  pub shares : outside 1 1000 (number_at (codes "shares") top) ≡ false
  pub per : outside 1 3600 (number_at (codes "per") top) ≡ false
  pub delay : outside 0 60 (number_at (codes "delay") top) ≡ false
  pub links : outside 1 128 (length (section (codes "link") top)) ≡ false
  pub movements : outside 1 512 (length (section (codes "movement") top)) ≡ false
  pub junctions : outside 1 64 (length (section (codes "junction") top)) ≡ false

pub top_in_range : (shares per : ℕ) (top : Data) → has_bad_number shares per Top top ≡ false → IsTopInRange top
top_in_range shares per top h =
    let j = or_none _ _ h in
    let m = or_none _ _ j.0 in
    let l = or_none _ _ m.0 in
    let w = or_none _ _ l.0 in
    let p = or_none _ _ w.0 in
    record {
      shares = inside 1 1000 (integer_or_zero (codes "shares") top) p.0;
      per = inside 1 3600 (integer_or_zero (codes "per") top) p.1;
      delay = inside 0 60 (integer_or_zero (codes "delay") top) w.1;
      links = l.1;
      movements = m.1;
      junctions = j.1;
    }

pub shares_in_range : (top : Data) → has_bad_number 0 0 Top top ≡ false → number_at (codes "shares") top ≤ 1000
shares_in_range top h = at_most 1 1000 (number_at (codes "shares") top) (top_in_range 0 0 top h).shares

pub per_in_range : (top : Data) → has_bad_number 0 0 Top top ≡ false → number_at (codes "per") top ≤ 3600
per_in_range top h = at_most 1 3600 (number_at (codes "per") top) (top_in_range 0 0 top h).per

-- the numbers of a link are in range
pub record IsLinkInRange (per : ℕ) (link : Data) : Type 0 where
  pub burst : outside 0 10000 (number_at (codes "burst") link) ≡ false
  pub rate : outside 0 (1000 * per) (number_at (codes "rate") link) ≡ false

pub link_in_range : (shares per : ℕ) (link : Data) → has_bad_number shares per Link link ≡ false → IsLinkInRange per link
link_in_range shares per link h =
    let both = or_none _ _ h in
    record { burst = inside 0 10000 (integer_or_zero (codes "burst") link) both.0; rate = inside 0 (1000 * per) (integer_or_zero (codes "rate") link) both.1 }

-- the numbers of a movement are in range
pub record IsMovementInRange (shares : ℕ) (movement : Data) : Type 0 where
  pub share : outside 1 shares (number_at (codes "share") movement) ≡ false
  pub flow : outside 1 1000 (number_at (codes "flow") movement) ≡ false
  pub start : outside 0 1000000 (number_at (codes "start") movement) ≡ false

pub movement_in_range : (shares per : ℕ) (movement : Data) → has_bad_number shares per Movement movement ≡ false → IsMovementInRange shares movement
movement_in_range shares per movement h =
    let last = or_none _ _ h in
    let both = or_none _ _ last.0 in
    record {
      share = inside 1 shares (integer_or_zero (codes "share") movement) both.0;
      flow = inside 1 1000 (integer_or_zero (codes "flow") movement) both.1;
      start = inside 0 1000000 (integer_or_zero (codes "start") movement) last.1;
    }

-- the rule on numbers, under the numbers of the top
pub bad_number-below : (d : Data) (shares per : ℕ) → shares ≡ number_at (codes "shares") d → per ≡ number_at (codes "per") d → first_table (has_bad_number shares per) d ≡ bad_number_in d
bad_number-below d shares per s p = rw (s, p) refl

-- the rule on keys, under the version of the tree
pub unknown_key-under : (d : Data) (version : ℕ) → version ≡ version_of d → first_table (has_unlisted_key version) d ≡ unknown_key d
unknown_key-under d version v = rw v refl
