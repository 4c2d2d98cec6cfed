-- What is queued on the links, as a list.
use Rattle.std.specs.Prelude.{◌≡◌, ℕ, List, length}
use Rattle.mp_model.specs.Network.{Network}
use Rattle.mp_press.specs.Presses.{queued_on}
use Rattle.mp_press.specs.Written.{HasEach}

-- There is a sum for each link, and it is what is queued on it: the queues of the movements out of it, each times its share.
pub record AreSums (net : Network) (q : ℕ → ℕ) (sums : List ℕ) : Type 0 where
  pub size : length sums ≡ length net.links
  pub each : HasEach (queued_on net q) (length net.links) sums
