-- The tree that a network is printed as; each table's keys ascend.
use Rattle.std.specs.Prelude.{ℕ, zero, suc, pos, nat_lt, Bool, if◌then◌else◌, List, map, Option, Some, None, codes}
use Rattle.std.specs.List.{list_any}
use Rattle.toml.specs.Data.{Data, string, integer, array, table, Members, no_members, member}
use Rattle.toml.specs.View.{items_of}
use Rattle.mp_tree.specs.Put.{with_member}
use Rattle.mp_model.specs.Network.{Link, Movement, Junction, Network, link_at, movement_at}

-- This is a number as a value.
abbrev pub number : ℕ → Data
number n = integer (pos n)

-- This is the table of a link.
abbrev pub link_tree : Link → Data
link_tree link = table (member (codes "burst") (number link.burst) (member (codes "name") (string link.name) (member (codes "rate") (number link.rate) no_members)))

-- This is the name of a target.
abbrev pub target_name : Network → Option ℕ → List ℕ
target_name net None = codes "out"
target_name net (Some l) = (link_at net l).name

-- These are some members with a number at a key where it is above 0.
abbrev pub with_above_0 : List ℕ → ℕ → Members → Members
with_above_0 key zero members = members
with_above_0 key (suc n) members = with_member key (number (suc n)) members

-- This is the table of a movement.
abbrev pub movement_tree : Network → Movement → Data
movement_tree net movement =
    table (with_above_0 (codes "start") movement.start (member (codes "flow") (number movement.flow) (member (codes "from") (string (link_at net movement.from).name) (member (codes "name") (string movement.name)
    (member (codes "share") (number movement.share) (member (codes "to") (string (target_name net movement.to)) no_members))))))

-- This is a stage as an array of names.
abbrev pub stage_tree : Network → List ℕ → Data
stage_tree net stage = array (items_of (map (λ k. string (movement_at net k).name) stage))

-- This is the table of a junction.
abbrev pub junction_tree : Network → Junction → Data
junction_tree net junction =
    table (member (codes "name") (string junction.name) (member (codes "stages") (array (items_of (map (stage_tree net) junction.stages))) no_members))

-- Some movement has a start queue.
abbrev pub has_start_queue : Network → Bool
has_start_queue net = list_any (λ movement. nat_lt 0 movement.start) net.movements

-- This is the first version whose files can say a delay, and start queues where there are some.
abbrev pub first_version : ℕ → Bool → ℕ
first_version (suc delay) starts = 3
first_version zero starts = if starts then 2 else 1

-- This is the first version whose files can say all of a network.
abbrev pub version_for : Network → ℕ
version_for net = first_version net.delay (has_start_queue net)

-- These are the members of the table of a network but for its delay.
abbrev pub undelayed_members : Network → Members
undelayed_members net =
    member (codes "junction") (array (items_of (map (junction_tree net) net.junctions)))
    (member (codes "link") (array (items_of (map link_tree net.links)))
    (member (codes "movement") (array (items_of (map (movement_tree net) net.movements)))
    (member (codes "per") (number net.per) (member (codes "shares") (number net.shares) (member (codes "version") (number (version_for net)) no_members)))))

-- This is the table of a network.
abbrev pub network_tree : Network → Members
network_tree net = with_above_0 (codes "delay") net.delay (undelayed_members net)
