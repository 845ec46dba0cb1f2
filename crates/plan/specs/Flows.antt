-- Who can reach whom: what lets the doings of one partition be seen by another, and the sets that nothing outside can reach.
use Rattle.std.specs.Prelude.{◌≡◌, ℕ, ◌<◌, Bool, ◌&&◌, ◌==◌}
use Rattle.plan.specs.declared.model.Plan.{Plan}
use Rattle.plan.specs.Places.{channel}

-- one partition flows to another, by each of these ways
pub data Flows (p : Plan) (from to : ℕ) : Type 0 where
  -- a channel leads from the one to the other
  by_channel : (k : ℕ) → k < p.counts.channels → (channel p k).sender.partition ≡ from → (channel p k).receiver.partition ≡ to → Flows p from to

-- no flow leads into the set from outside
abbrev pub Closed : Plan → (ℕ → Type 0) → Type 0
Closed p A = (q r : ℕ) → Flows p q r → A r → A q

-- a path of flows leads from one partition to the other; a partition reaches itself
pub data Path (p : Plan) (from : ℕ) : ℕ → Type 0 where
  stays : Path p from from
  goes_on : (q r : ℕ) → Path p from q → Flows p q r → Path p from r

-- the test of one channel
abbrev pub leads : Plan → ℕ → ℕ → ℕ → Bool
leads p from to k = (channel p k).sender.partition == from && (channel p k).receiver.partition == to
