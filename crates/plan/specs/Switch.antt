-- What a switch makes: the copies after a slot of a partition, the cycles that they take, and the budget that covers every switch.
use Rattle.std.specs.Prelude.{◌≡◌, ℕ, zero, suc, ◌+◌, ◌*◌, ◌<◌, cond, ◌↔◌, List, [], ◌∷◌, ◌++◌, sum_by, Contains}
use Rattle.costs.specs.Costs.{copied_word, worst_switch}
use Rattle.ranges.specs.Questions.{most}
use Rattle.plan.specs.declared.model.Endpoint.{Endpoint}
use Rattle.plan.specs.declared.model.Plan.{Plan}
use Rattle.plan.specs.Places.{channel, leaves}

-- so many words of one page are copied over those of another
pub record Copy : Type 0 where
  pub channel : ℕ
  pub from : Endpoint
  pub to : Endpoint
  pub words : ℕ

-- the message of a channel: the whole page of the sender goes over that of the receiver
abbrev pub message : Plan → ℕ → Copy
message p k = record { channel = k; from = (channel p k).sender; to = (channel p k).receiver; words = 1024 }

-- the messages of those among the first n channels that lead out of a partition
unfoldable pub messages : Plan → ℕ → ℕ → List Copy
messages p who zero = []
messages p who (suc n) = cond (leaves p who n) (messages p who n ++ message p n ∷ []) (messages p who n)

-- all copies after a slot of a partition, in the plan's order
abbrev pub copies : Plan → ℕ → List Copy
copies p who = messages p who p.counts.channels

-- what they take
abbrev pub copy_cycles : List Copy → ℕ
copy_cycles = sum_by (λ c. copied_word * c.words)

-- the least budget that covers every switch: the rest of the last instruction, the write-back of every line, and the most copies
abbrev pub required_budget : Plan → ℕ
required_budget p = worst_switch + most (λ who. copy_cycles (copies p who)) p.counts.partitions

-- a copy is that of a channel out of a partition
pub record IsMessage (p : Plan) (who : ℕ) (c : Copy) : Type 0 where
  pub exists : c.channel < p.counts.channels
  pub sends : c.from.partition ≡ who
  pub from : c.from ≡ (channel p c.channel).sender
  pub to : c.to ≡ (channel p c.channel).receiver
  pub words : c.words ≡ 1024

-- the copies after a slot of a partition are the messages of the channels out of it, and no others
abbrev pub CopiesAreMessages : Type 0
CopiesAreMessages = (p : Plan) (who : ℕ) (c : Copy) → Contains (copies p who) c ↔ IsMessage p who c
