-- The test of flows decides them.
use Rattle.std.proofs.Common.{◌≡◌, ℕ, true, ◌↔◌}
use Rattle.std.proofs.lemmas.Bool.{and_from, and_parts, eq-eqb, eqb-true}
use Rattle.ranges.specs.Questions.{any}
use Rattle.ranges.proofs.Questions.{any_here, any_where}
use Rattle.plan.specs.declared.model.Plan.{Plan}
use Rattle.plan.specs.Flows.{Flows, by_channel, leads}
use Rattle.plan.specs.Places.{channel}

module _ (p : Plan) (from to : ℕ) where
  found : any (leads p from to) p.counts.channels ≡ true → Flows p from to
  found e =
      let z = any_where (leads p from to) p.counts.channels e in
      let both = and_parts _ _ z.2 in
      by_channel z.0 z.1 (eqb-true (channel p z.0).sender.partition from both.0) (eqb-true (channel p z.0).receiver.partition to both.1)

  passes : Flows p from to → any (leads p from to) p.counts.channels ≡ true
  passes (by_channel k l sends receives) =
      any_here (leads p from to) p.counts.channels k l (and_from _ _ (eq-eqb (channel p k).sender.partition from sends) (eq-eqb (channel p k).receiver.partition to receives))

  pub flows_decided : (any (leads p from to) p.counts.channels ≡ true) ↔ Flows p from to
  flows_decided = (found, passes)
