-- What is left to show of `bytes_at`.
use Rattle.std.proofs.Common.{◌≡◌, ◌+◌, ◌-◌, ◌^◌, ◌∙◌, min, rules, arith}
use Rattle.words.specs.Bytes.{byte}
use Rattle.ranges.proofs.Chains.{array_from_calls}
use Rattle.words.proofs.Numbers.{byte_below}
use Rattle.words.proofs.bytes.bytes_at.Goals as goal

pub returns : goal.returns
returns g c = array_from_calls (λ k. byte c.args.bytes.now (c.args.at + k)) c.from_fn.ensures.items (λ k l v q z.
    let call : (q ≡ _) × (v ≡ byte c.args.bytes.now (min (c.args.at + k) (2 ^ 64 - 1))) = search rules in
    (call.0, call.1 ∙ byte_below c.args.bytes.now (c.args.at + k) (2 ^ 64 - 1) (omega arith)))
