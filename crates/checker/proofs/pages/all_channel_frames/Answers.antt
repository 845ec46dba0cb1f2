-- What is left to show of `all_channel_frames`.
use Rattle.std.proofs.Common.{cond, ltb, rules}
use Rattle.plan.specs.Format.{rows}
use Rattle.checker.specs.Pages.{frames_or_none, no_frames}
use Rattle.ranges.proofs.Chains.{array_from_calls}
use Rattle.checker.proofs.pages.all_channel_frames.Goals as goal

pub returns : goal.returns
unfolding rows
returns c =
    let ws = c.args.words.now in
    let p = c.args.plan.now in
    array_from_calls (λ k. cond (ltb k p.counts.channels) (frames_or_none ws p k) no_frames) c.from_fn.ensures.items (λ k l v q z. search rules)
