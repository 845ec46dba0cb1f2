-- What is left to show of `replace`.
use Rattle.std.proofs.Common.{◌+◌, ◌-◌, ◌*◌, arith}
use Rattle.std.proofs.lemmas.Slice.{put_mid-paste}
use Rattle.words.proofs.frames.replace.Goals as goal

pub returns : goal.returns
returns c =
    let start = c.args.frame * 1024 in
    put_mid-paste start (start + 1024 - start) c.args.words.now c.overwrite.new.target c.args.source.now 1024 (cc) (omega arith) (omega arith)
