-- What is left to show of `write`.
use Rattle.std.proofs.Common.{◌+◌, ◌*◌, sym, arith}
use Rattle.std.proofs.lemmas.List.{set_past}
use Rattle.words.proofs.frames.write.Goals as goal

pub returns-else-at-words : goal.returns-else-at-words
returns-else-at-words c = sym (set_past c.args.words.now (c.args.frame * 1024 + c.args.offset) c.args.value (omega arith))
