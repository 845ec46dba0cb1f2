-- What is left to show of `laws`.
use Rattle.image.proofs.Front.{count_tells, tells_all}
use Rattle.image.proofs.Words.{words_are_bytes, worked}
use Rattle.image.proofs.laws.Goals as goal

pub returns : goal.returns
returns c = record { words_are_bytes = words_are_bytes; example = worked; tells_all = tells_all; count_tells = count_tells }
