-- What is left to show of `load`.
use Rattle.std.proofs.Common.{◌*◌, rules, arith}
use Rattle.std.proofs.lemmas.Iterator.{YieldsList-from_range, YieldsList-from_map, items_from_collect}
use Rattle.image.specs.Frames.{image_word, image_words, lent_frames}
use Rattle.image.proofs.load.Goals as goal

pub returns : goal.returns
unfolding image_words
returns c =
    let count = lent_frames c.args.image.now * 1024 in
    let source = rw c.lent.ensures at c.map.ensures.source in
    items_from_collect c.collect.result c.collect.ensures.ran (YieldsList-from_map _ (image_word c.args.image.now) (YieldsList-from_range 0 count count source (omega arith)) c.map.ensures.closure (λ x r q k. search rules))
