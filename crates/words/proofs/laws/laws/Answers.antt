-- What is left to show of `laws`.
use Rattle.words.proofs.Numbers.{low_byte_first, number_below}
use Rattle.words.proofs.Frame.{lends, reads_back, copies}
use Rattle.words.proofs.Signs.{low_fields, fields_join, signs}
use Rattle.words.proofs.laws.laws.Goals as goal

pub returns : goal.returns
returns c = record {
  bytes = low_byte_first;
  numbers = number_below;
  low_fields = low_fields;
  fields = fields_join;
  signs = signs;
  lends = lends;
  writes = reads_back;
  copies = copies;
}
