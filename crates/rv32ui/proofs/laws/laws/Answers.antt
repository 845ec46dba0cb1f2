-- What is left to show of `laws`.
use Rattle.rv32ui.proofs.Placing.{branch_words, constant_words, example, jal_words, register_words, store_words, upper_words}
use Rattle.rv32ui.proofs.laws.laws.Goals as goal

pub returns : goal.returns
returns c = record {
  registers = register_words;
  constants = constant_words;
  upper = upper_words;
  branches = branch_words;
  stores = store_words;
  jumps = jal_words;
  example = example;
}
