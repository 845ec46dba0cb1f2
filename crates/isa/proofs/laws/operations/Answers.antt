-- What is left to show of `operations`.
use Rattle.isa.proofs.Bitwise.{gives_words, adds, bitwise, moves, shifts_by_five}
use Rattle.isa.proofs.Computing.{undoes, orders, rounds_down}
use Rattle.isa.proofs.laws.operations.Goals as goal

pub returns : goal.returns
returns c = record {
  gives_words = gives_words;
  adds = adds;
  undoes = undoes;
  bitwise = bitwise;
  moves = moves;
  shifts_by_five = shifts_by_five;
  orders = orders;
  floor = rounds_down;
}
