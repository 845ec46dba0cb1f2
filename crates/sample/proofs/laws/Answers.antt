-- What is left to show of `laws`.
use Rattle.sample.proofs.OwnRules.{own_rules}
use Rattle.sample.proofs.Pair.{agrees, differs}
use Rattle.sample.proofs.Refused.{refuses}
use Rattle.sample.proofs.Verdicts.{accepts, examples}
use Rattle.sample.proofs.laws.Goals as goal

pub returns : goal.returns
returns c = record { accepts = accepts; examples = examples; agrees = agrees; differs = differs; refuses = refuses; own_rules = own_rules }
