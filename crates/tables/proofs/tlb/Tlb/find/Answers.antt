-- What is left to show of `find`.
use Rattle.std.proofs.Common.{rules}
use Rattle.tables.specs.Tlb.{filled, found}
use Rattle.tables.proofs.Truth.{carried}
use Rattle.tables.proofs.tlb.Tlb.find.Goals as goal

pub returns-in-Some-clause-coherent : goal.returns-in-Some-clause-coherent
unfolding found filled
returns-in-Some-clause-coherent c = carried c.args.self.now _ c.args.words.now c.args.root c.args.page c.args.access _ (search rules) (search rules)

pub returns-in_default-clause-coherent : goal.returns-in_default-clause-coherent
unfolding found filled
returns-in_default-clause-coherent c = carried c.args.self.now _ c.args.words.now c.args.root c.args.page c.args.access _ (search rules) (search rules)

pub returns-in-Some-2-clause-coherent : goal.returns-in-Some-2-clause-coherent
unfolding found filled
returns-in-Some-2-clause-coherent c = carried c.args.self.now _ c.args.words.now c.args.root c.args.page c.args.access _ (search rules) (search rules)
