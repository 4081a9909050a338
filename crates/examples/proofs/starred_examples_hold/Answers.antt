use Rattle.examples.proofs.Exemplified.{all_starred}
use Rattle.examples.proofs.starred_examples_hold.Goals as goal

pub returns-clause-hold : goal.returns-clause-hold
returns-clause-hold c = all_starred
