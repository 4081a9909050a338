use Rattle.std.proofs.Common.{refl}
use Rattle.script.specs.Facts.{said_fact}
use Rattle.bench.specs.States.{state_of}
use Rattle.bench.specs.Playing.{with_initial}
use Rattle.bench.proofs.Changing.{kept_inside, kept_map}
use Rattle.bench.proofs.desk.Desk.add_fact.Goals as goal

pub returns : goal.returns
returns c = kept_inside (with_initial (state_of c.args.self.now)) (kept_map said_fact _ _ _ _ _ refl c.put.ensures)
