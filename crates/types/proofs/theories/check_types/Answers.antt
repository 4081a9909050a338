use Rattle.std.proofs.Common.{sym, subst}
use Rattle.refusals.specs.Demands.{First}
use Rattle.types.specs.Demands.{theory_lines, numbered}
use Rattle.judgments.proofs.Contexts.{declared_once}
use Rattle.refusals.proofs.Deciding.{passes_same}
use Rattle.types.proofs.Theoried.{theory_passes}
use Rattle.types.proofs.Demanded.{theory_first}
use Rattle.types.proofs.theories.check_types.Goals as goal

pub returns : goal.returns
returns g c =
    let lay = g.L.Layout.meaning c.args.layout.now in
    let T = c.args.theory.now in
    let law = g.met.L.Layout.lawful c.args.layout.now in
    let e = c.check_tables.ensures in
    record { answer = e; judged = passes_same e (theory_passes lay law T); told = subst (λ r. First (theory_lines lay T) (numbered r)) (sym e) (theory_first lay law T); regular = declared_once }
