use Rattle.std.proofs.Common.{eqb, not, rules, tests}
use Rattle.std.proofs.lemmas.Iterator.{YieldsList-from_slice}
use Rattle.std.proofs.lemmas.Iterator.Search.{find_from_yields_List}
use Rattle.script.proofs.Silence.{silent_by}
use Rattle.script.proofs.command.begins_silent.Goals as goal

pub returns : goal.returns
returns c =
    let found = find_from_yields_List (λ b. not (eqb b 32)) _ _ c.find.result c.find.ensures.ran (YieldsList-from_slice c.args.line.now cc) (λ x b q k. search (rules, tests)) in
    silent_by c.args.line.now c.find.result c.is_none_or.result c.is_none_or.ensures (λ x k. search (rules, tests)) found
