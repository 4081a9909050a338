use Rattle.std.proofs.Common.{sym, ◌∙◌, rules}
use Rattle.types.specs.Names.{name_check, at_name}
use Rattle.refusals.proofs.Walking.{walk_here, walk_later, walk_none}
use Rattle.refusals.proofs.Deciding.{passes_same}
use Rattle.types.proofs.Signatures.{names_judged}
use Rattle.types.proofs.names.check_names.Goals as goal

pub returns-in-Err : goal.returns-in-Err
returns-in-Err g c =
    let lay = g.L.Layout.meaning c.args.layout.now in
    let e = walk_here (name_check lay) at_name c.args.names.now c.loop-i.i _ _ _ c.loop-i-test.true (search rules) c.loop-i.invariant _ c.in-Err.ensures in
    record { answer = e; judged = passes_same e (names_judged lay c.args.names.now) }

pub loop-i-preserved : goal.loop-i-preserved
loop-i-preserved g c =
    walk_later (name_check (g.L.Layout.meaning c.args.layout.now)) at_name c.args.names.now c.loop-i.i _ _ _ c.loop-i-test.true (search rules) c.loop-i.invariant _ c.in_default.ensures

pub returns : goal.returns
returns g c =
    let lay = g.L.Layout.meaning c.args.layout.now in
    let e = sym (walk_none (name_check lay) at_name c.args.names.now c.loop-i.i c.loop-i-test.false) ∙ c.loop-i.invariant in
    record { answer = e; judged = passes_same e (names_judged lay c.args.names.now) }
