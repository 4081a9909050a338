use Rattle.std.proofs.Common.{rules, sym, ◌∙◌}
use Rattle.refusals.proofs.Walking.{walk_here_own, walk_later_own, walk_none}
use Rattle.refusals.specs.Faults.{at_spot}
use Rattle.refusals.proofs.walk.check_each.Goals as goal

pub returns-in-Err : goal.returns-in-Err
returns-in-Err g c check says =
    walk_here_own check (at_spot c.args.place.role c.args.place.rule c.args.place.before) c.args.items.now c.loop-i.i _ _ c.index-items-i.result c.loop-i-test.true (search rules) c.index-items-i.is (c.loop-i.invariant check says) _ (says _ _ _ c.in-Err.ensures)

pub loop-i-preserved : goal.loop-i-preserved
loop-i-preserved g c check says =
    walk_later_own check (at_spot c.args.place.role c.args.place.rule c.args.place.before) c.args.items.now c.loop-i.i _ _ c.index-items-i.result c.loop-i-test.true (search rules) c.index-items-i.is (c.loop-i.invariant check says) c.in_default.field-0 (says _ _ _ c.in_default.ensures)

pub returns : goal.returns
returns g c check says =
    sym (walk_none check (at_spot c.args.place.role c.args.place.rule c.args.place.before) c.args.items.now c.loop-i.i c.loop-i-test.false) ∙ c.loop-i.invariant check says
