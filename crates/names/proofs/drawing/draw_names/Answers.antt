use Rattle.std.proofs.Common.{◌≡◌, arith, rules}
use Rattle.names.specs.Sets.{how_many}
use Rattle.names.specs.Counts.{count_none, drawn_fewer}
use Rattle.names.proofs.Drawn.{none_drawn, one_drawn}
use Rattle.names.proofs.drawing.draw_names.Goals as goal

pub loop-init : goal.loop-init
loop-init g c = search (rules, none_drawn)

pub unreachable-requires : goal.unreachable-requires
unreachable-requires g c =
    let none : how_many (g.S.Source.ahead c.loop.source) ≡ 0 = count_none (g.S.Source.ahead c.loop.source) 4294967296 c.in_default.ensures.drawn.0 in
    omega arith

pub loop-preserved : goal.loop-preserved
loop-preserved g c =
    let ahead = g.S.Source.ahead in
    let d = c.in-Some.ensures.drawn in
    let within = (g.met.S.Source.names c.loop.source c.in-Some.name d.0).1 in
    let fewer = drawn_fewer (ahead c.loop.source) (ahead c.draw.new.self) c.in-Some.name within d.0 d.1 in
    record {
      drawn = rw c.push_reserved.ensures.items (one_drawn _ _ _ _ _ _ c.in-Some.name c.loop.invariant.drawn d.0 d.1);
      there = search rules;
      room = search rules;
      len = search rules;
      capacity = search rules;
    }

pub returns-clause-drawn : goal.returns-clause-drawn
returns-clause-drawn g c =
    let all : c.loop.counter ≡ c.args.count = omega arith in
    rw (← all) c.loop.invariant.drawn
