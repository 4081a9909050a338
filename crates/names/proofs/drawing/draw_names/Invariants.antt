use Rattle.std.proofs.Common.{◌≡◌, ◌+◌, ◌≤◌, vec_items, vec_len, vec_capacity}
use Rattle.names.specs.Sets.{how_many}
use Rattle.names.specs.Many.{ManyDrawn}
use Rattle.names.proofs.drawing.draw_names.Given as goal

abbrev pub invariant-loop : goal.invariant-loop
invariant-loop g l =
    let ahead = g.S.Source.ahead in
    record {
      drawn : ManyDrawn l.counter (ahead l.initial.source) (vec_items l.initial.names) (ahead l.source) (vec_items l.names);
      there : l.count ≤ how_many (ahead l.source) + l.counter;
      room : vec_len l.initial.names + l.count ≤ vec_capacity l.initial.names;
      len : vec_len l.names ≡ vec_len l.initial.names + l.counter;
      capacity : vec_capacity l.names ≡ vec_capacity l.initial.names;
    }
