-- The names of a roll that are still to be read.
use Rattle.std.specs.Prelude.{ℕ, List, reverse, vec_items}
use Rattle.names.specs.declared.roll.Roll.{Roll}

abbrev pub unread : Roll → List ℕ
unread r = reverse (vec_items r.left)
