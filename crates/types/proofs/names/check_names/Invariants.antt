use Rattle.std.proofs.Common.{◌≡◌, take, drop}
use Rattle.refusals.specs.Walks.{walk}
use Rattle.types.specs.Names.{name_check, names_check, at_name}
use Rattle.types.proofs.names.check_names.Given as goal

abbrev pub invariant-loop-i : goal.invariant-loop-i
invariant-loop-i g l = let lay = g.L.Layout.meaning l.layout in walk (name_check lay) at_name (take l.i l.names) (drop l.i l.names) ≡ names_check lay l.names
