use Rattle.std.proofs.Common.{rules}
use Rattle.terms.proofs.Sames.{derived_earliest}
use Rattle.terms.proofs.row.Row.place_in.Goals as goal

pub returns : goal.returns
returns c = search (rules, derived_earliest)
