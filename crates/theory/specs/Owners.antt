-- Who variable 0 is in a role, and how the role reads an item.
use Rattle.std.specs.Prelude.{ℕ, cond, Some, None, Option, ◌==◌}
use Rattle.terms.specs.declared.row.Item.{Item}
use Rattle.terms.specs.declared.row.Item.TheVariants.{Name, Variable}
use Rattle.theory.specs.declared.owner.Owner.{Owner}
use Rattle.theory.specs.declared.owner.Owner.TheVariants.{Nobody, Generic, Anchored}

abbrev pub owner_of : Option ℕ → Owner
owner_of None = Generic
owner_of (Some a) = Anchored a

-- variable 0, which is a name in an anchored role
abbrev pub owner_item : Owner → Item
owner_item Nobody = Variable 0
owner_item Generic = Variable 0
owner_item (Anchored a) = Name a

abbrev pub item_of : Owner → Item → Item
item_of o (Name n) = Name n
item_of o (Variable v) = cond (v == 0) (owner_item o) (Variable v)
