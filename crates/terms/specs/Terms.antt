-- Terms as trees: items, pairs, and what is encrypted under an item.
use Rattle.std.specs.Prelude.{Bool, true, false, ◌&&◌}
use Rattle.terms.specs.declared.row.Item.{Item}
use Rattle.terms.specs.declared.row.Item.TheVariants.{Name, Variable}

-- A seal is a term encrypted under a shared key, a lock one encrypted under a public key.
pub data Term : Type 0 where
  item : Item → Term
  pair : Term → Term → Term
  seal lock : Term → Item → Term

abbrev pub is_name : Item → Bool
is_name (Name n) = true
is_name (Variable v) = false

-- A ground term has no variables.
abbrev pub ground : Term → Bool
ground (item i) = is_name i
ground (pair s t) = ground s && ground t
ground (seal t k) = ground t && is_name k
ground (lock t k) = ground t && is_name k
