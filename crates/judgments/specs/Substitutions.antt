-- Terms put for variables.
use Rattle.std.specs.Prelude.{ℕ, zero, suc, map}
use Rattle.terms.specs.Terms.{Term, item, pair, seal, lock}
use Rattle.terms.specs.declared.row.Item.{Item}
use Rattle.terms.specs.declared.row.Item.TheVariants.{Name, Variable}
use Rattle.judgments.specs.Contexts.{Ty, ty, Decl, ◌∶◌}

-- A term for each variable. What is put for a key or a parameter has to be an item.
abbrev pub Values : Type 0
Values = ℕ → Term

abbrev pub value : Values → Item → Term
value σ (Name n) = item (Name n)
value σ (Variable v) = σ v

-- The item that a term is; of any other term, name 0, which no context declares.
abbrev pub the_item : Term → Item
the_item (item i) = i
the_item (pair s t) = Name 0
the_item (seal t k) = Name 0
the_item (lock t k) = Name 0

abbrev pub put_item : Values → Item → Item
put_item σ i = the_item (value σ i)

abbrev pub put : Values → Term → Term
put σ (item i) = value σ i
put σ (pair s t) = pair (put σ s) (put σ t)
put σ (seal t k) = seal (put σ t) (put_item σ k)
put σ (lock t k) = lock (put σ t) (put_item σ k)

abbrev pub put_type : Values → Ty → Ty
put_type σ (ty F ps) = ty F (map (put_item σ) ps)

abbrev pub put_decl : Values → Decl → Decl
put_decl σ (i ∶ T) = put_item σ i ∶ put_type σ T

-- Variable 0, the owner, read as a name.
abbrev pub owner : ℕ → Values
owner a zero = item (Name a)
owner a (suc v) = item (Variable (suc v))
