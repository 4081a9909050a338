-- Types, declarations and contexts.
use Rattle.std.specs.Prelude.{ℕ, zero, suc, List, [], ◌∷◌}
use mathlib.Core.List.{Memᴰ}
use Rattle.terms.specs.declared.row.Item.{Item}

-- A type: a family, by its number, and its parameters.
pub data Ty : Type 0 where
  ty : ℕ → List Item → Ty

-- The type of what can be sent.
abbrev pub msg : Ty
msg = ty 0 []

-- The type of stations.
abbrev pub principal : Ty
principal = ty 1 []

-- An item is declared with its type.
pub data Decl : Type 0 where
  ◌∶◌ : Item → Ty → Decl

infix 70 ◌∶◌
-- A context: the items declared at some point, the last one first.
abbrev pub Context : Type 0
Context = List Decl

infix 45 ◌∈◌
abbrev pub ◌∈◌ : {A : Type 0} → A → List A → Type 0
◌∈◌ x xs = Memᴰ x xs

-- The list has the element at the place, counted from 0.
pub data At {A : Type 0} : List A → ℕ → A → Type 0 where
  here : {x : A} {xs : List A} → At (x ∷ xs) zero x
  there : {x y : A} {xs : List A} {k : ℕ} → At xs k x → At (y ∷ xs) (suc k) x
