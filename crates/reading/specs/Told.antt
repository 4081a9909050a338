-- What is told of a rule's left facts: exactly what their owner holds, and what stays closed.
use Rattle.std.specs.Prelude.{◌≡◌, ℕ, Bool, false, not, List, map, length, Some, vec_items, filter, flat_map}
use Rattle.judgments.specs.Access.{Received, Held, Opened}
use Rattle.judgments.specs.Contexts.{Context}
use Rattle.layouts.specs.Meanings.{Meaning}
use Rattle.refusals.specs.Decides.{Decides}
use Rattle.terms.specs.Rows.{is_row}
use Rattle.terms.specs.Terms.{Term}
use Rattle.terms.specs.declared.row.Item.{Item}
use Rattle.terms.specs.declared.row.Row.{Row}
use Rattle.terms.specs.declared.row.Row.TheVariants as row
use Rattle.theory.specs.Owners.{owner_item, item_of}
use Rattle.theory.specs.declared.data.Fact.{Fact}
use Rattle.theory.specs.declared.owner.Owner.{Owner}
use Rattle.types.specs.Rows.{at, row_at, term_at}

-- The rows of the facts' arguments.
abbrev pub argument_rows : List Fact → List ℕ
argument_rows fs = flat_map (λ f. vec_items f.rows) fs

-- The terms of the facts' arguments, as the owner reads them; a number that is no row's has none.
abbrev pub left_terms : Owner → List Row → List Fact → List Term
left_terms o rows fs = map (term_at o rows) (filter (is_row (length rows)) (argument_rows fs))

-- Flags on the rows: `held` that the row's item is held, `closed` that the row is received and stays closed.
pub record Told (lay : Meaning) (Γ : Context) (o : Owner) (rows : List Row) (left : List Term) (held closed : List Bool) : Type 0 where
  pub held_told : (k : ℕ) (i : Item) → row_at rows k ≡ Some (row.Item i) → Decides (at false held k) (Held lay Γ (owner_item o) left (item_of o i))
  pub closed_told : (k : ℕ) → Decides (not (at false closed k)) (Opened lay Γ (owner_item o) left (term_at o rows k))
  -- what is received has a row
  pub row_told : (t : Term) → Received lay Γ (owner_item o) left t → (k : ℕ) × (r : Row) × (row_at rows k ≡ Some r) × (term_at o rows k ≡ t)
