-- The first demand of the access check that a rule of the judgments does not meet.
use Rattle.std.specs.Prelude.{◌≡◌, ℕ, true, List, ◌++◌}
use Rattle.judgments.specs.Access.{Opened, Built, InRule, Owned}
use Rattle.judgments.specs.Contexts.{ty, ◌∶◌, Context, ◌∈◌}
use Rattle.judgments.specs.Rules.{Fact, Rule, arguments}
use Rattle.layouts.specs.Meanings.{Meaning}
use Rattle.terms.specs.Terms.{Term}
use Rattle.terms.specs.declared.row.Item.{Item}

module _ (lay : Meaning) (Σ : Context) (o : Item) (r : Rule) where
  -- each memory fact and each role fact begins with the owner
  abbrev pub AllOwned : Type 0
  AllOwned = (f : Fact) → f ∈ r.left ++ r.right → Owned o f

  -- no received seal or lock stays closed
  abbrev pub AllOpened : Type 0
  AllOpened = (t : Term) → Opened lay (r.universal ++ Σ) o (arguments r.left) t

  -- made families may be made
  abbrev pub AllMakeable : Type 0
  AllMakeable = (i : Item) (F : ℕ) (ps : List Item) → i ∶ ty F ps ∈ r.made → lay.makeable F ≡ true

  -- all right arguments can be built
  abbrev pub AllBuilt : Type 0
  AllBuilt = (t : Term) → t ∈ arguments r.right → Built (InRule lay (r.universal ++ Σ) o (arguments r.left) r.made) t

  -- The rule is refused with the number.
  pub data Refused : ℕ → Type 0 where
    not_owned : (AllOwned → ⊥) → Refused 16
    not_opened : AllOwned → (AllOpened → ⊥) → Refused 17
    not_makeable : AllOwned → AllOpened → (AllMakeable → ⊥) → Refused 18
    not_built : AllOwned → AllOpened → AllMakeable → (AllBuilt → ⊥) → Refused 19
