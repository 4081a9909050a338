-- What holds of a well-formed context, whatever the order of its declarations.
use Rattle.std.specs.Prelude.{◌≡◌}
use Rattle.layouts.specs.Meanings.{Meaning}
use Rattle.terms.specs.declared.row.Item.{Item}
use Rattle.judgments.specs.Contexts.{Ty, ◌∶◌, Context, ◌∈◌}
use Rattle.judgments.specs.Typing.{TypeFormed, InRange, Formed}

pub record Regular (lay : Meaning) (Γ : Context) : Type 0 where
  pub once : {i : Item} {S T : Ty} → i ∶ S ∈ Γ → i ∶ T ∈ Γ → S ≡ T
  pub in_range : {i : Item} {T : Ty} → i ∶ T ∈ Γ → InRange i
  pub formed : {i : Item} {T : Ty} → i ∶ T ∈ Γ → TypeFormed lay Γ T

abbrev pub DeclaredOnce : Type 0
DeclaredOnce = (lay : Meaning) (Γ : Context) → Formed lay Γ → Regular lay Γ
