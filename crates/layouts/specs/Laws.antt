-- The laws of layouts.
use Rattle.std.specs.Prelude.{◌≡◌, ℕ, ◌<◌, ◌≤◌, true, false, [], ◌∷◌, length}
use mathlib.Core.List.{Memᴰ}
use Rattle.layouts.specs.Meanings.{Meaning}
use Rattle.layouts.specs.declared.layout.Kind.TheVariants.{Plain, Locking}

-- What is told of a family that the layout lacks.
pub record Lacked (lay : Meaning) (F : ℕ) : Type 0 where
  pub no_params : lay.params F ≡ []
  pub not_sendable : lay.sendable F ≡ false
  pub no_key : lay.kind F ≡ Plain
  pub not_made : lay.makeable F ≡ false
  pub not_granted : (o a b c : ℕ) → lay.grants o F a b c ≡ false

pub record Lawful (lay : Meaning) : Type 0 where
  pub at_most_sixteen : lay.families ≤ 16
  pub at_most_two : (F : ℕ) → F < lay.families → length (lay.params F) ≤ 2
  -- msg is family 0, and principal family 1: types without parameters whose items are no keys
  pub msg_params : lay.params 0 ≡ []
  pub msg_plain : lay.kind 0 ≡ Plain
  pub principal_there : 1 < lay.families
  pub principal_params : lay.params 1 ≡ []
  pub principal_plain : lay.kind 1 ≡ Plain
  pub principal_sendable : lay.sendable 1 ≡ true
  -- the family of a parameter comes before that of the type, and is not msg
  pub params_smaller : (F G : ℕ) → F < lay.families → Memᴰ G (lay.params F) → (0 < G) × (G < F)
  -- the items of an opening family are private keys of one public key, their parameter; so msg and principal open nothing
  pub opener_params : (F G : ℕ) → F < lay.families → lay.kind F ≡ Locking G → (G < lay.families) × (lay.params G ≡ F ∷ [])
  -- msg is never granted
  pub msg_never : (o a b c : ℕ) → lay.grants o 0 a b c ≡ false
  -- grants survive substitution, two codes becoming one among them: so they never rest on a difference
  pub grants_kept : (f : ℕ → ℕ) → f 0 ≡ 0 → (o F a b c : ℕ) → F < lay.families → lay.grants o F a b c ≡ true → lay.grants (f o) F (f a) (f b) (f c) ≡ true
  pub lacking : (F : ℕ) → lay.families ≤ F → Lacked lay F
