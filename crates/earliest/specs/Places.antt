-- The place of the earliest element that is the same as a given one.
use Rattle.std.specs.Prelude.{◌≡◌, ℕ, ◌<◌, Bool, true, false, List, Some, None, Option}
use Rattle.std.specs.List.{slice_get, position_from}

-- The place, counted from 0, of the first y with `same y x`.
abbrev pub earliest : {X : Type 0} → (X → X → Bool) → X → List X → Option ℕ
earliest same x ys = position_from (λ y. same y x) 0 ys

-- No element before the place n is the same as x.
abbrev pub NoneBefore : {X : Type 0} → (X → X → Bool) → X → List X → ℕ → Type 0
NoneBefore same x ys n = (k : ℕ) → k < n → (y : _) → slice_get ys k ≡ Some y → same y x ≡ false

-- The answer is the place of an element that is the same as x with none before it; or there is no such element.
abbrev pub First : {X : Type 0} → (X → X → Bool) → X → List X → Option ℕ → Type 0
First same x ys None = (k : ℕ) (y : _) → slice_get ys k ≡ Some y → same y x ≡ false
First {X = X} same x ys (Some n) = ((y : X) × (slice_get ys n ≡ Some y) × (same y x ≡ true)) × NoneBefore same x ys n
