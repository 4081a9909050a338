-- The earliest place is the first one, in the words of `First`.
use Rattle.std.proofs.Common.{◌≡◌, ℕ, zero, suc, ◌+◌, ◌<◌, Bool, true, false, List, [], ◌∷◌, length, Some, None, Option, sym, refl, subst, ⊎_elim, arith}
use Rattle.std.specs.List.{position_from}
use Rattle.std.proofs.lemmas.Bool.{cases_Bool}
use Rattle.earliest.specs.Places.{earliest, NoneBefore, First}

pub clash : {A : Type 0} → ◌≡◌ {A = ℕ} 0 1 → A
clash e = let none : ⊥ = omega arith in absurd none

module _ {X : Type 0} (same : X → X → Bool) (x : X) where
  -- one more element in front that is not the same
  before_more : (y : X) (ys : List X) (n : ℕ) → same y x ≡ false → NoneBefore same x ys n → NoneBefore same x (y ∷ ys) (suc n)
  before_more y ys n f b zero low z e = let is : y ≡ z = cc in subst (λ w. same w x ≡ false) is f
  before_more y ys n f b (suc k) low z e = b k (omega arith) z e

  none_more : (y : X) (ys : List X) → same y x ≡ false → First same x ys None → First same x (y ∷ ys) None
  none_more y ys f b zero z e = let is : y ≡ z = cc in subst (λ w. same w x ≡ false) is f
  none_more y ys f b (suc k) z e = b k z e

  -- the answer with places counted from n, by the one counted from 0
  abbrev Shifted : ℕ → List X → Option ℕ → Type 0
  Shifted n ys None = First same x ys None
  Shifted n ys (Some m) = (k : ℕ) × (m ≡ n + k) × First same x ys (Some k)

  here : (n : ℕ) (y : X) (ys : List X) → same y x ≡ true → Shifted n (y ∷ ys) (position_from (λ z. same z x) n (y ∷ ys))
  here n y ys t = rw t (0, omega arith, ((y, refl, t), λ k low. let none : ⊥ = omega arith in absurd none))

  past : (n : ℕ) (y : X) (ys : List X) → same y x ≡ false → (r : Option ℕ) → Shifted (n + 1) ys r → Shifted n (y ∷ ys) r
  past n y ys f None b = none_more y ys f b
  past n y ys f (Some m) b = (suc b.0, omega (arith, b.1), (b.2.0, before_more y ys b.0 f b.2.1))

  shifted : (n : ℕ) (ys : List X) → Shifted n ys (position_from (λ z. same z x) n ys)
  shifted n [] = λ k y e. clash (cc)
  shifted n (y ∷ ys) =
      let later = shifted (n + 1) ys in
      ⊎_elim (here n y ys) (λ f. rw f (past n y ys f (position_from (λ z. same z x) (n + 1) ys) later)) (cases_Bool (same y x))

  unshifted : (ys : List X) (r : Option ℕ) → Shifted 0 ys r → First same x ys r
  unshifted ys None b = b
  unshifted ys (Some m) b = let is : b.0 ≡ m = omega (arith, b.1) in subst (λ k. First same x ys (Some k)) is b.2

  pub earliest_first : (ys : List X) (r : Option ℕ) → r ≡ earliest same x ys → First same x ys r
  earliest_first ys r e = subst (First same x ys) (sym e) (unshifted ys (earliest same x ys) (shifted 0 ys))

-- a place that is found lies within the list
pub earliest_within : {X : Type 0} (same : X → X → Bool) (x : X) (n : ℕ) (ys : List X) (i : ℕ) → position_from (λ y. same y x) n ys ≡ Some i → i < n + length ys
earliest_within same x n [] i e = let z : ◌≡◌ {A = ℕ} 0 1 = cc in omega arith
earliest_within same x n (y ∷ ys) i e =
    ⊎_elim
    (λ t. let found : Some n ≡ Some i = rw t at e in let here : n ≡ i = cc in omega arith)
    (λ f. let later : position_from (λ z. same z x) (n + 1) ys ≡ Some i = rw f at e in omega (arith, earliest_within same x (n + 1) ys i later))
    (cases_Bool (same y x))
