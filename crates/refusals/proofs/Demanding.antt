-- The answer of a check is the first demand that is not met.
use Rattle.std.proofs.Common.{◌≡◌, ℕ, ◌+◌, Bool, true, false, List, [], ◌∷◌, ◌++◌, length, refl, ap, inl, inr}
use Rattle.refusals.specs.Walks.{Answer, pass, demand, and_then, walk}
use Rattle.refusals.specs.Decides.{Decides, Passes}
use Rattle.refusals.specs.Demands.{Lines, First, Holds, carried, lines}
use Rattle.refusals.proofs.Deciding.{clash, passes_as}

-- one line
pub first_demand : {F : Type 0} (f : F) (b : Bool) (P : Type 0) (ls : Lines F) (r : Answer F) → Decides b P → (P → First ls r) → First ((f, P) ∷ ls) (demand b f r)
first_demand f true P ls r d rest = inr (d.sound refl, rest (d.sound refl))
first_demand f false P ls r d rest = inl ((λ p. clash (cc (d.complete p))), refl)

-- the check passes exactly where every demand is met
pub first_passes : {F : Type 0} (ls : Lines F) (r : Answer F) → First ls r → Passes r (Holds ls)
first_passes [] r h = record { holds = λ e. tt {0}; passes = λ _. h }
first_passes (l ∷ ls) r (inl h) = record { holds = λ e. clash (cc h.1); passes = λ p. absurd (h.0 p.0) }
first_passes (l ∷ ls) r (inr h) = passes_as (λ p. (h.0, p)) (λ p. p.1) (first_passes ls r h.1)

-- one table after another
pub first_then : {F G : Type 0} (up : F → G) (xs : Lines F) (ys : Lines G) (a : Answer F) (r : Answer G) → First xs a → (a ≡ pass → First ys r) → First (carried up xs ++ ys) (and_then up a r)
first_then up [] ys a r h k = rw h (k h)
first_then up (l ∷ xs) ys a r (inl h) k = inl (h.0, ap (λ a. and_then up a r) h.1)
first_then up (l ∷ xs) ys a r (inr h) k = inr (h.0, first_then up xs ys a r h.1 k)

-- the tables of a list's elements, one after another; J is what those before leave
module _ {X F G : Type 0} (check : List X → X → Answer F) (each : List X → X → Lines F) (at : ℕ → F → G) (J : List X → Type 0)
    (step : (seen : List X) (x : X) → J seen → First (each seen x) (check seen x))
    (keep : (seen : List X) (x : X) → J seen → check seen x ≡ pass → J (seen ++ x ∷ [])) where
  pub first_walk : (xs seen : List X) → J seen → First (lines each at seen xs) (walk check at seen xs)
  first_walk [] seen j = refl
  first_walk (x ∷ xs) seen j =
      first_then (at (length seen + 1)) (each seen x) (lines each at (seen ++ x ∷ []) xs) (check seen x) (walk check at (seen ++ x ∷ []) xs) (step seen x j) (λ e. first_walk xs (seen ++ x ∷ []) (keep seen x j e))
