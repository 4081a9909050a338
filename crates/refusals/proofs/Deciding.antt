-- Tests that decide, joined.
use Rattle.std.proofs.Common.{◌≡◌, ℕ, ◌+◌, ◌<◌, Bool, true, false, ◌&&◌, eqb, ltb, List, [], ◌∷◌, ◌++◌, length, Ok, Err, sym, refl, ◌∙◌, subst, append_assoc, append-nil, arith}
use mathlib.Core.List.{Memᴰ}
use Rattle.std.proofs.lemmas.Bool.{and_parts, and_from, ltb-true, lt-ltb, eqb-true, eq-eqb}
use Rattle.refusals.specs.Walks.{Answer, pass, demand, and_then, walk}
use Rattle.refusals.specs.Decides.{Decides, Passes}

pub clash : {A : Type 0} → ◌≡◌ {A = ℕ} 0 1 → A
clash e = let none : ⊥ = omega arith in absurd none

pub decides_and : {a b : Bool} {P Q : Type 0} → Decides a P → Decides b Q → Decides (a && b) (P × Q)
decides_and {a} {b} p q = record {
  sound = λ e. (p.sound (and_parts a b e).0, q.sound (and_parts a b e).1);
  complete = λ h. and_from a b (p.complete h.0) (q.complete h.1);
}

pub decides_lt : (m n : ℕ) → Decides (ltb m n) (m < n)
decides_lt m n = record { sound = ltb-true m n; complete = lt-ltb m n }

pub decides_same : (m n : ℕ) → Decides (eqb m n) (m ≡ n)
decides_same m n = record { sound = eqb-true m n; complete = eq-eqb m n }

pub decides_as : {b : Bool} {P Q : Type 0} → (P → Q) → (Q → P) → Decides b P → Decides b Q
decides_as f g d = record { sound = λ e. f (d.sound e); complete = λ h. d.complete (g h) }

pub decides_never : {P : Type 0} → (P → ⊥) → Decides false P
decides_never no_way = record { sound = λ e. clash (cc); complete = λ h. absurd (no_way h) }

pub decides_always : {P : Type 0} → P → Decides true P
decides_always h = record { sound = λ e. h; complete = λ p. refl }

-- one line of refusals: the fault unless b
pub demand_passes : {F : Type 0} {b : Bool} {r : Answer F} {P Q : Type 0} (f : F) → Decides b P → (P → Passes r Q) → Passes (demand b f r) (P × Q)
demand_passes {b = true} f d rest = record {
  holds = λ e. (d.sound refl, (rest (d.sound refl)).holds e);
  passes = λ h. (rest h.0).passes h.1;
}
demand_passes {b = false} f d rest = record {
  holds = λ e. clash (cc);
  passes = λ h. clash (cc (d.complete h.0));
}

pub passes_always : {F : Type 0} {P : Type 0} → P → Passes {F = F} pass P
passes_always h = record { holds = λ e. h; passes = λ p. refl }

pub passes_as : {F : Type 0} {r : Answer F} {P Q : Type 0} → (P → Q) → (Q → P) → Passes r P → Passes r Q
passes_as f g p = record { holds = λ e. f (p.holds e); passes = λ h. p.passes (g h) }

pub passes_same : {F : Type 0} {r s : Answer F} {P : Type 0} → r ≡ s → Passes s P → Passes r P
passes_same e p = record { holds = λ h. p.holds (sym e ∙ h); passes = λ h. e ∙ p.passes h }

-- one check after another
pub then_passes : {F G : Type 0} {P Q : Type 0} (up : F → G) (a : Answer F) (r : Answer G) → Passes a P → (P → Passes r Q) → Passes (and_then up a r) (P × Q)
then_passes up (Ok u) r p rest = record {
  holds = λ e. (p.holds refl, (rest (p.holds refl)).holds e);
  passes = λ h. (rest h.0).passes h.1;
}
then_passes up (Err f) r p rest = record {
  holds = λ e. clash (cc);
  passes = λ h. clash (cc (p.passes h.0));
}

-- A walk passes where a judgment of the elements so far, J, holds of all of them.
module _ {X F G : Type 0} (check : List X → X → Answer F) (at : ℕ → F → G) (J : List X → Type 0)
    (step : (seen : List X) (x : X) → J seen → Passes (check seen x) (J (seen ++ x ∷ [])))
    (back : (seen : List X) (x : X) → J (seen ++ x ∷ []) → J seen) where
  pub walk_back : (xs seen : List X) → J (seen ++ xs) → J seen
  walk_back [] seen j = rw append-nil at j
  walk_back (x ∷ xs) seen j = back seen x (walk_back xs (seen ++ x ∷ []) (rw append_assoc j))

  pub walk_passes : (xs seen : List X) → J seen → Passes (walk check at seen xs) (J (seen ++ xs))
  walk_passes [] seen j = passes_always (rw append-nil j)
  walk_passes (x ∷ xs) seen j =
      passes_as
      (λ h. rw append_assoc at h.1)
      (λ h. let all : J ((seen ++ x ∷ []) ++ xs) = rw append_assoc h in (walk_back xs (seen ++ x ∷ []) all, all))
      (then_passes (at (length seen + 1)) (check seen x) (walk check at (seen ++ x ∷ []) xs) (step seen x j) (λ k. walk_passes xs (seen ++ x ∷ []) k))

-- A walk passes where each element is as it should be after those before it.
module _ {X F G : Type 0} (check : List X → X → Answer F) (at : ℕ → F → G) (K : List X → X → Type 0)
    (each : (seen : List X) (x : X) → Passes (check seen x) (K seen x)) where
  abbrev pub Each : List X → List X → Type 0
  Each seen [] = Unit {0}
  Each seen (x ∷ xs) = K seen x × Each (seen ++ x ∷ []) xs

  pub walk_each : (xs seen : List X) → Passes (walk check at seen xs) (Each seen xs)
  walk_each [] seen = passes_always tt
  walk_each (x ∷ xs) seen = then_passes (at (length seen + 1)) (check seen x) (walk check at (seen ++ x ∷ []) xs) (each seen x) (λ _. walk_each xs (seen ++ x ∷ []))

-- A walk passes where each element is as it should be, whatever stands before it.
module _ {X F G : Type 0} (check : List X → X → Answer F) (at : ℕ → F → G) (K : X → Type 0)
    (each : (seen : List X) (x : X) → Passes (check seen x) (K x)) where
  pub walk_members : (xs seen : List X) → Passes (walk check at seen xs) ((x : X) → Memᴰ x xs → K x)
  walk_members [] seen = passes_always (λ x m. elim m [ ])
  walk_members (x ∷ xs) seen =
      passes_as
      (λ h y m. split y m h.0 h.1)
      (λ h. (h x (Memᴰ.head refl), λ y m. h y (Memᴰ.tail m)))
      (then_passes (at (length seen + 1)) (check seen x) (walk check at (seen ++ x ∷ []) xs) (each seen x) (λ _. walk_members xs (seen ++ x ∷ [])))
    where
      split : (y : X) → Memᴰ y (x ∷ xs) → K x → ((z : X) → Memᴰ z xs → K z) → K y
      split y (Memᴰ.head e) k ks = subst K (sym e) k
      split y (Memᴰ.tail m) k ks = ks y m
