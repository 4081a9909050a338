-- Words that are cut at a byte, or begin with one.
use Rattle.std.proofs.Common.{◌≡◌, ℕ, ◌+◌, ◌<◌, Bool, true, false, eqb, List, [], ◌∷◌, length, Some, None, Option, sym, refl, ap, ◌∙◌, ⊎_elim, arith, Bor, MatchOption}
use Rattle.std.specs.List.{list_any, position_or_len, before_first, after_first}
use Rattle.std.specs.Option.{option_map}
use Rattle.std.proofs.lemmas.Str.Pattern.{IsSplitOnceResult, split_once_first}
use Rattle.std.proofs.lemmas.Bool.{eq-eqb, cases_Bool, eqb-true}
use Rattle.script.specs.Lists.{Word}
use Rattle.script.specs.Types.{cut, after}

-- a list has an element that passes if the first such place is within it
any_found : (p : ℕ → Bool) (xs : List ℕ) → (position_or_len p xs < length xs → list_any p xs ≡ true) × (position_or_len p xs ≡ length xs → list_any p xs ≡ false)
any_found p [] = (λ h. absurd (omega arith), λ h. refl)
any_found p (x ∷ xs) =
    ⊎_elim
    (λ t. (λ h. rw t refl, λ h. absurd (let e : 0 ≡ length (x ∷ xs) = rw t at h in omega arith)))
    (λ f. (λ h. rw f ((any_found p xs).0 (let l : 1 + position_or_len p xs < length (x ∷ xs) = rw f at h in omega arith)), λ h. rw f ((any_found p xs).1 (let l : 1 + position_or_len p xs ≡ length (x ∷ xs) = rw f at h in omega arith))))
    (cases_Bool (p x))

module _ (c : ℕ) where
  abbrev Pair : Type 0
  Pair = Bor (List ℕ) × Bor (List ℕ)

  cut_by : (bs : Word) (r : Option Pair) → MatchOption r (position_or_len (λ b. eqb b c) bs ≡ length bs) (λ x. (position_or_len (λ b. eqb b c) bs < length bs) × (x.0.now ≡ before_first (λ b. eqb b c) bs) × (x.1.now ≡ after_first (λ b. eqb b c) bs)) → option_map (λ p. (p.0.now, p.1.now)) r ≡ cut c bs
  cut_by bs None h = rw ((any_found (λ b. eqb b c) bs).1 h) refl
  cut_by bs (Some x) h = rw ((any_found (λ b. eqb b c) bs).0 h.0, h.1, h.2) refl

  -- what `split_once` says
  pub cut_is : (bs : Word) (r : Option Pair) → IsSplitOnceResult c bs r → c < 128 → option_map (λ p. (p.0.now, p.1.now)) r ≡ cut c bs
  cut_is bs r h ascii = cut_by bs r (split_once_first c bs r h ascii)

  after_none : (bs : Word) → ((rest : Word) → bs ≡ c ∷ rest → ⊥) → after c bs ≡ None
  after_none [] h = refl
  after_none (b ∷ bs) h = ⊎_elim (λ t. absurd (h bs (ap (λ x. x ∷ bs) (eqb-true b c t)))) (λ f. rw f refl) (cases_Bool (eqb b c))

  -- what `strip_prefix` says
  pub after_is : (bs : Word) (r : Option (Bor (List ℕ))) → MatchOption r ((rest : Word) → bs ≡ c ∷ rest → ⊥) (λ x. bs ≡ c ∷ x.now) → option_map (λ w. w.now) r ≡ after c bs
  after_is bs None h = sym (after_none bs h)
  after_is bs (Some x) h =
      let itself = eq-eqb c c refl in
      let begun : after c (c ∷ x.now) ≡ Some x.now = rw itself refl in
      sym (ap (after c) h ∙ begun)
