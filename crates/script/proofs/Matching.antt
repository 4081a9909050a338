-- Words that a slice pattern or a text pattern took apart.
use Rattle.std.proofs.Common.{◌≡◌, ℕ, ◌<◌, ◌≤◌, Bool, true, false, cond, List, [], ◌∷◌, map, length, get_or, None, codes, Option, refl, ⊎_elim, arith, Bor}
use Rattle.std.specs.Str.{bytes_eq}
use Rattle.std.proofs.lemmas.Slice.Eq.{bytes_eq-Decides}
use Rattle.std.proofs.lemmas.Bool.{cases_Bool}
use Rattle.script.specs.Said.{Said}
use Rattle.script.specs.Lists.{Word}
use Rattle.script.specs.Commands.{plain_of, command_of}

-- two words that differ
pub unlike : (w k : Word) → (w ≡ k → ⊥) → bytes_eq w k ≡ false
unlike w k h = ⊎_elim (λ t. absurd (h ((bytes_eq-Decides w k).0 t))) (λ f. f) (cases_Bool (bytes_eq w k))

-- the words of a slice of references to them
abbrev pub told : List (Bor Word) → List Word
told ws = map (λ w. w.now) ws

-- the word at a place, as a pattern of a slice reads it
abbrev pub word_at : List (Bor Word) → ℕ → Word
word_at ws i = (get_or ws i record { ref_ptr = (0, 0); now = [] }).now

-- no words, or a first word that heads no list and states no fact
pub no_words : (ws : List (Bor Word)) → length ws < 1 → plain_of (told ws) ≡ command_of (told ws)
no_words [] h = refl
no_words (a ∷ ws) h = absurd (omega arith)

pub other_words : (ws : List (Bor Word)) → 1 ≤ length ws → (word_at ws 0 ≡ codes "load" → ⊥) → (word_at ws 0 ≡ codes "withhold" → ⊥) → (word_at ws 0 ≡ codes "memory" → ⊥) → (word_at ws 0 ≡ codes "local" → ⊥) → (word_at ws 0 ≡ codes "left" → ⊥) → (word_at ws 0 ≡ codes "right" → ⊥) → (word_at ws 0 ≡ codes "fact" → ⊥) → plain_of (told ws) ≡ command_of (told ws)
other_words [] some load withhold memory local left right fact = absurd (omega arith)
other_words (a ∷ ws) some load withhold memory local left right fact =
    rw (unlike a.now _ load, unlike a.now _ withhold, unlike a.now _ memory, unlike a.now _ local, unlike a.now _ left, unlike a.now _ right, unlike a.now _ fact) refl

-- words that are no command, by their count
pub no_plain : (ws : List (Bor Word)) → length ws < 1 → None ≡ plain_of (told ws)
no_plain [] h = refl
no_plain (a ∷ ws) h = absurd (omega arith)

pub not_alone : (ws : List (Bor Word)) → 1 ≤ length ws → length ws < 2 → (word_at ws 0 ≡ codes "new" → ⊥) → (word_at ws 0 ≡ codes "roll" → ⊥) → (word_at ws 0 ≡ codes "withholding" → ⊥) → (word_at ws 0 ≡ codes "check" → ⊥) → (word_at ws 0 ≡ codes "rule" → ⊥) → None ≡ plain_of (told ws)
not_alone [] some few new roll withholding check rule = absurd (omega arith)
not_alone (a ∷ []) some few new roll withholding check rule =
    rw (unlike a.now _ new, unlike a.now _ roll, unlike a.now _ withholding, unlike a.now _ check, unlike a.now _ rule) refl
not_alone (a ∷ b ∷ ws) some few new roll withholding check rule = absurd (omega arith)

pub not_one : (ws : List (Bor Word)) → 2 ≤ length ws → length ws < 3 → (word_at ws 0 ≡ codes "layout" → ⊥) → (word_at ws 0 ≡ codes "counter" → ⊥) → (word_at ws 0 ≡ codes "role" → ⊥) → (word_at ws 0 ≡ codes "forall" → ⊥) → (word_at ws 0 ≡ codes "make" → ⊥) → None ≡ plain_of (told ws)
not_one [] some few layout counter role forall make = absurd (omega arith)
not_one (a ∷ []) some few layout counter role forall make = absurd (omega arith)
not_one (a ∷ b ∷ []) some few layout counter role forall make =
    rw (unlike a.now _ layout, unlike a.now _ counter, unlike a.now _ role, unlike a.now _ forall, unlike a.now _ make) refl
not_one (a ∷ b ∷ c ∷ ws) some few layout counter role forall make = absurd (omega arith)

pub not_two : (ws : List (Bor Word)) → 3 ≤ length ws → length ws < 4 → (word_at ws 0 ≡ codes "row" → ⊥) → (word_at ws 0 ≡ codes "name" → ⊥) → None ≡ plain_of (told ws)
not_two [] some few row name = absurd (omega arith)
not_two (a ∷ []) some few row name = absurd (omega arith)
not_two (a ∷ b ∷ []) some few row name = absurd (omega arith)
not_two (a ∷ b ∷ c ∷ []) some few row name = rw (unlike a.now _ row, unlike a.now _ name) refl
not_two (a ∷ b ∷ c ∷ x ∷ ws) some few row name = absurd (omega arith)

neither : (t u : Bool) → ◌≡◌ {A = Option Said} None (cond t None (cond u None None))
neither true u = refl
neither false true = refl
neither false false = refl

pub not_three : (ws : List (Bor Word)) → 4 ≤ length ws → length ws < 5 → (word_at ws 0 ≡ codes "row" → ⊥) → None ≡ plain_of (told ws)
not_three [] some few row = absurd (omega arith)
not_three (a ∷ []) some few row = absurd (omega arith)
not_three (a ∷ b ∷ []) some few row = absurd (omega arith)
not_three (a ∷ b ∷ c ∷ []) some few row = absurd (omega arith)
not_three (a ∷ b ∷ c ∷ x ∷ []) some few row = rw (unlike a.now _ row) (neither false (bytes_eq a.now (codes "name")))
not_three (a ∷ b ∷ c ∷ x ∷ y ∷ ws) some few row = absurd (omega arith)

pub too_many : (ws : List (Bor Word)) → 5 ≤ length ws → None ≡ plain_of (told ws)
too_many [] some = absurd (omega arith)
too_many (a ∷ []) some = absurd (omega arith)
too_many (a ∷ b ∷ []) some = absurd (omega arith)
too_many (a ∷ b ∷ c ∷ []) some = absurd (omega arith)
too_many (a ∷ b ∷ c ∷ x ∷ []) some = absurd (omega arith)
too_many (a ∷ b ∷ c ∷ x ∷ y ∷ ws) some = neither (bytes_eq a.now (codes "row")) (bytes_eq a.now (codes "name"))
