-- What `parse` answers of a word, as the numbers of a script.
use Rattle.std.proofs.Common.{◌≡◌, ℕ, ◌^◌, ◌<◌, Bool, true, false, cond, ◌&&◌, leb, List, [], ◌∷◌, length, get_or, Some, None, Option, Ok, Err, Decides, Result, MatchOption, refl, ap, ◌∙◌, subst, ⊎_elim, arith}
use Rattle.std.specs.Bool.{then_some}
use Rattle.std.specs.Result.{result_ok}
use Rattle.std.specs.Result.{OkIff}
use Rattle.std.specs.Str.Parse.{ParsesUnsigned}
use Rattle.std.specs.Str.{all_ascii_digits}
use Rattle.std.proofs.lemmas.Str.Parse.{IsNumeralModel, numerals_by_value, tells_all_ascii_digits, parse_plain}
use Rattle.std.proofs.lemmas.Bool.{both_ways, and_parts, cases_Bool, leb-true}
use Rattle.script.specs.Numbers.{value, is_number, number_up_to}

own : IsNumeralModel (λ ds. all_ascii_digits ds ≡ true) value
own = numerals_by_value _ tells_all_ascii_digits

number_from : (bs : List ℕ) → all_ascii_digits bs ≡ true → 0 < length bs → is_number bs ≡ true
number_from [] d some = let no : ⊥ = omega arith in absurd no
number_from (b ∷ bs) d some = d

digits_from : (bs : List ℕ) → is_number bs ≡ true → (all_ascii_digits bs ≡ true) × (0 < length bs)
digits_from [] e = let z : ◌≡◌ {A = ℕ} 0 1 = cc in let no : ⊥ = omega arith in absurd no
digits_from (b ∷ bs) e = (e, omega arith)

-- a sign is no digit
pub signed_none : (most : ℕ) (bs : List ℕ) → get_or bs 0 0 ≡ 43 → None ≡ number_up_to most bs
signed_none most [] e = let no : ⊥ = omega arith in absurd no
signed_none most (b ∷ bs) e = rw e refl

module _ (most : ℕ) (bs : List ℕ) where
  -- the word is a number that fits 64 bits
  abbrev Read : Type 0
  Read = (all_ascii_digits bs ≡ true) × (0 < length bs) × (value bs < 2 ^ 64)

  -- what `parse` reads where `starts_with('+')` was false
  reads : {E : Type 0} (r : Result ℕ E) (plus : Bool) → ParsesUnsigned 64 10 bs r → Decides plus (get_or bs 0 0 ≡ 43) → plus ≡ false → OkIff r Read (value bs)
  reads r plus h d f = parse_plain own 64 bs r h (λ e. both_ways plus f (d.1 e))

  chosen : (n : ℕ) → Read × (n ≡ value bs) → then_some (leb n most) n ≡ number_up_to most bs
  chosen n h = rw (h.1, number_from bs h.0.0 h.0.1) (kept (leb (value bs) most) (value bs))
    where
      kept : (b : Bool) (n : ℕ) → then_some b n ≡ cond b (Some n) None
      kept true n = refl
      kept false n = refl

  read_none : (Read → ⊥) → most < 2 ^ 64 → None ≡ number_up_to most bs
  read_none h fits = ⊎_elim (λ t. absurd (refused t)) (λ f. rw f refl) (cases_Bool (is_number bs && leb (value bs) most))
    where
      refused : is_number bs && leb (value bs) most ≡ true → ⊥
      refused t =
          let parts = and_parts (is_number bs) (leb (value bs) most) t in
          let digits = digits_from bs parts.0 in
          h (digits.0, digits.1, omega (arith, leb-true (value bs) most parts.1))

  read_by : {E : Type 0} {P : ℕ → Bool → Type 0} (r : Result ℕ E) (o n : Option ℕ) → OkIff r Read (value bs) → most < 2 ^ 64 → o ≡ result_ok r → MatchOption o (n ≡ None) (λ x. (b : Bool) × P x b × (n ≡ then_some b x)) → ((x : ℕ) (b : Bool) → P x b → b ≡ leb x most) → n ≡ number_up_to most bs
  read_by {P = P} (Ok x) o n h fits e m test =
      let f : (b : Bool) × P x b × (n ≡ then_some b x) = subst (λ q. MatchOption q (n ≡ None) (λ x. (b : Bool) × P x b × (n ≡ then_some b x))) e m in
      f.2 ∙ ap (λ b. then_some b x) (test x f.0 f.1) ∙ chosen x h
  read_by {P = P} (Err x) o n h fits e m test =
      let f : n ≡ None = subst (λ q. MatchOption q (n ≡ None) (λ x. (b : Bool) × P x b × (n ≡ then_some b x))) e m in
      f ∙ read_none h fits

  -- what is read, if it is no more than `most`
  pub read_number : {E : Type 0} {P : ℕ → Bool → Type 0} (r : Result ℕ E) (plus : Bool) (o n : Option ℕ) → ParsesUnsigned 64 10 bs r → Decides plus (get_or bs 0 0 ≡ 43) → plus ≡ false → most < 2 ^ 64 → o ≡ result_ok r → MatchOption o (n ≡ None) (λ x. (b : Bool) × P x b × (n ≡ then_some b x)) → ((x : ℕ) (b : Bool) → P x b → b ≡ leb x most) → n ≡ number_up_to most bs
  read_number r plus o n h d f fits e m test = read_by r o n (reads r plus h d f) fits e m test
