-- One draw more, after many.
use Rattle.std.proofs.Common.{◌≡◌, ℕ, ◌+◌, Bool, true, false, not, ◌&&◌, ◌||◌, eqb, List, [], ◌∷◌, ◌++◌, sym, refl, ap, ◌∙◌, ⊎_elim, append_assoc}
use Rattle.std.proofs.Math.Bool.{and-true}
use Rattle.std.proofs.lemmas.List.{length_push, append-nil}
use Rattle.std.proofs.lemmas.List.Folds.{list_any-append}
use Rattle.std.proofs.lemmas.Bool.{and_parts, or_cases, or_parts, or_from, not-true, eqb-true, eqb-false, ne_eqb}
use Rattle.names.specs.Sets.{without, listed}
use Rattle.names.specs.Counts.{minus_push}
use Rattle.names.specs.Many.{AllApart, ManyDrawn}

pub none_drawn : (f : ℕ → Bool) (old : List ℕ) → ManyDrawn 0 f old f old
none_drawn f old = record {
  made = [];
  many = refl;
  appended = sym (append-nil old);
  apart = tt;
  were = λ n e. cc;
  left = λ n. sym (and-true (f n));
}

apart_push : (xs : List ℕ) (x : ℕ) → AllApart xs → listed xs x ≡ false → AllApart (xs ++ x ∷ [])
apart_push [] x apart new = (refl, tt)
apart_push (y ∷ ys) x apart new =
    let p = or_parts (eqb y x) (listed ys x) new in
    let other = ne_eqb x y (λ e. eqb-false y x p.0 (sym e)) in
    (list_any-append (λ z. eqb z y) ys (x ∷ []) ∙ or_from (listed ys y) (eqb x y || false) apart.0 (or_from (eqb x y) false other refl), apart_push ys x apart.1 p.1)

pub one_drawn : (k : ℕ) (f : ℕ → Bool) (old : List ℕ) (g : ℕ → Bool) (new : List ℕ) (h : ℕ → Bool) (x : ℕ) → ManyDrawn k f old g new → g x ≡ true → ((n : ℕ) → h n ≡ without g x n) → ManyDrawn (k + 1) f old h (new ++ x ∷ [])
one_drawn k f old g new h x p t after =
    let first = and_parts (f x) (not (listed p.made x)) (sym (p.left x) ∙ t) in
    record {
      made = p.made ++ x ∷ [];
      many = length_push p.made x ∙ ap (λ n. n + 1) p.many;
      appended = ap (λ l. l ++ x ∷ []) p.appended ∙ append_assoc old p.made (x ∷ []);
      apart = apart_push p.made x p.apart (not-true (listed p.made x) first.1);
      were = λ n e.
          ⊎_elim
          (λ l. p.were n l)
          (λ l. ⊎_elim (λ s. ap f (sym (eqb-true x n s)) ∙ first.0) (λ s. cc) (or_cases (eqb x n) false l))
          (or_cases (listed p.made n) (eqb x n || false) (sym (list_any-append (λ z. eqb z n) p.made (x ∷ [])) ∙ e));
      left = λ n. after n ∙ ap (λ b. b && not (eqb x n)) (p.left n) ∙ sym (minus_push f p.made x n);
    }
