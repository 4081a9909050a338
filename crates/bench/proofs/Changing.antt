-- Laws of changes: of a part and of the whole, of a list's end, of its last element.
use Rattle.std.proofs.Common.{◌≡◌, List, [], ◌∷◌, ◌++◌, map, Some, None, Option, sym, refl, ap, ◌∙◌, subst, inl, inr}
use Rattle.std.specs.Option.{option_map}
use Rattle.std.proofs.lemmas.List.{map-append}
use Rattle.bench.specs.declared.answer.Answer.{Answer}
use Rattle.bench.specs.Changes.{Kept, Edited}
use Rattle.bench.specs.Roles.{changed_last}

-- a change of a part is one of the whole
pub kept_inside : {A B : Type 0} (f : A → B) {old after new : A} {a : Answer} → Kept old after new a → Kept (f old) (f after) (f new) a
kept_inside f (inl p) = inl (ap f p.0, p.1)
kept_inside f (inr p) = inr (ap f p.0, p.1)

pub edited_inside : {A B : Type 0} (f : A → B) (after : Option A) (old new : A) (a : Answer) → Edited after old new a → Edited (option_map f after) (f old) (f new) a
edited_inside f None old new a p = (ap f p.0, p.1)
edited_inside f (Some w) old new a p = kept_inside f p

-- one more at the end of a list, and of the list as it is written
pub kept_map : {A B : Type 0} (w : A → B) (xs ys : List A) (x : A) (b : B) (a : Answer) → w x ≡ b → Kept xs (xs ++ x ∷ []) ys a → Kept (map w xs) (map w xs ++ b ∷ []) (map w ys) a
kept_map w xs ys x b a e k = subst (λ l. Kept (map w xs) l (map w ys) a) (map-append w xs (x ∷ []) ∙ ap (λ z. map w xs ++ z ∷ []) e) (kept_inside (map w) k)

-- the last element of a list
pub mapped_twice : {A B C : Type 0} (g : B → C) (f : A → B) (o : Option A) → option_map g (option_map f o) ≡ option_map (λ x. g (f x)) o
mapped_twice g f None = refl
mapped_twice g f (Some x) = refl

pub at_last : {A : Type 0} (f : A → Option A) (xs : List A) (x : A) → changed_last f (xs ++ x ∷ []) ≡ option_map (λ y. xs ++ y ∷ []) (f x)
at_last f [] x = refl
at_last f (a ∷ []) x = mapped_twice (λ zs. a ∷ zs) (λ y. y ∷ []) (f x)
at_last f (a ∷ b ∷ xs) x = ap (option_map (λ zs. a ∷ zs)) (at_last f (b ∷ xs) x) ∙ mapped_twice (λ zs. a ∷ zs) (λ y. b ∷ xs ++ y ∷ []) (f x)

pub edited_last : {A B : Type 0} (w : A → B) (f : B → Option B) (xs : List A) (x y : A) (before after : List A) (a : Answer) → before ≡ xs ++ x ∷ [] → after ≡ xs ++ y ∷ [] → Edited (f (w x)) (w x) (w y) a → Edited (changed_last f (map w before)) (map w before) (map w after) a
edited_last w f xs x y before after a e n h =
    let old = ap (map w) e ∙ map-append w xs (x ∷ []) in
    let new = ap (map w) n ∙ map-append w xs (y ∷ []) in
    let ends = edited_inside (λ z. map w xs ++ z ∷ []) (f (w x)) (w x) (w y) a h in
    let changed = subst (λ o. Edited o (map w xs ++ w x ∷ []) (map w xs ++ w y ∷ []) a) (sym (at_last f (map w xs) (w x))) ends in
    subst (λ l. Edited (changed_last f l) l (map w after) a) (sym old) (subst (λ l. Edited (changed_last f (map w xs ++ w x ∷ [])) (map w xs ++ w x ∷ []) l a) (sym new) changed)
