-- What is worked out row by row, at a number.
use Rattle.std.proofs.Common.{◌≡◌, ℕ, ◌+◌, ◌-◌, ◌≤◌, true, false, eqb, List, [], ◌∷◌, ◌++◌, length, replicate, get_or, take, drop, Some, sym, refl, ap, ◌∙◌, ap₂, append_assoc, append-nil, arith}
use Rattle.std.proofs.lemmas.List.{length_push, length-take-le, take-append-drop, drop_more}
use Rattle.std.proofs.lemmas.Bool.{ne_eqb, eq-eqb}
use Rattle.std.proofs.Math.Seq.{take-append_seam}
use Rattle.std.specs.List.{refill}
use Rattle.terms.proofs.Numbered.{row_within, row_there}
use Rattle.terms.specs.declared.row.Row.{Row}
use Rattle.types.proofs.Rowed.{at_push}
use Rattle.types.specs.Rows.{at, row_at, fill}

pub at_push_before : {A : Type 0} (d : A) (xs : List A) (x : A) (k : ℕ) → k ≤ length xs → at d (xs ++ x ∷ []) k ≡ at d xs k
at_push_before d xs x k h = let ne : eqb k (length xs + 1) ≡ false = ne_eqb k (length xs + 1) (λ e. omega arith) in at_push d xs x k ∙ rw ne refl

pub at_push_last : {A : Type 0} (d : A) (xs : List A) (x : A) (k : ℕ) → k ≡ length xs + 1 → at d (xs ++ x ∷ []) k ≡ x
at_push_last d xs x k h = let t : eqb k (length xs + 1) ≡ true = eq-eqb k (length xs + 1) h in at_push d xs x k ∙ rw t refl

-- the rows before and after the row with a number
pub split_at : (rows : List Row) (k : ℕ) (r : Row) → row_at rows k ≡ Some r → rows ≡ take (k - 1) rows ++ r ∷ drop k rows
split_at rows k r e =
    let w = row_within rows k r e in
    let there = row_there rows k r w.0 w.1 in
    let is : get_or rows (k - 1) r ≡ r = cc in
    let next : k - 1 + 1 ≡ k = omega arith in
    sym (take-append-drop (k - 1) rows) ∙ ap (λ xs. take (k - 1) rows ++ xs) (drop_more rows (k - 1) r (omega arith) ∙ ap₂ (λ x n. x ∷ drop n rows) is next)

module _ {A : Type 0} (f : List Row → List A → Row → A) where
  fill_split : (seen : List Row) (got : List A) (ps qs : List Row) → fill f seen got (ps ++ qs) ≡ fill f (seen ++ ps) (fill f seen got ps) qs
  fill_split seen got [] qs = ap (λ s. fill f s got qs) (sym (append-nil seen))
  fill_split seen got (p ∷ ps) qs =
      fill_split (seen ++ p ∷ []) (got ++ f seen got p ∷ []) ps qs
      ∙ ap (λ s. fill f s (fill f (seen ++ p ∷ []) (got ++ f seen got p ∷ []) ps) qs) (append_assoc seen (p ∷ []) ps)

  pub fill_long : (seen : List Row) (got : List A) (rows : List Row) → length (fill f seen got rows) ≡ length got + length rows
  fill_long seen got [] = omega arith
  fill_long seen got (r ∷ rows) = let rest = fill_long (seen ++ r ∷ []) (got ++ f seen got r ∷ []) rows in omega (arith, rest, length_push got (f seen got r))

  fill_kept : (d : A) (seen : List Row) (got : List A) (rows : List Row) (k : ℕ) → k ≤ length got → at d (fill f seen got rows) k ≡ at d got k
  fill_kept d seen got [] k h = refl
  fill_kept d seen got (r ∷ rows) k h =
      fill_kept d (seen ++ r ∷ []) (got ++ f seen got r ∷ []) rows k (omega (arith, length_push got (f seen got r)))
      ∙ at_push_before d got (f seen got r) k h

  -- by the row with the number, and what was got of those before it
  pub fill_here : (d : A) (rows : List Row) (k : ℕ) (r : Row) → row_at rows k ≡ Some r → at d (fill f [] [] rows) k ≡ f (take (k - 1) rows) (fill f [] [] (take (k - 1) rows)) r
  fill_here d rows k r e =
      let w = row_within rows k r e in
      let P = take (k - 1) rows in
      let G = fill f [] [] P in
      let long : length G ≡ k - 1 = fill_long [] [] P ∙ (let t = length-take-le (k - 1) rows (omega arith) in omega arith) in
      ap (λ xs. at d (fill f [] [] xs) k) (split_at rows k r e)
      ∙ ap (λ xs. at d xs k) (fill_split [] [] P (r ∷ drop k rows))
      ∙ fill_kept d (P ++ r ∷ []) (G ++ f P G r ∷ []) (drop k rows) k (omega (arith, length_push G (f P G r)))
      ∙ at_push_last d G (f P G r) k (omega arith)

  pub fill_before : (d : A) (rows : List Row) (n a : ℕ) → n ≤ length rows → a ≤ n → at d (fill f [] [] (take n rows)) a ≡ at d (fill f [] [] rows) a
  fill_before d rows n a h l =
      let P = take n rows in
      let G = fill f [] [] P in
      let long : length G ≡ n = fill_long [] [] P ∙ (let t = length-take-le n rows h in omega arith) in
      sym (ap (λ xs. at d (fill f [] [] xs) a) (sym (take-append-drop n rows)) ∙ ap (λ xs. at d xs a) (fill_split [] [] P (drop n rows)) ∙ fill_kept d P G (drop n rows) a (omega arith))

-- the same of each row
pub fill_every : {A : Type 0} (x : A) (seen : List Row) (got : List A) (rows : List Row) → fill (λ _ _ _. x) seen got rows ≡ got ++ replicate (length rows) x
fill_every x seen got [] = sym (append-nil got)
fill_every x seen got (r ∷ rows) = fill_every x (seen ++ r ∷ []) (got ++ x ∷ []) rows ∙ append_assoc got (x ∷ []) (replicate (length rows) x)

-- what a slice of as many elements writes
pub refilled : {A : Type 0} (xs ws : List A) → length ws ≡ length xs → ws ≡ refill (length xs) xs ws
refilled xs ws e = sym (ap (λ n. take n (ws ++ drop (length ws) xs)) (sym e) ∙ take-append_seam ws (drop (length ws) xs))
