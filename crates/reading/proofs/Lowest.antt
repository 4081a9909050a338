-- The table of lowest rows is right: rows of one term have one lowest row, and it stands for that term.
use Rattle.std.proofs.Common.{◌≡◌, ℕ, zero, suc, ◌+◌, ◌-◌, ◌<◌, ◌≤◌, true, false, ◌&&◌, eqb, List, [], ◌∷◌, ◌++◌, length, take, drop, Some, None, Option, unwrap_or, sym, refl, ap, ◌∙◌, subst, ap₂, ⊎_elim, arith}
use Rattle.earliest.proofs.Firsts.{earliest_first}
use Rattle.earliest.specs.Places.{earliest}
use Rattle.refusals.proofs.Deciding.{clash}
use Rattle.std.proofs.lemmas.List.{length_push, length-take-le, take-append-drop}
use Rattle.std.proofs.lemmas.Bool.{ne_eqb, eq-eqb, eqb-true, and_parts, cases_lt}
use Rattle.std.specs.List.{slice_get}
use Rattle.terms.proofs.Booked.{Earlier, EarlierParts, earlier}
use Rattle.terms.proofs.Numbered.{row_within, row_there, row_from_one, nth_within, same_itself}
use Rattle.terms.specs.Adding.{number_in}
use Rattle.terms.specs.Books.{is_book}
use Rattle.terms.specs.Rows.{same_row}
use Rattle.terms.specs.Terms.{Term, item, pair, seal, lock}
use Rattle.terms.specs.declared.row.Item.{Item}
use Rattle.terms.specs.declared.row.Row.{Row}
use Rattle.terms.specs.declared.row.Row.TheVariants as row
use Rattle.theory.specs.Owners.{item_of}
use Rattle.theory.specs.declared.owner.Owner.{Owner}
use Rattle.types.proofs.Rowed.{row_at_push}
use Rattle.types.specs.Facts.{item_in}
use Rattle.types.specs.Rows.{at, row_at, term_at}
use Rattle.reading.proofs.Granting.{same_decides}
use Rattle.reading.proofs.Filled.{at_push_before, at_push_last, split_at}
use Rattle.reading.proofs.Shapes.{key, shaped}
use Rattle.reading.specs.Lows.{reduced, lowered, lows}

-- ---- equal rows
two_same : {A : Type 0} (f : ℕ → ℕ → A) (a b c d : ℕ) → (eqb a c && eqb b d) ≡ true → f a b ≡ f c d
two_same f a b c d e = let p = and_parts (eqb a c) (eqb b d) e in ap₂ f (eqb-true a c p.0) (eqb-true b d p.1)

row_same : (q r : Row) → same_row q r ≡ true → q ≡ r
row_same (row.Item i) (row.Item j) e = ap row.Item ((same_decides i j).sound e)
row_same (row.Item i) (row.Pair c d) e = clash (cc)
row_same (row.Item i) (row.Seal c d) e = clash (cc)
row_same (row.Item i) (row.Lock c d) e = clash (cc)
row_same (row.Pair a b) (row.Item j) e = clash (cc)
row_same (row.Pair a b) (row.Pair c d) e = two_same row.Pair a b c d e
row_same (row.Pair a b) (row.Seal c d) e = clash (cc)
row_same (row.Pair a b) (row.Lock c d) e = clash (cc)
row_same (row.Seal a b) (row.Item j) e = clash (cc)
row_same (row.Seal a b) (row.Pair c d) e = clash (cc)
row_same (row.Seal a b) (row.Seal c d) e = two_same row.Seal a b c d e
row_same (row.Seal a b) (row.Lock c d) e = clash (cc)
row_same (row.Lock a b) (row.Item j) e = clash (cc)
row_same (row.Lock a b) (row.Pair c d) e = clash (cc)
row_same (row.Lock a b) (row.Seal c d) e = clash (cc)
row_same (row.Lock a b) (row.Lock c d) e = two_same row.Lock a b c d e

-- ---- the table row by row
module _ (o : Owner) where
  -- the rows as they are compared
  abbrev reds : List Row → List ℕ → List Row → List Row
  reds seen low [] = seen
  reds seen low (r ∷ rows) = reds (seen ++ reduced o low r ∷ []) (low ++ number_in seen (reduced o low r) ∷ []) rows

  lowered_split : (seen : List Row) (low : List ℕ) (ps qs : List Row) → lowered o seen low (ps ++ qs) ≡ lowered o (reds seen low ps) (lowered o seen low ps) qs
  lowered_split seen low [] qs = refl
  lowered_split seen low (p ∷ ps) qs = lowered_split (seen ++ reduced o low p ∷ []) (low ++ number_in seen (reduced o low p) ∷ []) ps qs

  reds_split : (seen : List Row) (low : List ℕ) (ps qs : List Row) → reds seen low (ps ++ qs) ≡ reds (reds seen low ps) (lowered o seen low ps) qs
  reds_split seen low [] qs = refl
  reds_split seen low (p ∷ ps) qs = reds_split (seen ++ reduced o low p ∷ []) (low ++ number_in seen (reduced o low p) ∷ []) ps qs

  lowered_long : (seen : List Row) (low : List ℕ) (rows : List Row) → length (lowered o seen low rows) ≡ length low + length rows
  lowered_long seen low [] = omega arith
  lowered_long seen low (r ∷ rows) = let rest = lowered_long (seen ++ reduced o low r ∷ []) (low ++ number_in seen (reduced o low r) ∷ []) rows in omega (arith, rest, length_push low (number_in seen (reduced o low r)))

  reds_long : (seen : List Row) (low : List ℕ) (rows : List Row) → length (reds seen low rows) ≡ length seen + length rows
  reds_long seen low [] = omega arith
  reds_long seen low (r ∷ rows) = let rest = reds_long (seen ++ reduced o low r ∷ []) (low ++ number_in seen (reduced o low r) ∷ []) rows in omega (arith, rest, length_push seen (reduced o low r))

  lowered_kept : (seen : List Row) (low : List ℕ) (rows : List Row) (k : ℕ) → k ≤ length low → at 0 (lowered o seen low rows) k ≡ at 0 low k
  lowered_kept seen low [] k h = refl
  lowered_kept seen low (r ∷ rows) k h =
      lowered_kept (seen ++ reduced o low r ∷ []) (low ++ number_in seen (reduced o low r) ∷ []) rows k (omega (arith, length_push low (number_in seen (reduced o low r))))
      ∙ at_push_before 0 low (number_in seen (reduced o low r)) k h

  row_push_before : (xs : List Row) (x : Row) (k : ℕ) → k ≤ length xs → row_at (xs ++ x ∷ []) k ≡ row_at xs k
  row_push_before xs x k h = let ne : eqb k (length xs + 1) ≡ false = ne_eqb k (length xs + 1) (λ e. omega arith) in row_at_push xs x k ∙ rw ne refl

  row_push_last : (xs : List Row) (x : Row) (k : ℕ) → k ≡ length xs + 1 → row_at (xs ++ x ∷ []) k ≡ Some x
  row_push_last xs x k h = let t : eqb k (length xs + 1) ≡ true = eq-eqb k (length xs + 1) h in row_at_push xs x k ∙ rw t refl

  reds_kept : (seen : List Row) (low : List ℕ) (rows : List Row) (k : ℕ) → k ≤ length seen → row_at (reds seen low rows) k ≡ row_at seen k
  reds_kept seen low [] k h = refl
  reds_kept seen low (r ∷ rows) k h =
      reds_kept (seen ++ reduced o low r ∷ []) (low ++ number_in seen (reduced o low r) ∷ []) rows k (omega (arith, length_push seen (reduced o low r)))
      ∙ row_push_before seen (reduced o low r) k h

  module _ (rows : List Row) (book : is_book rows ≡ true) where
    abbrev L : List ℕ
    L = lows o rows

    abbrev low : ℕ → ℕ
    low k = at 0 L k

    abbrev R : List Row
    R = reds [] [] rows

    module _ (k : ℕ) (r : Row) (e : row_at rows k ≡ Some r) where
      abbrev P : List Row
      P = take (k - 1) rows

      within : (0 < k) × (k ≤ length rows)
      within = row_within rows k r e

      short : length P ≡ k - 1
      short = let w = within in length-take-le (k - 1) rows (omega arith)

      before : (a : ℕ) → a ≤ k - 1 → at 0 (lows o P) a ≡ low a
      before a h =
          sym (ap (λ xs. at 0 (lows o xs) a) (sym (take-append-drop (k - 1) rows)) ∙ ap (λ xs. at 0 xs a) (lowered_split [] [] P (drop (k - 1) rows)) ∙ lowered_kept (reds [] [] P) (lows o P) (drop (k - 1) rows) a (omega (arith, lowered_long [] [] P, short)))

      early_row : (a : ℕ) → a ≤ k - 1 → row_at (reds [] [] P) a ≡ row_at R a
      early_row a h =
          sym (ap (λ xs. row_at (reds [] [] xs) a) (sym (take-append-drop (k - 1) rows)) ∙ ap (λ xs. row_at xs a) (reds_split [] [] P (drop (k - 1) rows)) ∙ reds_kept (reds [] [] P) (lows o P) (drop (k - 1) rows) a (omega (arith, reds_long [] [] P, short)))

      -- parts are earlier, so that the whole table compares the row as its beginning does
      reduced_same : (q : Row) → EarlierParts rows k q → reduced o (lows o P) q ≡ reduced o L q
      reduced_same (row.Item i) p = refl
      reduced_same (row.Pair a b) p = ap₂ row.Pair (before a (omega (arith, p.0.1))) (before b (omega (arith, p.1.1)))
      reduced_same (row.Seal c j) p = ap₂ row.Seal (before c (omega (arith, p.0.1))) (before j (omega (arith, p.1.1)))
      reduced_same (row.Lock c j) p = ap₂ row.Lock (before c (omega (arith, p.0.1))) (before j (omega (arith, p.1.1)))

      compared : reduced o (lows o P) r ≡ reduced o L r
      compared = reduced_same r (earlier rows book k r e)

      low_here : low k ≡ number_in (reds [] [] P) (reduced o L r)
      low_here =
          let w = within in
          let n = number_in (reds [] [] P) (reduced o (lows o P) r) in
          ap (λ xs. at 0 (lows o xs) k) (split_at rows k r e)
          ∙ ap (λ xs. at 0 xs k) (lowered_split [] [] P (r ∷ drop k rows))
          ∙ lowered_kept (reds [] [] P ++ reduced o (lows o P) r ∷ []) (lows o P ++ n ∷ []) (drop k rows) k (omega (arith, length_push (lows o P) n, lowered_long [] [] P, short))
          ∙ at_push_last 0 (lows o P) n k (omega (arith, lowered_long [] [] P, short))
          ∙ ap (number_in (reds [] [] P)) compared

      red_here : row_at R k ≡ Some (reduced o L r)
      red_here =
          let w = within in
          let n = number_in (reds [] [] P) (reduced o (lows o P) r) in
          ap (λ xs. row_at (reds [] [] xs) k) (split_at rows k r e)
          ∙ ap (λ xs. row_at xs k) (reds_split [] [] P (r ∷ drop k rows))
          ∙ reds_kept (reds [] [] P ++ reduced o (lows o P) r ∷ []) (lows o P ++ n ∷ []) (drop k rows) k (omega (arith, length_push (reds [] [] P) (reduced o (lows o P) r), reds_long [] [] P, short))
          ∙ row_push_last (reds [] [] P) (reduced o (lows o P) r) k (omega (arith, reds_long [] [] P, short))
          ∙ ap Some compared

    -- the row that the table has for a row is the first that is compared as the same
    pub record FirstLike (k : ℕ) (r : Row) : Type 0 where
      pub like : Row
      pub within : low k ≤ k
      pub there : row_at rows (low k) ≡ Some like
      pub same : reduced o L like ≡ reduced o L r
      pub none : (j : ℕ) (q : Row) → j < low k → row_at rows j ≡ Some q → reduced o L q ≡ reduced o L r → ⊥

    first_like : (k : ℕ) (r : Row) → row_at rows k ≡ Some r → FirstLike k r
    first_like k r e = go (earliest same_row (reduced o L r) S) refl
      where
        S : List Row
        S = reds [] [] (take (k - 1) rows)

        w : (0 < k) × (k ≤ length rows)
        w = within k r e

        long : length S ≡ k - 1
        long = reds_long [] [] (take (k - 1) rows) ∙ (let t = short k r e in omega arith)

        at_place : (j : ℕ) (q : Row) → 0 < j → j < k → row_at rows j ≡ Some q → slice_get S (j - 1) ≡ Some (reduced o L q)
        at_place j q low_j below x = sym (row_from_one S j low_j) ∙ early_row k r e j (omega arith) ∙ red_here j q x

        differs : (j : ℕ) (q : Row) → same_row (reduced o L q) (reduced o L r) ≡ false → reduced o L q ≡ reduced o L r → ⊥
        differs j q f x = clash (cc (f, subst (λ y. same_row (reduced o L q) y ≡ true) x (same_itself (reduced o L q))))

        go : (a : Option ℕ) → earliest same_row (reduced o L r) S ≡ a → FirstLike k r
        go None x =
            let end : length S + 1 ≡ k = omega (arith, w.0, long) in
            let is : low k ≡ k = low_here k r e ∙ ap (λ a. unwrap_or a (length S) + 1) x ∙ end in
            let first = earliest_first same_row (reduced o L r) S None (sym x) in
            record {
              like = r;
              within = omega arith;
              there = ap (row_at rows) is ∙ e;
              same = refl;
              none = λ j q below y same. let v = row_within rows j q y in differs j q (first (j - 1) (reduced o L q) (at_place j q v.0 (omega arith) y)) same;
            }
        go (Some n) x =
            let from_one = w.0 in
            let to_last = w.1 in
            let so_long = long in
            let is : low k ≡ n + 1 = low_here k r e ∙ ap (λ a. unwrap_or a (length S) + 1) x in
            let first = earliest_first same_row (reduced o L r) S (Some n) (sym x) in
            let place = nth_within S n first.0.0 first.0.1 in
            let q = row_there rows (n + 1) r (omega arith) (omega arith) in
            let red = at_place (n + 1) _ (omega arith) (omega arith) q in
            let back : n + 1 - 1 ≡ n = omega arith in
            let found : Some first.0.0 ≡ Some (reduced o L _) = sym first.0.1 ∙ ap (slice_get S) (sym back) ∙ red in
            let y_is : first.0.0 ≡ reduced o L _ = cc in
            record {
              like = _;
              within = omega arith;
              there = ap (row_at rows) is ∙ q;
              same = sym y_is ∙ row_same first.0.0 (reduced o L r) first.0.2;
              none = λ j q below y same. let v = row_within rows j q y in differs j q (first.1 (j - 1) (omega arith) (reduced o L q) (at_place j q v.0 (omega arith) y)) same;
            }

    abbrev term : ℕ → Term
    term k = term_at o rows k

    -- the row told for the number stands for the same term, and none lower does
    pub record Low (k : ℕ) : Type 0 where
      pub row : Row
      pub there : row_at rows (low k) ≡ Some row
      pub same : term (low k) ≡ term k
      pub least : (j : ℕ) (q : Row) → row_at rows j ≡ Some q → term j ≡ term k → low k ≤ j

    -- rows of one term have one lowest row, and the other way round
    one_low : (a b : ℕ) (q r : Row) → row_at rows a ≡ Some q → row_at rows b ≡ Some r → Low a → Low b → term a ≡ term b → low a ≡ low b
    one_low a b q r x y p s e = let m = p.least (low b) s.row s.there (s.same ∙ sym e) in let n = s.least (low a) p.row p.there (p.same ∙ e) in omega arith

    one_term : (a b : ℕ) → Low a → Low b → low a ≡ low b → term a ≡ term b
    one_term a b p s e = sym p.same ∙ ap term e ∙ s.same

    key_term : (k : ℕ) (i : Item) → row_at rows k ≡ Some (row.Item i) → term k ≡ item (key o rows k)
    key_term k i e = shaped o rows book k (row.Item i) e ∙ ap (λ x. item (item_of o (item_in x))) (sym e)

    module _ (n : ℕ) (lows_to : (a : ℕ) (q : Row) → row_at rows a ≡ Some q → a < n → Low a) where
      module _ (j : ℕ) (q : Row) (e : row_at rows j ≡ Some q) (h : j ≤ n) where
        part_there : (a : ℕ) → Earlier j a → (x : Row) × (row_at rows a ≡ Some x)
        part_there a early = let w = row_within rows j q e in (_, row_there rows a q early.0 (omega (arith, early.1)))

        part_low : (a : ℕ) → Earlier j a → Low a
        part_low a early = let x = part_there a early in lows_to a x.0 x.1 (omega (arith, early.1))

      module _ (j k : ℕ) (h : j ≤ n) (g : k ≤ n) where
        same_pairs : (f : Term → Term → Term) (a b c d : ℕ) → Low a → Low b → Low c → Low d → low a ≡ low c → low b ≡ low d → f (term a) (term b) ≡ f (term c) (term d)
        same_pairs f a b c d p q s t x y = ap₂ f (one_term a c p s x) (one_term b d q t y)

        same_keys : (f : Term → Item → Term) (a b c d : ℕ) (i i' : Item) → row_at rows b ≡ Some (row.Item i) → row_at rows d ≡ Some (row.Item i') → Low a → Low b → Low c → Low d → low a ≡ low c → low b ≡ low d → f (term a) (key o rows b) ≡ f (term c) (key o rows d)
        same_keys f a b c d i i' b_is d_is p q s t x y =
            let both : item (key o rows b) ≡ item (key o rows d) = sym (key_term b i b_is) ∙ one_term b d q t y ∙ key_term d i' d_is in
            let keys : key o rows b ≡ key o rows d = cc in
            ap₂ f (one_term a c p s x) keys

        -- what is compared as the same stands for one term
        same_terms : (q r : Row) → row_at rows j ≡ Some q → row_at rows k ≡ Some r → reduced o L q ≡ reduced o L r → term j ≡ term k
        same_terms (row.Item i) (row.Item i') x y e = let is : item_of o i ≡ item_of o i' = cc in shaped o rows book j (row.Item i) x ∙ ap item is ∙ sym (shaped o rows book k (row.Item i') y)
        same_terms (row.Item i) (row.Pair c d) x y e = clash (cc)
        same_terms (row.Item i) (row.Seal c d) x y e = clash (cc)
        same_terms (row.Item i) (row.Lock c d) x y e = clash (cc)
        same_terms (row.Pair a b) (row.Item i) x y e = clash (cc)
        same_terms (row.Pair a b) (row.Pair c d) x y e =
            let p = earlier rows book j (row.Pair a b) x in
            let s = earlier rows book k (row.Pair c d) y in
            shaped o rows book j (row.Pair a b) x
            ∙ same_pairs pair a b c d (part_low j _ x h a p.0) (part_low j _ x h b p.1) (part_low k _ y g c s.0) (part_low k _ y g d s.1) (cc) (cc)
            ∙ sym (shaped o rows book k (row.Pair c d) y)
        same_terms (row.Pair a b) (row.Seal c d) x y e = clash (cc)
        same_terms (row.Pair a b) (row.Lock c d) x y e = clash (cc)
        same_terms (row.Seal a b) (row.Item i) x y e = clash (cc)
        same_terms (row.Seal a b) (row.Pair c d) x y e = clash (cc)
        same_terms (row.Seal a b) (row.Seal c d) x y e =
            let p = earlier rows book j (row.Seal a b) x in
            let s = earlier rows book k (row.Seal c d) y in
            shaped o rows book j (row.Seal a b) x
            ∙ same_keys seal a b c d p.2.0 s.2.0 p.2.1 s.2.1 (part_low j _ x h a p.0) (part_low j _ x h b p.1) (part_low k _ y g c s.0) (part_low k _ y g d s.1) (cc) (cc)
            ∙ sym (shaped o rows book k (row.Seal c d) y)
        same_terms (row.Seal a b) (row.Lock c d) x y e = clash (cc)
        same_terms (row.Lock a b) (row.Item i) x y e = clash (cc)
        same_terms (row.Lock a b) (row.Pair c d) x y e = clash (cc)
        same_terms (row.Lock a b) (row.Seal c d) x y e = clash (cc)
        same_terms (row.Lock a b) (row.Lock c d) x y e =
            let p = earlier rows book j (row.Lock a b) x in
            let s = earlier rows book k (row.Lock c d) y in
            shaped o rows book j (row.Lock a b) x
            ∙ same_keys lock a b c d p.2.0 s.2.0 p.2.1 s.2.1 (part_low j _ x h a p.0) (part_low j _ x h b p.1) (part_low k _ y g c s.0) (part_low k _ y g d s.1) (cc) (cc)
            ∙ sym (shaped o rows book k (row.Lock c d) y)

        low_pairs : (q r : Row) (x : row_at rows j ≡ Some q) (y : row_at rows k ≡ Some r) (f : ℕ → ℕ → Row) (a b c d : ℕ) → Earlier j a → Earlier j b → Earlier k c → Earlier k d → term a ≡ term c → term b ≡ term d → f (low a) (low b) ≡ f (low c) (low d)
        low_pairs q r x y f a b c d p s t u e e' =
            let at_a = part_there j q x h a p in
            let at_b = part_there j q x h b s in
            let at_c = part_there k r y g c t in
            let at_d = part_there k r y g d u in
            ap₂ f (one_low a c at_a.0 at_c.0 at_a.1 at_c.1 (part_low j q x h a p) (part_low k r y g c t) e) (one_low b d at_b.0 at_d.0 at_b.1 at_d.1 (part_low j q x h b s) (part_low k r y g d u) e')

        -- what stands for one term is compared as the same
        same_reduced : (q r : Row) → row_at rows j ≡ Some q → row_at rows k ≡ Some r → term j ≡ term k → reduced o L q ≡ reduced o L r
        same_reduced (row.Item i) (row.Item i') x y e =
            let both : item (item_of o i) ≡ item (item_of o i') = sym (shaped o rows book j (row.Item i) x) ∙ e ∙ shaped o rows book k (row.Item i') y in
            let is : item_of o i ≡ item_of o i' = cc in
            ap row.Item is
        same_reduced (row.Item i) (row.Pair c d) x y e = clash (cc (shaped o rows book j (row.Item i) x, shaped o rows book k (row.Pair c d) y))
        same_reduced (row.Item i) (row.Seal c d) x y e = clash (cc (shaped o rows book j (row.Item i) x, shaped o rows book k (row.Seal c d) y))
        same_reduced (row.Item i) (row.Lock c d) x y e = clash (cc (shaped o rows book j (row.Item i) x, shaped o rows book k (row.Lock c d) y))
        same_reduced (row.Pair a b) (row.Item i) x y e = clash (cc (shaped o rows book j (row.Pair a b) x, shaped o rows book k (row.Item i) y))
        same_reduced (row.Pair a b) (row.Pair c d) x y e =
            let p = earlier rows book j (row.Pair a b) x in
            let s = earlier rows book k (row.Pair c d) y in
            let both : pair (term a) (term b) ≡ pair (term c) (term d) = sym (shaped o rows book j (row.Pair a b) x) ∙ e ∙ shaped o rows book k (row.Pair c d) y in
            low_pairs _ _ x y row.Pair a b c d p.0 p.1 s.0 s.1 (cc) (cc)
        same_reduced (row.Pair a b) (row.Seal c d) x y e = clash (cc (shaped o rows book j (row.Pair a b) x, shaped o rows book k (row.Seal c d) y))
        same_reduced (row.Pair a b) (row.Lock c d) x y e = clash (cc (shaped o rows book j (row.Pair a b) x, shaped o rows book k (row.Lock c d) y))
        same_reduced (row.Seal a b) (row.Item i) x y e = clash (cc (shaped o rows book j (row.Seal a b) x, shaped o rows book k (row.Item i) y))
        same_reduced (row.Seal a b) (row.Pair c d) x y e = clash (cc (shaped o rows book j (row.Seal a b) x, shaped o rows book k (row.Pair c d) y))
        same_reduced (row.Seal a b) (row.Seal c d) x y e =
            let p = earlier rows book j (row.Seal a b) x in
            let s = earlier rows book k (row.Seal c d) y in
            let both : seal (term a) (key o rows b) ≡ seal (term c) (key o rows d) = sym (shaped o rows book j (row.Seal a b) x) ∙ e ∙ shaped o rows book k (row.Seal c d) y in
            let keys : key o rows b ≡ key o rows d = cc in
            low_pairs _ _ x y row.Seal a b c d p.0 p.1 s.0 s.1 (cc) (key_term b p.2.0 p.2.1 ∙ ap item keys ∙ sym (key_term d s.2.0 s.2.1))
        same_reduced (row.Seal a b) (row.Lock c d) x y e = clash (cc (shaped o rows book j (row.Seal a b) x, shaped o rows book k (row.Lock c d) y))
        same_reduced (row.Lock a b) (row.Item i) x y e = clash (cc (shaped o rows book j (row.Lock a b) x, shaped o rows book k (row.Item i) y))
        same_reduced (row.Lock a b) (row.Pair c d) x y e = clash (cc (shaped o rows book j (row.Lock a b) x, shaped o rows book k (row.Pair c d) y))
        same_reduced (row.Lock a b) (row.Seal c d) x y e = clash (cc (shaped o rows book j (row.Lock a b) x, shaped o rows book k (row.Seal c d) y))
        same_reduced (row.Lock a b) (row.Lock c d) x y e =
            let p = earlier rows book j (row.Lock a b) x in
            let s = earlier rows book k (row.Lock c d) y in
            let both : lock (term a) (key o rows b) ≡ lock (term c) (key o rows d) = sym (shaped o rows book j (row.Lock a b) x) ∙ e ∙ shaped o rows book k (row.Lock c d) y in
            let keys : key o rows b ≡ key o rows d = cc in
            low_pairs _ _ x y row.Lock a b c d p.0 p.1 s.0 s.1 (cc) (key_term b p.2.0 p.2.1 ∙ ap item keys ∙ sym (key_term d s.2.0 s.2.1))

      low_next : (k : ℕ) (r : Row) → row_at rows k ≡ Some r → k ≤ n → Low k
      low_next k r e h =
          let f = first_like k r e in
          let inside = f.within in
          record {
            row = f.like;
            there = f.there;
            same = same_terms (low k) k (omega arith) h f.like r f.there e f.same;
            least = λ j q x s. ⊎_elim (λ l. absurd (f.none j q l x (same_reduced j k (omega arith) h q r x e s))) (λ l. l) (cases_lt j (low k));
          }

    low_to : (n k : ℕ) (r : Row) → row_at rows k ≡ Some r → k ≤ n → Low k
    low_to zero k r e h = let w = row_within rows k r e in absurd (omega arith)
    low_to (suc n) k r e h = low_next (suc n) (λ a q x l. low_to n a q x (omega arith)) k r e h

    pub lowest : (k : ℕ) (r : Row) → row_at rows k ≡ Some r → Low k
    lowest k r e = low_to k k r e (omega arith)

    -- rows of one term have one lowest row
    pub lowest_same : (a b : ℕ) (q r : Row) → row_at rows a ≡ Some q → row_at rows b ≡ Some r → term a ≡ term b → low a ≡ low b
    lowest_same a b q r x y e = one_low a b q r x y (lowest a q x) (lowest b r y) e

    pub lows_long : length L ≡ length rows
    lows_long = let e = lowered_long [] [] rows in omega arith
