-- The marks that passes end with are exactly what is received.
use Rattle.std.proofs.Common.{◌≡◌, ℕ, zero, suc, ◌+◌, ◌-◌, ◌<◌, ◌≤◌, Bool, true, false, cond, not, ◌&&◌, eqb, ◌⊎◌, List, [], ◌∷◌, map, length, get_or, take, set, replicate, Some, None, vec_items, filter, Option, option_and_then, sym, refl, ap, ◌∙◌, subst, subst₂, inl, inr, ⊎_elim, arith}
use mathlib.Core.List.Memᴰ
use Rattle.earliest.proofs.Firsts.{earliest_first}
use Rattle.earliest.specs.Places.{First}
use Rattle.judgments.specs.Access.{Granted, Opens, Received, argument, first, second, unsealed, unlocked, Held, read, granted, Opened}
use Rattle.judgments.specs.Contexts.{ty, ◌∶◌, Context, ◌∈◌}
use Rattle.judgments.specs.Typing.{Key}
use Rattle.layouts.specs.Meanings.{Meaning}
use Rattle.layouts.specs.declared.layout.Kind.TheVariants.{Locking}
use Rattle.refusals.proofs.Deciding.{clash, decides_and, decides_as, decides_never, decides_always}
use Rattle.refusals.specs.Decides.{Decides}
use Rattle.std.proofs.lemmas.List.{get_or-set_same, get_or-set_other, length-take-le, length-replicate, get_or-replicate, get_or_past}
use Rattle.std.proofs.lemmas.Bool.{cases_Bool, cases_eq, cases_lt, eqb-false, ne_eqb, or_cases, or_left, or_right, and_from, lt-ltb, le-leb}
use Rattle.std.proofs.lemmas.List.Sums.{fold-append}
use Rattle.std.specs.List.{slice_get}
use Rattle.terms.proofs.Booked.{Earlier, earlier}
use Rattle.terms.proofs.Numbered.{row_within, row_there, row_from_one, is_row_from}
use Rattle.terms.specs.Books.{is_book}
use Rattle.terms.specs.Rows.{is_row, row_item}
use Rattle.terms.specs.Terms.{Term, item, pair, seal, lock}
use Rattle.terms.specs.declared.row.Item.{Item}
use Rattle.terms.specs.declared.row.Row.{Row}
use Rattle.terms.specs.declared.row.Row.TheVariants as row
use Rattle.theory.specs.Owners.{owner_item, item_of}
use Rattle.theory.specs.declared.data.Fact.{Fact}
use Rattle.layouts.specs.declared.layout.Params.{Params}
use Rattle.layouts.specs.declared.layout.Params.TheVariants.{Zero, One, Two}
use Rattle.theory.specs.declared.owner.Owner.{Owner}
use Rattle.types.specs.Facts.{item_in}
use Rattle.types.specs.Rows.{at, row_at, nothing, term_of, terms, term_at}
use Rattle.types.specs.Types.{items}
use Rattle.reading.proofs.Filled.{fill_here, fill_long}
use Rattle.reading.proofs.Granting.{same_decides, any_decides, entry_declared, declared_entry, granted_decides, locks_decides}
use Rattle.reading.proofs.Growing.{Below, below_itself, below_then, below_length, below_at, below_put, below_pass, visit_same}
use Rattle.reading.proofs.Lowest.{lowest, lowest_same, lows_long}
use Rattle.reading.proofs.Shapes.{key, shaped}
use Rattle.std.specs.List.{list_any}
use Rattle.reading.specs.Grants.{item_granted, granted_by, granted_rows}
use Rattle.reading.specs.Lows.{lows}
use Rattle.reading.specs.Marks.{Sight, is_on, opens_now, is_unlocked, is_open, mark_row, put, opened_row, visit, pass_from, pass, Reaches, here, onward, Closed, put_all, put_facts, held_of, closed_of, held_by, closed_by, held_rows, closed_rows}
use Rattle.reading.specs.Openers.{locks_for, reads_as, place_of, opener_by, opener_of}
use Rattle.reading.specs.Scopes.{context}
use Rattle.reading.specs.Told.{argument_rows, left_terms, Told}
use Rattle.reading.specs.declared.openers.Opener.{Opener}
use Rattle.reading.specs.declared.scope.Entry.{Entry}

-- ---- marks by numbers
abbrev Marked : List Bool → ℕ → Type 0
Marked got n = at false got n ≡ true

marked_above : (got : List Bool) (n : ℕ) → Marked got n → 0 < n
marked_above got zero e = clash (cc)
marked_above got (suc n) e = omega arith

at_above : {A : Type 0} (d : A) (xs : List A) (k : ℕ) → 0 < k → at d xs k ≡ get_or xs (k - 1) d
at_above d xs k h = let ne : eqb k 0 ≡ false = ne_eqb k 0 (λ e. omega arith) in rw ne refl

-- where there is no row, there is nothing in a table as long
at_none : {A : Type 0} (d : A) (rows : List Row) (xs : List A) (k : ℕ) → length xs ≡ length rows → row_at rows k ≡ None → at d xs k ≡ d
at_none d rows xs k long e = ⊎_elim
    (λ t. rw t refl)
    (λ f. at_above d xs k (let ne = eqb-false k 0 f in omega (arith, ne)) ∙ get_or_past xs (k - 1) d (⊎_elim
    (λ (l : k - 1 < length xs). absurd (let ne = eqb-false k 0 f in let r = row_there rows k (row.Pair 0 0) (omega (arith, ne)) (omega (arith, ne)) in clash (cc)))
    (λ (l : length xs ≤ k - 1). l)
    (cases_lt (k - 1) (length xs))))
    (cases_Bool (eqb k 0))

marked_row : (got : List Bool) (n : ℕ) → 0 < n → n ≤ length got → Marked (mark_row got n) n
marked_row got n low high =
    let there : is_row (length got) n ≡ true = and_from _ _ (lt-ltb 0 n low) (le-leb n (length got) high) in
    subst (λ b. Marked (cond b (set got (n - 1) true) got) n) (sym there) (at_above false (set got (n - 1) true) n low ∙ get_or-set_same got (n - 1) true false (omega arith))

-- a mark was there, or is the new one
new_mark : (got : List Bool) (n m : ℕ) → Marked (mark_row got n) m → (m ≡ n) ⊎ Marked got m
new_mark got n m e = go (is_row (length got) n) refl e
  where
    go : (b : Bool) → is_row (length got) n ≡ b → Marked (cond b (set got (n - 1) true) got) m → (m ≡ n) ⊎ Marked got m
    go false q x = inr x
    go true q x = ⊎_elim
        (λ s. inl s)
        (λ ne.
        let low = (is_row_from (length got) n q).0 in
        let up = marked_above (set got (n - 1) true) m x in
        let other : m - 1 ≡ n - 1 → ⊥ = λ s. ne (omega arith) in
        inr (at_above false got m up ∙ sym (get_or-set_other got (n - 1) (m - 1) true false other) ∙ sym (at_above false (set got (n - 1) true) m up) ∙ x))
        (cases_eq m n)

none_marked : (len n : ℕ) → Marked (replicate len false) n → ⊥
none_marked len n e =
    let up = marked_above (replicate len false) n e in
    let x : get_or (replicate len false) (n - 1) false ≡ true = sym (at_above false (replicate len false) n up) ∙ e in
    ⊎_elim
    (λ l. clash (cc (x, get_or-replicate len (n - 1) false false l)))
    (λ l. clash (cc (x, get_or_past (replicate len false) (n - 1) false (omega (arith, length-replicate len false)))))
    (cases_lt (n - 1) len)

-- ---- decisions
decides_implies : {P Q : Type 0} (b c : Bool) → Decides b P → Decides c Q → Decides (not (b && not c)) (P → Q)
decides_implies true true p q = record { sound = λ e x. q.sound refl; complete = λ h. refl }
decides_implies true false p q = record { sound = λ e. clash (cc); complete = λ h. clash (cc (q.complete (h (p.sound refl)))) }
decides_implies false c p q = record { sound = λ e x. clash (cc (p.complete x)); complete = λ h. refl }

-- what is open is not closed
not_closed : (b : Bool) → Decides (not (b && not true)) (Unit {0})
not_closed true = decides_always (tt {0})
not_closed false = decides_always (tt {0})

-- ---- kept elements
kept_in : (p : ℕ → Bool) (xs : List ℕ) (x : ℕ) → x ∈ filter p xs → (x ∈ xs) × (p x ≡ true)
kept_in p [] x m = elim m [ ]
kept_in p (y ∷ xs) x m = go (p y) refl m (kept_in p xs x)
  where
    later : (x ∈ xs) × (p x ≡ true) → (x ∈ y ∷ xs) × (p x ≡ true)
    later h = (Memᴰ.tail h.0, h.1)

    here_or_later : p y ≡ true → x ∈ y ∷ filter p xs → (x ∈ filter p xs → (x ∈ xs) × (p x ≡ true)) → (x ∈ y ∷ xs) × (p x ≡ true)
    here_or_later q (Memᴰ.head e) rest = (Memᴰ.head e, ap p e ∙ q)
    here_or_later q (Memᴰ.tail m) rest = later (rest m)

    go : (b : Bool) → p y ≡ b → x ∈ cond b (y ∷ filter p xs) (filter p xs) → (x ∈ filter p xs → (x ∈ xs) × (p x ≡ true)) → (x ∈ y ∷ xs) × (p x ≡ true)
    go true q m rest = here_or_later q m rest
    go false q m rest = later (rest m)

kept_from : (p : ℕ → Bool) (xs : List ℕ) (x : ℕ) → x ∈ xs → p x ≡ true → x ∈ filter p xs
kept_from p [] x m t = elim m [ ]
kept_from p (y ∷ xs) x (Memᴰ.head e) t = let keeps : p y ≡ true = ap p (sym e) ∙ t in rw keeps (Memᴰ.head e)
kept_from p (y ∷ xs) x (Memᴰ.tail m) t = go (p y) (kept_from p xs x m t)
  where
    go : (b : Bool) → x ∈ filter p xs → x ∈ cond b (y ∷ filter p xs) (filter p xs)
    go true n = Memᴰ.tail n
    go false n = n

-- a row's number is its place among the rows
numbered : (rows : List Row) (k : ℕ) (r : Row) → row_at rows k ≡ Some r → length (take (k - 1) rows) + 1 ≡ k
numbered rows k r e = let w = row_within rows k r e in let t = length-take-le (k - 1) rows (omega arith) in omega arith

-- ---- the first row that is an item
reads_item : (o : Owner) (i : Item) (r : Row) → reads_as o i r ≡ true → (x : Item) × (r ≡ row.Item x) × (item_of o x ≡ i)
reads_item o i (row.Item x) e = (x, refl, (same_decides (item_of o x) i).sound e)
reads_item o i (row.Pair a b) e = clash (cc)
reads_item o i (row.Seal c k) e = clash (cc)
reads_item o i (row.Lock c k) e = clash (cc)

module _ (o : Owner) (i : Item) (rows : List Row) where
  first_item : (place : Option ℕ) → place_of o i rows ≡ place → First (λ r _. reads_as o i r) (row.Pair 0 0) rows place
  first_item place e = earliest_first (λ r _. reads_as o i r) (row.Pair 0 0) rows place (sym e)

  found_row : (n : ℕ) → place_of o i rows ≡ Some n → (x : Item) × (row_at rows (n + 1) ≡ Some (row.Item x)) × (item_of o x ≡ i)
  found_row n e =
      let f = (first_item (Some n) e).0 in
      let x = reads_item o i f.0 f.2 in
      let place : n + 1 - 1 ≡ n = omega arith in
      (x.0, row_from_one rows (n + 1) (omega arith) ∙ ap (slice_get rows) place ∙ f.1 ∙ ap Some x.1, x.2)

  least_row : (k : ℕ) (x : Item) → row_at rows k ≡ Some (row.Item x) → item_of o x ≡ i → (n : ℕ) × (place_of o i rows ≡ Some n) × (n + 1 ≤ k)
  least_row k x e s = go (place_of o i rows) refl
    where
      low : 0 < k
      low = (row_within rows k (row.Item x) e).0

      there : slice_get rows (k - 1) ≡ Some (row.Item x)
      there = sym (row_from_one rows k low) ∙ e

      passes : reads_as o i (row.Item x) ≡ true
      passes = (same_decides (item_of o x) i).complete s

      go : (place : Option ℕ) → place_of o i rows ≡ place → (n : ℕ) × (place_of o i rows ≡ Some n) × (n + 1 ≤ k)
      go None q = clash (cc (first_item None q (k - 1) (row.Item x) there, passes))
      go (Some n) q =
          let from_one = low in
          ⊎_elim
          (λ (l : k - 1 < n). clash (cc ((first_item (Some n) q).1 (k - 1) l (row.Item x) there, passes)))
          (λ (l : n ≤ k - 1). (n, q, omega arith))
          (cases_lt (k - 1) n)

-- the row with a place, by its number
on_marked : (got : List Bool) (n : ℕ) → at false got (n + 1) ≡ get_or got n false
on_marked got n = let place : n + 1 - 1 ≡ n = omega arith in at_above false got (n + 1) (omega arith) ∙ ap (λ k. get_or got k false) place

-- ---- a rule's rows, read by its owner
module _ (lay : Meaning) (scope : List Entry) (o : Owner) (rows : List Row) (book : is_book rows ≡ true) where
  abbrev Γ : Context
  Γ = context scope

  abbrev me : Item
  me = owner_item o

  abbrev term : ℕ → Term
  term k = term_at o rows k

  abbrev pub sight : Sight
  sight = record { rows = rows; low = lows o rows; granted = granted_rows lay scope o rows; openers = map (opener_of lay scope o rows) scope; owner = o }

  abbrev low : ℕ → ℕ
  low k = at 0 (lows o rows) k

  -- the item is granted, or a row that stands for it is marked
  abbrev HeldNow : List Bool → Item → Type 0
  HeldNow got i = Granted lay Γ me i ⊎ ((n : ℕ) × Marked got n × (term n ≡ item i))

  -- marks are on lowest rows only
  abbrev Lowly : List Bool → Type 0
  Lowly got = (n : ℕ) → Marked got n → (r : Row) × (row_at rows n ≡ Some r) × (low n ≡ n)

  low_low : (a : ℕ) (r : Row) (e : row_at rows a ≡ Some r) → low (low a) ≡ low a
  low_low a r e = let l = lowest o rows book a r e in lowest_same o rows book (low a) a l.row r l.there e l.same

  -- the lowest row of a marked row's term
  marked_low : (got : List Bool) → Lowly got → (n k : ℕ) (r : Row) → Marked got n → row_at rows k ≡ Some r → term n ≡ term k → Marked got (low k)
  marked_low got lowly n k r m e s =
      let c = lowly n m in
      let same = lowest_same o rows book n k c.0 r c.1 e s in
      subst (Marked got) (sym c.2 ∙ same) m

  granted_flag : (k : ℕ) (i : Item) → row_at rows k ≡ Some (row.Item i) → at false (granted_rows lay scope o rows) k ≡ item_granted lay scope me (item_of o i)
  granted_flag k i e = fill_here (granted_by lay scope o) false rows k (row.Item i) e

  module _ (got : List Bool) (lowly : Lowly got) where
    held_decides : (k : ℕ) (i : Item) → row_at rows k ≡ Some (row.Item i) → Decides (held_of sight got k) (HeldNow got (item_of o i))
    held_decides k i e = record {
      sound = λ h. ⊎_elim
          (λ m. inr (low k, m, (lowest o rows book k (row.Item i) e).same ∙ shaped o rows book k (row.Item i) e))
          (λ g. inl ((granted_decides scope lay me (item_of o i)).sound (sym (granted_flag k i e) ∙ g)))
          (or_cases (at false got (low k)) (at false (granted_rows lay scope o rows) k) h);
      complete = ⊎_elim
          (λ g. or_right (at false got (low k)) _ (granted_flag k i e ∙ (granted_decides scope lay me (item_of o i)).complete g))
          (λ h. or_left _ (at false (granted_rows lay scope o rows) k) (marked_low got lowly h.0 k (row.Item i) h.1 e (h.2 ∙ sym (shaped o rows book k (row.Item i) e))));
    }

    -- what an opener's flags say
    abbrev OpensNow : Item → Option Opener → Type 0
    OpensNow k None = ⊥
    OpensNow k (Some x) = (x.key ≡ k) × ((x.granted ≡ true) ⊎ (is_on got x.place ≡ true))

    opens_decides : (k : Item) (x : Option Opener) → Decides (opens_now got k x) (OpensNow k x)
    opens_decides k None = decides_never (λ h. h)
    opens_decides k (Some x) = decides_and (same_decides x.key k) (record { sound = or_cases x.granted (is_on got x.place); complete = ⊎_elim (or_left x.granted _) (or_right x.granted (is_on got x.place)) })

    abbrev LockOpen : Item → Type 0
    LockOpen k = (j : Item) × Opens lay Γ j k × HeldNow got j

    -- a term that is an item has an item's row
    item_row : (n : ℕ) (r : Row) (j : Item) → row_at rows n ≡ Some r → term n ≡ item j → (x : Item) × (r ≡ row.Item x) × (item_of o x ≡ j)
    item_row n (row.Item x) j e s = let both = sym (shaped o rows book n (row.Item x) e) ∙ s in (x, refl, cc)
    item_row n (row.Pair a b) j e s = clash (cc (shaped o rows book n (row.Pair a b) e))
    item_row n (row.Seal c k) j e s = clash (cc (shaped o rows book n (row.Seal c k) e))
    item_row n (row.Lock c k) j e s = clash (cc (shaped o rows book n (row.Lock c k) e))

    -- the first row that is the item, where it is marked
    placed : (j : Item) → is_on got (place_of o j rows) ≡ true → (n : ℕ) × Marked got n × (term n ≡ item j)
    placed j y = go (place_of o j rows) refl y
      where
        go : (place : Option ℕ) → place_of o j rows ≡ place → is_on got place ≡ true → (n : ℕ) × Marked got n × (term n ≡ item j)
        go None q y = clash (cc)
        go (Some n) q y = let f = found_row o j rows n q in (n + 1, on_marked got n ∙ y, shaped o rows book _ (row.Item f.0) f.1 ∙ ap item f.2)

    opener_sound : (k : Item) (e : Entry) → e ∈ scope → (ps : Params Item) → e.of.params ≡ ps → OpensNow k (opener_by lay scope o rows e ps) → LockOpen k
    opener_sound k e m Zero is h = absurd h
    opener_sound k e m (Two p q) is h = absurd h
    opener_sound k e m (One p) is h = go (locks_for lay scope p e.of.family) refl h
      where
        go : (b : Bool) → locks_for lay scope p e.of.family ≡ b →
            OpensNow k (cond b (Some (record { key = p; granted = item_granted lay scope me e.item; place = place_of o e.item rows })) None) → LockOpen k
        go false q x = absurd x
        go true q x =
            let params_are : items e.of.params ≡ k ∷ [] = ap items is ∙ ap (λ p. p ∷ []) x.0 in (
              e.item,
              record {
                opening = e.of.family;
                key = subst (λ p. Key lay Γ p (Locking e.of.family)) x.0 ((locks_decides scope lay me p e.of.family).sound q);
                declared = subst (λ ps. e.item ∶ ty e.of.family ps ∈ Γ) params_are (entry_declared scope e m);
              },
              ⊎_elim
                  (λ g. inl ((granted_decides scope lay me e.item).sound g))
                  (λ y. inr (placed e.item y))
                  x.1,
            )

    one_param : (ps : Params Item) (k : Item) → items ps ≡ k ∷ [] → ps ≡ One k
    one_param Zero k e = clash (cc)
    one_param (One p) k e = cc
    one_param (Two p q) k e = clash (cc)

    -- the marked row of an item is the first that is the item
    first_marked : (j : Item) → (n : ℕ) × Marked got n × (term n ≡ item j) → is_on got (place_of o j rows) ≡ true
    first_marked j h =
        let c = lowly h.0 h.1 in
        let x = item_row h.0 c.0 j c.1 h.2 in
        let at_n : row_at rows h.0 ≡ Some (row.Item x.0) = c.1 ∙ ap Some x.1 in
        let l = least_row o j rows h.0 x.0 at_n x.2 in
        let f = found_row o j rows l.0 l.1 in
        let same : term (l.0 + 1) ≡ term h.0 = shaped o rows book _ (row.Item f.0) f.1 ∙ ap item f.2 ∙ sym h.2 in
        let least = (lowest o rows book h.0 c.0 c.1).least (l.0 + 1) _ f.1 same in
        let is : h.0 ≡ l.0 + 1 = omega (arith, c.2, l.2) in
        ap (is_on got) l.1 ∙ sym (on_marked got l.0) ∙ subst (Marked got) is h.1

    lock_decides : (k : Item) → Decides (list_any (opens_now got k) (map (opener_of lay scope o rows) scope)) (LockOpen k)
    lock_decides k =
        decides_as
        (λ h.
        let e = Memᴰ.of_map (opener_of lay scope o rows) scope h.1 in
        opener_sound k e.0 e.1 e.0.of.params refl (subst (OpensNow k) (sym e.2) h.2))
        (λ h.
        let d = declared_entry scope (h.0 ∶ ty h.1.opening (k ∷ [])) h.1.declared in
        let i_is : d.0.item ≡ h.0 = cc d.2 in
        let F_is : h.1.opening ≡ d.0.of.family = cc d.2 in
        let ps_are : items d.0.of.params ≡ k ∷ [] = cc d.2 in
        let one = one_param d.0.of.params k ps_are in
        let locks = subst (λ F. locks_for lay scope k F ≡ true) F_is ((locks_decides scope lay me k h.1.opening).complete h.1.key) in
        let held_one : (item_granted lay scope me d.0.item ≡ true) ⊎ (is_on got (place_of o d.0.item rows) ≡ true) = subst (λ j. (item_granted lay scope me j ≡ true) ⊎ (is_on got (place_of o j rows) ≡ true)) (sym i_is) (⊎_elim (λ g. inl ((granted_decides scope lay me h.0).complete g)) (λ x. inr (first_marked h.0 x)) h.2) in
        let opener = subst (λ b. OpensNow k (cond b (Some (record { key = k; granted = item_granted lay scope me d.0.item; place = place_of o d.0.item rows })) None)) (sym locks) (refl, held_one) in
        (opener_of lay scope o rows d.0, Memᴰ.map (opener_of lay scope o rows) d.1, subst (λ ps. OpensNow k (opener_by lay scope o rows d.0 ps)) (sym one) opener))
        (any_decides (opens_now got k) (OpensNow k) (opens_decides k) (map (opener_of lay scope o rows) scope))

    -- a lock, whose key is an item
    open_lock : (c k : ℕ) (i : Item) → row_at rows k ≡ Some (row.Item i) → Decides (is_open sight got (row.Lock c k)) (LockOpen (key o rows k))
    open_lock c k i e =
        let key_is : key o rows k ≡ item_of o i = ap (λ x. item_of o (item_in x)) e in
        let same = ap (λ j. list_any (opens_now got j) (map (opener_of lay scope o rows) scope)) key_is ∙ sym (ap (λ r. is_unlocked sight got (option_and_then row_item r)) e) in
        subst (λ b. Decides b (LockOpen (key o rows k))) same (lock_decides (key o rows k))

  -- ---- each mark has its reason
  pub record Sound (left : List Term) (got : List Bool) : Type 0 where
    pub long : length got ≡ length rows
    pub lowly : Lowly got
    pub received : (n : ℕ) → Marked got n → Received lay Γ me left (term n)

  module _ (left : List Term) where
    held_sound : (got : List Bool) → Sound left got → (i : Item) → HeldNow got i → Held lay Γ me left i
    held_sound got s i (inl g) = granted g
    held_sound got s i (inr h) = read (subst (Received lay Γ me left) h.2 (s.received h.0 h.1))

    sound_none : Sound left (replicate (length rows) false)
    sound_none = record {
      long = length-replicate (length rows) false;
      lowly = λ n m. absurd (none_marked (length rows) n m);
      received = λ n m. absurd (none_marked (length rows) n m);
    }

    sound_put : (got : List Bool) → Sound left got → (a : ℕ) (r : Row) → row_at rows a ≡ Some r → Received lay Γ me left (term a) → Sound left (put (lows o rows) got a)
    sound_put got s a r e x =
        let l = lowest o rows book a r e in
        record {
          long = below_length got (put (lows o rows) got a) (below_put (lows o rows) got a) ∙ s.long;
          lowly = λ n m. ⊎_elim
              (λ q. (l.row, ap (row_at rows) q ∙ l.there, ap low q ∙ low_low a r e ∙ sym q))
              (s.lowly n)
              (new_mark got (low a) n m);
          received = λ n m. ⊎_elim
              (λ q. subst (Received lay Γ me left) (sym (ap term q ∙ l.same)) x)
              (s.received n)
              (new_mark got (low a) n m);
        }

    sound_cond : (b : Bool) (got got' : List Bool) → Sound left got → (b ≡ true → Sound left got') → Sound left (cond b got' got)
    sound_cond true got got' s h = h refl
    sound_cond false got got' s h = s

    -- a part of the row with a number has a row
    part_there : (n a : ℕ) (r : Row) → row_at rows n ≡ Some r → Earlier n a → (x : Row) × (row_at rows a ≡ Some x)
    part_there n a r e early = let w = row_within rows n r e in (_, row_there rows a r early.0 (omega (arith, early.1)))

    module _ (got : List Bool) (s : Sound left got) (n : ℕ) (m : Marked got n) where
      whole : (r : Row) → row_at rows n ≡ Some r → (t : Term) → term n ≡ t → Received lay Γ me left t
      whole r e t is = subst (Received lay Γ me left) is (s.received n m)

      sound_opened : (x : Option Row) → row_at rows n ≡ x → Sound left (opened_row sight got x)
      sound_opened None e = s
      sound_opened (Some (row.Item i)) e = s
      sound_opened (Some (row.Pair a b)) e =
          let early = earlier rows book n (row.Pair a b) e in
          let p = part_there n a (row.Pair a b) e early.0 in
          let q = part_there n b (row.Pair a b) e early.1 in
          let both = whole (row.Pair a b) e (pair (term a) (term b)) (shaped o rows book n (row.Pair a b) e) in
          sound_put (put (lows o rows) got a) (sound_put got s a p.0 p.1 (first both)) b q.0 q.1 (second both)
      sound_opened (Some (row.Seal c k)) e =
          let early = earlier rows book n (row.Seal c k) e in
          let p = part_there n c (row.Seal c k) e early.0 in
          let sealed = whole (row.Seal c k) e (seal (term c) (key o rows k)) (shaped o rows book n (row.Seal c k) e) in
          let key_is : item_of o early.2.0 ≡ key o rows k = ap (λ x. item_of o (item_in x)) (sym early.2.1) in
          sound_cond (is_open sight got (row.Seal c k)) got (put (lows o rows) got c) s
          (λ t. sound_put got s c p.0 p.1 (unsealed sealed (held_sound got s (key o rows k) (subst (HeldNow got) key_is ((held_decides got s.lowly k early.2.0 early.2.1).sound t)))))
      sound_opened (Some (row.Lock c k)) e =
          let early = earlier rows book n (row.Lock c k) e in
          let p = part_there n c (row.Lock c k) e early.0 in
          let locked = whole (row.Lock c k) e (lock (term c) (key o rows k)) (shaped o rows book n (row.Lock c k) e) in
          sound_cond (is_open sight got (row.Lock c k)) got (put (lows o rows) got c) s
          (λ t. let h = (open_lock got s.lowly c k early.2.0 early.2.1).sound t in sound_put got s c p.0 p.1 (unlocked locked h.1 (held_sound got s h.0 h.2)))

    sound_visit : (got : List Bool) (n : ℕ) → Sound left got → Sound left (visit sight got n)
    sound_visit got n s = sound_cond (at false got n) got (opened_row sight got (row_at rows n)) s (λ m. sound_opened got s n m (row_at rows n) refl)

    sound_pass : (n : ℕ) (got : List Bool) → Sound left got → Sound left (pass_from sight n got)
    sound_pass zero got s = s
    sound_pass (suc n) got s = sound_pass n (visit sight got (suc n)) (sound_visit got (suc n) s)

    sound_reached : (got got' : List Bool) → Reaches sight got got' → Sound left got → Sound left got'
    sound_reached got got' here s = s
    sound_reached got got' (onward {got' = mid} x) s = sound_pass (length rows) mid (sound_reached got mid x s)

    -- ---- nothing is missing
    put_marks : (got : List Bool) → length got ≡ length rows → (a : ℕ) (r : Row) → row_at rows a ≡ Some r → Marked (put (lows o rows) got a) (low a)
    put_marks got long a r e =
        let l = lowest o rows book a r e in
        let w = row_within rows (low a) l.row l.there in
        marked_row got (low a) w.0 (omega (arith, w.1))

    module _ (got : List Bool) (s : Sound left got) (full : pass sight got ≡ got) (args : (t : Term) → t ∈ left → (n : ℕ) × Marked got n × (term n ≡ t)) where
      -- visiting a marked row adds nothing
      nothing_new : (n : ℕ) (r : Row) → row_at rows n ≡ Some r → Marked got n → opened_row sight got (Some r) ≡ got
      nothing_new n r e m =
          let w = row_within rows n r e in
          let same = visit_same sight (length rows) got full n w.0 w.1 in
          let visited : visit sight got n ≡ opened_row sight got (Some r) = subst (λ b. cond b (opened_row sight got (row_at rows n)) got ≡ opened_row sight got (Some r)) (sym m) (ap (opened_row sight got) e) in
          sym visited ∙ same

      -- a marked row of the term
      abbrev Got : Term → Type 0
      Got t = (n : ℕ) × Marked got n × (term n ≡ t)

      put_there : (a : ℕ) (r : Row) → row_at rows a ≡ Some r → put (lows o rows) got a ≡ got → Got (term a)
      put_there a r e same = (low a, subst (λ g. Marked g (low a)) same (put_marks got s.long a r e), (lowest o rows book a r e).same)

      -- the parts of a marked pair are marked
      pair_parts : (n a b : ℕ) → row_at rows n ≡ Some (row.Pair a b) → Marked got n → Got (term a) × Got (term b)
      pair_parts n a b e m =
          let early = earlier rows book n (row.Pair a b) e in
          let p = part_there n a (row.Pair a b) e early.0 in
          let q = part_there n b (row.Pair a b) e early.1 in
          let same = nothing_new n (row.Pair a b) e m in
          let mid = put (lows o rows) got a in
          let mid_long = below_length got mid (below_put (lows o rows) got a) ∙ s.long in
          let one = below_at mid (put (lows o rows) mid b) (below_put (lows o rows) mid b) (low a) (put_marks got s.long a p.0 p.1) in
          let two = put_marks mid mid_long b q.0 q.1 in
          ((low a, subst (λ g. Marked g (low a)) same one, (lowest o rows book a p.0 p.1).same), (low b, subst (λ g. Marked g (low b)) same two, (lowest o rows book b q.0 q.1).same))

      content : (n c : ℕ) (r : Row) → row_at rows n ≡ Some r → Earlier n c → cond true (put (lows o rows) got c) got ≡ got → Got (term c)
      content n c r e early same = let p = part_there n c r e early in put_there c p.0 p.1 same

      seal_content : (n c k : ℕ) → row_at rows n ≡ Some (row.Seal c k) → Marked got n → HeldNow got (key o rows k) → Got (term c)
      seal_content n c k e m h =
          let early = earlier rows book n (row.Seal c k) e in
          let key_is : key o rows k ≡ item_of o early.2.0 = ap (λ x. item_of o (item_in x)) early.2.1 in
          let opens = (held_decides got s.lowly k early.2.0 early.2.1).complete (subst (HeldNow got) key_is h) in
          content n c (row.Seal c k) e early.0 (subst (λ b. cond b (put (lows o rows) got c) got ≡ got) opens (nothing_new n (row.Seal c k) e m))

      lock_content : (n c k : ℕ) → row_at rows n ≡ Some (row.Lock c k) → Marked got n → LockOpen got s.lowly (key o rows k) → Got (term c)
      lock_content n c k e m h =
          let early = earlier rows book n (row.Lock c k) e in
          let opens = (open_lock got s.lowly c k early.2.0 early.2.1).complete h in
          content n c (row.Lock c k) e early.0 (subst (λ b. cond b (put (lows o rows) got c) got ≡ got) opens (nothing_new n (row.Lock c k) e m))

      got_pair : (n : ℕ) (r : Row) (a b : Term) → row_at rows n ≡ Some r → Marked got n → term n ≡ pair a b → Got a × Got b
      got_pair n (row.Item i) a b e m is = clash (cc (shaped o rows book n (row.Item i) e))
      got_pair n (row.Pair x y) a b e m is =
          let both : pair (term x) (term y) ≡ pair a b = sym (shaped o rows book n (row.Pair x y) e) ∙ is in
          let one : term x ≡ a = cc in
          let two : term y ≡ b = cc in
          let p = pair_parts n x y e m in
          (subst Got one p.0, subst Got two p.1)
      got_pair n (row.Seal c k) a b e m is = clash (cc (shaped o rows book n (row.Seal c k) e))
      got_pair n (row.Lock c k) a b e m is = clash (cc (shaped o rows book n (row.Lock c k) e))

      got_seal : (n : ℕ) (r : Row) (t : Term) (k : Item) → row_at rows n ≡ Some r → Marked got n → term n ≡ seal t k → HeldNow got k → Got t
      got_seal n (row.Item i) t k e m is h = clash (cc (shaped o rows book n (row.Item i) e))
      got_seal n (row.Pair x y) t k e m is h = clash (cc (shaped o rows book n (row.Pair x y) e))
      got_seal n (row.Seal c j) t k e m is h =
          let both : seal (term c) (key o rows j) ≡ seal t k = sym (shaped o rows book n (row.Seal c j) e) ∙ is in
          let one : term c ≡ t = cc in
          let two : k ≡ key o rows j = cc in
          subst Got one (seal_content n c j e m (subst (HeldNow got) two h))
      got_seal n (row.Lock c j) t k e m is h = clash (cc (shaped o rows book n (row.Lock c j) e))

      got_lock : (n : ℕ) (r : Row) (t : Term) (k : Item) → row_at rows n ≡ Some r → Marked got n → term n ≡ lock t k → LockOpen got s.lowly k → Got t
      got_lock n (row.Item i) t k e m is h = clash (cc (shaped o rows book n (row.Item i) e))
      got_lock n (row.Pair x y) t k e m is h = clash (cc (shaped o rows book n (row.Pair x y) e))
      got_lock n (row.Seal c j) t k e m is h = clash (cc (shaped o rows book n (row.Seal c j) e))
      got_lock n (row.Lock c j) t k e m is h =
          let both : lock (term c) (key o rows j) ≡ lock t k = sym (shaped o rows book n (row.Lock c j) e) ∙ is in
          let one : term c ≡ t = cc in
          let two : k ≡ key o rows j = cc in
          subst Got one (lock_content n c j e m (subst (LockOpen got s.lowly) two h))

      mutual
        received_got : (t : Term) → Received lay Γ me left t → Got t
        received_got t (argument m) = args t m
        received_got t (first {t = b} x) = let h = received_got (pair t b) x in let l = s.lowly h.0 h.1 in (got_pair h.0 l.0 t b l.1 h.1 h.2).0
        received_got t (second {s = a} x) = let h = received_got (pair a t) x in let l = s.lowly h.0 h.1 in (got_pair h.0 l.0 a t l.1 h.1 h.2).1
        received_got t (unsealed {k = k} x y) = let h = received_got (seal t k) x in let l = s.lowly h.0 h.1 in got_seal h.0 l.0 t k l.1 h.1 h.2 (held_now k y)
        received_got t (unlocked {k = k} {j = j} x q y) = let h = received_got (lock t k) x in let l = s.lowly h.0 h.1 in got_lock h.0 l.0 t k l.1 h.1 h.2 (j, q, held_now j y)

        held_now : (i : Item) → Held lay Γ me left i → HeldNow got i
        held_now i (read x) = inr (received_got (item i) x)
        held_now i (granted g) = inl g

      received_decides : (k : ℕ) (r : Row) → row_at rows k ≡ Some r → Decides (at false got (low k)) (Received lay Γ me left (term k))
      received_decides k r e = record {
        sound = λ m. subst (Received lay Γ me left) (lowest o rows book k r e).same (s.received (low k) m);
        complete = λ x. let h = received_got (term k) x in marked_low got s.lowly h.0 k r h.1 e h.2;
      }

      holding_decides : (k : ℕ) (i : Item) → row_at rows k ≡ Some (row.Item i) → Decides (held_of sight got k) (Held lay Γ me left (item_of o i))
      holding_decides k i e = decides_as (held_sound got s (item_of o i)) (held_now (item_of o i)) (held_decides got s.lowly k i e)

      -- a received row that is closed
      open_decides : (k : ℕ) (r : Row) → row_at rows k ≡ Some r → Decides (not (closed_of sight got k r)) (Opened lay Γ me left (term k))
      open_decides k (row.Item i) e = rw (shaped o rows book k (row.Item i) e) (not_closed (at false got (low k)))
      open_decides k (row.Pair a b) e = rw (shaped o rows book k (row.Pair a b) e) (not_closed (at false got (low k)))
      open_decides k (row.Seal c j) e =
          let early = earlier rows book k (row.Seal c j) e in
          let key_is : item_of o early.2.0 ≡ key o rows j = ap (λ x. item_of o (item_in x)) (sym early.2.1) in
          let is = shaped o rows book k (row.Seal c j) e in
          subst (λ t. Decides (not (closed_of sight got k (row.Seal c j))) (Opened lay Γ me left t)) (sym is)
          (decides_implies (at false got (low k)) (is_open sight got (row.Seal c j))
          (subst (λ t. Decides (at false got (low k)) (Received lay Γ me left t)) is (received_decides k (row.Seal c j) e))
          (subst (λ i. Decides (is_open sight got (row.Seal c j)) (Held lay Γ me left i)) key_is (holding_decides j early.2.0 early.2.1)))
      open_decides k (row.Lock c j) e =
          let early = earlier rows book k (row.Lock c j) e in
          let is = shaped o rows book k (row.Lock c j) e in
          subst (λ t. Decides (not (closed_of sight got k (row.Lock c j))) (Opened lay Γ me left t)) (sym is)
          (decides_implies (at false got (low k)) (is_open sight got (row.Lock c j))
          (subst (λ t. Decides (at false got (low k)) (Received lay Γ me left t)) is (received_decides k (row.Lock c j) e))
          (decides_as (λ h. (h.0, h.1, held_sound got s h.0 h.2)) (λ h. (h.0, h.1, held_now h.0 h.2)) (open_lock got s.lowly c j early.2.0 early.2.1)))

      told_by : Told lay Γ o rows left (held_rows sight got) (closed_rows sight got)
      told_by = record {
        held_told = λ k i e. subst (λ b. Decides b (Held lay Γ me left (item_of o i))) (sym (fill_here (held_by sight got) false rows k (row.Item i) e ∙ ap (held_of sight got) (numbered rows k (row.Item i) e))) (holding_decides k i e);
        closed_told = λ k. closed k (row_at rows k) refl;
        row_told = λ t x. let h = received_got t x in let l = s.lowly h.0 h.1 in (h.0, l.0, l.1, h.2);
      }
        where
          closed : (k : ℕ) (x : Option Row) → row_at rows k ≡ x → Decides (not (at false (closed_rows sight got) k)) (Opened lay Γ me left (term k))
          closed k None e =
              let flag : at false (closed_rows sight got) k ≡ false = at_none false rows (closed_rows sight got) k (fill_long (closed_by sight got) [] [] rows ∙ omega arith) e in
              let is : term k ≡ nothing = at_none nothing rows (terms o rows) k (fill_long (term_of o) [] [] rows ∙ omega arith) e in
              rw (flag, is) (decides_always (tt {0}))
          closed k (Some r) e = subst (λ b. Decides (not b) (Opened lay Γ me left (term k))) (sym (fill_here (closed_by sight got) false rows k r e ∙ ap (λ n. closed_of sight got n r) (numbered rows k r e))) (open_decides k r e)

    -- ---- the arguments of facts
    put_none : (got : List Bool) (a : ℕ) → row_at rows a ≡ None → put (lows o rows) got a ≡ got
    put_none got a e = let zero_low = at_none 0 rows (lows o rows) a (lows_long o rows book) e in ap (mark_row got) zero_low

    sound_all : (ks : List ℕ) (got : List Bool) → Sound left got → ((k : ℕ) (r : Row) → k ∈ ks → row_at rows k ≡ Some r → Received lay Γ me left (term k)) → Sound left (put_all (lows o rows) got ks)
    sound_all [] got s h = s
    sound_all (k ∷ ks) got s h = sound_all ks (put (lows o rows) got k) (one (row_at rows k) refl) (λ j r m e. h j r (Memᴰ.tail m) e)
      where
        one : (x : Option Row) → row_at rows k ≡ x → Sound left (put (lows o rows) got k)
        one None e = subst (Sound left) (sym (put_none got k e)) s
        one (Some r) e = sound_put got s k r e (h k r (Memᴰ.head refl) e)

    below_all : (ks : List ℕ) (got : List Bool) → Below got (put_all (lows o rows) got ks)
    below_all [] got = below_itself got
    below_all (k ∷ ks) got = below_then got (put (lows o rows) got k) (put_all (lows o rows) (put (lows o rows) got k) ks) (below_put (lows o rows) got k) (below_all ks (put (lows o rows) got k))

    all_marked : (ks : List ℕ) (got : List Bool) → length got ≡ length rows → (a : ℕ) (r : Row) → a ∈ ks → row_at rows a ≡ Some r → Marked (put_all (lows o rows) got ks) (low a)
    all_marked [] got long a r m e = elim m [ ]
    all_marked (k ∷ ks) got long a r (Memᴰ.head q) e =
        below_at (put (lows o rows) got k) (put_all (lows o rows) (put (lows o rows) got k) ks) (below_all ks (put (lows o rows) got k)) (low a)
        (subst (λ k. Marked (put (lows o rows) got k) (low a)) q (put_marks got long a r e))
    all_marked (k ∷ ks) got long a r (Memᴰ.tail m) e = all_marked ks (put (lows o rows) got k) (below_length got (put (lows o rows) got k) (below_put (lows o rows) got k) ∙ long) a r m e

    below_reached : (got got' : List Bool) → Reaches sight got got' → Below got got'
    below_reached got got' here = below_itself got
    below_reached got got' (onward {got' = mid} x) = below_then got mid (pass sight mid) (below_reached got mid x) (below_pass sight (length rows) mid)

  facts_put : (fs : List Fact) (got : List Bool) → put_facts (lows o rows) got fs ≡ put_all (lows o rows) got (argument_rows fs)
  facts_put [] got = refl
  facts_put (f ∷ fs) got = facts_put fs (put_all (lows o rows) got (vec_items f.rows)) ∙ sym (fold-append (put (lows o rows)) got (vec_items f.rows) (argument_rows fs))

  -- the marks of the facts' arguments, closed, tell what is held and what stays closed
  pub told : (fs : List Fact) (got : List Bool) → Closed sight (put_facts (lows o rows) (replicate (length rows) false) fs) got → Told lay Γ o rows (left_terms o rows fs) (held_rows sight got) (closed_rows sight got)
  told fs got closed =
      let left = left_terms o rows fs in
      let ks = argument_rows fs in
      let off = replicate (length rows) false in
      let start = put_all (lows o rows) off ks in
      let reached = subst (λ g. Reaches sight g got) (facts_put fs off) closed.reached in
      let s = sound_reached left start got reached (sound_all left ks off (sound_none left) (λ k r m e. argument (Memᴰ.map term (kept_from (is_row (length rows)) ks k m (row_is k r e))))) in
      told_by left got s closed.full
      (λ t m.
      let a = Memᴰ.of_map term (filter (is_row (length rows)) ks) m in
      let k = kept_in (is_row (length rows)) ks a.0 a.1 in
      let w = is_row_from (length rows) a.0 k.1 in
      let e = row_there rows a.0 (row.Pair 0 0) w.0 w.1 in
      let marked = below_at start got (below_reached left start got reached) (low a.0) (all_marked left ks off (length-replicate (length rows) false) a.0 _ k.0 e) in
      (low a.0, marked, (lowest o rows book a.0 _ e).same ∙ a.2))
    where
      row_is : (k : ℕ) (r : Row) → row_at rows k ≡ Some r → is_row (length rows) k ≡ true
      row_is k r e = let w = row_within rows k r e in and_from _ _ (lt-ltb 0 k w.0) (le-leb k (length rows) w.1)

-- a sight of the tables that the code filled
abbrev pub put_together : Owner → List Row → List ℕ → List Bool → List (Option Opener) → Sight
put_together o rows ls gs os = record { rows = rows; low = ls; granted = gs; openers = os; owner = o }

-- the same of such a sight
module _ (lay : Meaning) (scope : List Entry) (o : Owner) (rows : List Row) (book : is_book rows ≡ true) where
  pub told_at : (fs : List Fact) (ls : List ℕ) (gs : List Bool) (os : List (Option Opener)) (got held closed : List Bool) → ls ≡ lows o rows → gs ≡ granted_rows lay scope o rows → os ≡ map (opener_of lay scope o rows) scope →
      Closed (put_together o rows ls gs os) (put_facts ls (replicate (length rows) false) fs) got → held ≡ held_rows (put_together o rows ls gs os) got → closed ≡ closed_rows (put_together o rows ls gs os) got →
      Told lay (context scope) o rows (left_terms o rows fs) held closed
  told_at fs ls gs os got held closed p q s c h k =
      let is : put_together o rows ls gs os ≡ sight lay scope o rows book = rw (p, q, s) refl in
      let ended : Closed (sight lay scope o rows book) (put_facts (lows o rows) (replicate (length rows) false) fs) got = subst (λ (w : Sight). Closed w (put_facts w.low (replicate (length rows) false) fs) got) is c in
      let held_is : held_rows (sight lay scope o rows book) got ≡ held = sym (h ∙ ap (λ w. held_rows w got) is) in
      let closed_is : closed_rows (sight lay scope o rows book) got ≡ closed = sym (k ∙ ap (λ w. closed_rows w got) is) in
      subst₂ (Told lay (context scope) o rows (left_terms o rows fs)) held_is closed_is (told lay scope o rows book fs got ended)
