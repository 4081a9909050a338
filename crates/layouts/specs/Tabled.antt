-- A table that passes a computed test writes down a lawful layout.
use Rattle.std.specs.Prelude.{◌≡◌, ℕ, zero, suc, ◌+◌, ◌<◌, ◌≤◌, Bool, true, false, ◌&&◌, List, [], ◌∷◌, length, ◌==◌, nat_le, nat_lt, slice_index_or, refl}
use Rattle.std.proofs.Common.{sym, ap, subst, ⊎_elim, arith, zero-add}
use mathlib.Core.List.{Memᴰ}
use Rattle.std.proofs.lemmas.List.{get_or_past}
use Rattle.std.proofs.lemmas.Bool.{and_parts, or_cases, or_left, or_right, eqb-true, eq-eqb, ltb-true, leb-true}
use Rattle.layouts.specs.Laws.{Lawful}
use Rattle.layouts.specs.Tables.{lacked, grants_by, line_at, params_of, meaning_by}
use Rattle.layouts.specs.declared.table.Grant.{Grant}
use Rattle.layouts.specs.declared.table.Grant.TheVariants.{Nobody, Everybody, First, Either, OfFirst}
use Rattle.layouts.specs.declared.table.Line.{Line}
use Rattle.layouts.specs.declared.layout.Kind.{Kind}
use Rattle.layouts.specs.declared.layout.Kind.TheVariants.{Plain, Sealing, Locking}

clash : {A : Type 0} → ◌≡◌ {A = ℕ} 0 1 → A
clash e = let none : ⊥ = omega arith in absurd none

-- ---- the test
abbrev none : List ℕ → Bool
none [] = true
none (F ∷ Fs) = false

abbrev only : ℕ → List ℕ → Bool
only F [] = false
only F (G ∷ []) = G == F
only F (G ∷ H ∷ Fs) = false

abbrev is_plain : Kind → Bool
is_plain Plain = true
is_plain Sealing = false
is_plain (Locking G) = false

abbrev is_nobody : Grant → Bool
is_nobody Nobody = true
is_nobody Everybody = false
is_nobody First = false
is_nobody Either = false
is_nobody OfFirst = false

abbrev below : ℕ → List ℕ → Bool
below F [] = true
below F (G ∷ Gs) = (nat_lt 0 G && nat_lt G F) && below F Gs

abbrev opened : List Line → ℕ → Kind → Bool
opened table F Plain = true
opened table F Sealing = true
opened table F (Locking G) = nat_lt G (length table) && only F (params_of (line_at table G))

abbrev fits : List Line → ℕ → Line → Bool
fits table F x = (nat_le (length (params_of x)) 2 && below F (params_of x)) && opened table F x.kind

abbrev all_from : (ℕ → Line → Bool) → ℕ → List Line → Bool
all_from P n [] = true
all_from P n (x ∷ xs) = P n x && all_from P (n + 1) xs

abbrev msg_line : Line → Bool
msg_line x = (none (params_of x) && is_plain x.kind) && is_nobody x.granted

abbrev principal_line : Line → Bool
principal_line x = (none (params_of x) && is_plain x.kind) && x.sendable

abbrev pub is_lawful : List Line → Bool
is_lawful table = ((nat_lt 1 (length table) && nat_le (length table) 16) && (msg_line (line_at table 0) && principal_line (line_at table 1))) && all_from (fits table) 0 table

-- ---- what it tells
none_is : (Fs : List ℕ) → none Fs ≡ true → Fs ≡ []
none_is [] e = refl
none_is (F ∷ Fs) e = clash (cc)

only_is : (F : ℕ) (Fs : List ℕ) → only F Fs ≡ true → Fs ≡ F ∷ []
only_is F [] e = clash (cc)
only_is F (G ∷ []) e = ap (λ H. H ∷ []) (eqb-true G F e)
only_is F (G ∷ H ∷ Fs) e = clash (cc)

plain_is : (k : Kind) → is_plain k ≡ true → k ≡ Plain
plain_is Plain e = refl
plain_is Sealing e = clash (cc)
plain_is (Locking G) e = clash (cc)

nobody_is : (g : Grant) → is_nobody g ≡ true → g ≡ Nobody
nobody_is Nobody e = refl
nobody_is Everybody e = clash (cc)
nobody_is First e = clash (cc)
nobody_is Either e = clash (cc)
nobody_is OfFirst e = clash (cc)

below_is : (F : ℕ) (Gs : List ℕ) → below F Gs ≡ true → (G : ℕ) → Memᴰ G Gs → (0 < G) × (G < F)
below_is F [] e G m = elim m [ ]
below_is F (H ∷ Gs) e G (Memᴰ.head s) =
    let p = and_parts (nat_lt 0 H && nat_lt H F) (below F Gs) e in
    let q = and_parts (nat_lt 0 H) (nat_lt H F) p.0 in
    (omega (arith, ltb-true 0 H q.0), omega (arith, ltb-true H F q.1))
below_is F (H ∷ Gs) e G (Memᴰ.tail m) = below_is F Gs (and_parts (nat_lt 0 H && nat_lt H F) (below F Gs) e).1 G m

opened_is : (table : List Line) (F G : ℕ) (k : Kind) → opened table F k ≡ true → k ≡ Locking G → (G < length table) × (params_of (line_at table G) ≡ F ∷ [])
opened_is table F G Plain e l = clash (cc)
opened_is table F G Sealing e l = clash (cc)
opened_is table F G (Locking H) e l =
    let same : H ≡ G = cc in
    let p = and_parts (nat_lt H (length table)) (only F (params_of (line_at table H))) e in
    subst (λ K. (K < length table) × (params_of (line_at table K) ≡ F ∷ [])) same (ltb-true H (length table) p.0, only_is F (params_of (line_at table H)) p.1)

all_at : (P : ℕ → Line → Bool) (n : ℕ) (xs : List Line) → all_from P n xs ≡ true → (k : ℕ) → k < length xs → P (n + k) (slice_index_or xs k lacked) ≡ true
all_at P n [] e k h = let no : ⊥ = omega arith in absurd no
all_at P n (x ∷ xs) e zero h = let is : n + 0 ≡ n = omega arith in subst (λ m. P m x ≡ true) (sym is) (and_parts (P n x) (all_from P (n + 1) xs) e).0
all_at P n (x ∷ xs) e (suc k) h =
    let is : n + 1 + k ≡ n + suc k = omega arith in
    subst (λ m. P m (slice_index_or xs k lacked) ≡ true) is (all_at P (n + 1) xs (and_parts (P n x) (all_from P (n + 1) xs) e).1 k (omega arith))

-- a grant rests on equal codes at most
same_kept : (f : ℕ → ℕ) (a b : ℕ) → (a == b) ≡ true → (f a == f b) ≡ true
same_kept f a b e = eq-eqb (f a) (f b) (ap f (eqb-true a b e))

grant_kept : (g : Grant) (f : ℕ → ℕ) (o a b c : ℕ) → grants_by g o a b c ≡ true → grants_by g (f o) (f a) (f b) (f c) ≡ true
grant_kept Nobody f o a b c e = e
grant_kept Everybody f o a b c e = e
grant_kept First f o a b c e = same_kept f o a e
grant_kept Either f o a b c e =
    ⊎_elim
    (λ l. or_left (f o == f a) (f o == f b) (same_kept f o a l))
    (λ r. or_right (f o == f a) (f o == f b) (same_kept f o b r))
    (or_cases (o == a) (o == b) e)
grant_kept OfFirst f o a b c e = same_kept f o c e

module _ (table : List Line) (test : is_lawful table ≡ true) where
  counts : (1 < length table) × (length table ≤ 16)
  counts =
      let p = and_parts (nat_lt 1 (length table) && nat_le (length table) 16) (msg_line (line_at table 0) && principal_line (line_at table 1)) (and_parts _ (all_from (fits table) 0 table) test).0 in
      let q = and_parts (nat_lt 1 (length table)) (nat_le (length table) 16) p.0 in
      (ltb-true 1 (length table) q.0, leb-true (length table) 16 q.1)

  begins : (msg_line (line_at table 0) ≡ true) × (principal_line (line_at table 1) ≡ true)
  begins =
      let p = and_parts (nat_lt 1 (length table) && nat_le (length table) 16) (msg_line (line_at table 0) && principal_line (line_at table 1)) (and_parts _ (all_from (fits table) 0 table) test).0 in
      and_parts (msg_line (line_at table 0)) (principal_line (line_at table 1)) p.1

  each : (F : ℕ) → F < length table → fits table F (line_at table F) ≡ true
  each F h = subst (λ m. fits table m (line_at table F) ≡ true) (zero-add F) (all_at (fits table) 0 table (and_parts _ (all_from (fits table) 0 table) test).1 F h)

  msg : (params_of (line_at table 0) ≡ []) × ((line_at table 0).kind ≡ Plain) × ((line_at table 0).granted ≡ Nobody)
  msg =
      let x = line_at table 0 in
      let p = and_parts (none (params_of x) && is_plain x.kind) (is_nobody x.granted) begins.0 in
      let q = and_parts (none (params_of x)) (is_plain x.kind) p.0 in
      (none_is (params_of x) q.0, plain_is x.kind q.1, nobody_is x.granted p.1)

  principal : (params_of (line_at table 1) ≡ []) × ((line_at table 1).kind ≡ Plain) × ((line_at table 1).sendable ≡ true)
  principal =
      let x = line_at table 1 in
      let p = and_parts (none (params_of x) && is_plain x.kind) x.sendable begins.1 in
      let q = and_parts (none (params_of x)) (is_plain x.kind) p.0 in
      (none_is (params_of x) q.0, plain_is x.kind q.1, p.1)

  line : (F : ℕ) → F < length table → (length (params_of (line_at table F)) ≤ 2) × (below F (params_of (line_at table F)) ≡ true) × (opened table F (line_at table F).kind ≡ true)
  line F h =
      let x = line_at table F in
      let p = and_parts (nat_le (length (params_of x)) 2 && below F (params_of x)) (opened table F x.kind) (each F h) in
      let q = and_parts (nat_le (length (params_of x)) 2) (below F (params_of x)) p.0 in
      (leb-true (length (params_of x)) 2 q.0, q.1, p.1)

  pub table_lawful : Lawful (meaning_by table)
  table_lawful = record {
    at_most_sixteen = counts.1;
    at_most_two = λ F h. (line F h).0;
    msg_params = msg.0;
    msg_plain = msg.1;
    principal_there = counts.0;
    principal_params = principal.0;
    principal_plain = principal.1;
    principal_sendable = principal.2;
    params_smaller = λ F G h m. below_is F (params_of (line_at table F)) (line F h).1 G m;
    opener_params = λ F G h e. opened_is table F G (line_at table F).kind (line F h).2 e;
    msg_never = λ o a b c. ap (λ g. grants_by g o a b c) msg.2;
    grants_kept = λ f z o F a b c h e. grant_kept (line_at table F).granted f o a b c e;
    lacking = λ F h. let past = get_or_past table F lacked h in record {
      no_params = ap (λ x. (params_of x)) past;
      not_sendable = ap (λ x. x.sendable) past;
      no_key = ap (λ x. x.kind) past;
      not_made = ap (λ x. x.makeable) past;
      not_granted = λ o a b c. ap (λ x. grants_by x.granted o a b c) past;
    };
  }
