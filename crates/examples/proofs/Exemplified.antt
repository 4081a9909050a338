-- The examples hold.
use Rattle.std.proofs.Common.{◌≡◌, ℕ, Bool, true, false, ◌||◌, ◌⊎◌, List, [], ◌∷◌, ◌++◌, sym, refl, ap, ◌∙◌, subst, subst₂, inl, inr, ⊎_elim, arith}
use mathlib.Core.List.Memᴰ
use Rattle.judgments.proofs.Contexts.{not_zero, regular}
use Rattle.judgments.specs.Access.{first_of, second_of, Above, Received, argument, first, second, unsealed, unlocked, Held, read, granted, Granted, Opens, Owned, Built, basic, pairs, seals, locks, InRule, held, fresh, RuleAllowed}
use Rattle.judgments.specs.Contexts.{Ty, ty, msg, principal, Decl, ◌∶◌, Context, ◌∈◌}
use Rattle.judgments.specs.Typing.{TypeFormed, New, Formed, Has, declared, sent}
use Rattle.layouts.specs.Codes.{item_code, code_of}
use Rattle.layouts.specs.Report.{report}
use Rattle.std.proofs.lemmas.Bool.{eq-eqb, or_left, or_right}
use Rattle.terms.specs.Rows.{same_item}
use Rattle.terms.specs.Terms.{Term, item, pair, seal, lock}
use Rattle.terms.specs.declared.row.Item.{Item}
use Rattle.terms.specs.declared.row.Item.TheVariants.{Name, Variable}
use Rattle.examples.specs.Refused.{AllOwned, AllOpened, Refused, not_opened, not_built}
use Rattle.examples.specs.Starred.{names, takes, a_message, with_key, sealed, locked, with_its_key, out_of_thin_air, All, starred}

-- ---- the names are well formed: a test that computes
declares : Item → Context → Bool
declares i [] = false
declares i (j ∶ T ∷ Γ) = same_item i j || declares i Γ

same_refl : (i : Item) → same_item i i ≡ true
same_refl (Name n) = eq-eqb n n refl
same_refl (Variable v) = eq-eqb v v refl

declares_in : (Γ : Context) (i : Item) (T : Ty) → i ∶ T ∈ Γ → declares i Γ ≡ true
unfolding declares
declares_in [] i T m = elim m [ ]
declares_in (j ∶ U ∷ Γ) i T (Memᴰ.head e) = let same : i ≡ j = cc in or_left (same_item i j) (declares i Γ) (ap (same_item i) (sym same) ∙ same_refl i)
declares_in (j ∶ U ∷ Γ) i T (Memᴰ.tail m) = or_right (same_item i j) (declares i Γ) (declares_in Γ i T m)

new : (Γ : Context) (i : Item) → declares i Γ ≡ false → New i Γ
new Γ i e T m = not_zero (cc (declares_in Γ i T m))

abbrev three : Context
three = Name 12 ∶ principal ∷ Name 11 ∶ principal ∷ Name 10 ∶ principal ∷ []

formed_three : Formed report three
unfolding declares
formed_three = (
  ((tt, new [] (Name 10) refl, omega arith, (omega arith, tt)), new (Name 10 ∶ principal ∷ []) (Name 11) refl, omega arith, (omega arith, tt)),
  new (Name 11 ∶ principal ∷ Name 10 ∶ principal ∷ []) (Name 12) refl,
  omega arith,
  (omega arith, tt),
)

formed_names : Formed report names
unfolding declares
formed_names = (
  (
    (
      (formed_three, new three (Name 20) refl, omega arith, (omega arith, (([], Memᴰ.tail (Memᴰ.tail (Memᴰ.head refl))), (([], Memᴰ.tail (Memᴰ.head refl)), tt)))),
      new _ (Name 30) refl,
      omega arith,
      (omega arith, (([], Memᴰ.tail (Memᴰ.tail (Memᴰ.head refl))), tt)),
    ),
    new _ (Name 31) refl,
    omega arith,
    (omega arith, ((Name 11 ∷ [], Memᴰ.head refl), tt)),
  ),
  new _ (Name 40) refl,
  omega arith,
  (omega arith, tt),
)

formed_message : Formed report (a_message ++ names)
unfolding declares
formed_message = (formed_names, new names (Variable 1) refl, tt, (omega arith, tt))

formed_nonce : Formed report (Variable 1 ∶ ty 2 [] ∷ names)
unfolding declares
formed_nonce = (formed_names, new names (Variable 1) refl, tt, (omega arith, tt))

in_31 : Name 31 ∶ ty 5 (Name 30 ∷ []) ∈ names
in_31 = Memᴰ.tail (Memᴰ.head refl)

in_30 : Name 30 ∶ ty 4 (Name 11 ∷ []) ∈ names
in_30 = Memᴰ.tail (Memᴰ.tail (Memᴰ.head refl))

in_20 : Name 20 ∶ ty 3 (Name 10 ∷ Name 11 ∷ []) ∈ names
in_20 = Memᴰ.tail (Memᴰ.tail (Memᴰ.tail (Memᴰ.head refl)))

in_10 : Name 10 ∶ principal ∈ names
in_10 = Memᴰ.tail (Memᴰ.tail (Memᴰ.tail (Memᴰ.tail (Memᴰ.tail (Memᴰ.tail (Memᴰ.head refl))))))

-- ---- types
not_sent : Has report names (item (Name 31)) msg → ⊥
not_sent (declared d) = not_zero (cc ((regular report names formed_names).once d in_31))
not_sent (sent {F = F} d s) =
    let five : F ≡ 5 = cc ((regular report names formed_names).once d in_31) in
    not_zero (cc (subst (λ F. report.sendable F ≡ true) five s))

no_type : TypeFormed report names (ty 3 (Name 10 ∷ Name 40 ∷ [])) → ⊥
no_type h =
    let two : ◌≡◌ {A = ℕ} 1 2 = cc ((regular report names formed_names).once h.1.1.0.1 (Memᴰ.head refl)) in
    omega arith

-- ---- grants, over more declarations too
module _ {Γ : Context} (formed : Formed report Γ) (over : (d : Decl) → d ∈ names → d ∈ Γ) where
  twenty_to : (o : ℕ) → report.grants o 3 10 11 0 ≡ true → Granted report Γ (Name o) (Name 20)
  twenty_to o is = record { family = 3; params = Name 10 ∷ Name 11 ∷ []; above = []; declared = over _ in_20; is_above = (1, over _ in_10); is_granted = is }

  private_to_eleven : Granted report Γ (Name 11) (Name 31)
  private_to_eleven = record { family = 5; params = Name 30 ∷ []; above = Name 11 ∷ []; declared = over _ in_31; is_above = (4, over _ in_30); is_granted = refl }

  not_twelve : Granted report Γ (Name 12) (Name 20) → ⊥
  not_twelve g =
      let e = (regular report Γ formed).once g.declared (over _ in_20) in
      let F_is : g.family ≡ 3 = cc (e) in
      let ps_are : g.params ≡ Name 10 ∷ Name 11 ∷ [] = cc (e) in
      let no_grant : false ≡ true = subst₂ (λ F ps. report.grants 12 F (code_of (first_of ps)) (code_of (second_of ps)) (code_of (first_of g.above)) ≡ true) F_is ps_are g.is_granted in
      not_zero (cc)

  -- whoever is granted 31 is 11
  not_ten : Granted report Γ (Name 10) (Name 31) → ⊥
  not_ten g =
      let e = (regular report Γ formed).once g.declared (over _ in_31) in
      let F_is : g.family ≡ 5 = cc (e) in
      let ps_are : g.params ≡ Name 30 ∷ [] = cc (e) in
      let above : (G : ℕ) × (Name 30 ∶ ty G g.above ∈ Γ) = subst (λ ps. Above Γ ps g.above) ps_are g.is_above in
      let above_is : g.above ≡ Name 11 ∷ [] = cc ((regular report Γ formed).once above.1 (over _ in_30)) in
      let grant = subst₂ (λ F ps. report.grants 10 F (code_of (first_of ps)) (code_of (second_of ps)) (code_of (first_of g.above)) ≡ true) F_is ps_are g.is_granted in
      let no_grant : false ≡ true = subst (λ qs. report.grants 10 5 30 0 (code_of (first_of qs)) ≡ true) above_is grant in
      not_zero (cc)

itself : (d : Decl) → d ∈ names → d ∈ names
itself d m = m

later : (d : Decl) → d ∈ names → d ∈ a_message ++ names
later d m = Memᴰ.tail m

latest : (d : Decl) → d ∈ names → d ∈ with_key ++ names
latest d m = Memᴰ.tail (Memᴰ.tail m)

-- ---- rules that only read
network_owned : (o : Item) (Γ : Context) (t : Term) → AllOwned report names o (takes Γ t)
network_owned o Γ t f m = subst (Owned o) (sym (Memᴰ.eq_of_singleton m)) tt

reads_passes : (o : Item) (Γ : Context) (t : Term) → AllOpened report names o (takes Γ t) → RuleAllowed report names o (takes Γ t)
reads_passes o Γ t opened = record { owned = network_owned o Γ t; opened = opened; makeable = λ i F ps m. elim m [ ]; built = λ s m. elim m [ ] }

-- of nothing, nothing is received
none_received : {Γ : Context} {o : Item} (t : Term) → Received report Γ o [] t → ⊥
none_received t (argument m) = elim m [ ]
none_received t (first {t = b} x) = none_received (pair t b) x
none_received t (second {s = a} x) = none_received (pair a t) x
none_received t (unsealed {k = k} x h) = none_received (seal t k) x
none_received t (unlocked {k = k} x q h) = none_received (lock t k) x

abbrev Γ : Context
Γ = a_message ++ names

abbrev v1 : Term
v1 = item (Variable 1)

-- ---- N(seal(v1, 20))
abbrev seals_text : List Term
seals_text = seal v1 (Name 20) ∷ []

-- 12 receives the seal alone, and does not hold its key
mutual
  only_seal : (t : Term) → Received report Γ (Name 12) seals_text t → t ≡ seal v1 (Name 20)
  only_seal t (argument m) = Memᴰ.eq_of_singleton m
  only_seal t (first {t = b} x) = not_zero (cc (only_seal (pair t b) x))
  only_seal t (second {s = a} x) = not_zero (cc (only_seal (pair a t) x))
  only_seal t (unsealed {k = k} x h) = absurd (no_key k h (cc (only_seal (seal t k) x)))
  only_seal t (unlocked {k = k} x q h) = not_zero (cc (only_seal (lock t k) x))

  no_key : (i : Item) → Held report Γ (Name 12) seals_text i → i ≡ Name 20 → ⊥
  no_key i (read x) e = not_zero (cc (only_seal (item i) x))
  no_key i (granted g) e = not_twelve formed_message later (subst (Granted report Γ (Name 12)) e g)

twelve_refused : Refused report names (Name 12) sealed 17
twelve_refused = not_opened (network_owned (Name 12) a_message (seal v1 (Name 20))) (λ opened. no_key (Name 20) (opened (seal v1 (Name 20)) (argument (Memᴰ.head refl))) refl)

ten_holds : Held report Γ (Name 10) seals_text (Name 20)
ten_holds = granted (twenty_to formed_message later 10 refl)

seal_or_text : (t : Term) → Received report Γ (Name 10) seals_text t → (t ≡ seal v1 (Name 20)) ⊎ (t ≡ v1)
seal_or_text t (argument m) = inl (Memᴰ.eq_of_singleton m)
seal_or_text t (first {t = b} x) = ⊎_elim (λ e. not_zero (cc)) (λ e. not_zero (cc)) (seal_or_text (pair t b) x)
seal_or_text t (second {s = a} x) = ⊎_elim (λ e. not_zero (cc)) (λ e. not_zero (cc)) (seal_or_text (pair a t) x)
seal_or_text t (unsealed {k = k} x h) = ⊎_elim (λ e. inr (cc)) (λ e. not_zero (cc)) (seal_or_text (seal t k) x)
seal_or_text t (unlocked {k = k} x q h) = ⊎_elim (λ e. not_zero (cc)) (λ e. not_zero (cc)) (seal_or_text (lock t k) x)

ten_opens : AllOpened report names (Name 10) sealed
ten_opens (item i) = tt
ten_opens (pair s t) = tt
ten_opens (seal t k) = λ x. ⊎_elim (λ e. let same : Name 20 ≡ k = cc in subst (Held report Γ (Name 10) seals_text) same ten_holds) (λ e. not_zero (cc)) (seal_or_text (seal t k) x)
ten_opens (lock t k) = λ x. ⊎_elim (λ e. not_zero (cc)) (λ e. not_zero (cc)) (seal_or_text (lock t k) x)

-- ---- N(lock(v1, 30))
abbrev locks_text : List Term
locks_text = lock v1 (Name 30) ∷ []

-- what has 30 as its one parameter is 31
of_thirty : (j : Item) (F : ℕ) → j ∶ ty F (Name 30 ∷ []) ∈ Γ → j ≡ Name 31
of_thirty j F (Memᴰ.head e) = not_zero (cc)
of_thirty j F (Memᴰ.tail (Memᴰ.head e)) = not_zero (cc)
of_thirty j F (Memᴰ.tail (Memᴰ.tail (Memᴰ.head e))) = cc
of_thirty j F (Memᴰ.tail (Memᴰ.tail (Memᴰ.tail (Memᴰ.head e)))) = let same : ◌≡◌ {A = ℕ} 30 11 = cc in absurd (omega arith)
of_thirty j F (Memᴰ.tail (Memᴰ.tail (Memᴰ.tail (Memᴰ.tail (Memᴰ.head e))))) = not_zero (cc)
of_thirty j F (Memᴰ.tail (Memᴰ.tail (Memᴰ.tail (Memᴰ.tail (Memᴰ.tail (Memᴰ.head e)))))) = not_zero (cc)
of_thirty j F (Memᴰ.tail (Memᴰ.tail (Memᴰ.tail (Memᴰ.tail (Memᴰ.tail (Memᴰ.tail (Memᴰ.head e))))))) = not_zero (cc)
of_thirty j F (Memᴰ.tail (Memᴰ.tail (Memᴰ.tail (Memᴰ.tail (Memᴰ.tail (Memᴰ.tail (Memᴰ.tail (Memᴰ.head e)))))))) = not_zero (cc)
of_thirty j F (Memᴰ.tail (Memᴰ.tail (Memᴰ.tail (Memᴰ.tail (Memᴰ.tail (Memᴰ.tail (Memᴰ.tail (Memᴰ.tail m)))))))) = elim m [ ]

-- 10 receives the lock alone, and does not hold what opens it
mutual
  only_lock : (t : Term) → Received report Γ (Name 10) locks_text t → t ≡ lock v1 (Name 30)
  only_lock t (argument m) = Memᴰ.eq_of_singleton m
  only_lock t (first {t = b} x) = not_zero (cc (only_lock (pair t b) x))
  only_lock t (second {s = a} x) = not_zero (cc (only_lock (pair a t) x))
  only_lock t (unsealed {k = k} x h) = not_zero (cc (only_lock (seal t k) x))
  only_lock t (unlocked {k = k} {j = j} x q h) =
      let thirty : k ≡ Name 30 = cc (only_lock (lock t k) x) in
      let opener = of_thirty j q.opening (subst (λ k. j ∶ ty q.opening (k ∷ []) ∈ Γ) thirty q.declared) in
      absurd (no_opener j h opener)

  no_opener : (i : Item) → Held report Γ (Name 10) locks_text i → i ≡ Name 31 → ⊥
  no_opener i (read x) e = not_zero (cc (only_lock (item i) x))
  no_opener i (granted g) e = not_ten formed_message later (subst (Granted report Γ (Name 10)) e g)

ten_refused : Refused report names (Name 10) locked 17
ten_refused = not_opened (network_owned (Name 10) a_message (lock v1 (Name 30))) (λ opened.
    let h = opened (lock v1 (Name 30)) (argument (Memᴰ.head refl)) in
    no_opener h.0 h.2 (of_thirty h.0 h.1.opening h.1.declared))

opens_thirty : Opens report Γ (Name 31) (Name 30)
opens_thirty = record { opening = 5; key = record { family = 4; params = Name 11 ∷ []; declared = later _ in_30; of_kind = refl }; declared = later _ in_31 }

eleven_holds : Held report Γ (Name 11) locks_text (Name 31)
eleven_holds = granted (private_to_eleven formed_message later)

lock_or_text : (t : Term) → Received report Γ (Name 11) locks_text t → (t ≡ lock v1 (Name 30)) ⊎ (t ≡ v1)
lock_or_text t (argument m) = inl (Memᴰ.eq_of_singleton m)
lock_or_text t (first {t = b} x) = ⊎_elim (λ e. not_zero (cc)) (λ e. not_zero (cc)) (lock_or_text (pair t b) x)
lock_or_text t (second {s = a} x) = ⊎_elim (λ e. not_zero (cc)) (λ e. not_zero (cc)) (lock_or_text (pair a t) x)
lock_or_text t (unsealed {k = k} x h) = ⊎_elim (λ e. not_zero (cc)) (λ e. not_zero (cc)) (lock_or_text (seal t k) x)
lock_or_text t (unlocked {k = k} x q h) = ⊎_elim (λ e. inr (cc)) (λ e. not_zero (cc)) (lock_or_text (lock t k) x)

eleven_opens : AllOpened report names (Name 11) locked
eleven_opens (item i) = tt
eleven_opens (pair s t) = tt
eleven_opens (seal t k) = λ x. ⊎_elim (λ e. not_zero (cc)) (λ e. not_zero (cc)) (lock_or_text (seal t k) x)
eleven_opens (lock t k) = λ x. ⊎_elim (λ e. let same : Name 30 ≡ k = cc in (Name 31, subst (Opens report Γ (Name 31)) same opens_thirty, eleven_holds)) (λ e. not_zero (cc)) (lock_or_text (lock t k) x)

-- ---- N(pair(seal(v1, v2), v2))
abbrev Δ : Context
Δ = with_key ++ names

abbrev both : Term
both = pair (seal v1 (Variable 2)) (item (Variable 2))

twelve_holds : Held report Δ (Name 12) (both ∷ []) (Variable 2)
twelve_holds = read (second (argument (Memᴰ.head refl)))

data Part : Term → Type 0 where
  whole : {t : Term} → t ≡ both → Part t
  the_seal : {t : Term} → t ≡ seal v1 (Variable 2) → Part t
  some_item : {t : Term} {i : Item} → t ≡ item i → Part t

of_pair : (s t : Term) → Part (pair s t) → Part s × Part t
of_pair s t (whole e) = (the_seal (cc), some_item {i = Variable 2} (cc))
of_pair s t (the_seal e) = not_zero (cc)
of_pair s t (some_item e) = not_zero (cc)

of_seal : (t : Term) (k : Item) → Part (seal t k) → Part t × (k ≡ Variable 2)
of_seal t k (whole e) = not_zero (cc)
of_seal t k (the_seal e) = (some_item {i = Variable 1} (cc), cc)
of_seal t k (some_item e) = not_zero (cc)

of_lock : {A : Type 0} (t : Term) (k : Item) → Part (lock t k) → A
of_lock t k (whole e) = not_zero (cc)
of_lock t k (the_seal e) = not_zero (cc)
of_lock t k (some_item e) = not_zero (cc)

parts : (t : Term) → Received report Δ (Name 12) (both ∷ []) t → Part t
parts t (argument m) = whole (Memᴰ.eq_of_singleton m)
parts t (first {t = b} x) = (of_pair t b (parts (pair t b) x)).0
parts t (second {s = a} x) = (of_pair a t (parts (pair a t) x)).1
parts t (unsealed {k = k} x h) = (of_seal t k (parts (seal t k) x)).0
parts t (unlocked {k = k} x q h) = of_lock t k (parts (lock t k) x)

twelve_opens : AllOpened report names (Name 12) with_its_key
twelve_opens (item i) = tt
twelve_opens (pair s t) = tt
twelve_opens (seal t k) = λ x. subst (Held report Δ (Name 12) (both ∷ [])) (sym (of_seal t k (parts (seal t k) x)).1) twelve_holds
twelve_opens (lock t k) = λ x. of_lock t k (parts (lock t k) x)

-- ---- N(v1) out of nothing
module _ (o : Item) where
  not_held : (i : Item) → i ≡ Variable 1 → Held report (Variable 1 ∶ ty 2 [] ∷ names) o [] i → ⊥
  not_held i e (read x) = none_received (item i) x
  not_held i e (granted g) =
      let d = subst (λ i. i ∶ ty g.family g.params ∈ Variable 1 ∶ ty 2 [] ∷ names) e g.declared in
      let two : g.family ≡ 2 = cc ((regular report _ formed_nonce).once d (Memᴰ.head refl)) in
      let no_grant : false ≡ true = subst (λ F. report.grants (item_code o) F (code_of (first_of g.params)) (code_of (second_of g.params)) (code_of (first_of g.above)) ≡ true) two g.is_granted in
      not_zero (cc)

  cannot_build : (t : Term) → t ≡ v1 → Built (InRule report (Variable 1 ∶ ty 2 [] ∷ names) o [] []) t → ⊥
  cannot_build t e (basic (held {i = i} h)) = not_held i (cc) h
  cannot_build t e (basic (fresh m)) = elim m [ ]
  cannot_build t e (pairs x y) = not_zero (cc)
  cannot_build t e (seals x y) = not_zero (cc)
  cannot_build t e (locks x y) = not_zero (cc)

  nothing_closed : AllOpened report names o out_of_thin_air
  nothing_closed (item i) = tt
  nothing_closed (pair s t) = tt
  nothing_closed (seal t k) = λ x. absurd (none_received (seal t k) x)
  nothing_closed (lock t k) = λ x. absurd (none_received (lock t k) x)

  air_refused : Refused report names o out_of_thin_air 19
  air_refused = not_built (λ f m. subst (Owned o) (sym (Memᴰ.eq_of_singleton m)) tt) nothing_closed (λ i F ps m. elim m [ ]) (λ built. cannot_build v1 refl (built v1 (Memᴰ.head refl)))

pub all_starred : All starred
all_starred = (
  declared (Memᴰ.head refl),
  (
    sent (Memᴰ.head refl) refl,
    (
      not_sent,
      (
        no_type,
        (
          twenty_to formed_names itself 10 refl,
          (
            twenty_to formed_names itself 11 refl,
            (
              not_twelve formed_names itself,
              (
                private_to_eleven formed_names itself,
                (
                  not_ten formed_names itself,
                  (
                    twelve_refused,
                    (
                      (unsealed (argument (Memᴰ.head refl)) ten_holds, reads_passes (Name 10) a_message (seal v1 (Name 20)) ten_opens),
                      (
                        (unlocked (argument (Memᴰ.head refl)) opens_thirty eleven_holds, reads_passes (Name 11) a_message (lock v1 (Name 30)) eleven_opens),
                        (
                          ten_refused,
                          (
                            (unsealed (first (argument (Memᴰ.head refl))) twelve_holds, reads_passes (Name 12) with_key both twelve_opens),
                            (air_refused, tt),
                          ),
                        ),
                      ),
                    ),
                  ),
                ),
              ),
            ),
          ),
        ),
      ),
    ),
  ),
)
