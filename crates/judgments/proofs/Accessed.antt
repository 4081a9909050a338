-- What is received, held and built over some declarations is so over more.
use Rattle.std.proofs.Common.{List, [], ◌∷◌}
use Rattle.layouts.specs.Meanings.{Meaning}
use Rattle.layouts.specs.declared.layout.Kind.{Kind}
use Rattle.terms.specs.Terms.{Term}
use Rattle.terms.specs.declared.row.Item.{Item}
use Rattle.judgments.specs.Contexts.{Decl, Context, ◌∈◌}
use Rattle.judgments.specs.Typing.{Key}
use Rattle.judgments.specs.Access.{Above, Granted, Opens, Received, argument, first, second, unsealed, unlocked, Held, read, granted, Built, basic, pairs, seals, locks, InRule, held, fresh}

module _ (lay : Meaning) {Γ Δ : Context} (more : (d : Decl) → d ∈ Γ → d ∈ Δ) where
  above_weakened : (ps qs : List Item) → Above Γ ps qs → Above Δ ps qs
  above_weakened [] qs h = h
  above_weakened (p ∷ ps) qs h = (h.0, more _ h.1)

  pub granted_weakened : {o i : Item} → Granted lay Γ o i → Granted lay Δ o i
  granted_weakened g = record {
    family = g.family;
    params = g.params;
    above = g.above;
    declared = more _ g.declared;
    is_above = above_weakened g.params g.above g.is_above;
    is_granted = g.is_granted;
  }

  key_weakened : {k : Item} {κ : Kind} → Key lay Γ k κ → Key lay Δ k κ
  key_weakened x = record { family = x.family; params = x.params; declared = more _ x.declared; of_kind = x.of_kind }

  pub opens_weakened : {j k : Item} → Opens lay Γ j k → Opens lay Δ j k
  opens_weakened x = record { opening = x.opening; key = key_weakened x.key; declared = more _ x.declared }

  module _ {o : Item} {left : List Term} where
    mutual
      pub received_weakened : {t : Term} → Received lay Γ o left t → Received lay Δ o left t
      received_weakened (argument m) = argument m
      received_weakened (first x) = first (received_weakened x)
      received_weakened (second x) = second (received_weakened x)
      received_weakened (unsealed x h) = unsealed (received_weakened x) (held_weakened h)
      received_weakened (unlocked x q h) = unlocked (received_weakened x) (opens_weakened q) (held_weakened h)

      pub held_weakened : {i : Item} → Held lay Γ o left i → Held lay Δ o left i
      held_weakened (read x) = read (received_weakened x)
      held_weakened (granted g) = granted (granted_weakened g)

    pub built_weakened : {made : Context} {t : Term} → Built (InRule lay Γ o left made) t → Built (InRule lay Δ o left made) t
    built_weakened (basic (held h)) = basic (held (held_weakened h))
    built_weakened (basic (fresh m)) = basic (fresh m)
    built_weakened (pairs x y) = pairs (built_weakened x) (built_weakened y)
    built_weakened (seals x y) = seals (built_weakened x) (built_weakened y)
    built_weakened (locks x y) = locks (built_weakened x) (built_weakened y)
