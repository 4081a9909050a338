use Rattle.std.proofs.Common.{◌≡◌, true, false, Some, None, vec_items, sym, ap, ◌∙◌, arith}
use Rattle.names.specs.Sets.{listed}
use Rattle.names.specs.Withheld.{ended, kept, skipped}
use Rattle.names.specs.Counts.{drawn_fewer, minus_skipped}
use Rattle.names.proofs.withholding.WithholdingSource.draw.Goals as goal

pub loop-name-smaller : goal.loop-name-smaller
loop-name-smaller g c = let d = c.in-Some.ensures.drawn in let l = g.met.S.Source.names _ _ d.0 in omega (arith, drawn_fewer _ _ _ l.1 d.0 d.1)

pub returns-then-not-contains-clause-step : goal.returns-then-not-contains-clause-step
returns-then-not-contains-clause-step g c =
    let inv = c.loop-name.invariant in
    let list = c.deref.ensures.value ∙ ap vec_items inv.same in
    let out : listed (vec_items c.args.self.now.withheld) c.in-Some.name ≡ false = ap (λ xs. listed xs c.in-Some.name) (sym list) ∙ sym c.if-not-contains.ensures.value in
    (inv.first (Some c.in-Some.name) c.draw.new.self (kept c.in-Some.ensures.step out), ap vec_items inv.same)

pub loop-name-preserved : goal.loop-name-preserved
loop-name-preserved g c =
    let inv = c.loop-name.invariant in
    let list = c.deref.ensures.value ∙ ap vec_items inv.same in
    let d = c.in-Some.ensures in
    let back : listed (vec_items c.args.self.now.withheld) c.in-Some.name ≡ true = ap (λ xs. listed xs c.in-Some.name) (sym list) ∙ sym c.if-not-contains.ensures.value in
    record {
      same = inv.same;
      skipped = λ n. minus_skipped _ _ _ c.in-Some.name back d.drawn.1 n ∙ inv.skipped n;
      first = λ r t first. inv.first r t (skipped d.step back first);
    }

pub returns-clause-step : goal.returns-clause-step
returns-clause-step g c =
    let inv = c.loop-name.invariant in
    (inv.first None c.draw.new.self (ended c.in_default.ensures.step), ap vec_items inv.same)
