use Rattle.std.proofs.Common.{◌≡◌, ◌≤◌, length, sym, ap, ◌∙◌, subst, arith}
use Rattle.std.proofs.lemmas.List.Sums.{count_by-le-length}
use Rattle.reading.specs.Marks.{sight_of, Reaches, here, onward, pass, ons}
use Rattle.reading.proofs.Growing.{pass_grows, below_same, below_ons, below_length}
use Rattle.reading.proofs.marks.View.close.Goals as goal

pub loop-before-init : goal.loop-before-init
loop-before-init c = (c.count-before.ensures, here)

pub returns-then-after-before : goal.returns-then-after-before
returns-then-after-before c =
    let w = sight_of c.args.self in
    let few : ons c.pass.new.got ≤ ons c.loop-before.got = omega (arith, c.count-after.ensures, c.loop-before.invariant.0, c.if-after-before.true) in
    let same : c.loop-before.got ≡ c.pass.new.got = below_same c.loop-before.got c.pass.new.got (pass_grows w c.loop-before.got c.pass.new.got c.pass.ensures) few in
    record {
      reached = subst (Reaches w c.args.got.now) (sym c.pass.ensures) (onward c.loop-before.invariant.1);
      full = ap (pass w) (sym same) ∙ sym c.pass.ensures;
    }

pub loop-before-smaller : goal.loop-before-smaller
loop-before-smaller c =
    let grown = pass_grows (sight_of c.args.self) c.loop-before.got c.pass.new.got c.pass.ensures in
    let more = below_ons c.loop-before.got c.pass.new.got grown in
    let long = below_length c.loop-before.got c.pass.new.got grown in
    let most : ons c.pass.new.got ≤ length c.pass.new.got = count_by-le-length (λ b. b) c.pass.new.got in
    omega (arith, c.count-after.ensures, c.loop-before.invariant.0, c.if-after-before.false)

pub loop-before-preserved : goal.loop-before-preserved
loop-before-preserved c = (c.count-after.ensures, subst (Reaches (sight_of c.args.self) c.args.got.now) (sym c.pass.ensures) (onward c.loop-before.invariant.1))
