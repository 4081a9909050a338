use Rattle.std.proofs.Common.{◌≡◌, ℕ, ◌+◌, List, length, take, Err, sym, refl, ap, ◌∙◌, arith}
use Rattle.std.proofs.lemmas.List.{length-take-le}
use Rattle.std.proofs.lemmas.Result.{err_from_is_err_and}
use Rattle.std.specs.Borrow.{Bor}
use Rattle.refusals.proofs.Walking.{walk_here_own, walk_later_own, walk_none}
use Rattle.refusals.specs.Walks.{Answer}
use Rattle.refusals.specs.Faults.{SaysByNumber}
use Rattle.refusals.proofs.walk.check_numbered.Goals as goal

-- what a call answers that is told the next number
said : {X W : Type 0} (call : ℕ → Bor X → Answer W → Type 0) (check : List X → X → Answer W) → SaysByNumber call check → (seen : List X) (i : ℕ) → length seen ≡ i → (x : Bor X) (r : Answer W) → call (i + 1) x r → r ≡ check seen x.now
said call check says seen i long x r p = says seen x r (rw long p)

pub returns-in_err-check : goal.returns-in_err-check
returns-in_err-check g c check says =
    let p = err_from_is_err_and c.from_residual.result c.from_residual.ensures.1 in
    p.1
    ∙ (ap Err p.2
    ∙ walk_here_own check (λ n w. w) c.args.items.now c.loop-i.i _ _ c.index-items-i.result c.loop-i-test.true refl c.index-items-i.is (c.loop-i.invariant check says) c.in_err-check.field-0.0
    (said (goal.F-post g c.args.check) check says (take c.loop-i.i c.args.items.now) c.loop-i.i (length-take-le c.loop-i.i c.args.items.now (omega arith)) _ _ c.in_err-check.ensures))

pub loop-i-preserved : goal.loop-i-preserved
loop-i-preserved g c check says =
    walk_later_own check (λ n w. w) c.args.items.now c.loop-i.i _ _ c.index-items-i.result c.loop-i-test.true refl c.index-items-i.is (c.loop-i.invariant check says) c.in_ok-check.field-0
    (said (goal.F-post g c.args.check) check says (take c.loop-i.i c.args.items.now) c.loop-i.i (length-take-le c.loop-i.i c.args.items.now (omega arith)) _ _ c.in_ok-check.ensures)

pub returns : goal.returns
returns g c check says = sym (walk_none check (λ n w. w) c.args.items.now c.loop-i.i c.loop-i-test.false) ∙ c.loop-i.invariant check says
