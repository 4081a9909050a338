use Rattle.std.proofs.Common.{◌≡◌, false, length, take, replicate, ap, ◌∙◌, subst₂, rules}
use Rattle.std.proofs.lemmas.List.{take-replicate}
use Rattle.reading.proofs.Filled.{refilled}
use Rattle.reading.specs.Marks.{sight_of, put_facts, Closed}
use Rattle.reading.proofs.marks.View.received_rows.Goals as goal

pub returns : goal.returns
returns c =
    let w = sight_of c.args.self in
    let off : c.truncate.new.self.items ≡ replicate (length w.rows) false = c.truncate.ensures.items ∙ ap (take (length c.rows.result.now)) c.from-got.ensures.0 ∙ take-replicate (length c.rows.result.now) 512 false c.rows.ensures.few ∙ ap (λ xs. replicate (length xs) false) c.rows.ensures.value in
    let long : length c.receive.new.got ≡ length c.truncate.new.self.items = search rules in
    subst₂ (λ a b. Closed w (put_facts w.low a c.args.left.now) b) (c.as_mut_slice.ensures.value ∙ off) (refilled c.truncate.new.self.items c.receive.new.got long) c.receive.ensures
