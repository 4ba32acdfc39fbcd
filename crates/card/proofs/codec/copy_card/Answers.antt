use Rattle.std.proofs.lemmas.Result.{err_from_is_err_and}
use Rattle.record.specs.Contents.{contents}
use Rattle.record.specs.View.{view}
use Rattle.card.proofs.Trips.{copied}
use Rattle.card.proofs.codec.copy_card.Goals as goal

pub returns-in_err-write_card : goal.returns-in_err-write_card
returns-in_err-write_card c =
    let w = c.in_err-write_card.ensures in
    let p = err_from_is_err_and c.from_residual-in_err-write_card.result c.from_residual-in_err-write_card.ensures.1 in
    let t = copied c.args.bytes.now c.args.out.now c.write_card.new.out (view (contents c.in_ok-machine.machine)) _
    (λ i. (c.type_inv.bytes i).fits) c.in_ok-machine.ensures w.answer w.after in
    record { answer = rw (p.1, p.2) t.0; after = t.1 }

pub returns : goal.returns
returns c =
    let w = c.in_ok-write_card.ensures in
    let t = copied c.args.bytes.now c.args.out.now c.write_card.new.out (view (contents c.in_ok-machine.machine)) _
    (λ i. (c.type_inv.bytes i).fits) c.in_ok-machine.ensures w.answer w.after in
    record { answer = t.0; after = t.1 }
