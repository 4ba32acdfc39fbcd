use Rattle.std.proofs.Common.{◌≡◌, ℕ, Ok, sym, ◌∙◌, arith}
use Rattle.std.proofs.lemmas.Bool.{cond-true}
use Rattle.record.specs.Contents.{contents}
use Rattle.record.specs.View.{view}
use Rattle.card.proofs.Trips.{front_reads, same_record}
use Rattle.card.proofs.codec.write_checked.Goals as goal

pub unreachable-requires : goal.unreachable-requires
unreachable-requires c =
    let w = c.in_ok-n.ensures in
    let f = front_reads (view (contents c.args.machine.now)) c.args.out.now _ _ w.proper w.answer w.after in
    let bad = c.in-Err.ensures ∙ f.0 in
    let z : ◌≡◌ {A = ℕ} 0 1 = cc in omega arith

pub returns : goal.returns
returns c =
    let w = c.in_ok-n.ensures in
    let f = front_reads (view (contents c.args.machine.now)) c.args.out.now _ _ w.proper w.answer w.after in
    let back = same_record c.args.machine.now c.in-Ok.back _ c.in-Ok.ensures f.0 in
    record { answer = (λ i. Ok (f.1 i, back i)) ∙ sym (cond-true _ _ _ f.2); after = w.after }
