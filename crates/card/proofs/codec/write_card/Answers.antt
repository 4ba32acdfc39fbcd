use Rattle.std.proofs.Common.{◌≡◌, ◌≤◌, length, IfOk, Ok, Err, Result, ◌∙◌, arith, rules}
use Rattle.record.specs.Contents.{contents}
use Rattle.record.specs.View.{view}
use Rattle.card.specs.Card.{after_write, size}
use Rattle.card.specs.Writer.{state}
use Rattle.card.proofs.Cards.{finish_card}
use Rattle.card.proofs.codec.write_card.Goals as goal

made_all : {X Y P : Type 0} (r : Result X Y) → P → IfOk r (λ _. P)
made_all (Ok x) p = p
made_all (Err y) p = tt

pub returns : goal.returns
returns c =
    let v = view (contents c.args.machine.now) in
    let proper = c.put_card.ensures.proper in
    let le : size v ≤ length c.args.out.now = omega arith in
    let r = finish_card v c.args.out.now (state c.new-w.result) (state c.put_card.new.w) proper.all le
    c.new-w.ensures.after c.put_card.ensures.after c.put_card.ensures.moved in
    let fin : c.finish.new.self.0 ≡ after_write v c.args.out.now = c.finish.ensures.after ∙ r.1 in
    record { answer = c.finish.ensures.answer ∙ r.0; after = search rules; proper = made_all c.finish.result proper }
