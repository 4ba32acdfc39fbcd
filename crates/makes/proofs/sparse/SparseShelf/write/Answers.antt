use Rattle.std.proofs.Common.{◌≡◌, ℕ, ◌*◌, ◌<◌, List, None, Err, sym, ap, ◌∙◌, arith, rules, length}
use Rattle.makes.proofs.Slots.{kept}
use Rattle.makes.proofs.Sparsely.{sparse_short, sparse_wrote}
use Rattle.makes.proofs.sparse.SparseShelf.write.Goals as goal
use Rattle.makes.specs.Sparse.{sparse}
use Rattle.shelf.specs.Plan.{size_of}
use Rattle.shelf.specs.Refusal.{short}
use Rattle.shelf.specs.declared.plan.ClosedPlan.{ClosedPlan}
use Rattle.std.proofs.lemmas.Bool.{ltb-true}
use lib.Seq.{paste}

pub returns-in_err-slot : goal.returns-in_err-slot
returns-in_err-slot c =
    let p = c.claim.ensures in
    let none : c.claim.result ≡ None = search rules in
    let refused : c.from_residual.result ≡ Err (short c.args.at.drive c.args.at.block) = search rules in
    let r = sparse_short c.args.self.now.plan.sizes c.args.self.now.slots.now c.claim.new.self.slots.now c.args.self.now.store.words.now c.claim.new.self.store.words.now c.args.words.now c.args.at.drive c.args.at.block
    (sym p.answer ∙ none) p.slots (ltb-true _ _ (sym c.has.ensures ∙ c.if-not-has.false)) p.words in
    record {
      answer = refused ∙ r.answer;
      after = ap (λ (x : ClosedPlan). sparse x.sizes c.claim.new.self.slots.now c.claim.new.self.store.words.now) p.plan ∙ r.after;
      slots = r.slots_then;
      words = r.words_then;
      lent = p.lent;
    }

pub put-requires : goal.put-requires
put-requires c =
    let p = c.claim.ensures in
    let h : c.args.at.block < size_of c.args.self.now.plan.sizes c.args.at.drive = ltb-true _ _ (sym c.has.ensures ∙ c.if-not-has.false) in
    let r = c.args.self.now.room c.args.at.drive c.args.at.block h in
    let w = ap length p.words in
    let k = kept c.args.self.now.slots.now c.args.at.drive c.args.at.block c.in_ok-slot.slot (sym p.answer ∙ c.in_ok-slot.ensures.ok_part) in
    let low = k.low in
    omega arith

pub invariant_of-self-clause-room : goal.invariant_of-self-clause-room
invariant_of-self-clause-room c = λ d b h. let r = c.claim.new.self.room d b h in let l = c.put.ensures.len in omega arith

pub returns : goal.returns
returns c =
    let p = c.claim.ensures in
    let h : c.args.at.block < size_of c.args.self.now.plan.sizes c.args.at.drive = ltb-true _ _ (sym c.has.ensures ∙ c.if-not-has.false) in
    let r = sparse_wrote c.args.self.now.plan.sizes c.args.self.now.slots.now c.claim.new.self.slots.now c.args.self.now.store.words.now c.put.new.self.words.now c.args.words.now c.args.at.drive c.args.at.block c.in_ok-slot.slot
    (sym p.answer ∙ c.in_ok-slot.ensures.ok_part) p.slots h (c.args.self.now.room c.args.at.drive c.args.at.block h) (omega arith)
    (c.put.ensures.after ∙ ap (λ (x : List ℕ). paste x (128 * c.in_ok-slot.slot) c.args.words.now 128) p.words) in
    record {
      answer = r.answer;
      after = ap (λ (x : ClosedPlan). sparse x.sizes c.claim.new.self.slots.now c.put.new.self.words.now) p.plan ∙ r.after;
      slots = r.slots_then;
      words = r.words_then;
      lent = (p.lent.0, c.put.ensures.lent ∙ p.lent.1);
    }
