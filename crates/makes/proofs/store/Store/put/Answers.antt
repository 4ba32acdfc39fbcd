use Rattle.std.proofs.Common.{◌≡◌, ℕ, ◌+◌, ◌-◌, ◌*◌, ◌^◌, ◌≤◌, List, length, refl, ap, ◌∙◌, arith}
use Rattle.makes.proofs.Parts.{below_paste}
use Rattle.makes.proofs.store.Store.put.Goals as goal
use Rattle.std.proofs.lemmas.List.Edits.{length-paste}
use Rattle.std.proofs.lemmas.Slice.{put_mid-paste}
use borrow.Rule.Slice.PartMut.{put_mid}
use lib.Seq.{paste}

-- a block that is put among the words is pasted there
pasted : (words put from : List ℕ) (i : ℕ) → put ≡ from → length from ≡ 128 → 128 * i + 128 ≤ length words → put_mid (128 * i) (128 * i + 128 - 128 * i) words put ≡ paste words (128 * i) from 128
pasted words put from i e n fits = put_mid-paste (128 * i) (128 * i + 128 - 128 * i) words put from 128 e (omega arith) (omega arith)

pub invariant_of-self : goal.invariant_of-self
invariant_of-self c =
    record {
      fit = rw (pasted c.args.self.now.words.now c.copy_from_slice.new.self c.args.from.now c.args.i c.copy_from_slice.ensures.after (omega arith) (omega arith))
          (below_paste (2 ^ 32) c.args.self.now.words.now c.args.from.now (128 * c.args.i) 128 (omega arith) (omega arith) c.args.self.now.fit c.fits-from);
    }

pub returns : goal.returns
returns c =
    let e = pasted c.args.self.now.words.now c.copy_from_slice.new.self c.args.from.now c.args.i c.copy_from_slice.ensures.after (omega arith) (omega arith) in
    record {
      lent = refl;
      len = ap length e ∙ length-paste c.args.self.now.words.now (128 * c.args.i) c.args.from.now 128 (omega arith) (omega arith);
      after = e;
    }
