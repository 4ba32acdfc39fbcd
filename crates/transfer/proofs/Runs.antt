-- The steps of a transfer, of reading and writing alike.
use Rattle.std.proofs.Common.{◌≡◌, ℕ, suc, ◌+◌, ◌-◌, ◌*◌, ◌^◌, ◌<◌, ◌≤◌, Bool, true, false, cond, IsErrAnd, Ok, Err, Result, refl, ap, ◌∙◌, arith}
use Rattle.shelf.specs.Meaning.{has, Meaning}
use Rattle.shelf.specs.declared.refusal.BlockFault.{BlockFault}
use Rattle.std.proofs.lemmas.Result.{err_from_is_err_and}
use Rattle.std.proofs.lemmas.Bool.{ltb-true}
use Rattle.transfer.specs.Transfer.{moved, Moved, next}
use Rattle.transfer.specs.declared.blocks.Extent.{Extent}
use Rattle.transfer.specs.declared.fault.TransferFault.{TransferFault}
use Rattle.transfer.specs.declared.fault.TransferFault.TheVariants.{Refused}

-- The blocks from block i on, with x, give the whole transfer.
pub record Left {X : Type 0} (answers : X → ℕ → Result Unit BlockFault) (after : X → ℕ → ℕ → X) (e : Extent) (whole : Moved X) (i : ℕ) (x : X) : Type 0 where
  pub same : whole ≡ moved answers after (e.count - i) (e.first.block + i) (128 * i) x

module _ {X : Type 0} {answers : X → ℕ → Result Unit BlockFault} {after : X → ℕ → ℕ → X} {e : Extent} {whole : Moved X} {i : ℕ} {x : X} (left : Left answers after e whole i x) where
  -- the blocks from block i on, by those behind it
  opens : i < e.count → whole ≡ next (answers x (e.first.block + i)) x (moved answers after (e.count - (i + 1)) (e.first.block + (i + 1)) (128 * (i + 1)) (after x (e.first.block + i) (128 * i)))
  unfolding moved
  opens h =
      let p : e.count - i ≡ suc (e.count - (i + 1)) = omega arith in
      let q : e.first.block + (i + 1) ≡ e.first.block + i + 1 = omega arith in
      let r : 128 * (i + 1) ≡ 128 * i + 128 = omega arith in
      rw (q, r) (rw p at left.same)

  -- a block that is not refused
  pub goes_on : {y : X} {r : Result Unit BlockFault} {u : Unit} → i < e.count → r ≡ answers x (e.first.block + i) → r ≡ Ok u → y ≡ after x (e.first.block + i) (128 * i) →
      Left answers after e whole (i + 1) y
  goes_on h told ok kept = record { same = rw kept (opens h ∙ rw (← told, ok) refl) }

  -- a block that is refused
  pub stops : {y : X} {r : Result Unit BlockFault} {fault : BlockFault} → i < e.count → r ≡ answers x (e.first.block + i) → r ≡ Err fault → y ≡ x →
      (Err (Refused fault) ≡ whole.answer) × (y ≡ whole.left)
  stops h told err kept = rw (opens h, ← told, err, kept) (refl, refl)

  -- no block is left
  pub ends : e.count ≤ i → (Ok tt ≡ whole.answer) × (x ≡ whole.left)
  unfolding moved
  ends h = let p : e.count - i ≡ 0 = omega arith in rw (left.same, p) (refl, refl)

-- a block that is not refused is there
pub there : (h : Bool) (r x : Result Unit BlockFault) (fault : BlockFault) (u : Unit) → r ≡ cond h x (Err fault) → r ≡ Ok u → h ≡ true
there true r x fault u told ok = refl
there false r x fault u told ok = cc

-- the number of a block that is there can be told, and the next
pub near : (m : Meaning) (d first i most : ℕ) → has m d (first + i) ≡ true → m.size d ≤ most → most ≤ 65536 → first + (i + 1) < 2 ^ 32
near m d first i most h bounded offered = omega (arith, ltb-true (first + i) (m.size d) h)

-- a write that is refused keeps the shelf
pub refused_keeps : {X : Type 0} (h f : Bool) (r : Result Unit BlockFault) (fault short none : BlockFault) (old new left : X) →
    r ≡ cond h (cond f (Ok tt) (Err short)) (Err none) → r ≡ Err fault → left ≡ cond h (cond f new old) old → left ≡ old
refused_keeps true true r fault short none old new left told err kept = cc
refused_keeps true false r fault short none old new left told err kept = kept
refused_keeps false f r fault short none old new left told err kept = kept

-- the fault of a refusal goes out as it came
pub goes_out : (r out : Result Unit TransferFault) (fault : BlockFault) → IsErrAnd r (λ y. y ≡ Refused fault) → Err (Refused fault) ≡ out → r ≡ out
goes_out r out fault by e = let p = err_from_is_err_and r by in p.1 ∙ ap Err p.2 ∙ e
