use Rattle.makes.proofs.Slots.{kept_apart}
use Rattle.makes.proofs.sparse.Sparse.claim.Goals as goal
use Rattle.makes.specs.Slot.{taken}
use Rattle.std.proofs.Common.{sym, arith}
use Rattle.std.proofs.lemmas.List.{length-set}

pub invariant_of-self-clause-apart : goal.invariant_of-self-clause-apart
invariant_of-self-clause-apart c =
    kept_apart c.args.self.now.slots.now c.args.at.drive c.args.at.block c.in_ok-slot.slot c.args.self.now.apart (sym c.in_ok-slot.ensures)

pub invariant_of-self-clause-room : goal.invariant_of-self-clause-room
invariant_of-self-clause-room c = λ d b h.
    let r = c.args.self.now.room d b h in
    omega (arith, length-set c.args.self.now.slots.now c.in_ok-slot.slot (taken c.args.at.drive c.args.at.block))
