use Rattle.std.proofs.Common.{◌<◌, arith, sym, ◌∙◌}
use Rattle.makes.proofs.Slots.{found_is}
use Rattle.makes.proofs.sparse.SparseShelf.read.Goals as goal
use Rattle.shelf.specs.Plan.{size_of}
use Rattle.std.proofs.lemmas.Bool.{ltb-true}

pub get-requires : goal.get-requires
get-requires c =
    let h : c.args.at.block < size_of c.args.self.now.plan.sizes c.args.at.drive = ltb-true _ _ (sym c.has.ensures ∙ c.if-not-has.false) in
    let r = c.args.self.now.room c.args.at.drive c.args.at.block h in
    let f = found_is c.args.self.now.slots.now c.args.at.drive c.args.at.block c.in-Some.slot (sym c.in-Some.ensures) in
    omega arith
