use Rattle.std.proofs.Common.{◌*◌, ◌≤◌, length, sum, sym, ap, ◌∙◌, subst}
use Rattle.makes.proofs.Densely.{dense_makes, dense_room}
use Rattle.makes.proofs.dense.Dense.new.Goals as goal
use Rattle.makes.specs.Dense.{dense}

pub invariant_of-result : goal.invariant_of-result
invariant_of-result c =
    let room = dense_room c.args.plan.now.sizes (length c.args.words.now) c.check-checked.result c.kept_plan.result.sizes c.check-checked.ensures c.kept_plan.ensures in
    record {
      enough = subst (λ xs. 128 * sum c.kept_plan.result.sizes ≤ length xs) (sym c.new.ensures.same) room;
    }

pub returns-clause-made : goal.returns-clause-made
returns-clause-made c =
    ap (dense c.kept_plan.result.sizes) c.new.ensures.same ∙ dense_makes c.args.plan.now.sizes c.args.words.now c.check-checked.result c.kept_plan.result.sizes c.check-checked.ensures c.kept_plan.ensures
