use Rattle.std.proofs.Common.{◌≡◌, ℕ, length, replicate, ap, ◌∙◌}
use Rattle.makes.proofs.Sparsely.{sparse_makes}
use Rattle.makes.proofs.sparse.Sparse.new.Goals as goal
use Rattle.makes.specs.Slot.{idle}
use Rattle.makes.specs.Sparse.{sparse_check}
use Rattle.std.proofs.lemmas.List.{length-replicate}

pub returns-clause-made : goal.returns-clause-made
returns-clause-made c =
    let cleared : c.fill.new.self ≡ replicate (length c.args.slots.now) idle
    = c.fill.ensures.after (λ y e. e) ∙ ap (replicate (length c.args.slots.now)) c.idle.ensures in
    let long : length c.fill.new.self ≡ length c.args.slots.now = ap length cleared ∙ length-replicate (length c.args.slots.now) idle in
    let checked : c.check-checked.result ≡ sparse_check c.args.plan.now.sizes (length c.args.slots.now) (length c.args.words.now)
    = c.check-checked.ensures ∙ ap (λ (n : ℕ). sparse_check c.args.plan.now.sizes n (length c.args.words.now)) long in
    sparse_makes c.args.plan.now.sizes (length c.args.slots.now) (length c.args.words.now) c.check-checked.result c.kept_plan.result.sizes c.fill.new.self c.new.result.words.now checked c.kept_plan.ensures cleared
