use Rattle.std.proofs.Common.{◌≡◌, ◌+◌, ◌*◌, drop}
use Rattle.transfer.proofs.span.Span.scatter.Given as goal
use Rattle.transfer.specs.Span.{scattered}

-- the words that are left make the whole
abbrev pub invariant-loop-j : goal.invariant-loop-j
invariant-loop-j l = scattered l.memory l.self (128 * l.i + l.j) (drop l.j l.block) ≡ scattered l.initial.memory l.self (128 * l.i) l.block
