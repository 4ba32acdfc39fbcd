-- What a queue holds, and what a push does.
use Rattle.std.specs.Prelude.{ℕ, cond, List, [], ◌∷◌, ◌++◌, length, take, Ok, Err, Result, nat_lt}
use Rattle.record.specs.declared.queue.Full.{Full}
use Rattle.record.specs.declared.queue.Queue.{Queue}

-- the bytes that it holds, oldest first
abbrev pub items : Queue → List ℕ
items q = take q.len q.bytes

-- a queue of 64 bytes refuses
abbrev pub push_answer : List ℕ → Result Unit Full
push_answer xs = cond (nat_lt (length xs) 64) (Ok tt) (Err (record {}))

-- another takes the byte behind the others
abbrev pub after_push : List ℕ → ℕ → List ℕ
after_push xs byte = cond (nat_lt (length xs) 64) (xs ++ byte ∷ []) xs
