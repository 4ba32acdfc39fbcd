-- The bit writer: what it holds, and what put, finish and strike make of that.
use Rattle.std.specs.Prelude.{◌≡◌, ℕ, ◌+◌, ◌-◌, ◌*◌, ◌/◌, ◌%◌, ◌^◌, ◌<◌, ◌≤◌, Bool, cond, ◌&&◌, List, [], ◌∷◌, ◌++◌, length, drop, Ok, Err, Result, nat_le, nat_lt, slice_set}
use Rattle.std.specs.Borrow.{GName}
use Rattle.card.specs.Bits.{bits, pack, AllBits}
use Rattle.card.specs.declared.place.Place.{Place}
use Rattle.card.specs.declared.refusal.WriterRefusal.{WriterRefusal}
use Rattle.card.specs.declared.refusal.WriterRefusal.TheVariants.{NoPlace, BadField}
use Rattle.card.specs.declared.writer.BitWriter.{BitWriter}

-- the buffer, how many of its bytes are full, the pending bits as a number, and how many those are
pub record State : Type 0 where
  pub out : List ℕ
  pub full : ℕ
  pub pending : ℕ
  pub count : ℕ

-- a writer that has put nothing
abbrev pub start : List ℕ → State
start out = record { out = out; full = 0; pending = 0; count = 0 }

-- one bit more: the eighth stores the byte
abbrev pub step : State → ℕ → State
step s b =
    cond (nat_lt s.count 7)
    (record { out = s.out; full = s.full; pending = s.pending * 2 + b; count = s.count + 1 })
    (record { out = slice_set s.out s.full (s.pending * 2 + b); full = s.full + 1; pending = 0; count = 0 })

unfoldable pub run : State → List ℕ → State
run s [] = s
run s (b ∷ bs) = run (step s b) bs

-- there is a place for each byte that w more bits fill
abbrev pub room : State → ℕ → Bool
room s w = nat_le (s.full + (s.count + w) / 8) (length s.out)

-- the width is 1 to 32, and the value fits in it
abbrev pub narrow : ℕ → ℕ → Bool
narrow v w = nat_lt 0 w && (nat_le w 32 && nat_lt v (2 ^ w))

abbrev pub put_answer : State → ℕ → ℕ → Result Unit WriterRefusal
put_answer s v w = cond (narrow v w) (cond (room s w) (Ok tt) (Err NoPlace)) (Err BadField)

abbrev pub after_put : State → ℕ → ℕ → State
after_put s v w = cond (narrow v w && room s w) (run s (bits w v)) s

-- how many zeros fill the last byte
abbrev pub padding : State → ℕ
padding s = (8 - s.count) % 8

abbrev pub finish_answer : State → Result ℕ WriterRefusal
finish_answer s = cond (room s (padding s)) (Ok (run s (bits (padding s) 0)).full) (Err NoPlace)

abbrev pub after_finish : State → List ℕ
after_finish s = cond (room s (padding s)) (run s (bits (padding s) 0)).out s.out

-- a place in a buffer
abbrev pub within : List ℕ → Place → State
within out p = record { out = out; full = p.full; pending = p.pending; count = p.count }

-- what a writer holds
abbrev pub state : BitWriter → State
state w = within w.out.now w.place

-- which buffer it was lent
abbrev pub lent : BitWriter → GName
lent w = w.out.ghost_name

-- there is a place for n more bits, and fewer than eight are pending
pub record Ready (s : State) (n : ℕ) : Type 0 where
  pub few : s.count < 8
  pub place : 8 * s.full + s.count + n < 8 * length s.out + 8

-- n bits lie between the two states
pub record Moved (s t : State) (n : ℕ) : Type 0 where
  pub few : t.count < 8
  pub total : 8 * t.full + t.count ≡ 8 * s.full + s.count + n
  pub long : length t.out ≡ length s.out

-- bits put into a buffer leave their full bytes at its front, and what stood behind those
abbrev pub PutsPack : Type 0
PutsPack =
    (out bs : List ℕ) → AllBits bs → length (pack bs) ≤ length out → (run (start out) bs).out ≡ pack bs ++ drop (length (pack bs)) out
