-- A card: its bits, what writing one leaves, and what reading bytes answers.
-- The layout: edition 4 bits, flags 7 from VM down to R, key count 7, tray count 7, the 24 words
-- of 32 bits, the keys and the tray characters of 8 bits each, oldest first, 7 zero bits.
use Rattle.std.specs.Prelude.{ℕ, zero, suc, ◌+◌, ◌*◌, cond, List, [], ◌∷◌, ◌++◌, length, take, drop, Ok, Err, Result, ◌==◌, nat_le, nat_lt}
use Rattle.card.specs.Bits.{bits, fields, pack, spelled, stream}
use Rattle.card.specs.Refusal.{told}
use Rattle.card.specs.declared.refusal.CardFault.{CardFault}
use Rattle.card.specs.declared.refusal.CardFault.TheVariants.{BytesEnd, WrongEdition, CountOver, BadPadding, LeftOver}
use Rattle.card.specs.declared.refusal.CardRefusal.{CardRefusal}
use Rattle.card.specs.declared.refusal.WriterRefusal.{WriterRefusal}
use Rattle.card.specs.declared.refusal.WriterRefusal.TheVariants.{NoPlace}
use Rattle.record.specs.View.{View}

-- the bits of a card
unfoldable pub card_bits : View → List ℕ
card_bits v =
    bits 4 1 ++ (bits 7 v.flags ++ (bits 7 (length v.keys) ++ (bits 7 (length v.tray)
    ++ (fields 32 v.words ++ (fields 8 v.keys ++ (fields 8 v.tray ++ bits 7 0))))))

-- its bytes
abbrev pub card : View → List ℕ
card v = pack (card_bits v)

-- how many those are: 100, and one for each key and tray character
abbrev pub size : View → ℕ
size v = 100 + length v.keys + length v.tray

-- writing answers the length, or refuses where the buffer is too short and leaves it as it is
abbrev pub write_answer : View → List ℕ → Result ℕ WriterRefusal
write_answer v out = cond (nat_le (size v) (length out)) (Ok (size v)) (Err NoPlace)

abbrev pub after_write : View → List ℕ → List ℕ
after_write v out = cond (nat_le (size v) (length out)) (card v ++ drop (size v) out) out

-- one thing after the other, up to the first refusal
abbrev pub then : {A B E : Type 0} → Result A E → (A → Result B E) → Result B E
then (Ok x) f = f x
then (Err e) f = Err e

abbrev pub mapped : {A B E : Type 0} → (A → B) → Result A E → Result B E
mapped f (Ok x) = Ok (f x)
mapped f (Err e) = Err e

abbrev pub refused : {A : Type 0} → CardFault → ℕ → Result A CardRefusal
refused fault bit = Err (told fault bit)

abbrev pub accepted : Result Unit CardRefusal
accepted = Ok tt

-- the field of w bits at p in a stream of bits
abbrev pub field : List ℕ → ℕ → ℕ → Result ℕ CardRefusal
field s p w = cond (nat_le (p + w) (length s)) (Ok (spelled 0 (take w (drop p s)))) (refused BytesEnd p)

-- n fields of w bits from p on, behind those in front
unfoldable pub gather : List ℕ → List ℕ → ℕ → ℕ → ℕ → Result (List ℕ) CardRefusal
gather front s p w zero = Ok front
gather front s p w (suc n) = then (field s p w) (λ v. gather (front ++ v ∷ []) s (p + w) w n)

abbrev pub edition : List ℕ → Result Unit CardRefusal
edition s = then (field s 0 4) (λ e. cond (e == 1) accepted (refused WrongEdition 0))

abbrev pub count : List ℕ → ℕ → Result ℕ CardRefusal
count s p = then (field s p 7) (λ n. cond (nat_lt 64 n) (refused CountOver p) (Ok n))

-- seven zeros, and nothing behind them
abbrev pub ending : List ℕ → ℕ → Result Unit CardRefusal
ending s p =
    then (field s p 7) (λ z. cond (z == 0) (cond (nat_lt (p + 7) (length s)) (refused LeftOver (p + 7)) accepted) (refused BadPadding p))

-- a card read from a stream of bits, field by field
abbrev pub read_bits : List ℕ → Result View CardRefusal
read_bits s =
    then (edition s) (λ _.
    then (field s 4 7) (λ f.
    then (count s 11) (λ k.
    then (count s 18) (λ t.
    then (gather [] s 25 32 24) (λ ws.
    then (gather [] s 793 8 k) (λ ks.
    then (gather [] s (793 + 8 * k) 8 t) (λ ts.
    then (ending s (793 + 8 * k + 8 * t)) (λ _.
    Ok (record { words = ws; flags = f; keys = ks; tray = ts })))))))))

-- and from bytes
abbrev pub read : List ℕ → Result View CardRefusal
read bytes = read_bits (stream bytes)
