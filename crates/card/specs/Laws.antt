-- What writing and reading cards keep.
use Rattle.std.specs.Prelude.{◌≡◌, ℕ, ◌^◌, ◌<◌, ◌≤◌, cond, List, ◌++◌, length, drop, Ok, Err, Result, nat_le, slice_index}
use Rattle.card.specs.Bits.{AllBytes}
use Rattle.card.specs.Card.{card, read, size}
use Rattle.card.specs.declared.refusal.CardRefusal.{CardRefusal}
use Rattle.card.specs.declared.refusal.CopyRefusal.{CopyRefusal}
use Rattle.card.specs.declared.refusal.CopyRefusal.TheVariants.{Unread, Unwritten}
use Rattle.card.specs.declared.refusal.WriterRefusal.{WriterRefusal}
use Rattle.card.specs.declared.refusal.WriterRefusal.TheVariants.{NoPlace}
use Rattle.record.specs.Contents.{contents}
use Rattle.record.specs.View.{View, view}
use Rattle.record.specs.declared.machine.Record.{Record}

-- what the published form of every machine record is
pub record Proper (v : View) : Type 0 where
  pub all : length v.words ≡ 24
  pub flagged : v.flags < 128
  pub keyed : length v.keys ≤ 64
  pub trayed : length v.tray ≤ 64
  pub words_fit : (i : ℕ) → slice_index v.words i < 2 ^ 32
  pub keys_fit : (i : ℕ) → slice_index v.keys i < 2 ^ 8
  pub tray_fits : (i : ℕ) → slice_index v.tray i < 2 ^ 8

-- a card that is written reads back as what was written
abbrev pub ReadsBack : Type 0
ReadsBack = (v : View) → Proper v → read (card v) ≡ Ok v

-- bytes that read as a card are that card: no two cards mean one record
abbrev pub WritesBack : Type 0
WritesBack = (bytes : List ℕ) (v : View) → AllBytes bytes → read bytes ≡ Ok v → card v ≡ bytes

-- the card's length and the same record, where the card has a place
abbrev pub checked_answer : Record → List ℕ → Result (ℕ × Record) WriterRefusal
checked_answer r out = cond (nat_le (size (view (contents r))) (length out)) (Ok (size (view (contents r)), r)) (Err NoPlace)

-- copying answers the length of the bytes, if they read as a card and have a place
abbrev pub copy_answer : Result View CardRefusal → List ℕ → List ℕ → Result ℕ CopyRefusal
copy_answer (Ok v) bytes out = cond (nat_le (length bytes) (length out)) (Ok (length bytes)) (Err (Unwritten NoPlace))
copy_answer (Err e) bytes out = Err (Unread e)

-- and then leaves the same bytes
abbrev pub after_copy : Result View CardRefusal → List ℕ → List ℕ → List ℕ
after_copy (Ok v) bytes out = cond (nat_le (length bytes) (length out)) (bytes ++ drop (length bytes) out) out
after_copy (Err e) bytes out = out
