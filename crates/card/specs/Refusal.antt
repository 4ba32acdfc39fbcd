-- The numbers of the refusals, and a fault with its bit.
use Rattle.std.specs.Prelude.{ℕ}
use Rattle.card.specs.declared.refusal.CardFault.{CardFault}
use Rattle.card.specs.declared.refusal.CardFault.TheVariants.{BytesEnd, WrongEdition, CountOver, BadPadding, LeftOver}
use Rattle.card.specs.declared.refusal.CardRefusal.{CardRefusal}
use Rattle.card.specs.declared.refusal.WriterRefusal.{WriterRefusal}
use Rattle.card.specs.declared.refusal.WriterRefusal.TheVariants.{NoPlace, BadField}

abbrev pub writer_number : WriterRefusal → ℕ
writer_number NoPlace = 12
writer_number BadField = 13

abbrev pub card_number : CardFault → ℕ
card_number BytesEnd = 14
card_number WrongEdition = 15
card_number CountOver = 16
card_number BadPadding = 17
card_number LeftOver = 18

-- a fault at the field that begins with this bit
abbrev pub told : CardFault → ℕ → CardRefusal
told fault bit = record { fault = fault; bit = bit }
