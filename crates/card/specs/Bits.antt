-- Bits, most significant first, and the bytes that they make.
use Rattle.std.specs.Prelude.{ℕ, zero, suc, ◌+◌, ◌*◌, ◌/◌, ◌%◌, ◌^◌, ◌<◌, List, [], ◌∷◌, ◌++◌, slice_index}

-- the low w bits of v, most significant first
unfoldable pub bits : ℕ → ℕ → List ℕ
bits zero v = []
bits (suc w) v = v / 2 ^ w % 2 ∷ bits w v

-- values of w bits each, one after the other
unfoldable pub fields : ℕ → List ℕ → List ℕ
fields w [] = []
fields w (v ∷ vs) = bits w v ++ fields w vs

-- the bits of bytes
abbrev pub stream : List ℕ → List ℕ
stream bytes = fields 8 bytes

-- the number that `from` and the bits behind it spell
unfoldable pub spelled : ℕ → List ℕ → ℕ
spelled from [] = from
spelled from (b ∷ bs) = spelled (from * 2 + b) bs

-- the full bytes that bits make
unfoldable pub pack : List ℕ → List ℕ
pack [] = []
pack (a ∷ []) = []
pack (a ∷ b ∷ []) = []
pack (a ∷ b ∷ c ∷ []) = []
pack (a ∷ b ∷ c ∷ d ∷ []) = []
pack (a ∷ b ∷ c ∷ d ∷ e ∷ []) = []
pack (a ∷ b ∷ c ∷ d ∷ e ∷ f ∷ []) = []
pack (a ∷ b ∷ c ∷ d ∷ e ∷ f ∷ g ∷ []) = []
pack (a ∷ b ∷ c ∷ d ∷ e ∷ f ∷ g ∷ h ∷ rest) = (128 * a + 64 * b + 32 * c + 16 * d + 8 * e + 4 * f + 2 * g + h) ∷ pack rest

-- each is 0 or 1
abbrev pub AllBits : List ℕ → Type 0
AllBits [] = Unit {0}
AllBits (b ∷ bs) = (b < 2) × AllBits bs

-- each is a byte
abbrev pub AllBytes : List ℕ → Type 0
AllBytes bytes = (i : ℕ) → slice_index bytes i < 256
