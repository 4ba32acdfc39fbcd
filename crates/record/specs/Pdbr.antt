-- The page directory base register.
use Rattle.std.specs.Prelude.{ℕ}
use Rattle.record.specs.declared.pdbr.Pdbr.{Pdbr}

-- the word that it holds
abbrev pub pdbr_word : Pdbr → ℕ
pdbr_word p = p.base
