-- The published form of a machine record: twenty-four words, the flags word, keys and tray.
use Rattle.std.specs.Prelude.{◌≡◌, ℕ, ◌%◌, Bool, cond, not, List, [], ◌∷◌, ◌++◌, take, replicate, slice_index}
use Rattle.record.specs.Contents.{Contents, contents, register, system_pair, user_pair}
use Rattle.record.specs.Flags.{flags_from, conditions_of, mode_of}
use Rattle.record.specs.Pdbr.{pdbr_word}
use Rattle.record.specs.declared.machine.Record.{Record}
use Rattle.record.specs.declared.state.Conditions.{Conditions}
use Rattle.record.specs.declared.state.Control.{Control}
use Rattle.record.specs.declared.state.Mode.{Mode}
use Rattle.record.specs.declared.state.StackPair.{StackPair}

-- R0 to R12, PC, SYSSP, SYSFP, USRSP, USRFP, PDBR, INTVEC, CGBR, CGLEN, DEBUG, TIMER
abbrev pub words : Contents → List ℕ
words c =
    take 13 c.core.regs
    ++ (register c 15
    ∷ (system_pair c).sp ∷ (system_pair c).fp ∷ (user_pair c).sp ∷ (user_pair c).fp
    ∷ pdbr_word c.control.pdbr ∷ c.control.intvec ∷ c.control.cgbr ∷ c.control.cglen ∷ c.control.debug ∷ c.control.timer ∷ [])

abbrev pub flags_word : Contents → ℕ
flags_word c = flags_from c.core.conditions c.mode

pub record View : Type 0 where
  pub words : List ℕ
  pub flags : ℕ
  pub keys : List ℕ
  pub tray : List ℕ

abbrev pub view : Contents → View
view c = record { words = words c; flags = flags_word c; keys = c.keys; tray = c.tray }

-- the same but for the flags, which are a word's seven low bits
abbrev pub view_with_flags : View → ℕ → View
view_with_flags v f = record { words = v.words; flags = f % 128; keys = v.keys; tray = v.tray }

-- a fresh machine: bits 0, 4 and 5 of the flags, all else zero
abbrev pub fresh_view : View
fresh_view = record { words = replicate 24 0; flags = 49; keys = []; tray = [] }

-- among words in that order: SYSSP and SYSFP, or USRSP and USRFP
abbrev pub pair_of : List ℕ → Bool → StackPair
pair_of ws system = cond system (record { sp = slice_index ws 14; fp = slice_index ws 15 }) (record { sp = slice_index ws 16; fp = slice_index ws 17 })

-- PDBR to TIMER
abbrev pub control_of : List ℕ → Control
control_of ws =
    record { pdbr = record { base = slice_index ws 18 }; intvec = slice_index ws 19; cgbr = slice_index ws 20; cglen = slice_index ws 21; debug = slice_index ws 22; timer = slice_index ws 23 }

-- R0 to R12, that pair, and PC
abbrev pub registers_of : List ℕ → StackPair → List ℕ
registers_of ws pair = take 13 ws ++ (pair.sp ∷ pair.fp ∷ slice_index ws 13 ∷ [])

-- what a record of these words and flags holds
abbrev pub arranged : List ℕ → Conditions → Mode → List ℕ → List ℕ → Contents
arranged ws c m keys tray =
    record {
      core = record { regs = registers_of ws (pair_of ws m.system); conditions = c };
      mode = m;
      parked = pair_of ws (not m.system);
      control = control_of ws;
      keys = keys;
      tray = tray;
    }

abbrev pub contents_of : View → Contents
contents_of v = arranged v.words (conditions_of v.flags) (mode_of v.flags) v.keys v.tray

-- two records with equal words, flags, keys and tray are equal values
abbrev pub ViewsTell : Type 0
ViewsTell = (a b : Record) → view (contents a) ≡ view (contents b) → a ≡ b
