-- What a machine record holds, and how its mode and flags are set.
use Rattle.std.specs.Prelude.{ℕ, Bool, true, false, cond, not, List, [], replicate, slice_index, slice_set}
use Rattle.record.specs.Flags.{conditions_of, mode_of}
use Rattle.record.specs.Queue.{items}
use Rattle.record.specs.declared.machine.Record.{Record}
use Rattle.record.specs.declared.state.Control.{Control}
use Rattle.record.specs.declared.state.Core.{Core}
use Rattle.record.specs.declared.state.Mode.{Mode}
use Rattle.record.specs.declared.state.StackPair.{StackPair}

-- what a record holds, its queues as lists
pub record Contents : Type 0 where
  pub core : Core
  pub mode : Mode
  pub parked : StackPair
  pub control : Control
  pub keys : List ℕ
  pub tray : List ℕ

abbrev pub contents : Record → Contents
contents r =
    record { core = r.core; mode = r.mode; parked = r.parked; control = r.control; keys = items r.keys; tray = items r.tray }

-- the register of that number, of the mode that runs
abbrev pub register : Contents → ℕ → ℕ
register c i = slice_index c.core.regs i

-- SP and FP of the mode that runs
abbrev pub running_pair : Contents → StackPair
running_pair c = record { sp = register c 13; fp = register c 14 }

-- SYSSP and SYSFP
abbrev pub system_pair : Contents → StackPair
system_pair c = cond c.mode.system (running_pair c) c.parked

-- USRSP and USRFP
abbrev pub user_pair : Contents → StackPair
user_pair c = cond c.mode.system c.parked (running_pair c)

-- the other mode: the running pair and the parked one trade places
abbrev pub switched : Contents → Contents
switched c =
    record {
      core = record { regs = slice_set (slice_set c.core.regs 13 c.parked.sp) 14 c.parked.fp; conditions = c.core.conditions };
      mode = record { running = c.mode.running; system = not c.mode.system; in_interrupt = c.mode.in_interrupt; paging = c.mode.paging };
      parked = running_pair c;
      control = c.control;
      keys = c.keys;
      tray = c.tray;
    }

-- SYS on or off, with the pair of that mode
abbrev pub with_system : Contents → Bool → Contents
with_system c on = cond c.mode.system (cond on c (switched c)) (cond on (switched c) c)

-- the flags of a flags word, the pairs as they are
abbrev pub flagged : Contents → ℕ → Contents
flagged c f =
    record {
      core = record { regs = c.core.regs; conditions = conditions_of f };
      mode = mode_of f;
      parked = c.parked;
      control = c.control;
      keys = c.keys;
      tray = c.tray;
    }

-- every flag as a flags word has it, with the pair of the mode that it says
abbrev pub with_flags : Contents → ℕ → Contents
with_flags c f = flagged (with_system c (mode_of f).system) f

-- a fresh machine: R, SYS and IP on, all else zero
abbrev pub fresh_contents : Contents
fresh_contents =
    record {
      core = record { regs = replicate 16 0; conditions = record { z = false; n = false; err = false } };
      mode = record { running = true; system = true; in_interrupt = true; paging = false };
      parked = record { sp = 0; fp = 0 };
      control = record { pdbr = record { base = 0 }; intvec = 0; cgbr = 0; cglen = 0; debug = 0; timer = 0 };
      keys = [];
      tray = [];
    }
