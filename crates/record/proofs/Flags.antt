-- The flags word and the flags, there and back.
use Rattle.std.proofs.Common.{◌≡◌, ℕ, ◌/◌, ◌%◌, ◌<◌, Bool, true, false, eqb, refl, arith}
use Rattle.std.proofs.lemmas.Bool.Decides.{nat_tests}
use Rattle.record.specs.Flags.{one_if, flags_from, conditions_of, mode_of}
use Rattle.record.specs.declared.state.Conditions.{Conditions}
use Rattle.record.specs.declared.state.Mode.{Mode}

one_back : (b : Bool) (n : ℕ) → n ≡ one_if b → eqb n 1 ≡ b
one_back true n e = rw e refl
one_back false n e = rw e refl

one_small : (b : Bool) → one_if b < 2
one_small true = omega arith
one_small false = omega arith

one_bit : (n : ℕ) → one_if (eqb (n % 2) 1) ≡ n % 2
one_bit n = grind (arith, nat_tests)

-- the seven low bits of a word are what its flags make
pub flags_there : (f : ℕ) → flags_from (conditions_of f) (mode_of f) ≡ f % 128
flags_there f =
    let a = one_bit f in let b = one_bit (f / 2) in let c = one_bit (f / 4) in let d = one_bit (f / 8) in
    let e = one_bit (f / 16) in let g = one_bit (f / 32) in let h = one_bit (f / 64) in omega arith

pub flags_back : (c : Conditions) (m : Mode) → (conditions_of (flags_from c m) ≡ c) × (mode_of (flags_from c m) ≡ m)
flags_back c m =
    let k0 = one_small m.running in let k1 = one_small c.z in let k2 = one_small c.n in let k3 = one_small c.err in
    let k4 = one_small m.system in let k5 = one_small m.in_interrupt in let k6 = one_small m.paging in
    let f = flags_from c m in
    let p0 = one_back m.running (f % 2) (omega arith) in
    let p1 = one_back c.z (f / 2 % 2) (omega arith) in
    let p2 = one_back c.n (f / 4 % 2) (omega arith) in
    let p3 = one_back c.err (f / 8 % 2) (omega arith) in
    let p4 = one_back m.system (f / 16 % 2) (omega arith) in
    let p5 = one_back m.in_interrupt (f / 32 % 2) (omega arith) in
    let p6 = one_back m.paging (f / 64 % 2) (omega arith) in
    (λ i. record { z = p1 i; n = p2 i; err = p3 i }, λ i. record { running = p0 i; system = p4 i; in_interrupt = p5 i; paging = p6 i })
