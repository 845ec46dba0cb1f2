-- What is left to show of `replace`.
use Rattle.std.proofs.Common.{◌≡◌, ℕ, ◌+◌, ◌*◌, ◌/◌, ◌%◌, ◌^◌, ◌<◌, ◌≤◌, refl, mod-eq_of_lt, arith, rules}
use Rattle.std.proofs.lemmas.Nat.{mod_below, pow_pos}
use Rattle.words.specs.Bits.{field}
use Rattle.hart.proofs.Replacing.{Replaces, replaces}
use Rattle.hart.proofs.memory.replace.Goals as goal

-- what the two shifts give, where nothing is shifted out
shifted : (word shift count value old new : ℕ) → word < 2 ^ 32 → shift + count ≤ 32 → old ≡ field word shift count → new ≡ field value 0 count →
    (old * 2 ^ shift % 4294967296 ≡ field word shift count * 2 ^ shift) × (new * 2 ^ shift % 4294967296 ≡ field value 0 count * 2 ^ shift) × Replaces word shift count (field value 0 count)
shifted word shift count value old new fits room o n =
    let r = replaces word shift count (field value 0 count) fits room (mod_below (value / 2 ^ 0) (2 ^ count) (pow_pos count)) in
    let part : field word shift count * 2 ^ shift < 2 ^ 32 = omega (arith, r.part) in
    (rw (o, mod-eq_of_lt part), rw (n, mod-eq_of_lt r.value_below), r)

pub overflow_sub-result : goal.overflow_sub-result
overflow_sub-result c =
    let s = shifted c.args.word c.args.shift c.args.count 0 c.bits.result (field 0 0 c.args.count) (omega arith) (omega arith) c.bits.ensures refl in
    omega (arith, s.0, s.2.part)

pub overflow_add-result : goal.overflow_add-result
overflow_add-result c =
    let s = shifted c.args.word c.args.shift c.args.count c.args.value c.bits.result c.bits-2.result (omega arith) (omega arith) c.bits.ensures c.bits-2.ensures in
    rw (s.0, s.1) (search (rules, s.2.below))

pub returns : goal.returns
returns c =
    let s = shifted c.args.word c.args.shift c.args.count c.args.value c.bits.result c.bits-2.result (omega arith) (omega arith) c.bits.ensures c.bits-2.ensures in
    rw (s.0, s.1)
