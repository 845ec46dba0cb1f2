-- What is left to show of `low_bits`.
use Rattle.std.proofs.Common.{◌^◌, ◌<◌, ◌≤◌, sym, mod-eq_of_lt, arith, pow_mono}
use Rattle.std.proofs.lemmas.Nat.{one_shl, and_mask}
use Rattle.words.proofs.bits.low_bits.Goals as goal

pub returns-in-Some : goal.returns-in-Some
returns-in-Some c = let is = c.in-Some.ensures in rw (is.1, one_shl c.args.count 32 is.0) (and_mask c.args.word c.args.count)

pub returns-in-None : goal.returns-in-None
returns-in-None c =
    let l : 32 ≤ c.args.count = omega (arith, c.in-None.ensures) in
    let p : 2 ^ 32 ≤ 2 ^ c.args.count = pow_mono l in
    sym (mod-eq_of_lt (let h : c.args.word < 2 ^ c.args.count = omega arith in h))
