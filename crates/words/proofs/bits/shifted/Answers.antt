-- What is left to show of `shifted`.
use Rattle.std.proofs.Common.{◌≡◌, ℕ, ◌/◌, ◌^◌, ◌<◌, ◌≤◌, ◌∙◌, sym, Option, Some, None, arith, pow_mono}
use native.Mathlib.Nat.{div-eq_of_lt}
use Rattle.std.specs.Option.{SomeIff, unwrap_or}
use Rattle.words.proofs.bits.shifted.Goals as goal

-- a shift by 32 or more leaves nothing of a word
shifted : (word low : ℕ) (o : Option ℕ) → word < 2 ^ 32 → SomeIff o (low < 32) (word / 2 ^ low) → unwrap_or o 0 ≡ word / 2 ^ low
shifted word low (Some x) fits s = s.1
shifted word low None fits s =
    let l : 32 ≤ low = omega (arith, s) in
    let p : 2 ^ 32 ≤ 2 ^ low = pow_mono l in
    sym (div-eq_of_lt (let h : word < 2 ^ low = omega arith in h))

pub returns : goal.returns
returns c = c.unwrap_or.ensures ∙ shifted c.args.word c.args.low c.checked_shr.result (omega arith) c.checked_shr.ensures
