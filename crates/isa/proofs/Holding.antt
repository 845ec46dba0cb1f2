-- What the registers hold.
use Rattle.std.proofs.Common.{◌≢◌, rules, arith}
use Rattle.std.proofs.lemmas.Grind.{common_steps}
use Rattle.std.proofs.lemmas.List.{get_or-replicate}
use Rattle.isa.specs.Registers.{register, written}
use Rattle.isa.specs.Laws.{Zero, Starts, Writes}
use Rattle.isa.proofs.Same.{below, same_register}

pub zero_holds : Zero
zero_holds rs = let f = rs.formed in search rules

pub starts : Starts
starts r = get_or-replicate 32 r.index 0 0 (below r)

pub writes : Writes
writes rs r value = record {
  back = λ ne.
      let formed = rs.formed in
      let small = below r in
      let not_zero : r.index ≢ 0 = λ e. ne (same_register r (register 0) e) in
      grind (arith, common_steps);
  zero = zero_holds (written rs r value);
  others = λ s ne.
      let other : s.index ≢ r.index = λ e. ne (same_register s r e) in
      grind (arith, common_steps);
}
