-- The instructions of Meant, worked out.
use Rattle.std.proofs.Common.{refl}
use Rattle.paging.specs.Entries.{flag}
use Rattle.paging.specs.Walks.{translated, walked}
use Rattle.hart.specs.Architecture.{architecture}
use Rattle.hart.specs.Meant.{Meant}

pub meant : Meant
unfolding flag walked translated architecture
meant = record {
  loads = record { lb = refl; lb_positive = refl; lbu = refl; lh = refl; lhu = refl; lhu_high = refl; lw = refl };
  stores = record { sb = refl; sh = refl; sw = refl };
  jumps = record { jal_link = refl; jal_target = refl; jalr_link = refl; jalr_target = refl; blt = refl };
  operations = record { auipc = refl; next = refl; sub = refl; sltiu = refl; rdcycle = refl; rdtime = refl; rdcycleh = refl };
  stops = record { illegal = refl; fetch_misaligned = refl; no_link = refl; stays = refl; branch_misaligned = refl; not_taken = refl; fetch_fault = refl; load_misaligned = refl; lhu_misaligned = refl; lw_misaligned = refl; lw_at_four = refl; load_fault = refl; keeps = refl; sh_misaligned = refl; sw_misaligned = refl; sw_at_four = refl; store_fault = refl };
}
