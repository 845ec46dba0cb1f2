-- What a page leads to, and what it maps to.
use Rattle.std.proofs.Common.{ℕ, List}
use Rattle.paging.specs.declared.leaf.Leaf.{Leaf}
use Rattle.paging.specs.Tables.{References}
use Rattle.checker.specs.Lawful.{Leads, LeadsMaps}

pub named_leaf : (words : List ℕ) (root page : ℕ) (leaf : Leaf) → Leads words root page leaf → References words root leaf.frame
named_leaf words root page leaf h = record {
  table = h.table;
  by = record { at = h.high; within = h.high_below; points = h.points };
  at = h.low;
  within = h.low_below;
  valid = h.leads.valid;
  references = h.leads.frame;
}

pub leads_maps : LeadsMaps
leads_maps words root page leaf = record {
  maps = λ h lent. record {
    high = h.high;
    low = h.low;
    table = h.table;
    high_below = h.high_below;
    low_below = h.low_below;
    number = h.number;
    points = h.points;
    leads = h.leads;
    root_there = h.root_there;
    table_there = h.table_there;
    frame_there = record { below = h.frame_below; lent = lent };
  };
  leads = λ m. record {
    high = m.high;
    low = m.low;
    table = m.table;
    high_below = m.high_below;
    low_below = m.low_below;
    number = m.number;
    points = m.points;
    leads = m.leads;
    root_there = m.root_there;
    table_there = m.table_there;
    frame_below = m.frame_there.below;
  };
}
