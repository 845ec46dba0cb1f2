-- What a change of words keeps: as long as roots and tables stay, so do walks, ownership and acceptance.
use Rattle.std.proofs.Common.{◌≡◌, ℕ, ◌<◌, Bool, true, false, List, length, Ok, sym, refl, ap, ◌∙◌, inl, inr, arith}
use Rattle.words.specs.Frames.{lent, word}
use Rattle.paging.specs.declared.leaf.Leaf.{Leaf}
use Rattle.paging.specs.Entries.{frame_of}
use Rattle.paging.specs.Mapping.{InMemory, Maps}
use Rattle.paging.specs.Tables.{References, SameTables}
use Rattle.paging.proofs.Agree.{kernel_there, names_back, tables_back}
use Rattle.plan.specs.declared.model.Endpoint.{Endpoint}
use Rattle.plan.specs.declared.model.Plan.{Plan}
use Rattle.plan.specs.Format.{plan_of}
use Rattle.plan.specs.Rules.{channel}
use Rattle.plan.proofs.Rows.{rows_below}
use Rattle.checker.specs.declared.Accepted.{Accepted}
use Rattle.checker.specs.declared.pages.ChannelFrames.{ChannelFrames}
use Rattle.checker.specs.Checked.{accepted, checked}
use Rattle.checker.specs.Found.{Lawful, Separate}
use Rattle.checker.specs.Lawful.{Conflict, Formed, Joins, Leads, Lent, PagesFit, Usable, root}
use Rattle.checker.specs.Pages.{frames_or_none, no_frames}
use Rattle.checker.proofs.Joined.{frames_kept}
use Rattle.checker.proofs.Judged.{accepted_sound, lawful_accepted}
use Rattle.checker.proofs.Leading.{leads_maps}

same_more : (ws vs us : List ℕ) (r : ℕ) → SameTables ws vs r → SameTables vs us r → SameTables ws us r
same_more ws vs us r a b f k o l = b f k (kernel_there ws vs r a f o) l ∙ a f k o l

-- of all partitions of a plan: as many words, and the same roots and tables
pub record Kept (p : Plan) (ws vs : List ℕ) : Type 0 where
  pub as_many : length vs ≡ length ws
  pub tables : (q : ℕ) → q < p.counts.partitions → SameTables ws vs (root p q)

pub kept_none : (p : Plan) (ws : List ℕ) → Kept p ws ws
kept_none p ws = record { as_many = refl; tables = λ q l f k o b. refl }

pub kept_more : (p : Plan) (ws vs us : List ℕ) → Kept p ws vs → Kept p vs us → Kept p ws us
kept_more p ws vs us a b = record { as_many = b.as_many ∙ a.as_many; tables = λ q l. same_more ws vs us (root p q) (a.tables q l) (b.tables q l) }

kept_back : (p : Plan) (ws vs : List ℕ) → Kept p ws vs → Kept p vs ws
kept_back p ws vs k = record { as_many = sym k.as_many; tables = λ q l. tables_back ws vs (root p q) (k.tables q l) }

-- a change that leaves all frames but those of one partition leaves the tables of all
pub others_kept : (p : Plan) (ws vs : List ℕ) (who : ℕ) → who < p.counts.partitions → Separate ws p →
    ((f k : ℕ) → (References ws (root p who) f → ⊥) → k < 1024 → word vs f k ≡ word ws f k) → length vs ≡ length ws → Kept p ws vs
others_kept p ws vs who kn sep others long =
    record { as_many = long; tables = λ q l f k o b. others f k (λ n. sep.hidden who q f kn l n o) b }

module _ (p : Plan) (ws vs : List ℕ) (kept : Kept p ws vs) where
  pub kept_lent : (f : ℕ) → lent vs f ≡ lent ws f
  kept_lent f = rw kept.as_many

  there : (f : ℕ) → Lent ws f → Lent vs f
  there f l = omega (arith, kept.as_many)

  in_memory : (f : ℕ) → InMemory ws f → InMemory vs f
  in_memory f m = record { below = m.below; lent = there f m.lent }

  module _ (q : ℕ) (l : q < p.counts.partitions) where
    same : SameTables ws vs (root p q)
    same = kept.tables q l

    formed_kept : Formed ws (root p q) → Formed vs (root p q)
    formed_kept form = record {
      there = there (root p q) form.there;
      entries = λ k b.
          let e = form.entries k b in
          rw (same (root p q) k (inl refl) b) (record {
            points = e.points;
            there = λ v. in_memory _ (e.there v);
            formed = λ v j lj. rw (same (frame_of (word ws (root p q) k)) j (inr (record { at = k; within = b; points = e.points v })) lj) (e.formed v j lj);
          });
    }

    leads_kept : (page : ℕ) (leaf : Leaf) → Leads ws (root p q) page leaf → Leads vs (root p q) page leaf
    leads_kept page leaf d = record {
      high = d.high;
      low = d.low;
      table = d.table;
      high_below = d.high_below;
      low_below = d.low_below;
      number = d.number;
      points = rw (same (root p q) d.high (inl refl) d.high_below) d.points;
      leads = rw (same d.table d.low (inr (record { at = d.high; within = d.high_below; points = d.points })) d.low_below) d.leads;
      root_there = in_memory _ d.root_there;
      table_there = in_memory _ d.table_there;
      frame_below = d.frame_below;
    }

    pub maps_kept : (page : ℕ) (leaf : Leaf) → Maps ws (root p q) page leaf → Maps vs (root p q) page leaf
    maps_kept page leaf m = (leads_maps vs (root p q) page leaf).maps (leads_kept page leaf ((leads_maps ws (root p q) page leaf).leads m)) (there leaf.frame m.frame_there.lent)

  usable_kept : (end : Endpoint) (receives : Bool) (f : ℕ) → end.partition < p.counts.partitions → Usable ws p end receives f → Usable vs p end receives f
  usable_kept end receives f l u = record {
    leaf = u.leaf;
    leads = leads_kept end.partition l end.page u.leaf u.leads;
    readable = u.readable;
    not_writable = u.not_writable;
    frame_is = u.frame_is;
  }

  -- channels between partitions of the plan
  joins_kept : (k : ℕ) (ends : ChannelFrames) → (channel p k).sender.partition < p.counts.partitions → (channel p k).receiver.partition < p.counts.partitions → Joins ws p k ends → Joins vs p k ends
  joins_kept k ends a b j = record { sender = usable_kept (channel p k).sender false ends.sender a j.sender; receiver = usable_kept (channel p k).receiver true ends.receiver b j.receiver }

-- the rules still hold, and the checker's answer is the same
module _ (bytes ws vs : List ℕ) (kept : Kept (plan_of bytes) ws vs) (law : Lawful bytes ws) where
  back : Kept (plan_of bytes) vs ws
  back = kept_back (plan_of bytes) ws vs kept

  sender_known : (k : ℕ) → k < (plan_of bytes).counts.channels → (channel (plan_of bytes) k).sender.partition < (plan_of bytes).counts.partitions
  sender_known k l = (law.plan.channels k l).0

  receiver_known : (k : ℕ) → k < (plan_of bytes).counts.channels → (channel (plan_of bytes) k).receiver.partition < (plan_of bytes).counts.partitions
  receiver_known k l = (law.plan.channels k l).1

  pages : (k : ℕ) → k < (plan_of bytes).counts.channels → PagesFit vs (plan_of bytes) k
  pages k l = let f = law.pages k l in record {
    frames = f.frames;
    joins = joins_kept (plan_of bytes) ws vs kept k f.frames (sender_known k l) (receiver_known k l) f.joins;
    alone = λ j b others joins. f.alone j b others (joins_kept (plan_of bytes) vs ws back j others (sender_known j (omega arith)) (receiver_known j (omega arith)) joins);
  }

  conflict : (a b : ℕ) → a < (plan_of bytes).counts.partitions → b < (plan_of bytes).counts.partitions → Conflict vs (plan_of bytes) a b → Conflict ws (plan_of bytes) a b
  conflict a b la lb (f, n, inl (ne, other)) = (f, names_back ws vs (root (plan_of bytes) a) (kept.tables a la) f n, inl (ne, names_back ws vs (root (plan_of bytes) b) (kept.tables b lb) f other))
  conflict a b la lb (f, n, inr k) = (f, names_back ws vs (root (plan_of bytes) a) (kept.tables a la) f n, inr (kernel_there vs ws (root (plan_of bytes) b) (back.tables b lb) f k))

  lawful_kept : Lawful bytes vs
  lawful_kept = record {
    plan = law.plan;
    pages = pages;
    roots = λ k l. (let r = law.roots k l in record { few = rw kept.as_many r.few; below = r.below; own = r.own });
    tables = λ k l. formed_kept (plan_of bytes) ws vs kept k l (law.tables k l);
    apart = λ a b la lb c. law.apart a b la lb (conflict a b la lb c);
    all_lent = λ k f l n. there (plan_of bytes) ws vs kept f (law.all_lent k f l (names_back ws vs (root (plan_of bytes) k) (kept.tables k l) f n));
  }

  same_channel : (k : ℕ) → k < (plan_of bytes).counts.channels → frames_or_none vs (plan_of bytes) k ≡ frames_or_none ws (plan_of bytes) k
  same_channel k l = let f = law.pages k l in
      frames_kept vs (plan_of bytes) k f.frames (joins_kept (plan_of bytes) ws vs kept k f.frames (sender_known k l) (receiver_known k l) f.joins)
      ∙ sym (frames_kept ws (plan_of bytes) k f.frames f.joins)

  same_ends : accepted vs (plan_of bytes) ≡ accepted ws (plan_of bytes)
  same_ends =
      let e = rows_below (frames_or_none vs (plan_of bytes)) (frames_or_none ws (plan_of bytes)) no_frames 16 (plan_of bytes).counts.channels (λ k room below. same_channel k below) in
      rw e

pub accepts_kept : (bytes ws vs : List ℕ) (a : Accepted) → Kept (plan_of bytes) ws vs → checked bytes ws ≡ Ok a → checked bytes vs ≡ Ok a
accepts_kept bytes ws vs a kept e =
    let law = (accepted_sound bytes ws a e).lawful in
    lawful_accepted bytes vs (lawful_kept bytes ws vs kept law) ∙ ap Ok (same_ends bytes ws vs kept law) ∙ sym (lawful_accepted bytes ws law) ∙ e
