-- A plan of two partitions and its memory. The page tables are written out; where the second partition keeps its frames, and what all
-- frames but the tables hold, is left open.
use Rattle.std.specs.Prelude.{ℕ, ◌+◌, ◌*◌, ◌/◌, ◌%◌, cond, List, [], ◌∷◌, map, ◌==◌}
use Rattle.std.specs.List.{range_with_len}
use Rattle.plan.specs.declared.model.Channel.{Channel}
use Rattle.plan.specs.Written.{a_channel, a_partition, a_slot, written}

-- a plan of two partitions with slots, the first with root 0, the second starting at 00010000 and with a slot of 128 cycles; left open are the
-- budget, the root of the second, where the first one starts, the length of its slot, and the channels
abbrev pub laid : ℕ → ℕ → ℕ → ℕ → List Channel → List ℕ
laid budget root start length channels = written budget (a_partition 0 start ∷ a_partition root 0x10000 ∷ []) (a_slot 0 length ∷ a_slot 1 128 ∷ []) channels

-- the first one starts at 00010000 too, with a slot of 200 cycles
abbrev pub with_channels : ℕ → ℕ → List Channel → List ℕ
with_channels budget root channels = laid budget root 0x10000 200 channels

-- with a budget of 1,754, and a channel from page 17; left open are the root of the second, the channel's sender, its receiver and the receiver's page
abbrev pub planned : ℕ → ℕ → ℕ → ℕ → List ℕ
planned root sender receiver page = with_channels 1754 root (a_channel sender 17 receiver page ∷ [])

-- roots 0 and 3, and a channel from page 17 of the first to page 17 of the second
abbrev pub two : List ℕ
two = planned 3 0 1 17

-- an entry that points to a table (V), and leaves of a frame: to run (R and X), to write (R and W), to read only (R), each with V, U, A and D
abbrev pub points_at : ℕ → ℕ
points_at frame = frame * 1024 + 0x01

abbrev pub runs : ℕ → ℕ
runs frame = frame * 1024 + 0xDB

abbrev pub writes : ℕ → ℕ
writes frame = frame * 1024 + 0xD7

abbrev pub reads : ℕ → ℕ
reads frame = frame * 1024 + 0xD3

-- where the second partition keeps its table, its code and the page on which it receives, and how many frames are lent
pub record Layout : Type 0 where
  pub table : ℕ
  pub code : ℕ
  pub mailbox : ℕ
  pub frames : ℕ

-- the entries of a root with one table, and of a table with pages 16 and 17
abbrev pub root_entry : ℕ → ℕ → ℕ
root_entry table k = cond (k == 0) (points_at table) 0

abbrev pub table_entry : ℕ → ℕ → ℕ → ℕ
table_entry page_16 page_17 k = cond (k == 16) page_16 (cond (k == 17) page_17 0)

-- the words of a frame: the first partition has root 0, table 1, code in frame 2 and data in frame 6, the second has root 3
abbrev pub word_in : Layout → (ℕ → ℕ → ℕ) → ℕ → ℕ → ℕ
word_in l content frame k =
    cond (frame == 0) (root_entry 1 k)
    (cond (frame == 1) (table_entry (runs 2) (writes 6) k)
    (cond (frame == 3) (root_entry l.table k)
    (cond (frame == l.table) (table_entry (runs l.code) (reads l.mailbox) k)
    (content frame k))))

unfoldable pub memory : Layout → (ℕ → ℕ → ℕ) → List ℕ
memory l content = map (λ i. word_in l content (i / 1024) (i % 1024)) (range_with_len 0 (l.frames * 1024))
