-- What an `ItemList` holds, and how contracts see it.
use Rattle.std.specs.Prelude.{◌-◌, ◌≤◌, ℕ, IfSome, IfNone, min}
use Rattle.std.specs.VecDeque.{deque_len, deque_capacity}
use Rattle.std.specs.Option.{option_map_or}
use Rattle.indexmap.specs.IndexMap.{spare}
use Rattle.lr_lists.specs.declared.counts.TheConstants.{FEW_ITEMS}
use Rattle.lr_lists.specs.declared.item_list.ItemList.TheInside.{Inside}
use Rattle.lr_lists.specs.Counts.{IsCountOf}
use Rattle.lr_lists.specs.Items.{ItemTable}

-- how many more items can be counted: without a table, few items are
abbrev pub count_room : Inside → ℕ
count_room l = option_map_or (λ counts. spare counts.value) l.counts (FEW_ITEMS - deque_len l.items)

-- the items, and how many more fit
abbrev pub table_inside : Inside → ItemTable
table_inside l = record {
  items = l.items.items;
  room = min (deque_capacity l.items - deque_len l.items) (count_room l);
}

-- the items are counted, or they are few
pub record IsCounted (l : Inside) : Type 0 where
  pub many : IfSome l.counts (λ counts. IsCountOf l.items.items counts.value)
  pub few : IfNone l.counts (deque_len l.items ≤ FEW_ITEMS)
