-- What a history shows: this project's own.
use Rattle.std.specs.Prelude.{ℕ, List}
use Rattle.lr_model.specs.declared.entry.Entry.{Entry}

-- the entries in order, and how many more are sure to find room
pub record HistoryValue : Type 0 where
  pub entries : List Entry
  pub spare : ℕ
