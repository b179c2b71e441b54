-- What contracts see of an entry.
use Rattle.std.specs.Prelude.{ℕ}
use Rattle.lr_model.specs.declared.entry.Act.{Act}

-- one step of the server: when, for whom, for which connection, and what it did
pub record EntryValue : Type 0 where
  pub moment : ℕ
  pub caller : ℕ
  pub conn : ℕ
  pub act : Act
