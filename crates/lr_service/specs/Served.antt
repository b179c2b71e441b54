-- Which server stands for a history: this project's own.
use Rattle.std.specs.Prelude.{◌≡◌, List}
use Rattle.lr_model.specs.declared.entry.Entry.{Entry}
use Rattle.lr_model.specs.History.{IsLegal, state_at_start}
use Rattle.lr_server.specs.Server.{ServerValue}
use Rattle.lr_service.specs.Closes.{ClosesOwn}

-- the server that started with connection 0 open, after these entries
abbrev pub server_at : List Entry → ServerValue
server_at entries = record { last = 0; entries = entries }

-- a server is that one; the history is legal, and callers closed only their own connections
pub record IsServed (server : ServerValue) (entries : List Entry) : Type 0 where
  pub is : server ≡ server_at entries
  pub legal : IsLegal (state_at_start 0) entries
  pub closes : ClosesOwn (state_at_start 0) entries
