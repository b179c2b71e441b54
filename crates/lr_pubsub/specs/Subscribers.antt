-- Who has subscribed to which channel: this project's own.
use Rattle.std.specs.Prelude.{ℕ, List, [], ◌∷◌, Bool, false, if◌then◌else◌}
use Rattle.lr_names.specs.Channel.{ChannelOf}
use Rattle.lr_model.specs.Board.{same_channel}
use Rattle.lr_pubsub.specs.declared.connection_set.ConnectionSet.{ConnectionSet}
use Rattle.lr_pubsub.specs.ConnectionSet.{has_number}

-- the connections that a table lists for a channel
abbrev pub listeners : ChannelOf → List (ChannelOf × ConnectionSet) → ℕ → Bool
listeners channel [] = λ _. false
listeners channel (row ∷ rows) =
    if same_channel channel row.0 then has_number row.1 else listeners channel rows
