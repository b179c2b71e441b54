-- Which acts are allowed.
use Rattle.std.proofs.Common.{◌≡◌, ℕ, false, not, List, [], ◌∷◌, length, nat_le, IsTrue, refl, arith}
use Rattle.std.proofs.lemmas.Bool.{false≢true, leb-false, or_parts, not-false}
use Rattle.lr_names.specs.Channel.{ChannelOf}
use Rattle.lr_model.specs.declared.entry.Act.{Act}
use Rattle.lr_model.specs.declared.entry.Act.TheVariants.{Call, Subscribe, Unsubscribe}
use Rattle.lr_model.specs.Board.{Connection, is_open, has_room}
use Rattle.lr_model.specs.History.{State, CanAcknowledge, IsAllowed}
use Rattle.lr_pubsub.specs.Connection.{is_shut}
use Rattle.lr_server.specs.Server.{is_asked, is_only_subscribed, is_stopped}

none_of : (channels : List ChannelOf) → nat_le 1 (length channels) ≡ false → channels ≡ []
none_of [] few = refl
none_of (channel ∷ channels) few =
    absurd (omega (arith, leb-false 1 (length (channel ∷ channels)) few))

acknowledges : (connection : Connection) → IsTrue (is_open connection)
    → is_shut connection ≡ false → CanAcknowledge connection
acknowledges connection opened takes =
    let parts = or_parts connection.dropped (not (has_room connection)) takes in
    record { open_ = opened; kept = parts.0; room = not-false (has_room connection) parts.1 }

-- what nothing stops is allowed
pub is_allowed : (state : State) (conn : ℕ) (act : Act) → IsTrue (is_open (state.board conn))
    → IsTrue (is_asked act) → is_only_subscribed act (state.board conn) ≡ false
    → is_stopped act (state.board conn) ≡ false → IsAllowed state conn act
is_allowed state conn (Call op) opened asked quiet runs = record {
  open_ = opened;
  kept = runs;
  quiet = none_of (state.board conn).channels quiet;
}
is_allowed state conn (Subscribe channel) opened asked quiet runs =
    acknowledges (state.board conn) opened runs
is_allowed state conn (Unsubscribe channel) opened asked quiet runs =
    acknowledges (state.board conn) opened runs
is_allowed state conn _ opened asked quiet runs = absurd (false≢true asked)
