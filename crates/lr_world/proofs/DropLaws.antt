-- A call of a world, and the clients that its message drops.
use Rattle.std.proofs.Common.{◌≡◌, ◌≤◌, ℕ, List, [], ◌∷◌, map, Option, Some, None, refl, sym, ap, ◌∙◌, subst, arith}
use Rattle.lr_names.specs.declared.post.Post.{Post}
use Rattle.lr_objects.specs.declared.op.Op.{Op}
use Rattle.lr_model.specs.Answer.{post_of}
use Rattle.lr_model.specs.Board.{Board, board_after_post}
use Rattle.lr_model.specs.History.{State, after, call_entry, step}
use Rattle.lr_waiting.specs.Client.{Client}
use Rattle.lr_machine.specs.Clients.{client_at}
use Rattle.lr_machine.specs.declared.shown.Shown.TheVariants as shows
use Rattle.lr_machine.specs.Shown.{replied_at}
use Rattle.lr_machine.specs.Sound.{AreConnected}
use Rattle.lr_machine.specs.World.{clients_dropped, cut_among, dropped_at, first_state, with_cut, with_entry as with_entry_in}
use Rattle.lr_machine_laws.proofs.Closes.{AreClosable, AreClosable-closed, AreClosable-dropped, AreDistinct, AreDistinct-dropped}
use Rattle.lr_machine_laws.proofs.Worlds.{after-append}
use Rattle.lr_server.specs.Server.{ServerValue, dropped_of, with_entry}
use Rattle.lr_world.specs.declared.call.Called.{Called}
use Rattle.lr_world.specs.Called.{IsCalled}
use Rattle.lr_world.specs.Cuts.{AreOpen, board_without}

-- clients of which no two are one can be cut off one after the other
AreOpen-closable : (board : Board) (clients : ℕ → Client) (cs : List ℕ)
    → AreClosable board clients cs → AreDistinct cs → AreOpen board cs
AreOpen-closable board clients [] closable distinct = tt
AreOpen-closable board clients (c ∷ cs) closable distinct = (
  record {
    within = closable.0.within;
    calls = closable.0.calls;
    hears = closable.0.hears;
  },
  AreOpen-closable (board_without board c) clients cs
      (AreClosable-closed board clients c cs closable.0.within distinct.0 closable.1) distinct.1,
)

-- the clients of the connections that a message drops
dropped-clients : (post : Option Post) (board : Board)
    → map client_at (dropped_of post board) ≡ clients_dropped board post
dropped-clients None board = refl
dropped-clients (Some post) board = refl

open-dropped : (post : Option Post) (board : Board) (clients : ℕ → Client)
    → AreConnected board clients
    → AreOpen (board_after_post post board) (clients_dropped board post)
open-dropped None board clients connected = tt
open-dropped (Some post) board clients connected =
    AreOpen-closable (board_after_post (Some post) board)
    (cut_among (clients_dropped board (Some post)) clients) (clients_dropped board (Some post))
    (AreClosable-dropped post board clients connected)
    (AreDistinct-dropped post board clients connected)

module _ (server now : ServerValue) (moment caller conn : ℕ) (op : Op) (called : Called)
    (is : IsCalled (after first_state server.entries) moment op called)
    (made : now ≡ with_entry server (call_entry moment caller conn op)) where
  abbrev pub state : State
  state = after first_state server.entries

  -- the server after the call
  state_after : after first_state now.entries ≡ step state (call_entry moment caller conn op)
  state_after =
      ap (λ (s : ServerValue). after first_state s.entries) made
      ∙ after-append first_state server.entries (call_entry moment caller conn op ∷ [])

  dropped_is : map client_at called.dropped ≡ dropped_at state moment op
  dropped_is =
      ap (map client_at) is.dropped
      ∙ dropped-clients (post_of state.objects moment op) state.board

  -- those that its message drops can be cut off
  pub called-open : (clients : ℕ → Client) → AreConnected state.board clients
      → AreOpen (after first_state now.entries).board (map client_at called.dropped)
  called-open clients connected =
      subst (AreOpen (after first_state now.entries).board) (sym dropped_is)
      (subst (λ (s : State). AreOpen s.board (dropped_at state moment op)) (sym state_after)
      (open-dropped (post_of state.objects moment op) state.board clients connected))

  pub called-in_time : (after first_state now.entries).moment ≤ moment
  called-in_time =
      let same : (after first_state now.entries).moment ≡ moment =
      ap (λ (s : State). s.moment) state_after in
      omega (arith, same)

  -- what is shown of it
  pub called-shown : shows.Replied (record {
    reply = called.reply;
    post = called.post;
    cut = map client_at called.dropped;
  }) ≡ shows.Replied (replied_at state moment op)
  called-shown = λ i. shows.Replied (record {
    reply = is.reply i;
    post = is.post i;
    cut = dropped_is i;
  })

  -- the world after it
  pub called-world : (clients : ℕ → Client)
      → with_cut (map client_at called.dropped)
      (record { entries = now.entries; moment = moment; clients = clients })
      ≡ with_cut (dropped_at state moment op)
      (with_entry_in (call_entry moment caller conn op)
      (record { entries = server.entries; moment = moment; clients = clients }))
  called-world clients =
      ap (λ cs. with_cut cs
      (record { entries = now.entries; moment = moment; clients = clients })) dropped_is
      ∙ ap (λ (s : ServerValue). with_cut (dropped_at state moment op)
      (record { entries = s.entries; moment = moment; clients = clients })) made
