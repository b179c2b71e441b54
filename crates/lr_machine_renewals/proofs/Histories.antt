-- The objects of a world as its history grows.
use Rattle.std.proofs.Common.{◌≡◌, ℕ, List, [], ◌∷◌, refl, ap, ◌∙◌}
use Rattle.lr_model.specs.declared.entry.Entry.{Entry}
use Rattle.lr_model.specs.Board.{closed_connection, with_connection}
use Rattle.lr_model.specs.History.{State, step, after}
use Rattle.lr_machine.specs.Clients.{command_connection, subscription_connection}
use Rattle.lr_machine.specs.World.{World, first_state, state_of, with_entry, closes_of_all, with_cut}
use Rattle.lr_machine_laws.proofs.Worlds.{after-append}

-- one entry more
pub objects-entry : (entry : Entry) (world : World)
    → (state_of (with_entry entry world)).objects ≡ (step (state_of world) entry).objects
objects-entry entry world =
    ap (λ (s : State). s.objects) (after-append first_state world.entries (entry ∷ []))

-- connections that are closed change no object
objects-closes : (moment : ℕ) (cs : List ℕ) (state : State)
    → (after state (closes_of_all moment cs)).objects ≡ state.objects
objects-closes moment [] state = refl
objects-closes moment (c ∷ cs) state =
    objects-closes moment cs
    (record {
      moment = moment;
      objects = state.objects;
      board = with_connection
          (with_connection state.board (command_connection c) closed_connection)
          (subscription_connection c) closed_connection;
    })

pub objects-cut : (cs : List ℕ) (world : World)
    → (state_of (with_cut cs world)).objects ≡ (state_of world).objects
objects-cut cs world =
    ap (λ (s : State). s.objects)
    (after-append first_state world.entries (closes_of_all world.moment cs))
    ∙ objects-closes world.moment cs (state_of world)
