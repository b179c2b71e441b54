-- What a request asks.
use Rattle.std.proofs.Common.{◌≡◌, ◌⊎◌, true, false, List, [], ◌∷◌, Option, Some, None, IsTrue, inl, inr, refl, ap}
use Rattle.std.specs.Prelude.{is_some}
use Rattle.std.proofs.lemmas.Bool.{or_cases}
use Rattle.lr_names.specs.Channel.{ChannelOf}
use Rattle.lr_commands.specs.declared.request.Request.{Request}
use Rattle.lr_commands.specs.declared.request.Request.TheVariants as requests
use Rattle.lr_model.specs.declared.entry.Act.{Act}
use Rattle.lr_model.specs.declared.entry.Act.TheVariants as acts
use Rattle.lr_model.specs.Board.{Connection}
use Rattle.lr_server.specs.Server.{act_of, act_on_one, is_only_subscribed}
use Rattle.lr_server.specs.Looked.{is_out_of_place, is_quiet, is_step}

some_act : (asked : Option Act) → is_some asked ≡ true → (act : Act) × (asked ≡ Some act)
some_act (Some act) some = (act, refl)
some_act None some = absurd (cc)

-- it is a look or a ping, or an act
pub asked_or_quiet : (request : Request) → IsTrue (is_step request)
    → IsTrue (is_quiet request) ⊎ ((act : Act) × (act_of request ≡ Some act))
asked_or_quiet request step =
    by (or_cases (is_quiet request) (is_some (act_of request)) step)
  where
    by : (is_quiet request ≡ true) ⊎ (is_some (act_of request) ≡ true)
        → IsTrue (is_quiet request) ⊎ ((act : Act) × (act_of request ≡ Some act))
    by (inl quiet) = inl quiet
    by (inr some) = inr (some_act (act_of request) some)

-- an act that is out of place is a call
pub out_of_place : (request : Request) (act : Act) (connection : Connection)
    → act_of request ≡ Some act
    → is_out_of_place request connection ≡ is_only_subscribed act connection
out_of_place (requests.Call op) act connection asked =
    let same : acts.Call op ≡ act = cc in ap (λ a. is_only_subscribed a connection) same
out_of_place (requests.Subscribe channels) act connection asked = by channels asked
  where
    by : (cs : List ChannelOf) → act_on_one acts.Subscribe cs ≡ Some act
        → false ≡ is_only_subscribed act connection
    by [] is = absurd (cc)
    by (c ∷ []) is =
        let same : acts.Subscribe c ≡ act = cc in ap (λ a. is_only_subscribed a connection) same
    by (c ∷ d ∷ rest) is = absurd (cc)
out_of_place (requests.Unsubscribe channels) act connection asked = by channels asked
  where
    by : (cs : List ChannelOf) → act_on_one acts.Unsubscribe cs ≡ Some act
        → false ≡ is_only_subscribed act connection
    by [] is = absurd (cc)
    by (c ∷ []) is =
        let same : acts.Unsubscribe c ≡ act = cc in ap (λ a. is_only_subscribed a connection) same
    by (c ∷ d ∷ rest) is = absurd (cc)
out_of_place (requests.Look look) act connection asked = absurd (cc)
out_of_place (requests.Ping text) act connection asked = absurd (cc)
out_of_place requests.UnsubscribeAll act connection asked = absurd (cc)
out_of_place requests.Quit act connection asked = absurd (cc)
