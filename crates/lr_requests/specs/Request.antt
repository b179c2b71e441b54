-- What a command asks for with its arguments: the Redis command pages, and for FCALL and the
-- channels this project's own.
use Rattle.std.specs.Prelude.{◌≡◌, ℕ, List, [], ◌∷◌, None, Some}
use Rattle.lr_commands.specs.declared.look.Look as look_module
use Rattle.lr_commands.specs.declared.request.Request.{Request}
use Rattle.lr_commands.specs.declared.request.Request.TheVariants as requests
use Rattle.lr_frames.specs.OpWords.{IsSaid, fcall_words}
use Rattle.lr_names.specs.Channel.{ChannelOf}
use Rattle.lr_objects.specs.declared.op.Op.{Op}
use Rattle.lr_requests.specs.Channels.{AreTextsOf}
use Rattle.lr_requests.specs.Look.{AsksLook}
use Rattle.lr_requests.specs.declared.command.Command.{Command}
use Rattle.lr_requests.specs.declared.command.Command.TheVariants.{Call, Look, Subscribe, Unsubscribe, Ping, Quit}

-- FCALL: a call, with the words that it has behind the command
abbrev pub AsksCall : List (List ℕ) → Request → Type 0
AsksCall arguments request =
    (op : Op) × IsSaid op × (arguments ≡ fcall_words op) × (request ≡ requests.Call op)

-- SUBSCRIBE: one channel or more
abbrev pub AsksSubscribe : List (List ℕ) → Request → Type 0
AsksSubscribe [] request = ⊥
AsksSubscribe (word ∷ words) request = (channels : List ChannelOf)
    × AreTextsOf channels (word ∷ words) × (request ≡ requests.Subscribe channels)

-- UNSUBSCRIBE: channels, or all
abbrev pub AsksUnsubscribe : List (List ℕ) → Request → Type 0
AsksUnsubscribe [] request = request ≡ requests.UnsubscribeAll
AsksUnsubscribe (word ∷ words) request = (channels : List ChannelOf)
    × AreTextsOf channels (word ∷ words) × (request ≡ requests.Unsubscribe channels)

-- PING: nothing, or a text
abbrev pub AsksPing : List (List ℕ) → Request → Type 0
AsksPing [] request = request ≡ requests.Ping None
AsksPing (text ∷ []) request = request ≡ requests.Ping (Some text)
AsksPing (text ∷ more ∷ words) request = ⊥

-- the arguments of a command ask for this request
abbrev pub Asks : Command → List (List ℕ) → Request → Type 0
Asks Call arguments request = AsksCall arguments request
Asks (Look command) arguments request =
    (look : look_module.Look) × AsksLook command arguments look × (request ≡ requests.Look look)
Asks Subscribe arguments request = AsksSubscribe arguments request
Asks Unsubscribe arguments request = AsksUnsubscribe arguments request
Asks Ping arguments request = AsksPing arguments request
Asks Quit arguments request = (arguments ≡ []) × (request ≡ requests.Quit)
