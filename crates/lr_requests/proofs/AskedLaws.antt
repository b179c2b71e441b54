-- What words ask for is one request, and they then have no fault.
use Rattle.std.proofs.Common.{◌≡◌, ◌≢◌, ℕ, List, [], ◌∷◌, length, map, refl, sym, ap, ◌∙◌, subst, arith}
use Rattle.std.specs.List.{AllByRecursion}
use Rattle.lr_commands.specs.declared.look.Look as look_module
use Rattle.lr_commands.specs.declared.request.Request.{Request}
use Rattle.lr_frames.proofs.BulkLaws.{heads}
use Rattle.lr_frames.proofs.OpLaws.{one_fcall}
use Rattle.lr_frames.specs.Words.{word_at}
use Rattle.lr_names.proofs.ChannelLaws.{channel_text-injective}
use Rattle.lr_names.specs.Channel.{ChannelOf, IsChannel, channel_text}
use Rattle.lr_requests.proofs.CommandLaws.{small_word-injective}
use Rattle.lr_requests.proofs.PlaceLaws.{one_place}
use Rattle.lr_requests.specs.Channels.{AreTextsOf, AreChannelTexts}
use Rattle.lr_requests.specs.Laws.{RequestIsOne}
use Rattle.lr_requests.specs.Look.{AsksLook}
use Rattle.lr_requests.specs.Refusal.{Fits, NamesChannels, HasPlaces, LookHasPlaces}
use Rattle.lr_requests.specs.Request.{Asks, AsksCall, AsksSubscribe, AsksUnsubscribe, AsksPing}
use Rattle.lr_requests.specs.declared.command.Command.{Command}
use Rattle.lr_requests.specs.declared.command.Command.TheVariants.{Call, Look, Subscribe, Unsubscribe, Ping, Quit}
use Rattle.lr_requests.specs.declared.look_command.LookCommand.{LookCommand}
use Rattle.lr_requests.specs.declared.look_command.LookCommand.TheVariants.{OfKey, OfItem, OfRange}

-- One request for the arguments of a command.

one_look : (command : LookCommand) (arguments : List (List ℕ)) (look other : look_module.Look)
    → AsksLook command arguments look → AsksLook command arguments other → look ≡ other
one_look (OfKey command) arguments look other (key, in_a, is) (key', in_b, also) =
    let same = sym in_a ∙ in_b in
    cc
one_look (OfItem command) arguments look other (key, item, in_a, is) (key', item', in_b, also) =
    let same = sym in_a ∙ in_b in
    cc
one_look (OfRange command) arguments look other
    (key, start, stop, start_in, stop_in, in_a, is)
    (key', start', stop', start_in', stop_in', in_b, also) =
    let same = sym in_a ∙ in_b in
    let first = one_place start start' start_in start_in' (ap (λ l. word_at l 1) same) in
    let last = one_place stop stop' stop_in stop_in' (ap (λ l. word_at l 2) same) in
    cc

one_list : (channels others : List ChannelOf)
    → AllByRecursion IsChannel channels → AllByRecursion IsChannel others
    → map channel_text channels ≡ map channel_text others → channels ≡ others
one_list [] [] known other_known same = refl
one_list [] (y ∷ ys) known other_known same = absurd (omega (arith, ap (λ (l : List (List ℕ)). length l) same))
one_list (x ∷ xs) [] known other_known same = absurd (omega (arith, ap (λ (l : List (List ℕ)). length l) same))
one_list (x ∷ xs) (y ∷ ys) known other_known same =
    let parts = heads (channel_text x) (channel_text y) (map channel_text xs) (map channel_text ys) same in
    let first = channel_text-injective x y known.0 other_known.0 parts.0 in
    let rest = one_list xs ys known.1 other_known.1 parts.1 in
    cc

one_channels : (channels others : List ChannelOf) (words : List (List ℕ))
    → AreTextsOf channels words → AreTextsOf others words → channels ≡ others
one_channels channels others words a b = one_list channels others a.1 b.1 (sym a.0 ∙ b.0)

one_call : (arguments : List (List ℕ)) (request other : Request) → AsksCall arguments request
    → AsksCall arguments other → request ≡ other
one_call arguments request other (op, said, in_a, is) (op', said', in_b, also) =
    let same = one_fcall op op' said said' (sym in_a ∙ in_b) in
    cc

one_subscribe : (arguments : List (List ℕ)) (request other : Request)
    → AsksSubscribe arguments request → AsksSubscribe arguments other → request ≡ other
one_subscribe [] request other a b = absurd a
one_subscribe (word ∷ words) request other (channels, in_a, is) (others, in_b, also) =
    let same = one_channels channels others (word ∷ words) in_a in_b in
    cc

one_unsubscribe : (arguments : List (List ℕ)) (request other : Request)
    → AsksUnsubscribe arguments request → AsksUnsubscribe arguments other → request ≡ other
one_unsubscribe [] request other a b = a ∙ sym b
one_unsubscribe (word ∷ words) request other (channels, in_a, is) (others, in_b, also) =
    let same = one_channels channels others (word ∷ words) in_a in_b in
    cc

one_ping : (arguments : List (List ℕ)) (request other : Request) → AsksPing arguments request
    → AsksPing arguments other → request ≡ other
one_ping [] request other a b = a ∙ sym b
one_ping (text ∷ []) request other a b = a ∙ sym b
one_ping (text ∷ more ∷ words) request other a b = absurd a

one_request : (command : Command) (arguments : List (List ℕ)) (request other : Request)
    → Asks command arguments request → Asks command arguments other → request ≡ other
one_request Call arguments request other a b = one_call arguments request other a b
one_request (Look command) arguments request other (look, in_a, is) (look', in_b, also) =
    let same = one_look command arguments look look' in_a in_b in
    cc
one_request Subscribe arguments request other a b = one_subscribe arguments request other a b
one_request Unsubscribe arguments request other a b = one_unsubscribe arguments request other a b
one_request Ping arguments request other a b = one_ping arguments request other a b
one_request Quit arguments request other a b = a.1 ∙ sym b.1

pub request_is_one : RequestIsOne
request_is_one word arguments request other (command, in_a, a) (also, in_b, b) =
    let same = small_word-injective also command (sym in_b ∙ in_a) in
    one_request command arguments request other a (subst (λ c. Asks c arguments other) same b)

-- Arguments that ask for something have no fault.

texts_known : (channels : List ChannelOf) → AllByRecursion IsChannel channels
    → AreChannelTexts (map channel_text channels)
texts_known [] known = tt
texts_known (x ∷ xs) known = ((x, known.0, refl), texts_known xs known.1)

channels_known : (channels : List ChannelOf) (words : List (List ℕ)) → AreTextsOf channels words
    → AreChannelTexts words
channels_known channels words a = subst AreChannelTexts (sym a.0) (texts_known channels a.1)

look_fits : (command : LookCommand) (arguments : List (List ℕ)) (look : look_module.Look)
    → AsksLook command arguments look
    → Fits (Look command) arguments × LookHasPlaces command arguments
look_fits (OfKey command) arguments look (key, is, same) =
    (ap (λ (l : List (List ℕ)). length l) is, tt)
look_fits (OfItem command) arguments look (key, item, is, same) =
    (ap (λ (l : List (List ℕ)). length l) is, tt)
look_fits (OfRange command) arguments look (key, start, stop, start_in, stop_in, is, same) = (
  ap (λ (l : List (List ℕ)). length l) is,
  (
    (start, start_in, ap (λ l. word_at l 1) is),
    (stop, stop_in, ap (λ l. word_at l 2) is),
  ),
)

-- they are as many as the command has, their channels are channels, and their places numbers
pub record IsFaultless (command : Command) (arguments : List (List ℕ)) : Type 0 where
  pub fits : Fits command arguments
  pub named : NamesChannels command arguments
  pub placed : HasPlaces command arguments

subscribe_faultless : (arguments : List (List ℕ)) (request : Request)
    → AsksSubscribe arguments request → IsFaultless Subscribe arguments
subscribe_faultless [] request a = absurd a
subscribe_faultless (word ∷ words) request a = record {
  fits = omega arith;
  named = channels_known a.0 (word ∷ words) a.1;
  placed = tt;
}

unsubscribe_faultless : (arguments : List (List ℕ)) (request : Request)
    → AsksUnsubscribe arguments request → IsFaultless Unsubscribe arguments
unsubscribe_faultless [] request a = record { fits = omega arith; named = tt; placed = tt }
unsubscribe_faultless (word ∷ words) request a = record {
  fits = omega arith;
  named = channels_known a.0 (word ∷ words) a.1;
  placed = tt;
}

ping_faultless : (arguments : List (List ℕ)) (request : Request) → AsksPing arguments request
    → IsFaultless Ping arguments
ping_faultless [] request a = record { fits = omega arith; named = tt; placed = tt }
ping_faultless (text ∷ []) request a = record { fits = omega arith; named = tt; placed = tt }
ping_faultless (text ∷ more ∷ words) request a = absurd a

look_faultless : (command : LookCommand) (arguments : List (List ℕ)) (request : Request)
    → Asks (Look command) arguments request → IsFaultless (Look command) arguments
look_faultless command arguments request a =
    let fine = look_fits command arguments a.0 a.1 in
    record { fits = fine.0; named = tt; placed = fine.1 }

quit_faultless : (arguments : List (List ℕ)) (request : Request) → Asks Quit arguments request
    → IsFaultless Quit arguments
quit_faultless arguments request a =
    record { fits = ap (λ (l : List (List ℕ)). length l) a.0; named = tt; placed = tt }

pub faultless : (command : Command) (arguments : List (List ℕ)) (request : Request)
    → command ≢ Call → Asks command arguments request → IsFaultless command arguments
faultless Call arguments request other a = absurd (other refl)
faultless (Look command) arguments request other a = look_faultless command arguments request a
faultless Subscribe arguments request other a = subscribe_faultless arguments request a
faultless Unsubscribe arguments request other a = unsubscribe_faultless arguments request a
faultless Ping arguments request other a = ping_faultless arguments request a
faultless Quit arguments request other a = quit_faultless arguments request a
