-- The transcript of a schedule: what is written for its bytes.
use Rattle.std.specs.Prelude.{◌≡◌, ◌≢◌, ℕ, ◌+◌, ◌≤◌, List, [], ◌∷◌, ◌++◌, codes, decimal, Bool, true, false, Option, Some, None}
use Rattle.lr_limits.specs.Limits.{event_limit}
use Rattle.lr_names.specs.Channel.{ChannelOf, channel_text}
use Rattle.lr_names.specs.declared.post.Due.{Due}
use Rattle.lr_names.specs.declared.post.Due.TheVariants.{At, Never}
use Rattle.lr_objects.specs.Reply.{reply_text}
use Rattle.lr_waiting.specs.declared.stand.Stand.{Stand}
use Rattle.lr_waiting.specs.declared.stand.Stand.TheVariants as stands
use Rattle.lr_waiting.specs.declared.stand.Standing.{Standing}
use Rattle.lr_waiting.specs.declared.waiter.Phase.{Phase}
use Rattle.lr_waiting.specs.declared.waiter.Phase.TheVariants as phases
use Rattle.lr_waiting.specs.declared.watch.RenewTaken.{RenewTaken}
use Rattle.lr_waiting.specs.declared.watch.RenewTaken.TheVariants as renewals
use Rattle.lr_machine.specs.declared.event.Event.{Event}
use Rattle.lr_machine.specs.declared.schedule_line.ScheduleLine.{ScheduleLine}
use Rattle.lr_machine.specs.declared.schedule_line.ScheduleLine.TheVariants as kinds
use Rattle.lr_machine.specs.declared.shown.Found.{Found}
use Rattle.lr_machine.specs.declared.shown.Found.TheVariants as found
use Rattle.lr_machine.specs.declared.shown.Ordered.{Ordered}
use Rattle.lr_machine.specs.declared.shown.Reached.{Reached}
use Rattle.lr_machine.specs.declared.shown.Shown.{Shown}
use Rattle.lr_machine.specs.declared.shown.Shown.TheVariants as shows
use Rattle.lr_machine.specs.EventText.{event_text, IsEvent}
use Rattle.lr_machine.specs.Within.{IsWithin}
use Rattle.lr_machine.specs.Shown.{shown}
use Rattle.lr_machine.specs.World.{World, next}

-- the message that a call sent, and how many connections it reached
abbrev pub post_text : Option Reached → List ℕ
post_text None = []
post_text (Some post) =
    codes " post " ++ channel_text post.channel ++ codes " " ++ decimal post.connections

-- the clients that were cut off
abbrev pub cut_text : List ℕ → List ℕ
cut_text [] = []
cut_text (c ∷ clients) = codes " cut " ++ decimal c ++ cut_text clients

abbrev pub phase_word : Phase → List ℕ
phase_word phases.Cut = codes "cut"
phase_word phases.Idle = codes "idle"
phase_word phases.Fresh = codes "fresh"
phase_word phases.Asked = codes "asked"
phase_word phases.Answered = codes "answered"
phase_word phases.Joining = codes "joining"
phase_word phases.Ready = codes "ready"
phase_word phases.Refused = codes "refused"
phase_word phases.Asleep = codes "asleep"
phase_word phases.Leaving = codes "leaving"

abbrev pub found_word : Found → List ℕ
found_word (found.Phase phase) = phase_word phase
found_word found.Orders = codes "orders"
found_word found.Pushes = codes "pushes"
found_word found.Watch = codes "watch"
found_word found.Renewing = codes "renewing"
found_word found.Due = codes "due"
found_word found.Renewal = codes "renewal"

abbrev pub due_text : Due → List ℕ
due_text (At moment) = decimal moment
due_text Never = codes "never"

-- what comes of the reply to a renewal
abbrev pub renewal_text : RenewTaken → List ℕ
renewal_text (renewals.Due moment) = codes "due " ++ decimal moment
renewal_text renewals.Ended = codes "ended"
renewal_text renewals.Stale = codes "stale"

-- an order, and how many channels its connection then has
abbrev pub order_word : Bool → List ℕ
order_word true = codes "subscribe "
order_word false = codes "unsubscribe "

abbrev pub cut_of : Option ℕ → List ℕ
cut_of None = []
cut_of (Some c) = cut_text (c ∷ [])

abbrev pub ordered_text : Ordered → List ℕ
ordered_text ordered =
    order_word ordered.order.subscribe ++ channel_text ordered.order.channel ++ codes " "
    ++ decimal ordered.channels ++ cut_of ordered.cut

abbrev pub left_text : Option ChannelOf → List ℕ
left_text None = codes "unack"
left_text (Some channel) = codes "unack " ++ channel_text channel

-- what stands for a thread that sleeps
abbrev pub stand_text : Stand → List ℕ
stand_text stands.Message = codes "message"
stand_text stands.Permit = codes "permit"
stand_text stands.Awake = codes "awake"
stand_text stands.Held = codes "held"
stand_text stands.Broadcast = codes "broadcast"
stand_text (stands.Timer moment) = codes "timer " ++ decimal moment
stand_text stands.Nobody = codes "nobody"

abbrev pub standing_text : Standing → List ℕ
standing_text standing =
    decimal standing.client ++ codes " " ++ decimal standing.thread ++ codes " "
    ++ stand_text standing.stand

-- those after the first one
abbrev pub further_text : List Standing → List ℕ
further_text [] = []
further_text (standing ∷ standings) =
    codes "; " ++ standing_text standing ++ further_text standings

abbrev pub standings_text : List Standing → List ℕ
standings_text [] = codes "none"
standings_text (standing ∷ standings) = standing_text standing ++ further_text standings

abbrev pub shown_text : Shown → List ℕ
shown_text shows.Fresh = codes "fresh"
shown_text shows.Asked = codes "asked"
shown_text (shows.Replied r) = reply_text r.reply ++ post_text r.post ++ cut_text r.cut
shown_text (shows.Done reply) = codes "done " ++ reply_text reply
shown_text shows.Joining = codes "joining"
shown_text shows.Ready = codes "ready"
shown_text (shows.Refused due) = codes "refused " ++ due_text due
shown_text shows.ReadyByPermit = codes "ready permit"
shown_text shows.ReadyByBroadcast = codes "ready broadcast"
shown_text shows.ReadyByTimer = codes "ready timer"
shown_text (shows.Asleep due) = codes "asleep " ++ due_text due
shown_text shows.Quit = codes "done quit"
shown_text shows.Leaving = codes "leaving"
shown_text (shows.Ordered ordered) = ordered_text ordered
shown_text (shows.Acknowledged channel joined) =
    codes "ack " ++ channel_text channel ++ codes " " ++ decimal joined
shown_text (shows.Left channel) = left_text channel
shown_text (shows.Delivered channel number) =
    codes "message " ++ channel_text channel ++ codes " " ++ decimal number
shown_text (shows.Moment moment) = codes "moment " ++ decimal moment
shown_text shows.RenewAsked = codes "renew-asked"
shown_text (shows.RenewTaken taken) = renewal_text taken
shown_text shows.Cut = codes "cut"
shown_text (shows.Standings standings) = standings_text standings
shown_text (shows.No f) = codes "no " ++ found_word f

-- Each line of a transcript ends at LF.
abbrev pub shown_line : ℕ → Shown → List ℕ
shown_line number s = decimal number ++ codes " " ++ shown_text s ++ codes "\n"

abbrev pub bad_line : ℕ → List ℕ
bad_line number = codes "bad line " ++ decimal number ++ codes "\n"

abbrev pub too_many_line : ℕ → List ℕ
too_many_line number = codes "too many " ++ decimal number ++ codes "\n"

-- What a line is, by its number. A line that is the text of no event is bad, whatever its number. A
-- line that is one too many, or the text of an event of a client or thread outside the limits, is
-- too many.
abbrev pub IsLine : ℕ → List ℕ → ScheduleLine → Type 0
IsLine number line (kinds.Event event) =
    (line ≡ event_text event) × IsEvent event × IsWithin event × (number ≤ event_limit)
IsLine number line kinds.Bad = (event : Event) → IsEvent event → line ≢ event_text event
IsLine number line kinds.TooMany =
    (event : Event) × (line ≡ event_text event) × IsEvent event
    × ¬ (IsWithin event × (number ≤ event_limit))

-- these lines, from this number on, are the texts of these events
abbrev pub AreLinesOf : ℕ → List (List ℕ) → List Event → Type 0
AreLinesOf number [] [] = Unit {0}
AreLinesOf number [] (event ∷ events) = ⊥
AreLinesOf number (line ∷ lines) [] = ⊥
AreLinesOf number (line ∷ lines) (event ∷ events) =
    IsLine number line (kinds.Event event) × AreLinesOf (number + 1) lines events

-- the transcript: what a world shows of these events, a line for each, from this number on
abbrev pub transcript : World → ℕ → List Event → List ℕ
transcript world number [] = []
transcript world number (event ∷ events) =
    shown_line number (shown world event) ++ transcript (next world event) (number + 1) events
