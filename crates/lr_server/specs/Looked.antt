-- What looks at the keys and pings are answered. Neither makes an entry or sends a message.
use Rattle.std.specs.Prelude.{◌≡◌, ◌≤◌, ℕ, List, [], Bool, true, false, ◌&&◌, ◌||◌, Option, Some, None, is_some, if◌then◌else◌}
use Rattle.lr_limits.specs.Limits.{last_moment}
use Rattle.lr_commands.specs.declared.look.Look.{Look}
use Rattle.lr_commands.specs.declared.request.Request.{Request}
use Rattle.lr_commands.specs.declared.request.Request.TheVariants as requests
use Rattle.lr_keys.specs.KeySpace.{Keys}
use Rattle.lr_looks.specs.Looks.{look_frame}
use Rattle.lr_looks.specs.Ping.{pong_frame}
use Rattle.lr_model.specs.Answer.{Objects}
use Rattle.lr_model.specs.Board.{Connection}
use Rattle.lr_resp.specs.declared.frame.Frame.{Frame}
use Rattle.lr_server.specs.declared.answered.Answer.{Answer}
use Rattle.lr_server.specs.declared.answered.Answer.TheVariants as answers
use Rattle.lr_server.specs.declared.answered.Answered.{Answered}
use Rattle.lr_server.specs.declared.fault.StepFault.{StepFault}
use Rattle.lr_server.specs.declared.fault.StepFault.TheVariants.{Dropped}
use Rattle.lr_server.specs.Server.{ServerValue, state_of, connection_of, moment_at, act_of, is_subscriber}
use Rattle.lr_server.specs.Stands.{KeysStand}

-- whether a request is a look or a ping
abbrev pub is_quiet : Request → Bool
is_quiet (requests.Look look) = true
is_quiet (requests.Ping text) = true
is_quiet _ = false

-- whether a request is one step: one act, or a look or a ping
abbrev pub is_step : Request → Bool
is_step request = is_quiet request || is_some (act_of request)

-- whether a request runs a function or looks at the keys
abbrev pub is_call_or_look : Request → Bool
is_call_or_look (requests.Call op) = true
is_call_or_look (requests.Look look) = true
is_call_or_look _ = false

-- such a request on a connection that has a channel (Redis command page SUBSCRIBE)
abbrev pub is_out_of_place : Request → Connection → Bool
is_out_of_place request connection = is_call_or_look request && is_subscriber connection

-- Keys that stand for these objects show this frame for a look at a moment that isn't before theirs.
-- What they show is told by the objects alone.
pub record ShowsAt (objects : Objects) (moment : ℕ) (look : Look) (frame : Frame) : Type 0 where
  pub keys : Keys
  pub stand : KeysStand keys objects
  pub in_time : keys.moment ≤ moment
  pub shows : frame ≡ look_frame keys moment look

-- an answer shows what a look sees of the objects of a server now, at a reading of the clock
pub record IsShown (server : ServerValue) (reading : ℕ) (look : Look) (answer : Answer)
    : Type 0 where
  pub frame : Frame
  pub is : answer ≡ answers.Look frame
  pub shows : ShowsAt (state_of server).objects (moment_at server reading) look frame

-- a look on a connection that has a channel is refused, and else it is shown
abbrev pub IsLookAnswer : Bool → ServerValue → ℕ → Look → Answer → Type 0
IsLookAnswer true server reading look answer = answer ≡ answers.OnlySubscribed
IsLookAnswer false server reading look answer = IsShown server reading look answer

-- a look at a reading of the clock, or a ping, was answered on a connection
abbrev pub IsQuietAnswer : ServerValue → ℕ → ℕ → Request → Answer → Type 0
IsQuietAnswer server reading conn (requests.Look look) answer =
    IsLookAnswer (is_subscriber (connection_of server conn)) server reading look answer
IsQuietAnswer server reading conn (requests.Ping text) answer =
    answer ≡ answers.Look (pong_frame (is_subscriber (connection_of server conn)) text)
IsQuietAnswer server reading conn _ answer = Unit {0}

-- it was answered so, and no message was sent
pub record IsAnsweredQuietly (server : ServerValue) (reading conn : ℕ) (request : Request)
    (answered : Answered) : Type 0 where
  pub answer : IsQuietAnswer server reading conn request answered.answer
  pub post : answered.post ≡ None
  pub reached : answered.reached ≡ 0
  pub dropping : answered.dropped ≡ []

-- the fault of a look or a ping, if it has one, beside want of memory: a connection that was dropped
-- (this project's own)
abbrev pub quiet_fault : Connection → Request → Option StepFault
quiet_fault connection request =
    if is_out_of_place request connection then None
    else if connection.dropped then Some Dropped
    else None

-- what a look shows is told by the objects
abbrev pub LooksAreTold : Type 0
LooksAreTold =
    (objects : Objects) (moment : ℕ) (look : Look) (one other : Frame) → moment ≤ last_moment
    → ShowsAt objects moment look one → ShowsAt objects moment look other → one ≡ other
