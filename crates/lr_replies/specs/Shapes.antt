-- What frames the replies are, by what the function does: this project's own.
use Rattle.std.specs.Prelude.{ℕ, ◌<◌, ◌^◌, pos, List, [], ◌∷◌, codes, Option, Some, None}
use Rattle.lr_objects.specs.declared.reply.Reply.{Reply}
use Rattle.lr_objects.specs.declared.reply.Reply.TheVariants.{Granted, Busy, Kept, Freed, NotHeld, Renewed, Lost, TooDeep, BadLease, GrantedToken, Short, Set, AlreadySet, Count, Unknown, TooMany, TokensSpent, Left}
use Rattle.lr_resp.specs.declared.frame.Frame.{Frame}
use Rattle.lr_resp.specs.declared.frame.Frame.TheVariants as frames
use Rattle.lr_resp.specs.Spelling.{spelling}
use Rattle.lr_replies.specs.declared.refusal.Refusal.{Refusal}
use Rattle.lr_replies.specs.declared.refusal.Refusal.TheVariants as refusals
use Rattle.lr_replies.specs.declared.role.Role.{Role}
use Rattle.lr_replies.specs.declared.role.Role.TheVariants as roles
use Rattle.lr_replies.specs.declared.shape.Shape.{Shape}
use Rattle.lr_replies.specs.declared.shape.Shape.TheVariants.{Null, Number, Token, Refused}

-- the text of an error
abbrev pub refusal_text : Refusal → List ℕ
refusal_text refusals.TooDeep = codes "LOCK too deep"
refusal_text refusals.TooMany = codes "LOCK too many"
refusal_text refusals.TokensSpent = codes "LOCK tokens spent"
refusal_text refusals.BadLease = codes "LOCK bad lease"
refusal_text refusals.PermitIdInUse = codes "LOCK permit id in use"

-- a token comes behind the null that grants a lock
abbrev pub token_items : ℕ → List (List ℕ)
token_items token = spelling frames.Null ∷ spelling (frames.Number (pos token)) ∷ []

abbrev pub frame_with : Shape → Frame
frame_with Null = frames.Null
frame_with (Number number) = frames.Number (pos number)
frame_with (Token token) = frames.Array (token_items token)
frame_with (Refused refusal) = frames.Fault (refusal_text refusal)

-- its number has at most 63 bits
abbrev pub IsShape : Shape → Type 0
IsShape (Number number) = number < 2 ^ 63
IsShape (Token token) = token < 2 ^ 63
IsShape _ = Unit {0}

abbrev pub try_shape : Reply → Option Shape
try_shape Granted = Some Null
try_shape (Busy millis) = Some (Number millis)
try_shape TooDeep = Some (Refused refusals.TooDeep)
try_shape BadLease = Some (Refused refusals.BadLease)
try_shape _ = None

abbrev pub limited_try_shape : Reply → Option Shape
limited_try_shape TooMany = Some (Refused refusals.TooMany)
limited_try_shape reply = try_shape reply

abbrev pub token_try_shape : Reply → Option Shape
token_try_shape (GrantedToken token) = Some (Token token)
token_try_shape (Busy millis) = Some (Number millis)
token_try_shape TooDeep = Some (Refused refusals.TooDeep)
token_try_shape TokensSpent = Some (Refused refusals.TokensSpent)
token_try_shape BadLease = Some (Refused refusals.BadLease)
token_try_shape _ = None

abbrev pub counted_try_shape : Reply → Option Shape
counted_try_shape Granted = Some (Number 1)
counted_try_shape Short = Some (Number 0)
counted_try_shape _ = None

abbrev pub permit_try_shape : Reply → Option Shape
permit_try_shape Granted = Some Null
permit_try_shape (Busy millis) = Some (Number millis)
permit_try_shape Short = Some (Number 0)
permit_try_shape AlreadySet = Some (Refused refusals.PermitIdInUse)
permit_try_shape TooMany = Some (Refused refusals.TooMany)
permit_try_shape BadLease = Some (Refused refusals.BadLease)
permit_try_shape _ = None

abbrev pub unlock_shape : Reply → Option Shape
unlock_shape Kept = Some (Number 0)
unlock_shape Freed = Some (Number 1)
unlock_shape NotHeld = Some Null
unlock_shape BadLease = Some (Refused refusals.BadLease)
unlock_shape _ = None

abbrev pub renew_shape : Reply → Option Shape
renew_shape Renewed = Some (Number 1)
renew_shape Lost = Some (Number 0)
renew_shape BadLease = Some (Refused refusals.BadLease)
renew_shape _ = None

abbrev pub force_shape : Reply → Option Shape
force_shape Freed = Some (Number 1)
force_shape NotHeld = Some (Number 0)
force_shape _ = None

abbrev pub leave_shape : Reply → Option Shape
leave_shape Left = Some (Number 1)
leave_shape Unknown = Some (Number 0)
leave_shape _ = None

abbrev pub set_shape : Reply → Option Shape
set_shape Set = Some (Number 1)
set_shape AlreadySet = Some (Number 0)
set_shape _ = None

abbrev pub counted_release_shape : Reply → Option Shape
counted_release_shape (Count count) = Some (Number count)
counted_release_shape TooMany = Some (Refused refusals.TooMany)
counted_release_shape _ = None

abbrev pub permit_release_shape : Reply → Option Shape
permit_release_shape Freed = Some (Number 1)
permit_release_shape Unknown = Some (Number 0)
permit_release_shape _ = None

abbrev pub count_shape : Reply → Option Shape
count_shape (Count count) = Some (Number count)
count_shape _ = None

-- how a reply of a function that does this looks, where such a function has it
abbrev pub shape_of : Role → Reply → Option Shape
shape_of roles.Try reply = try_shape reply
shape_of roles.LimitedTry reply = limited_try_shape reply
shape_of roles.TokenTry reply = token_try_shape reply
shape_of roles.CountedTry reply = counted_try_shape reply
shape_of roles.PermitTry reply = permit_try_shape reply
shape_of roles.Unlock reply = unlock_shape reply
shape_of roles.Renew reply = renew_shape reply
shape_of roles.Force reply = force_shape reply
shape_of roles.Leave reply = leave_shape reply
shape_of roles.Set reply = set_shape reply
shape_of roles.CountedRelease reply = counted_release_shape reply
shape_of roles.PermitRelease reply = permit_release_shape reply
shape_of roles.Count reply = count_shape reply
