-- Replies and their texts: this project's own.
use Rattle.std.specs.Prelude.{ℕ, nat_lt, List, [], ◌++◌, codes, decimal, Bool, true, false, Option, Some, None}
use Rattle.lr_objects.specs.declared.kinds.Function.{Function}
use Rattle.lr_objects.specs.declared.kinds.Function.TheVariants.{Countdown}
use Rattle.lr_objects.specs.declared.countdown.CountdownFunction.TheVariants as latch
use Rattle.lr_objects.specs.declared.reply.Reply.{Reply}
use Rattle.lr_objects.specs.declared.reply.Reply.TheVariants.{Granted, Busy, Kept, Freed, NotHeld, Renewed, Lost, TooDeep, BadLease, GrantedToken, Short, Set, AlreadySet, Count, Unknown, TooMany, TokensSpent, Left}

-- whether the one who asked has to wait: where another has the object, where there are too few
-- permits, and where a latch that is asked for its count isn't at 0
abbrev pub blocks : Reply → Function → Bool
blocks (Busy millis) function = true
blocks Short function = true
blocks (Count count) (Countdown latch.Count) = nat_lt 0 count
blocks _ function = false

-- what a reply to a call of an owner tells of its hold: it was taken, and maybe once more; one of
-- several was given back; it has another deadline; the last one is gone; or nothing
pub data HoldTold : Type 0 where
  Taken : HoldTold
  OneLess : HoldTold
  Extended : HoldTold
  Gone : HoldTold
  NothingTold : HoldTold

abbrev pub hold_told : Reply → HoldTold
hold_told Granted = Taken
hold_told (GrantedToken token) = Taken
hold_told Kept = OneLess
hold_told Renewed = Extended
hold_told Freed = Gone
hold_told _ = NothingTold

-- the word of a reply
abbrev pub reply_word : Reply → List ℕ
reply_word Granted = codes "granted"
reply_word (Busy millis) = codes "busy"
reply_word Kept = codes "kept"
reply_word Freed = codes "freed"
reply_word NotHeld = codes "not-held"
reply_word Renewed = codes "renewed"
reply_word Lost = codes "lost"
reply_word TooDeep = codes "too-deep"
reply_word BadLease = codes "bad-lease"
reply_word (GrantedToken token) = codes "token"
reply_word Short = codes "short"
reply_word Set = codes "set"
reply_word AlreadySet = codes "already-set"
reply_word (Count count) = codes "count"
reply_word Unknown = codes "unknown"
reply_word TooMany = codes "too-many"
reply_word TokensSpent = codes "tokens-spent"
reply_word Left = codes "left"

-- the number that a reply tells besides
abbrev pub reply_number : Reply → Option ℕ
reply_number (Busy millis) = Some millis
reply_number (GrantedToken token) = Some token
reply_number (Count count) = Some count
reply_number _ = None

-- a number behind a word
abbrev pub number_text : Option ℕ → List ℕ
number_text None = []
number_text (Some n) = codes " " ++ decimal n

-- how a reply is written in a transcript
abbrev pub reply_text : Reply → List ℕ
reply_text reply = reply_word reply ++ number_text (reply_number reply)
