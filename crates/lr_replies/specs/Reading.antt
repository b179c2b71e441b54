-- How the replies are read from their frames, by what the function does.
use Rattle.std.specs.Prelude.{ℕ, ◌==◌, if◌then◌else◌, Option, Some, None}
use Rattle.lr_objects.specs.declared.reply.Reply.{Reply}
use Rattle.lr_objects.specs.declared.reply.Reply.TheVariants as replies
use Rattle.lr_replies.specs.declared.refusal.Refusal.TheVariants.{TooDeep, TooMany, TokensSpent, BadLease, PermitIdInUse}
use Rattle.lr_replies.specs.declared.role.Role.{Role}
use Rattle.lr_replies.specs.declared.role.Role.TheVariants as roles
use Rattle.lr_replies.specs.declared.shape.Shape.{Shape}
use Rattle.lr_replies.specs.declared.shape.Shape.TheVariants.{Null, Number, Token, Refused}

-- the reply that 1 stands for, or the one that 0 stands for
abbrev pub one_or_zero : Reply → Reply → ℕ → Option Reply
one_or_zero one none number =
    if number == 1 then Some one else if number == 0 then Some none else None

-- busy for so long, which is never 0
abbrev pub busy_for : ℕ → Option Reply
busy_for millis = if millis == 0 then None else Some (replies.Busy millis)

-- the same, where 0 says that there are too few permits
abbrev pub busy_or_short : ℕ → Option Reply
busy_or_short millis = if millis == 0 then Some replies.Short else Some (replies.Busy millis)

abbrev pub read_try : Shape → Option Reply
read_try Null = Some replies.Granted
read_try (Number millis) = busy_for millis
read_try (Refused TooDeep) = Some replies.TooDeep
read_try (Refused BadLease) = Some replies.BadLease
read_try _ = None

abbrev pub read_limited_try : Shape → Option Reply
read_limited_try (Refused TooMany) = Some replies.TooMany
read_limited_try shape = read_try shape

abbrev pub read_token_try : Shape → Option Reply
read_token_try (Token token) = Some (replies.GrantedToken token)
read_token_try (Number millis) = busy_for millis
read_token_try (Refused TooDeep) = Some replies.TooDeep
read_token_try (Refused TokensSpent) = Some replies.TokensSpent
read_token_try (Refused BadLease) = Some replies.BadLease
read_token_try _ = None

abbrev pub read_permit_try : Shape → Option Reply
read_permit_try Null = Some replies.Granted
read_permit_try (Number millis) = busy_or_short millis
read_permit_try (Refused PermitIdInUse) = Some replies.AlreadySet
read_permit_try (Refused TooMany) = Some replies.TooMany
read_permit_try (Refused BadLease) = Some replies.BadLease
read_permit_try _ = None

abbrev pub read_unlock : Shape → Option Reply
read_unlock (Number number) = one_or_zero replies.Freed replies.Kept number
read_unlock Null = Some replies.NotHeld
read_unlock (Refused BadLease) = Some replies.BadLease
read_unlock _ = None

abbrev pub read_renew : Shape → Option Reply
read_renew (Number number) = one_or_zero replies.Renewed replies.Lost number
read_renew (Refused BadLease) = Some replies.BadLease
read_renew _ = None

-- a number alone, which is 1 or 0
abbrev pub read_one_or_zero : Reply → Reply → Shape → Option Reply
read_one_or_zero one none (Number number) = one_or_zero one none number
read_one_or_zero one none _ = None

abbrev pub read_counted_release : Shape → Option Reply
read_counted_release (Number count) = Some (replies.Count count)
read_counted_release (Refused TooMany) = Some replies.TooMany
read_counted_release _ = None

abbrev pub read_count : Shape → Option Reply
read_count (Number count) = Some (replies.Count count)
read_count _ = None

-- the reply of a function that does this, where such a function has one that looks so
abbrev pub reply_of : Role → Shape → Option Reply
reply_of roles.Try shape = read_try shape
reply_of roles.LimitedTry shape = read_limited_try shape
reply_of roles.TokenTry shape = read_token_try shape
reply_of roles.CountedTry shape = read_one_or_zero replies.Granted replies.Short shape
reply_of roles.PermitTry shape = read_permit_try shape
reply_of roles.Unlock shape = read_unlock shape
reply_of roles.Renew shape = read_renew shape
reply_of roles.Force shape = read_one_or_zero replies.Freed replies.NotHeld shape
reply_of roles.Leave shape = read_one_or_zero replies.Left replies.Unknown shape
reply_of roles.Set shape = read_one_or_zero replies.Set replies.AlreadySet shape
reply_of roles.CountedRelease shape = read_counted_release shape
reply_of roles.PermitRelease shape = read_one_or_zero replies.Freed replies.Unknown shape
reply_of roles.Count shape = read_count shape
