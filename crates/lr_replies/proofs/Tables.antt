-- The tables of the replies and of their frames agree.
use Rattle.std.proofs.Common.{◌≡◌, ℕ, ◌≤◌, ◌≢◌, ◌==◌, Bool, if◌then◌else◌, Option, Some, None, IfSome, arith, refl, sym, ap, ◌∙◌}
use Rattle.std.proofs.lemmas.Bool.{cond_both, eqb-true, ne_eqb}
use Rattle.lr_objects.specs.declared.reply.Reply.{Reply}
use Rattle.lr_objects.specs.declared.reply.Reply.TheVariants as replies
use Rattle.lr_replies.specs.Frames.{IsReply}
use Rattle.lr_replies.specs.Reading.{reply_of, busy_for, busy_or_short, one_or_zero}
use Rattle.lr_replies.specs.Shapes.{IsShape, shape_of, counted_try_shape, force_shape, leave_shape, limited_try_shape, permit_release_shape, permit_try_shape, renew_shape, set_shape, token_try_shape, try_shape, unlock_shape}
use Rattle.lr_replies.specs.declared.refusal.Refusal.TheVariants.{TooDeep, TooMany, TokensSpent, BadLease, PermitIdInUse}
use Rattle.lr_replies.specs.declared.role.Role.{Role}
use Rattle.lr_replies.specs.declared.role.Role.TheVariants as roles
use Rattle.lr_replies.specs.declared.shape.Shape.{Shape}
use Rattle.lr_replies.specs.declared.shape.Shape.TheVariants.{Null, Number, Token, Refused}

busy_for-some : (millis : ℕ) → 1 ≤ millis → busy_for millis ≡ Some (replies.Busy millis)
busy_for-some millis some =
    let other : millis ≢ 0 = λ is. omega (arith, some, is) in
    ap (λ (b : Bool). if b then None else Some (replies.Busy millis)) (ne_eqb millis 0 other)

busy_or_short-some : (millis : ℕ) → 1 ≤ millis → busy_or_short millis ≡ Some (replies.Busy millis)
busy_or_short-some millis some =
    let other : millis ≢ 0 = λ is. omega (arith, some, is) in
    ap (λ (b : Bool). if b then Some replies.Short else Some (replies.Busy millis))
    (ne_eqb millis 0 other)

-- where a function that does this has the reply, its frame is read as the reply
abbrev IsReadBack : Role → Reply → Type 0
IsReadBack role reply =
    IfSome (shape_of role reply) (λ shape. IsShape shape × (reply_of role shape ≡ Some reply))

try_back : (reply : Reply) → IsReply reply → IsReadBack roles.Try reply
try_back replies.Granted made = (tt, refl)
try_back (replies.Busy millis) made = (made.1, busy_for-some millis made.0)
try_back replies.TooDeep made = (tt, refl)
try_back replies.BadLease made = (tt, refl)
try_back _ made = tt

limited_try_back : (reply : Reply) → IsReply reply → IsReadBack roles.LimitedTry reply
limited_try_back replies.TooMany made = (tt, refl)
limited_try_back replies.Granted made = (tt, refl)
limited_try_back (replies.Busy millis) made = (made.1, busy_for-some millis made.0)
limited_try_back replies.TooDeep made = (tt, refl)
limited_try_back replies.BadLease made = (tt, refl)
limited_try_back _ made = tt

token_try_back : (reply : Reply) → IsReply reply → IsReadBack roles.TokenTry reply
token_try_back (replies.GrantedToken token) made = (made, refl)
token_try_back (replies.Busy millis) made = (made.1, busy_for-some millis made.0)
token_try_back replies.TooDeep made = (tt, refl)
token_try_back replies.TokensSpent made = (tt, refl)
token_try_back replies.BadLease made = (tt, refl)
token_try_back _ made = tt

counted_try_back : (reply : Reply) → IsReply reply → IsReadBack roles.CountedTry reply
counted_try_back replies.Granted made = (omega arith, refl)
counted_try_back replies.Short made = (omega arith, refl)
counted_try_back _ made = tt

permit_try_back : (reply : Reply) → IsReply reply → IsReadBack roles.PermitTry reply
permit_try_back replies.Granted made = (tt, refl)
permit_try_back (replies.Busy millis) made = (made.1, busy_or_short-some millis made.0)
permit_try_back replies.Short made = (omega arith, refl)
permit_try_back replies.AlreadySet made = (tt, refl)
permit_try_back replies.TooMany made = (tt, refl)
permit_try_back replies.BadLease made = (tt, refl)
permit_try_back _ made = tt

unlock_back : (reply : Reply) → IsReply reply → IsReadBack roles.Unlock reply
unlock_back replies.Kept made = (omega arith, refl)
unlock_back replies.Freed made = (omega arith, refl)
unlock_back replies.NotHeld made = (tt, refl)
unlock_back replies.BadLease made = (tt, refl)
unlock_back _ made = tt

renew_back : (reply : Reply) → IsReply reply → IsReadBack roles.Renew reply
renew_back replies.Renewed made = (omega arith, refl)
renew_back replies.Lost made = (omega arith, refl)
renew_back replies.BadLease made = (tt, refl)
renew_back _ made = tt

force_back : (reply : Reply) → IsReply reply → IsReadBack roles.Force reply
force_back replies.Freed made = (omega arith, refl)
force_back replies.NotHeld made = (omega arith, refl)
force_back _ made = tt

leave_back : (reply : Reply) → IsReply reply → IsReadBack roles.Leave reply
leave_back replies.Left made = (omega arith, refl)
leave_back replies.Unknown made = (omega arith, refl)
leave_back _ made = tt

set_back : (reply : Reply) → IsReply reply → IsReadBack roles.Set reply
set_back replies.Set made = (omega arith, refl)
set_back replies.AlreadySet made = (omega arith, refl)
set_back _ made = tt

counted_release_back : (reply : Reply) → IsReply reply → IsReadBack roles.CountedRelease reply
counted_release_back (replies.Count count) made = (made, refl)
counted_release_back replies.TooMany made = (tt, refl)
counted_release_back _ made = tt

permit_release_back : (reply : Reply) → IsReply reply → IsReadBack roles.PermitRelease reply
permit_release_back replies.Freed made = (omega arith, refl)
permit_release_back replies.Unknown made = (omega arith, refl)
permit_release_back _ made = tt

count_back : (reply : Reply) → IsReply reply → IsReadBack roles.Count reply
count_back (replies.Count count) made = (made, refl)
count_back _ made = tt

pub reads_back : (role : Role) (reply : Reply) → IsReply reply → IsReadBack role reply
reads_back roles.Try = try_back
reads_back roles.LimitedTry = limited_try_back
reads_back roles.TokenTry = token_try_back
reads_back roles.CountedTry = counted_try_back
reads_back roles.PermitTry = permit_try_back
reads_back roles.Unlock = unlock_back
reads_back roles.Renew = renew_back
reads_back roles.Force = force_back
reads_back roles.Leave = leave_back
reads_back roles.Set = set_back
reads_back roles.CountedRelease = counted_release_back
reads_back roles.PermitRelease = permit_release_back
reads_back roles.Count = count_back

-- the reply that is read from a number looks so
abbrev IsNumbered : (Reply → Option Shape) → ℕ → Reply → Type 0
IsNumbered shape number reply = shape reply ≡ Some (Number number)

busy_looks : (shape : Reply → Option Shape) (millis : ℕ)
    → IsNumbered shape millis (replies.Busy millis)
    → IfSome (busy_for millis) (IsNumbered shape millis)
busy_looks shape millis busy =
    cond_both (millis == 0) None (Some (replies.Busy millis))
    (λ reply. IfSome reply (IsNumbered shape millis))
    (λ _. tt)
    (λ _. busy)

short_looks : (shape : Reply → Option Shape) (millis : ℕ)
    → IsNumbered shape millis (replies.Busy millis) → IsNumbered shape 0 replies.Short
    → IfSome (busy_or_short millis) (IsNumbered shape millis)
short_looks shape millis busy short =
    cond_both (millis == 0) (Some replies.Short) (Some (replies.Busy millis))
    (λ reply. IfSome reply (IsNumbered shape millis))
    (λ is. short ∙ ap (λ (n : ℕ). Some (Number n)) (sym (eqb-true millis 0 is)))
    (λ _. busy)

one_or_zero_looks : (shape : Reply → Option Shape) (one none : Reply) (number : ℕ)
    → IsNumbered shape 1 one → IsNumbered shape 0 none
    → IfSome (one_or_zero one none number) (IsNumbered shape number)
one_or_zero_looks shape one none number is_one is_none =
    cond_both (number == 1) (Some one) (if number == 0 then Some none else None)
    (λ reply. IfSome reply (IsNumbered shape number))
    (λ is. is_one ∙ ap (λ (n : ℕ). Some (Number n)) (sym (eqb-true number 1 is)))
    (λ _. cond_both (number == 0) (Some none) None
    (λ reply. IfSome reply (IsNumbered shape number))
    (λ is. is_none ∙ ap (λ (n : ℕ). Some (Number n)) (sym (eqb-true number 0 is)))
    (λ _. tt))

-- where a function that does this has a reply that looks so, it does
abbrev LooksSo : Role → Shape → Type 0
LooksSo role shape = IfSome (reply_of role shape) (λ reply. shape_of role reply ≡ Some shape)

try_looks : (shape : Shape) → LooksSo roles.Try shape
try_looks Null = refl
try_looks (Number millis) = busy_looks try_shape millis refl
try_looks (Refused TooDeep) = refl
try_looks (Refused BadLease) = refl
try_looks _ = tt

limited_try_looks : (shape : Shape) → LooksSo roles.LimitedTry shape
limited_try_looks Null = refl
limited_try_looks (Number millis) = busy_looks limited_try_shape millis refl
limited_try_looks (Refused TooMany) = refl
limited_try_looks (Refused TooDeep) = refl
limited_try_looks (Refused BadLease) = refl
limited_try_looks _ = tt

token_try_looks : (shape : Shape) → LooksSo roles.TokenTry shape
token_try_looks (Token token) = refl
token_try_looks (Number millis) = busy_looks token_try_shape millis refl
token_try_looks (Refused TooDeep) = refl
token_try_looks (Refused TokensSpent) = refl
token_try_looks (Refused BadLease) = refl
token_try_looks _ = tt

counted_try_looks : (shape : Shape) → LooksSo roles.CountedTry shape
counted_try_looks (Number number) =
    one_or_zero_looks counted_try_shape replies.Granted replies.Short number refl refl
counted_try_looks _ = tt

permit_try_looks : (shape : Shape) → LooksSo roles.PermitTry shape
permit_try_looks Null = refl
permit_try_looks (Number millis) = short_looks permit_try_shape millis refl refl
permit_try_looks (Refused PermitIdInUse) = refl
permit_try_looks (Refused TooMany) = refl
permit_try_looks (Refused BadLease) = refl
permit_try_looks _ = tt

unlock_looks : (shape : Shape) → LooksSo roles.Unlock shape
unlock_looks Null = refl
unlock_looks (Number number) =
    one_or_zero_looks unlock_shape replies.Freed replies.Kept number refl refl
unlock_looks (Refused BadLease) = refl
unlock_looks _ = tt

renew_looks : (shape : Shape) → LooksSo roles.Renew shape
renew_looks (Number number) =
    one_or_zero_looks renew_shape replies.Renewed replies.Lost number refl refl
renew_looks (Refused BadLease) = refl
renew_looks _ = tt

force_looks : (shape : Shape) → LooksSo roles.Force shape
force_looks (Number number) =
    one_or_zero_looks force_shape replies.Freed replies.NotHeld number refl refl
force_looks _ = tt

leave_looks : (shape : Shape) → LooksSo roles.Leave shape
leave_looks (Number number) =
    one_or_zero_looks leave_shape replies.Left replies.Unknown number refl refl
leave_looks _ = tt

set_looks : (shape : Shape) → LooksSo roles.Set shape
set_looks (Number number) =
    one_or_zero_looks set_shape replies.Set replies.AlreadySet number refl refl
set_looks _ = tt

counted_release_looks : (shape : Shape) → LooksSo roles.CountedRelease shape
counted_release_looks (Number count) = refl
counted_release_looks (Refused TooMany) = refl
counted_release_looks _ = tt

permit_release_looks : (shape : Shape) → LooksSo roles.PermitRelease shape
permit_release_looks (Number number) =
    one_or_zero_looks permit_release_shape replies.Freed replies.Unknown number refl refl
permit_release_looks _ = tt

count_looks : (shape : Shape) → LooksSo roles.Count shape
count_looks (Number count) = refl
count_looks _ = tt

pub looks_so : (role : Role) (shape : Shape) → LooksSo role shape
looks_so roles.Try = try_looks
looks_so roles.LimitedTry = limited_try_looks
looks_so roles.TokenTry = token_try_looks
looks_so roles.CountedTry = counted_try_looks
looks_so roles.PermitTry = permit_try_looks
looks_so roles.Unlock = unlock_looks
looks_so roles.Renew = renew_looks
looks_so roles.Force = force_looks
looks_so roles.Leave = leave_looks
looks_so roles.Set = set_looks
looks_so roles.CountedRelease = counted_release_looks
looks_so roles.PermitRelease = permit_release_looks
looks_so roles.Count = count_looks
