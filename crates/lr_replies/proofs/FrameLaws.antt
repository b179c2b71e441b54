-- The frames of the replies are told apart, and can be read.
use Rattle.std.proofs.Common.{◌≡◌, ◌≢◌, ℕ, ◌<◌, ◌≤◌, ◌^◌, ◌++◌, List, [], length, decimal, Option, Some, None, IfSome, pos, arith, refl, sym, ap, ◌∙◌}
use Rattle.std.specs.List.{concat}
use Rattle.std.specs.Option.{option_map}
use Rattle.std.proofs.lemmas.List.{length-append}
use Rattle.lr_text.proofs.NumberLaws.{length-decimal}
use Rattle.lr_objects.specs.declared.kinds.Function.{Function}
use Rattle.lr_objects.specs.declared.reply.Reply.{Reply}
use Rattle.lr_resp.specs.declared.frame.Frame.{Frame}
use Rattle.lr_resp.specs.declared.frame.Frame.TheVariants as frames
use Rattle.lr_resp.specs.Grammar.{IsReadable, Spells}
use Rattle.lr_resp.specs.Spelling.{spelling, line_end}
use Rattle.lr_resp.proofs.One.{read_is_one}
use Rattle.lr_replies.specs.Frames.{IsFrameOf, IsReply}
use Rattle.lr_replies.specs.Laws.{RepliesAreReadable, RepliesAreToldApart}
use Rattle.lr_replies.specs.Reading.{reply_of}
use Rattle.lr_replies.specs.Roles.{role_of}
use Rattle.lr_replies.specs.Shapes.{IsShape, frame_with, refusal_text, shape_of, token_items}
use Rattle.lr_replies.specs.declared.refusal.Refusal.{Refusal}
use Rattle.lr_replies.specs.declared.refusal.Refusal.TheVariants.{TooDeep}
use Rattle.lr_replies.specs.declared.role.Role.{Role}
use Rattle.lr_replies.specs.declared.shape.Shape.{Shape}
use Rattle.lr_replies.specs.declared.shape.Shape.TheVariants.{Null, Number, Token, Refused}
use Rattle.lr_replies.proofs.RefusalLaws.{refusal_text-injective}
use Rattle.lr_replies.proofs.Tables.{reads_back, looks_so}

-- a reply of the function looks so, and is read from that
pub record Looks (frame : Frame) (role : Role) (reply : Reply) : Type 0 where
  pub shape : Shape
  pub fits : IsShape shape
  pub read : reply_of role shape ≡ Some reply
  pub is : frame ≡ frame_with shape

looks_of : (frame : Frame) (role : Role) (reply : Reply) (found : Option Shape)
    → IfSome found (λ shape. IsShape shape × (reply_of role shape ≡ Some reply))
    → option_map frame_with found ≡ Some frame → Looks frame role reply
looks_of frame role reply None back is = grind arith
looks_of frame role reply (Some shape) back is =
    record { shape = shape; fits = back.0; read = back.1; is = cc }

pub looks : (frame : Frame) (function : Function) (reply : Reply)
    → IsFrameOf frame function reply → Looks frame (role_of function) reply
looks frame function reply of =
    looks_of frame (role_of function) reply (shape_of (role_of function) reply)
    (reads_back (role_of function) reply of.made) of.has

number_readable : (n : ℕ) → n < 2 ^ 63 → IsReadable (frames.Number (pos n))
number_readable n small = record { sfits = small }

number-injective : (m n : ℕ) → m < 2 ^ 63 → n < 2 ^ 63
    → spelling (frames.Number (pos m)) ≡ spelling (frames.Number (pos n)) → m ≡ n
number-injective m n small tiny is =
    let ends : spelling (frames.Number (pos m)) ++ [] ≡ spelling (frames.Number (pos n)) ++ [] =
    ap (λ (l : List ℕ). l ++ []) is in
    let one = read_is_one (frames.Number (pos m)) (frames.Number (pos n)) [] []
    (number_readable m small) (number_readable n tiny) ends in
    let frame : frames.Number (pos m) ≡ frames.Number (pos n) = one.0 in
    cc

frame_with-injective : (a b : Shape) → IsShape a → IsShape b → frame_with a ≡ frame_with b → a ≡ b
frame_with-injective Null Null fits fine is = refl
frame_with-injective (Number m) (Number n) fits fine is =
    let same : m ≡ n = cc in ap Number same
frame_with-injective (Token m) (Token n) fits fine is =
    let items : spelling (frames.Number (pos m)) ≡ spelling (frames.Number (pos n)) = cc in
    ap Token (number-injective m n fits fine items)
frame_with-injective (Refused a) (Refused b) fits fine is =
    let texts : refusal_text a ≡ refusal_text b = cc in
    ap Refused (refusal_text-injective a b texts)
frame_with-injective _ _ fits fine is = grind arith

pub told_apart : RepliesAreToldApart
told_apart function reply other frame a b =
    let one = looks frame function reply a in
    let two = looks frame function other b in
    let same = frame_with-injective one.shape two.shape one.fits two.fits (sym one.is ∙ two.is) in
    let read : Some reply ≡ Some other =
    sym one.read ∙ ap (reply_of (role_of function)) same ∙ two.read in
    cc

-- how long what is spelled is

number_length : (n : ℕ) → n < 2 ^ 63 → length (spelling (frames.Number (pos n))) ≤ 23
number_length n small =
    let digits = (length-decimal n (omega (arith, small))).1 in
    let line = length-append (decimal n) line_end in
    omega (arith, digits, line)

token_length : (n : ℕ) → n < 2 ^ 63
    → length (spelling (frames.Array (token_items n))) ≤ 64
token_length n small =
    let number = spelling (frames.Number (pos n)) in
    let short = number_length n small in
    let null = length-append (spelling frames.Null) (number ++ []) in
    let last = length-append number [] in
    let count : ℕ = length (token_items n) in
    let digits = (length-decimal count (omega arith)).1 in
    let whole = length-append (decimal count) (line_end ++ concat (token_items n)) in
    omega (arith, short, null, last, digits, whole)

token_readable : (n : ℕ) → n < 2 ^ 63 → IsReadable (frames.Array (token_items n))
token_readable n small = (
  omega arith,
  ((frames.Null, tt, refl), ((frames.Number (pos n), number_readable n small, refl), tt)),
)

refusal_readable : (refusal : Refusal)
    → Spells (spelling (frames.Fault (refusal_text refusal))) (frames.Fault (refusal_text refusal))
refusal_readable TooDeep = ((omega arith, refl), refl, omega arith)
refusal_readable _ = ((omega arith, refl), refl, omega arith)

is_readable : (shape : Shape) → IsShape shape
    → Spells (spelling (frame_with shape)) (frame_with shape)
is_readable Null fits = (tt, refl, omega arith)
is_readable (Number n) fits =
    let short = number_length n fits in (number_readable n fits, refl, omega (arith, short))
is_readable (Token n) fits =
    let short = token_length n fits in (token_readable n fits, refl, omega (arith, short))
is_readable (Refused refusal) fits = refusal_readable refusal

pub are_readable : RepliesAreReadable
are_readable function reply frame of =
    let seen = looks frame function reply of in
    let spells = is_readable seen.shape seen.fits in
    rw seen.is spells

found_looks : (role : Role) (shape : Shape) (reply : Reply) (found : Option Reply)
    → IfSome found (λ r. shape_of role r ≡ Some shape) → found ≡ Some reply
    → shape_of role reply ≡ Some shape
found_looks role shape reply None so is = grind arith
found_looks role shape reply (Some r) so is =
    let same : r ≡ reply = cc in ap (shape_of role) (sym same) ∙ so

-- what a function may answer, by how it looks
pub frame_from : (frame : Frame) (function : Function) (shape : Shape) (reply : Reply)
    → IsReply reply → frame ≡ frame_with shape → reply_of (role_of function) shape ≡ Some reply
    → IsFrameOf frame function reply
frame_from frame function shape reply made is read =
    let looking = found_looks (role_of function) shape reply (reply_of (role_of function) shape)
    (looks_so (role_of function) shape) read in
    record {
      made = made;
      has = ap (option_map frame_with) looking ∙ ap (λ (f : Frame). Some f) (sym is);
    }

-- where a frame looks like no reply, it is none's
pub none_looks : (frame : Frame) (function : Function)
    → ((shape : Shape) → IsShape shape → frame ≢ frame_with shape)
    → (reply : Reply) → ¬ IsFrameOf frame function reply
none_looks frame function none reply of =
    let seen = looks frame function reply of in none seen.shape seen.fits seen.is

-- and where what it looks like is read as none, neither
pub none_read : (frame : Frame) (function : Function) (shape : Shape) → IsShape shape
    → frame ≡ frame_with shape → reply_of (role_of function) shape ≡ None
    → (reply : Reply) → ¬ IsFrameOf frame function reply
none_read frame function shape fits is none reply of =
    let seen = looks frame function reply of in
    let same = frame_with-injective shape seen.shape fits seen.fits (sym is ∙ seen.is) in
    let read : None ≡ Some reply =
    sym none ∙ ap (reply_of (role_of function)) same ∙ seen.read in
    grind arith
