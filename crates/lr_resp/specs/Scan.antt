-- Reading RESP2 one byte after the other, within the limits for reading.
use Rattle.std.specs.Prelude.{ℕ, ◌+◌, ◌-◌, ◌*◌, ◌<◌, ◌==◌, ◌&&◌, ◌||◌, nat_lt, not, Bool, true, false, if◌then◌else◌, ◌≡◌, ◌≤◌, List, [], ◌∷◌, ◌++◌, length}
use Rattle.std.specs.Prelude.{ℤ, pos, negsuc}
use Rattle.lr_resp.specs.declared.frame.Frame.{Frame}
use Rattle.lr_resp.specs.declared.frame.Frame.TheVariants as frames
use Rattle.lr_resp.specs.declared.phase.LineKind.{LineKind}
use Rattle.lr_resp.specs.declared.phase.LineKind.TheVariants.{Plain, Failure}
use Rattle.lr_resp.specs.declared.phase.HeadKind.{HeadKind}
use Rattle.lr_resp.specs.declared.phase.HeadKind.TheVariants as heads
use Rattle.lr_resp.specs.declared.phase.Phase.{Phase}
use Rattle.lr_resp.specs.declared.phase.Phase.TheVariants.{Begin, Line, LineEnd, Head, Minus, Digits, DigitsEnd, Body, BodyEnd}
use Rattle.lr_resp.specs.declared.cause.Cause.{Cause}
use Rattle.lr_resp.specs.declared.cause.Cause.TheVariants.{TooLong, TooDeep, BadType, BadNumber, BadEnd}
use Rattle.lr_resp.specs.Limits.{line_limit, bulk_limit, item_limit, depth_limit, least_number, greatest_number}
use Rattle.lr_resp.specs.Spelling.{spelling}
use Rattle.lr_resp.specs.Opened.{Opened}

-- where reading stands inside a frame
pub record State : Type 0 where
  -- the arrays that are open, the innermost first
  pub arrays : List Opened
  pub phase : Phase
  -- the bytes of the line or the bulk string so far
  pub text : List ℕ

abbrev pub at : List Opened → Phase → List ℕ → State
at arrays phase text = record { arrays = arrays; phase = phase; text = text }

-- what a byte leads to
pub data Step : Type 0 where
  Goes : State → Step
  Ends : Frame → Step
  Fails : Cause → Step

abbrev pub start : State
start = at [] Begin []

abbrev pub at_phase : Phase → State → State
at_phase phase s = record s { phase = phase }

-- an array with one more item, which isn't the last
abbrev pub with_item : Opened → Frame → Opened
with_item o frame = record { left = o.left - 1; items = o.items ++ spelling frame ∷ [] }

-- a frame is whole: it is the next item of the innermost open array, which may be whole then
abbrev pub close : List Opened → Frame → Step
close [] frame = Ends frame
close (o ∷ os) frame =
    if o.left == 1
    then close os (frames.Array (o.items ++ spelling frame ∷ []))
    else Goes (at (with_item o frame ∷ os) Begin [])

abbrev pub scan_array : State → Step
scan_array s =
    if length s.arrays == depth_limit then Fails TooDeep else
    Goes (at_phase (Head heads.Array) s)

abbrev pub scan_begin : State → ℕ → Step
scan_begin s b =
    if b == 43 then Goes (at_phase (Line Plain) s) else
    if b == 45 then Goes (at_phase (Line Failure) s) else
    if b == 58 then Goes (at_phase (Head heads.Number) s) else
    if b == 36 then Goes (at_phase (Head heads.Bulk) s) else
    if b == 42 then scan_array s else
    Fails BadType

abbrev pub scan_line : LineKind → State → ℕ → Step
scan_line kind s b =
    if b == 13 then Goes (at_phase (LineEnd kind) s) else
    if length s.text == line_limit then Fails TooLong else
    if b == 10 then Fails BadEnd else
    Goes (record s { phase = Line kind; text = s.text ++ b ∷ [] })

abbrev pub line_frame : LineKind → List ℕ → Frame
line_frame Plain text = frames.Simple text
line_frame Failure text = frames.Fault text

abbrev pub scan_line_end : LineKind → State → ℕ → Step
scan_line_end kind s b = if b == 10 then close s.arrays (line_frame kind s.text) else Fails BadEnd

abbrev pub is_digit : ℕ → Bool
is_digit b = nat_lt 47 b && nat_lt b 58

abbrev pub scan_head : HeadKind → State → ℕ → Step
scan_head kind s b =
    if b == 45 then Goes (at_phase (Minus kind) s) else
    if is_digit b then Goes (at_phase (Digits kind false (b - 48)) s) else
    Fails BadNumber

-- whether a number of this kind may be negative; the only other word with a minus is the `-1` of a
-- null
abbrev pub is_signed : HeadKind → Bool
is_signed heads.Number = true
is_signed heads.Bulk = false
is_signed heads.Array = false

abbrev pub scan_minus : HeadKind → State → ℕ → Step
scan_minus kind s b =
    if (b == 49) || (is_signed kind && (is_digit b && not (b == 48))) then
    Goes (at_phase (Digits kind true (b - 48)) s) else
    Fails BadNumber

abbrev pub limit : HeadKind → Bool → ℕ
limit heads.Number negative = if negative then least_number else greatest_number
limit heads.Bulk negative = bulk_limit
limit heads.Array negative = item_limit

-- whether more digits may follow these
abbrev pub may_go_on : HeadKind → Bool → ℕ → Bool
may_go_on kind negative n = not (n == 0) && (not negative || is_signed kind)

abbrev pub scan_digits : HeadKind → Bool → ℕ → State → ℕ → Step
scan_digits kind negative n s b =
    if b == 13 then Goes (at_phase (DigitsEnd kind negative n) s) else
    if not (may_go_on kind negative n && is_digit b) then Fails BadNumber else
    if nat_lt (limit kind negative) (10 * n + (b - 48)) then Fails TooLong else
    Goes (at_phase (Digits kind negative (10 * n + (b - 48))) s)

unfoldable pub signed : Bool → ℕ → ℤ
signed negative n = if negative then negsuc (n - 1) else pos n

-- what a line with a number begins
abbrev pub headed : HeadKind → Bool → ℕ → State → Step
headed heads.Number negative n s = close s.arrays (frames.Number (signed negative n))
headed heads.Bulk negative n s =
    if negative then close s.arrays frames.Null else Goes (at_phase (Body n) s)
headed heads.Array negative n s =
    if negative then close s.arrays frames.NullArray else
    if n == 0 then close s.arrays (frames.Array []) else
    Goes (at (record { left = n; items = [] } ∷ s.arrays) Begin s.text)

abbrev pub scan_digits_end : HeadKind → Bool → ℕ → State → ℕ → Step
scan_digits_end kind negative n s b = if b == 10 then headed kind negative n s else Fails BadEnd

abbrev pub scan_body : ℕ → State → ℕ → Step
scan_body left s b =
    if left == 0 then (if b == 13 then Goes (at_phase BodyEnd s) else Fails BadEnd) else
    Goes (record s { phase = Body (left - 1); text = s.text ++ b ∷ [] })

abbrev pub scan_body_end : State → ℕ → Step
scan_body_end s b = if b == 10 then close s.arrays (frames.Bulk s.text) else Fails BadEnd

abbrev pub scan_at : Phase → State → ℕ → Step
scan_at Begin s b = scan_begin s b
scan_at (Line kind) s b = scan_line kind s b
scan_at (LineEnd kind) s b = scan_line_end kind s b
scan_at (Head kind) s b = scan_head kind s b
scan_at (Minus kind) s b = scan_minus kind s b
scan_at (Digits kind negative n) s b = scan_digits kind negative n s b
scan_at (DigitsEnd kind negative n) s b = scan_digits_end kind negative n s b
scan_at (Body left) s b = scan_body left s b
scan_at BodyEnd s b = scan_body_end s b

unfoldable pub scan : State → ℕ → Step
scan s b = scan_at s.phase s b

-- numbers within their limits
abbrev pub NumberFits : HeadKind → Bool → ℕ → Type 0
NumberFits kind negative n = (n ≤ limit kind negative) × (negative ≡ true → 0 < n)

abbrev pub PhaseFits : Phase → Type 0
PhaseFits Begin = Unit {0}
PhaseFits (Line kind) = Unit {0}
PhaseFits (LineEnd kind) = Unit {0}
PhaseFits (Head kind) = Unit {0}
PhaseFits (Minus kind) = Unit {0}
PhaseFits (Digits kind negative n) = NumberFits kind negative n
PhaseFits (DigitsEnd kind negative n) = NumberFits kind negative n
PhaseFits (Body left) = Unit {0}
PhaseFits BodyEnd = Unit {0}
