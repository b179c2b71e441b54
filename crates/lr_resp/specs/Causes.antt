-- Why a stream can't go on: for each cause the bytes that have it, by where reading stands. A byte
-- has the first cause that fits. Only the first one, `TooLong`, can fit beside another.
use Rattle.std.specs.Prelude.{◌≡◌, ◌≢◌, ◌⊎◌, ℕ, ◌+◌, ◌-◌, ◌*◌, ◌<◌, ◌&&◌, true, List, length}
use Rattle.lr_resp.specs.declared.cause.Cause.{Cause}
use Rattle.lr_resp.specs.declared.cause.Cause.TheVariants.{TooLong, TooDeep, BadType, BadNumber, BadEnd}
use Rattle.lr_resp.specs.declared.phase.HeadKind.TheVariants as heads
use Rattle.lr_resp.specs.declared.phase.Phase.{Phase}
use Rattle.lr_resp.specs.declared.phase.Phase.TheVariants.{Begin, Line, LineEnd, Head, Minus, Digits, DigitsEnd, Body, BodyEnd}
use Rattle.lr_resp.specs.Limits.{line_limit, frame_limit, depth_limit}
use Rattle.lr_resp.specs.Opened.{Opened}
use Rattle.lr_resp.specs.Scan.{State, is_digit, limit, may_go_on}

-- a further digit makes the number pass its limit, or it is byte 513 of a line
abbrev pub PassesLimit : Phase → List ℕ → ℕ → Type 0
PassesLimit (Digits kind negative n) text byte =
    (may_go_on kind negative n ≡ true) × (is_digit byte ≡ true)
    × (limit kind negative < 10 * n + (byte - 48))
PassesLimit (Line kind) text byte = (length text ≡ line_limit) × (byte ≢ 13)
PassesLimit _ text byte = ⊥

abbrev pub IsTooDeep : Phase → List Opened → ℕ → Type 0
IsTooDeep Begin arrays byte = (byte ≡ 42) × (length arrays ≡ depth_limit)
IsTooDeep _ arrays byte = ⊥

-- a frame begins, and the byte is none of + - : $ *
abbrev pub BeginsNone : Phase → ℕ → Type 0
BeginsNone Begin byte =
    (byte ≢ 43) × (byte ≢ 45) × (byte ≢ 58) × (byte ≢ 36) × (byte ≢ 42)
BeginsNone _ byte = ⊥

-- In a number or right after it the byte isn't allowed: it isn't a digit or a minus at the start,
-- behind a minus not a digit that may stand there, behind a digit not one more that may follow,
-- nor the CR.
abbrev pub IsNoNumber : Phase → ℕ → Type 0
IsNoNumber (Head kind) byte = (byte ≢ 45) × (is_digit byte ≢ true)
IsNoNumber (Minus heads.Number) byte = (is_digit byte ≢ true) ⊎ (byte ≡ 48)
IsNoNumber (Minus _) byte = byte ≢ 49
IsNoNumber (Digits kind negative n) byte =
    (byte ≢ 13) × (may_go_on kind negative n && is_digit byte ≢ true)
IsNoNumber _ byte = ⊥

-- CR or LF must stand there, or it is a LF inside a line
abbrev pub IsNoEnd : Phase → ℕ → Type 0
IsNoEnd (Line kind) byte = byte ≡ 10
IsNoEnd (LineEnd kind) byte = byte ≢ 10
IsNoEnd (DigitsEnd kind negative n) byte = byte ≢ 10
IsNoEnd (Body left) byte = (left ≡ 0) × (byte ≢ 13)
IsNoEnd BodyEnd byte = byte ≢ 10
IsNoEnd _ byte = ⊥

abbrev pub IsTooLong : ℕ → State → ℕ → Type 0
IsTooLong place state byte = (place ≡ frame_limit) ⊎ PassesLimit state.phase state.text byte

-- a byte behind so many of a frame, where reading stands in this state
abbrev pub HasCause : Cause → ℕ → State → ℕ → Type 0
HasCause TooLong place state byte = IsTooLong place state byte
HasCause TooDeep place state byte =
    ¬ IsTooLong place state byte × IsTooDeep state.phase state.arrays byte
HasCause BadType place state byte =
    ¬ IsTooLong place state byte × BeginsNone state.phase byte
HasCause BadNumber place state byte =
    ¬ IsTooLong place state byte × IsNoNumber state.phase byte
HasCause BadEnd place state byte =
    ¬ IsTooLong place state byte × IsNoEnd state.phase byte
