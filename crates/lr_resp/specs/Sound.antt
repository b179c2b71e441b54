-- What holds wherever reading stands inside a frame.
use Rattle.std.specs.Prelude.{◌≡◌, ℕ, suc, ◌+◌, ◌≤◌, ◌<◌, Bool, true, false, List, [], ◌∷◌, length}
use Rattle.std.specs.List.{AllByRecursion}
use Rattle.lr_resp.specs.declared.frame.Frame.{Frame}
use Rattle.lr_resp.specs.declared.phase.HeadKind.{HeadKind}
use Rattle.lr_resp.specs.declared.phase.HeadKind.TheVariants as heads
use Rattle.lr_resp.specs.declared.phase.Phase.{Phase}
use Rattle.lr_resp.specs.declared.phase.Phase.TheVariants.{Begin, Line, LineEnd, Head, Minus, Digits, DigitsEnd, Body, BodyEnd}
use Rattle.lr_resp.specs.Limits.{bulk_limit, item_limit, depth_limit}
use Rattle.lr_resp.specs.Spelling.{spelling}
use Rattle.lr_resp.specs.Grammar.{IsLine, Fits}
use Rattle.lr_resp.specs.Opened.{Opened}
use Rattle.lr_resp.specs.Scan.{State, limit, is_signed}

abbrev pub IsItem : ℕ → List ℕ → Type 0
IsItem depth bytes = (frame : Frame) × Fits item_limit depth frame × (bytes ≡ spelling frame)

-- the open arrays, where so many more may be opened
abbrev pub ArraysAreSound : ℕ → List Opened → Type 0
ArraysAreSound depth [] = depth ≡ depth_limit
ArraysAreSound depth (o ∷ os) =
    (0 < o.left) × (o.left + length o.items ≤ item_limit) × AllByRecursion (IsItem depth) o.items
    × ArraysAreSound (suc depth) os

abbrev pub HeadFits : ℕ → HeadKind → Type 0
HeadFits depth heads.Number = Unit {0}
HeadFits depth heads.Bulk = Unit {0}
HeadFits depth heads.Array = 0 < depth

pub record NumberIs (kind : HeadKind) (negative : Bool) (n : ℕ) : Type 0 where
  pub within : n ≤ limit kind negative
  pub minus : negative ≡ true → 0 < n
  pub null : negative ≡ true → is_signed kind ≡ false → n ≡ 1

abbrev pub PhaseIsSound : ℕ → Phase → List ℕ → Type 0
PhaseIsSound depth Begin text = text ≡ []
PhaseIsSound depth (Line kind) text = IsLine text
PhaseIsSound depth (LineEnd kind) text = IsLine text
PhaseIsSound depth (Head kind) text = (text ≡ []) × HeadFits depth kind
PhaseIsSound depth (Minus kind) text = (text ≡ []) × HeadFits depth kind
PhaseIsSound depth (Digits kind negative n) text =
    (text ≡ []) × HeadFits depth kind × NumberIs kind negative n
PhaseIsSound depth (DigitsEnd kind negative n) text =
    (text ≡ []) × HeadFits depth kind × NumberIs kind negative n
PhaseIsSound depth (Body left) text = left + length text ≤ bulk_limit
PhaseIsSound depth BodyEnd text = length text ≤ bulk_limit

pub record IsSound (s : State) : Type 0 where
  pub depth : ℕ
  pub arrays : ArraysAreSound depth s.arrays
  pub phase : PhaseIsSound depth s.phase s.text
