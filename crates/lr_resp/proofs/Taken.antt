-- Each byte that is taken is spelled.
use Rattle.std.proofs.Common.{◌≡◌, ◌≢◌, ℕ, zero, suc, ◌+◌, ◌-◌, ◌*◌, ◌/◌, ◌%◌, ◌≤◌, ◌<◌, ◌^◌, ◌==◌, nat_lt, Bool, true, false, not, ◌&&◌, ◌||◌, List, [], ◌∷◌, ◌++◌, length, decimal, arith, refl, sym, ap, subst, ◌∙◌, true≢false, length-append, inl, inr, ◌⊎◌}
use Rattle.std.specs.List.{concat, AllByRecursion}
use Rattle.std.specs.Fmt.{signed_decimal}
use Rattle.std.specs.Int.RustNames.{FitsSigned}
use Rattle.std.specs.Int.{w64}
use Rattle.std.proofs.lemmas.List.{append-nil, append_assoc}
use Rattle.std.proofs.lemmas.List.Folds.{list_all-append}
use Rattle.std.proofs.lemmas.Bool.{cond_both, eqb-true, eqb-false, ltb-true, ltb-false, and_parts, and_from, not-true, not-false, not_from_false}
use Rattle.std.proofs.lemmas.Fmt.{decimal_digit, decimal_step}
use Rattle.lr_resp.specs.declared.frame.Frame.{Frame}
use Rattle.lr_resp.specs.declared.frame.Frame.TheVariants as frames
use Rattle.lr_resp.specs.declared.phase.LineKind.{LineKind}
use Rattle.lr_resp.specs.declared.phase.LineKind.TheVariants.{Plain, Failure}
use Rattle.lr_resp.specs.declared.phase.HeadKind.{HeadKind}
use Rattle.lr_resp.specs.declared.phase.HeadKind.TheVariants as heads
use Rattle.lr_resp.specs.declared.phase.Phase.{Phase}
use Rattle.lr_resp.specs.declared.phase.Phase.TheVariants.{Begin, Line, LineEnd, Head, Minus, Digits, DigitsEnd, Body, BodyEnd}
use Rattle.lr_resp.specs.Limits.{line_limit, bulk_limit, item_limit, depth_limit}
use Rattle.lr_resp.specs.Spelling.{spelling, line_end}
use Rattle.lr_resp.specs.Opened.{Opened}
use Rattle.lr_resp.specs.Grammar.{IsLine, Fits, is_line_byte}
use Rattle.lr_resp.specs.Sound.{IsSound, ArraysAreSound, PhaseIsSound, IsItem, HeadFits, NumberIs}
use Rattle.lr_resp.specs.Scan.{State, at, Step, Goes, Ends, Fails, close, scan, scan_at, scan_begin, scan_line, scan_line_end, scan_head, scan_minus, scan_digits, scan_body, scan_body_end, headed, is_digit, is_signed, limit, may_go_on, signed}
use Rattle.lr_resp.specs.Spelled.{spelled, arrays_bytes, opened_bytes, phase_bytes, number_text, line_mark, head_mark}

-- what a byte leads to has these bytes
abbrev pub Reaches : List ℕ → Step → Type 0
Reaches bytes (Goes s) = IsSound s × (spelled s ≡ bytes)
Reaches bytes (Ends frame) = Fits item_limit depth_limit frame × (spelling frame ≡ bytes)
Reaches bytes (Fails cause) = Unit {0}

pub reaches-along : (x y : List ℕ) (step : Step) → x ≡ y → Reaches x step → Reaches y step
reaches-along x y step e h = let P : List ℕ → Type 0 = λ bytes. Reaches bytes step in subst P e h

concat_more : (xs : List (List ℕ)) (x : List ℕ) → concat (xs ++ x ∷ []) ≡ concat xs ++ x
concat_more [] x = append-nil x
concat_more (y ∷ ys) x =
    ap (λ (l : List ℕ). y ++ l) (concat_more ys x) ∙ sym (append_assoc y (concat ys) x)

pub all_append : {X : Type 0} (P : X → Type 0) (xs ys : List X) → AllByRecursion P xs
    → AllByRecursion P ys → AllByRecursion P (xs ++ ys)
all_append P [] ys a b = b
all_append P (x ∷ xs) ys a b = (a.0, all_append P xs ys a.1 b)

opened_more : (n : ℕ) (items : List (List ℕ)) (x : List ℕ)
    → (42 ∷ decimal n ++ (line_end ++ concat items)) ++ x
    ≡ 42 ∷ decimal n ++ (line_end ++ concat (items ++ x ∷ []))
opened_more n items x = simp (append_assoc, concat_more)

-- one more item of the innermost array
pub item_bytes : (o : Opened) (os : List Opened) (x : List ℕ) (n : ℕ) → n ≡ o.left + length o.items
    → arrays_bytes os ++ (42 ∷ decimal n ++ (line_end ++ concat (o.items ++ x ∷ [])))
    ≡ arrays_bytes (o ∷ os) ++ x
item_bytes o os x n e =
    ap (λ (m : ℕ). arrays_bytes os ++ (42 ∷ decimal m ++ (line_end ++ concat (o.items ++ x ∷ []))))
    e
    ∙ ap (λ (l : List ℕ). arrays_bytes os ++ l)
    (sym (opened_more (o.left + length o.items) o.items x))
    ∙ sym (append_assoc (arrays_bytes os) (opened_bytes o) x)

pub close_reaches : (depth : ℕ) (arrays : List Opened) (frame : Frame) → ArraysAreSound depth arrays
    → Fits item_limit depth frame
    → Reaches (arrays_bytes arrays ++ spelling frame) (close arrays frame)
unfolding spelled
close_reaches depth [] frame good fits =
    (subst (λ (d : ℕ). Fits item_limit d frame) good fits, refl)
close_reaches depth (o ∷ os) frame good fits =
    let x = spelling frame in
    let items = o.items ++ x ∷ [] in
    let count : length items ≡ length o.items + 1 = length-append o.items (x ∷ []) in
    let all = all_append (IsItem depth) o.items (x ∷ []) good.2 ((frame, fits, refl), tt) in
    cond_both (o.left == 1) (close os (frames.Array items))
    (Goes (at (record { left = o.left - 1; items = items } ∷ os) Begin []))
    (Reaches (arrays_bytes (o ∷ os) ++ x))
    (λ last.
    let one = eqb-true o.left 1 last in
    reaches-along _ _ _ (item_bytes o os x (length items) (omega arith))
    (close_reaches (suc depth) os (frames.Array items) good.3 (omega arith, all)))
    (λ other.
    let more = eqb-false o.left 1 other in
    let n : o.left - 1 + length items ≡ o.left + length o.items = omega arith in (
      record { depth = depth; arrays = (omega arith, omega arith, all, good.3); phase = refl },
      append-nil _ ∙ item_bytes o os x (o.left - 1 + length items) n,
    ))

step_bytes : (a p q : List ℕ) (b : ℕ) → q ≡ p ++ b ∷ [] → a ++ q ≡ (a ++ p) ++ b ∷ []
step_bytes a p q b e = ap (λ (l : List ℕ). a ++ l) e ∙ sym (append_assoc a p (b ∷ []))

goes : (depth : ℕ) (arrays : List Opened) (phase : Phase) (text p : List ℕ) (b : ℕ)
    → ArraysAreSound depth arrays → PhaseIsSound depth phase text
    → phase_bytes phase text ≡ p ++ b ∷ []
    → Reaches ((arrays_bytes arrays ++ p) ++ b ∷ []) (Goes (at arrays phase text))
unfolding spelled
goes depth arrays phase text p b ga gp e = (
  record { depth = depth; arrays = ga; phase = gp },
  step_bytes (arrays_bytes arrays) p
      (phase_bytes phase text) b e,
)

closes : (depth : ℕ) (arrays : List Opened) (frame : Frame) (p : List ℕ) (b : ℕ)
    → ArraysAreSound depth arrays → Fits item_limit depth frame
    → spelling frame ≡ p ++ b ∷ []
    → Reaches ((arrays_bytes arrays ++ p) ++ b ∷ []) (close arrays frame)
closes depth arrays frame p b ga fits e =
    reaches-along _ _ (close arrays frame) (step_bytes (arrays_bytes arrays) p (spelling frame) b e)
    (close_reaches depth arrays frame ga fits)

depth_is : (depth : ℕ) (arrays : List Opened) → ArraysAreSound depth arrays
    → depth + length arrays ≡ depth_limit
depth_is depth [] good = omega arith
depth_is depth (o ∷ os) good = omega (arith, depth_is (suc depth) os good.3)

some_depth : (depth : ℕ) (arrays : List Opened) → ArraysAreSound depth arrays
    → length arrays ≢ depth_limit
    → 0 < depth
some_depth depth arrays good other = omega (arith, depth_is depth arrays good)

line_whole : (mark : ℕ) (text : List ℕ) (b : ℕ) → b ≡ 10
    → mark ∷ text ++ line_end ≡ (mark ∷ text ++ 13 ∷ []) ++ b ∷ []
line_whole mark text b is = rw is (sym (append_assoc (mark ∷ text) (13 ∷ []) (10 ∷ [])))

digit_within : (kind : HeadKind) (negative : Bool) (n : ℕ) → n < 10 → n ≤ limit kind negative
digit_within heads.Number true n h = omega arith
digit_within heads.Number false n h = omega arith
digit_within heads.Bulk negative n h = omega arith
digit_within heads.Array negative n h = omega arith

begin_reaches : (depth : ℕ) (arrays : List Opened) (text : List ℕ) (b : ℕ)
    → ArraysAreSound depth arrays → text ≡ []
    → Reaches ((arrays_bytes arrays ++ []) ++ b ∷ []) (scan_begin (at arrays Begin text) b)
begin_reaches depth arrays text b ga none =
    let P : Step → Type 0 = Reaches ((arrays_bytes arrays ++ []) ++ b ∷ []) in
    let line : IsLine text = rw none (omega arith, refl) in
    let one : (x : ℕ) → b ≡ x → x ∷ text ≡ b ∷ [] = λ x is. cc in
    let alone : (x : ℕ) → b ≡ x → x ∷ [] ≡ b ∷ [] = λ x is. cc in
    cond_both (b == 43) _ _ P
    (λ is. goes depth arrays (Line Plain) text [] b ga line (one 43 (eqb-true b 43 is)))
    (λ _. cond_both (b == 45) _ _ P
    (λ is. goes depth arrays (Line Failure) text [] b ga line (one 45 (eqb-true b 45 is)))
    (λ _. cond_both (b == 58) _ _ P
    (λ is. goes depth arrays (Head heads.Number) text [] b ga (none, tt)
    (alone 58 (eqb-true b 58 is)))
    (λ _. cond_both (b == 36) _ _ P
    (λ is. goes depth arrays (Head heads.Bulk) text [] b ga (none, tt)
    (alone 36 (eqb-true b 36 is)))
    (λ _. cond_both (b == 42) _ _ P
    (λ is. cond_both (length arrays == depth_limit) _ _ P
    (λ _. tt)
    (λ other. goes depth arrays (Head heads.Array) text [] b ga
    (none, some_depth depth arrays ga (eqb-false _ depth_limit other))
    (alone 42 (eqb-true b 42 is))))
    (λ _. tt)))))

line_reaches : (depth : ℕ) (arrays : List Opened) (kind : LineKind) (text : List ℕ) (b : ℕ)
    → ArraysAreSound depth arrays → IsLine text
    → Reaches ((arrays_bytes arrays ++ (line_mark kind ∷ text)) ++ b ∷ [])
    (scan_line kind (at arrays (Line kind) text) b)
line_reaches depth arrays kind text b ga line =
    let P : Step → Type 0 = Reaches ((arrays_bytes arrays ++ (line_mark kind ∷ text)) ++ b ∷ []) in
    cond_both (b == 13) _ _ P
    (λ is. goes depth arrays (LineEnd kind) text (line_mark kind ∷ text) b ga line
    (ap (λ (x : ℕ). line_mark kind ∷ (text ++ x ∷ [])) (sym (eqb-true b 13 is))))
    (λ no_cr. cond_both (length text == line_limit) _ _ P
    (λ _. tt)
    (λ short. cond_both (b == 10) _ _ P
    (λ _. tt)
    (λ no_lf.
    let size : length (text ++ b ∷ []) ≡ length text + 1 = length-append text (b ∷ []) in
    let below = eqb-false (length text) line_limit short in
    let clean = list_all-append is_line_byte text (b ∷ [])
    ∙ and_from _ _ line.1
    (and_from _ _ (and_from _ _ (not_from_false _ no_cr) (not_from_false _ no_lf)) refl) in
    goes depth arrays (Line kind) (text ++ b ∷ []) (line_mark kind ∷ text) b ga
    (omega (arith, line.0), clean) refl)))

line_end_reaches : (depth : ℕ) (arrays : List Opened) (kind : LineKind) (text : List ℕ) (b : ℕ)
    → ArraysAreSound depth arrays → IsLine text
    → Reaches ((arrays_bytes arrays ++ (line_mark kind ∷ text ++ 13 ∷ [])) ++ b ∷ [])
    (scan_line_end kind (at arrays (LineEnd kind) text) b)
line_end_reaches depth arrays Plain text b ga line =
    cond_both (b == 10) _ _ (Reaches ((arrays_bytes arrays ++ (43 ∷ text ++ 13 ∷ [])) ++ b ∷ []))
    (λ is. closes depth arrays (frames.Simple text) (43 ∷ text ++ 13 ∷ []) b ga line
    (line_whole 43 text b (eqb-true b 10 is)))
    (λ _. tt)
line_end_reaches depth arrays Failure text b ga line =
    cond_both (b == 10) _ _ (Reaches ((arrays_bytes arrays ++ (45 ∷ text ++ 13 ∷ [])) ++ b ∷ []))
    (λ is. closes depth arrays (frames.Fault text) (45 ∷ text ++ 13 ∷ []) b ga line
    (line_whole 45 text b (eqb-true b 10 is)))
    (λ _. tt)

decimal_more : (n d : ℕ) → 0 < n → 10 * n + d < 2 ^ 64 → d < 10
    → decimal (10 * n + d) ≡ decimal n ++ (48 + d) ∷ []
decimal_more n d some small digit =
    let tens : (10 * n + d) / 10 ≡ n = omega arith in
    let ones : (10 * n + d) % 10 ≡ d = omega arith in
    decimal_step (10 * n + d) (omega arith) (omega arith)
    ∙ ap (λ (m : ℕ). decimal m ++ (48 + (10 * n + d) % 10) ∷ []) tens
    ∙ ap (λ (m : ℕ). decimal n ++ (48 + m) ∷ []) ones

digit_is : (b : ℕ) → is_digit b ≡ true → (48 ≤ b) × (b < 58)
digit_is b is =
    let parts = and_parts (nat_lt 47 b) (nat_lt b 58) is in
    let low = ltb-true 47 b parts.0 in
    let high = ltb-true b 58 parts.1 in
    (omega arith, high)

-- one digit
digit_text : (b : ℕ) → 48 ≤ b → b < 58 → decimal (b - 48) ≡ b ∷ []
digit_text b low high =
    let e : 48 + (b - 48) ≡ b = omega arith in
    decimal_digit (b - 48) (omega arith) ∙ ap (λ (x : ℕ). x ∷ []) e

head_reaches : (depth : ℕ) (arrays : List Opened) (kind : HeadKind) (text : List ℕ) (b : ℕ)
    → ArraysAreSound depth arrays → text ≡ [] → HeadFits depth kind
    → Reaches ((arrays_bytes arrays ++ (head_mark kind ∷ [])) ++ b ∷ [])
    (scan_head kind (at arrays (Head kind) text) b)
head_reaches depth arrays kind text b ga none fits =
    let P : Step → Type 0 = Reaches ((arrays_bytes arrays ++ (head_mark kind ∷ [])) ++ b ∷ []) in
    cond_both (b == 45) _ _ P
    (λ is. goes depth arrays (Minus kind) text (head_mark kind ∷ []) b ga (none, fits)
    (ap (λ (x : ℕ). head_mark kind ∷ x ∷ []) (sym (eqb-true b 45 is))))
    (λ _. cond_both (is_digit b) _ _ P
    (λ is.
    let digit = digit_is b is in
    let number : NumberIs kind false (b - 48) =
    record {
      within = digit_within kind false (b - 48) (omega arith);
      minus =
          λ e. absurd (true≢false (sym e));
      null = λ e. absurd (true≢false (sym e));
    } in
    goes depth arrays (Digits kind false (b - 48)) text (head_mark kind ∷ []) b ga
    (none, fits, number) (ap (λ (l : List ℕ). head_mark kind ∷ l) (digit_text b digit.0 digit.1)))
    (λ _. tt))

limit_small : (kind : HeadKind) (negative : Bool) → limit kind negative < 2 ^ 64
limit_small heads.Number true = omega arith
limit_small heads.Number false = omega arith
limit_small heads.Bulk negative = omega arith
limit_small heads.Array negative = omega arith

one_within : (kind : HeadKind) (negative : Bool) → 1 ≤ limit kind negative
one_within kind negative = digit_within kind negative 1 (omega arith)

or_parts : (a b : Bool) → a || b ≡ true → (a ≡ true) ⊎ (b ≡ true)
or_parts true b is = inl refl
or_parts false b is = inr is

-- a minus and a digit
minus_number : (kind : HeadKind) (b : ℕ)
    → (b == 49) || (is_signed kind && (is_digit b && not (b == 48))) ≡ true
    → NumberIs kind true (b - 48) × (48 ≤ b) × (b < 58)
minus_number kind b is =
    elim (or_parts (b == 49) _ is) [
      | inl one ↦
          let e : b ≡ 49 = eqb-true b 49 one in
          let d : b - 48 ≡ 1 = omega arith in (
            record {
              within = rw d (one_within kind true);
              minus = λ _. omega arith;
              null =
                  λ _ _. d;
            },
            omega arith,
            omega arith,
          )
      | inr other ↦
          let parts = and_parts (is_signed kind) (is_digit b && not (b == 48)) other in
          let more = and_parts (is_digit b) (not (b == 48)) parts.1 in
          let digit = digit_is b more.0 in
          let no_zero = eqb-false b 48 (not-true (b == 48) more.1) in (
            record {
              within = digit_within kind true (b - 48) (omega arith);
              minus =
                  λ _. omega (arith, digit.0);
              null = λ _ e. absurd (true≢false (sym parts.0 ∙ e));
            },
            digit.0,
            digit.1,
          )
    ]

minus_reaches : (depth : ℕ) (arrays : List Opened) (kind : HeadKind) (text : List ℕ) (b : ℕ)
    → ArraysAreSound depth arrays → text ≡ [] → HeadFits depth kind
    → Reaches ((arrays_bytes arrays ++ (head_mark kind ∷ 45 ∷ [])) ++ b ∷ [])
    (scan_minus kind (at arrays (Minus kind) text) b)
minus_reaches depth arrays kind text b ga none fits =
    let P : Step → Type 0 =
    Reaches ((arrays_bytes arrays ++ (head_mark kind ∷ 45 ∷ [])) ++ b ∷ []) in
    cond_both ((b == 49) || (is_signed kind && (is_digit b && not (b == 48)))) _ _ P
    (λ is.
    let number = minus_number kind b is in
    goes depth arrays (Digits kind true (b - 48)) text (head_mark kind ∷ 45 ∷ []) b ga
    (none, fits, number.0)
    (ap (λ (l : List ℕ). head_mark kind ∷ 45 ∷ l) (digit_text b number.1 number.2)))
    (λ _. tt)

number_more : (negative : Bool) (n b : ℕ) → 0 < n → 48 ≤ b → b < 58 → 10 * n + (b - 48) < 2 ^ 64
    → number_text negative (10 * n + (b - 48)) ≡ number_text negative n ++ b ∷ []
number_more true n b some low high small =
    let e : 48 + (b - 48) ≡ b = omega arith in
    ap (λ (l : List ℕ). 45 ∷ l) (decimal_more n (b - 48) some small (omega arith))
    ∙ ap (λ (x : ℕ). 45 ∷ (decimal n ++ x ∷ [])) e
number_more false n b some low high small =
    let e : 48 + (b - 48) ≡ b = omega arith in
    decimal_more n (b - 48) some small (omega arith) ∙ ap (λ (x : ℕ). decimal n ++ x ∷ []) e

go_on_parts : (kind : HeadKind) (negative : Bool) (n : ℕ) → may_go_on kind negative n ≡ true
    → (n ≢ 0) × (negative ≡ true → is_signed kind ≡ true)
go_on_parts kind true n h =
    let parts = and_parts (not (n == 0)) (not true || is_signed kind) h in
    (eqb-false n 0 (not-true (n == 0) parts.0), λ _. parts.1)
go_on_parts kind false n h =
    let parts = and_parts (not (n == 0)) (not false || is_signed kind) h in
    (eqb-false n 0 (not-true (n == 0) parts.0), λ e. absurd (true≢false (sym e)))

digits_reaches : (depth : ℕ) (arrays : List Opened) (kind : HeadKind) (negative : Bool) (n : ℕ)
    (text : List ℕ) (b : ℕ)
    → ArraysAreSound depth arrays → text ≡ [] → HeadFits depth kind → NumberIs kind negative n
    → Reaches ((arrays_bytes arrays ++ (head_mark kind ∷ number_text negative n)) ++ b ∷ [])
    (scan_digits kind negative n (at arrays (Digits kind negative n) text) b)
digits_reaches depth arrays kind negative n text b ga none fits number =
    let p : List ℕ = head_mark kind ∷ number_text negative n in
    let P : Step → Type 0 = Reaches ((arrays_bytes arrays ++ p) ++ b ∷ []) in
    let next : ℕ = 10 * n + (b - 48) in
    cond_both (b == 13) _ _ P
    (λ is. goes depth arrays (DigitsEnd kind negative n) text p b ga (none, fits, number)
    (ap (λ (x : ℕ). p ++ x ∷ []) (sym (eqb-true b 13 is))))
    (λ _. cond_both (not (may_go_on kind negative n && is_digit b)) _ _ P
    (λ _. tt)
    (λ allowed. cond_both (nat_lt (limit kind negative) next) _ _ P
    (λ _. tt)
    (λ below.
    let parts = and_parts (may_go_on kind negative n) (is_digit b) (not-false _ allowed) in
    let on = go_on_parts kind negative n parts.0 in
    let digit = digit_is b parts.1 in
    let within = ltb-false (limit kind negative) next below in
    let some : 0 < n = omega (arith, on.0) in
    let small : next < 2 ^ 64 = omega (arith, limit_small kind negative) in
    let grown : NumberIs kind negative next =
    record {
      within = omega (arith, within);
      minus = λ _. omega arith;
      null =
          λ e f. absurd (true≢false (sym (on.1 e) ∙ f));
    } in
    goes depth arrays (Digits kind negative next) text p b ga (none, fits, grown)
    (ap (λ (l : List ℕ). head_mark kind ∷ l)
    (number_more negative n b some digit.0 digit.1 small)))))

pub signed_fits : (negative : Bool) (n : ℕ) → NumberIs heads.Number negative n
    → FitsSigned w64 (signed negative n)
unfolding signed
signed_fits true n number =
    let some = number.minus refl in record { sfits = omega (arith, number.within) }
signed_fits false n number = record { sfits = omega (arith, number.within) }

pub signed_text : (negative : Bool) (n : ℕ) → (negative ≡ true → 0 < n)
    → signed_decimal (signed negative n) ≡ number_text negative n
unfolding signed
signed_text true n some =
    let h = some refl in
    let e : suc (n - 1) ≡ n = omega arith in
    ap (λ (m : ℕ). 45 ∷ decimal m) e
signed_text false n some = refl

pub null_array_fits : (depth : ℕ) → 0 < depth → Fits item_limit depth frames.NullArray
null_array_fits zero some = absurd (omega arith)
null_array_fits (suc depth) some = tt

pub no_items_fit : (depth : ℕ) → 0 < depth → Fits item_limit depth (frames.Array [])
no_items_fit zero some = absurd (omega arith)
no_items_fit (suc depth) some = (omega arith, tt)

opens : (depth : ℕ) (arrays : List Opened) (n : ℕ) (text : List ℕ) (b : ℕ)
    → ArraysAreSound depth arrays → 0 < depth → 0 < n → n ≤ item_limit → text ≡ [] → b ≡ 10
    → Reaches ((arrays_bytes arrays ++ (42 ∷ decimal n ++ 13 ∷ [])) ++ b ∷ [])
    (Goes (at (record { left = n; items = [] } ∷ arrays) Begin text))
unfolding spelled
opens zero arrays n text b ga some has within none is = absurd (omega arith)
opens (suc depth) arrays n text b ga some has within none is =
    let e : n + 0 ≡ n = omega arith in (
      record { depth = depth; arrays = (has, omega arith, tt, ga); phase = none },
      append-nil _ ∙ ap (λ (m : ℕ). arrays_bytes arrays ++ (42 ∷ decimal m ++ line_end)) e
          ∙ step_bytes (arrays_bytes arrays) (42 ∷ decimal n ++ 13 ∷ [])
          (42 ∷ decimal n ++ line_end) b (line_whole 42 (decimal n) b is),
    )

headed_reaches : (depth : ℕ) (arrays : List Opened) (kind : HeadKind) (negative : Bool) (n : ℕ)
    (phase : Phase) (text : List ℕ) (b : ℕ)
    → ArraysAreSound depth arrays → text ≡ [] → HeadFits depth kind → NumberIs kind negative n
    → b ≡ 10
    → Reaches ((arrays_bytes arrays ++ (head_mark kind ∷ number_text negative n ++ 13 ∷ [])) ++ b ∷
    []) (headed kind negative n (at arrays phase text))
headed_reaches depth arrays heads.Number negative n phase text b ga none fits number is =
    closes depth arrays (frames.Number (signed negative n)) (58 ∷ number_text negative n ++ 13 ∷ [])
    b ga (signed_fits negative n number)
    (ap (λ (l : List ℕ). 58 ∷ l ++ line_end) (signed_text negative n number.minus)
    ∙ line_whole 58 (number_text negative n) b is)
headed_reaches depth arrays heads.Bulk true n phase text b ga none fits number is =
    let one : 45 ∷ 49 ∷ [] ≡ 45 ∷ decimal n =
    sym (ap (λ (m : ℕ). 45 ∷ decimal m) (number.null refl refl)
    ∙ ap (λ (l : List ℕ). 45 ∷ l) (decimal_digit 1 (omega arith))) in
    closes depth arrays frames.Null (36 ∷ (45 ∷ decimal n) ++ 13 ∷ []) b ga tt
    (ap (λ (l : List ℕ). 36 ∷ l ++ line_end) one ∙ line_whole 36 (45 ∷ decimal n) b is)
headed_reaches depth arrays heads.Bulk false n phase text b ga none fits number is =
    let e : n + length text ≡ n = omega (arith, ap length none) in
    goes depth arrays (Body n) text (36 ∷ decimal n ++ 13 ∷ []) b ga (omega (arith, number.within))
    (ap (λ (m : ℕ). 36 ∷ decimal m ++ (line_end ++ text)) e
    ∙ ap (λ (l : List ℕ). 36 ∷ decimal n ++ (line_end ++ l)) none
    ∙ line_whole 36 (decimal n) b is)
headed_reaches depth arrays heads.Array true n phase text b ga none fits number is =
    let one : 45 ∷ 49 ∷ [] ≡ 45 ∷ decimal n =
    sym (ap (λ (m : ℕ). 45 ∷ decimal m) (number.null refl refl)
    ∙ ap (λ (l : List ℕ). 45 ∷ l) (decimal_digit 1 (omega arith))) in
    closes depth arrays frames.NullArray (42 ∷ (45 ∷ decimal n) ++ 13 ∷ []) b ga
    (null_array_fits depth fits)
    (ap (λ (l : List ℕ). 42 ∷ l ++ line_end) one ∙ line_whole 42 (45 ∷ decimal n) b is)
headed_reaches depth arrays heads.Array false n phase text b ga none fits number is =
    cond_both (n == 0) _ _
    (Reaches ((arrays_bytes arrays ++ (42 ∷ decimal n ++ 13 ∷ [])) ++ b ∷ []))
    (λ zero_items.
    let e = eqb-true n 0 zero_items in
    closes depth arrays (frames.Array []) (42 ∷ decimal n ++ 13 ∷ []) b ga (no_items_fit depth fits)
    (ap (λ (m : ℕ). 42 ∷ decimal m ++ line_end) (sym e) ∙ line_whole 42 (decimal n) b is))
    (λ items.
    let some = eqb-false n 0 items in
    opens depth arrays n text b ga fits (omega arith) (omega (arith, number.within)) none is)

body_reaches : (depth : ℕ) (arrays : List Opened) (left : ℕ) (text : List ℕ) (b : ℕ)
    → ArraysAreSound depth arrays → left + length text ≤ bulk_limit
    → Reaches ((arrays_bytes arrays ++ (36 ∷ decimal (left + length text) ++ (line_end ++ text))) ++
    b ∷ []) (scan_body left (at arrays (Body left) text) b)
body_reaches depth arrays left text b ga within =
    let p : List ℕ = 36 ∷ decimal (left + length text) ++ (line_end ++ text) in
    let P : Step → Type 0 = Reaches ((arrays_bytes arrays ++ p) ++ b ∷ []) in
    let assoc : p ++ b ∷ [] ≡ 36 ∷ decimal (left + length text) ++ (line_end ++ (text ++ b ∷ [])) =
    append_assoc (36 ∷ decimal (left + length text)) (line_end ++ text) (b ∷ []) in
    cond_both (left == 0) _ _ P
    (λ over. cond_both (b == 13) _ _ P
    (λ is.
    let e : length text ≡ left + length text = omega (arith, eqb-true left 0 over) in
    goes depth arrays BodyEnd text p b ga (omega arith)
    (ap (λ (m : ℕ). 36 ∷ decimal m ++ (line_end ++ (text ++ 13 ∷ []))) e
    ∙ ap (λ (x : ℕ). 36 ∷ decimal (left + length text) ++ (line_end ++ (text ++ x ∷ [])))
    (sym (eqb-true b 13 is)) ∙ sym assoc))
    (λ _. tt))
    (λ more.
    let some = eqb-false left 0 more in
    let size : length (text ++ b ∷ []) ≡ length text + 1 = length-append text (b ∷ []) in
    let e : left - 1 + length (text ++ b ∷ []) ≡ left + length text = omega arith in
    goes depth arrays (Body (left - 1)) (text ++ b ∷ []) p b ga (omega arith)
    (ap (λ (m : ℕ). 36 ∷ decimal m ++ (line_end ++ (text ++ b ∷ []))) e ∙ sym assoc))

body_end_reaches : (depth : ℕ) (arrays : List Opened) (text : List ℕ) (b : ℕ)
    → ArraysAreSound depth arrays → length text ≤ bulk_limit
    → Reaches
    ((arrays_bytes arrays ++ (36 ∷ decimal (length text) ++ (line_end ++ (text ++ 13 ∷ [])))) ++ b ∷
    []) (scan_body_end (at arrays BodyEnd text) b)
body_end_reaches depth arrays text b ga within =
    let p : List ℕ = 36 ∷ decimal (length text) ++ (line_end ++ (text ++ 13 ∷ [])) in
    cond_both (b == 10) _ _ (Reaches ((arrays_bytes arrays ++ p) ++ b ∷ []))
    (λ is.
    closes depth arrays (frames.Bulk text) p b ga within
    (rw (eqb-true b 10 is)
    (sym (append_assoc (36 ∷ decimal (length text)) (line_end ++ (text ++ 13 ∷ [])) (10 ∷ [])
    ∙ ap (λ (l : List ℕ). 36 ∷ decimal (length text) ++ (line_end ++ l))
    (append_assoc text (13 ∷ []) (10 ∷ []))))))
    (λ _. tt)

reaches_at : (phase : Phase) (depth : ℕ) (arrays : List Opened) (text : List ℕ) (b : ℕ)
    → ArraysAreSound depth arrays → PhaseIsSound depth phase text
    → Reaches ((arrays_bytes arrays ++ phase_bytes phase text) ++ b ∷ [])
    (scan_at phase (at arrays phase text) b)
reaches_at Begin depth arrays text b ga gp = begin_reaches depth arrays text b ga gp
reaches_at (Line kind) depth arrays text b ga gp = line_reaches depth arrays kind text b ga gp
reaches_at (LineEnd kind) depth arrays text b ga gp =
    line_end_reaches depth arrays kind text b ga gp
reaches_at (Head kind) depth arrays text b ga gp =
    head_reaches depth arrays kind text b ga gp.0 gp.1
reaches_at (Minus kind) depth arrays text b ga gp =
    minus_reaches depth arrays kind text b ga gp.0 gp.1
reaches_at (Digits kind negative n) depth arrays text b ga gp =
    digits_reaches depth arrays kind negative n text b ga gp.0 gp.1 gp.2
reaches_at (DigitsEnd kind negative n) depth arrays text b ga gp =
    cond_both (b == 10) _ _
    (Reaches ((arrays_bytes arrays ++ (head_mark kind ∷ number_text negative n ++ 13 ∷ [])) ++ b ∷
    []))
    (λ is. headed_reaches depth arrays kind negative n (DigitsEnd kind negative n) text b ga gp.0
    gp.1 gp.2 (eqb-true b 10 is))
    (λ _. tt)
reaches_at (Body left) depth arrays text b ga gp = body_reaches depth arrays left text b ga gp
reaches_at BodyEnd depth arrays text b ga gp = body_end_reaches depth arrays text b ga gp

-- each byte that is taken is spelled
pub scan_reaches : (s : State) (b : ℕ) → IsSound s → Reaches (spelled s ++ b ∷ []) (scan s b)
unfolding spelled scan
scan_reaches s b good = reaches_at s.phase good.depth s.arrays s.text b good.arrays good.phase
