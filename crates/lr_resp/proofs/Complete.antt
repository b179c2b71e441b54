-- What the grammar spells is read.
use Rattle.std.proofs.Common.{◌≡◌, ◌≢◌, ℕ, zero, suc, ◌+◌, ◌-◌, ◌*◌, ◌/◌, ◌%◌, ◌≤◌, ◌<◌, ◌^◌, ◌==◌, nat_lt, Bool, true, false, not, ◌||◌, List, [], ◌∷◌, ◌++◌, length, decimal, IsTrue, arith, refl, sym, ap, subst, ◌∙◌, length-append, eq-eqb, ℤ, pos, negsuc}
use Rattle.std.specs.List.{concat, list_all, AllByRecursion}
use Rattle.std.specs.Int.RustNames.{FitsSigned}
use Rattle.std.specs.Int.{w64}
use Rattle.std.proofs.lemmas.List.{append-nil, append_assoc}
use Rattle.std.proofs.lemmas.Bool.{cond-true, cond-false, ne_eqb, and_parts, and_from, not-true, not_from_false, le-ltb, lt-ltb}
use Rattle.std.proofs.lemmas.Fmt.{decimal_digit, decimal_by_steps}
use Rattle.lr_resp.specs.declared.frame.Frame.{Frame}
use Rattle.lr_resp.specs.declared.frame.Frame.TheVariants as frames
use Rattle.lr_resp.specs.declared.phase.LineKind.{LineKind}
use Rattle.lr_resp.specs.declared.phase.LineKind.TheVariants.{Plain, Failure}
use Rattle.lr_resp.specs.declared.phase.HeadKind.{HeadKind}
use Rattle.lr_resp.specs.declared.phase.HeadKind.TheVariants as heads
use Rattle.lr_resp.specs.declared.phase.Phase.{Phase}
use Rattle.lr_resp.specs.declared.phase.Phase.TheVariants.{Begin, Line, LineEnd, Head, Minus, Digits, DigitsEnd, Body, BodyEnd}
use Rattle.lr_resp.specs.Limits.{line_limit, bulk_limit, item_limit, depth_limit}
use Rattle.lr_resp.specs.Spelling.{spelling, line_end}
use Rattle.lr_resp.specs.Opened.{Opened}
use Rattle.lr_resp.specs.Grammar.{IsLine, Fits, is_line_byte}
use Rattle.lr_resp.specs.Sound.{IsItem}
use Rattle.lr_resp.specs.Scan.{State, at, Step, Goes, Ends, Fails, close, scan, headed, is_digit, is_signed, limit, signed, line_frame}
use Rattle.lr_resp.specs.Stream.{Reading, Whole, Broken, run, read_within, follow}
use Rattle.lr_resp.proofs.Reached.{run_step}

-- what comes behind a step
abbrev pub after : ℕ → ℕ → List ℕ → Step → Reading
after m n rest (Goes s) = run m n s rest
after m n rest (Ends frame) = Whole frame rest
after m n rest (Fails cause) = Broken (n - 1) cause

-- these bytes lead from this state to this step
pub record Leads (s : State) (text : List ℕ) (step : Step) : Type 0 where
  pub runs : (m n : ℕ) (rest : List ℕ) → n + length text ≤ m
      → run m n s (text ++ rest) ≡ after m (n + length text) rest step

follow_after : (m n : ℕ) (bs : List ℕ) (step : Step)
    → follow n bs (λ next. run m (n + 1) next bs) step ≡ after m (n + 1) bs step
follow_after m n bs (Goes s) = refl
follow_after m n bs (Ends frame) = refl
follow_after m n bs (Fails cause) =
    let e : n ≡ n + 1 - 1 = omega arith in ap (λ (k : ℕ). Broken k cause) e

none_leads : (s : State) → Leads s [] (Goes s)
none_leads s =
    record {
      runs = λ m n rest h. let e : n ≡ n + 0 = omega arith in
          ap (λ (k : ℕ). run m k s rest) e;
    }

one_leads : (s : State) (b : ℕ) (step : Step) → scan s b ≡ step → Leads s (b ∷ []) step
one_leads s b step is =
    record {
      runs = λ m n rest h. run_step m n s b rest step (λ e. absurd (omega arith)) is
          ∙ follow_after m n rest step;
    }

cons_leads : (s t : State) (b : ℕ) (bs : List ℕ) (step : Step) → scan s b ≡ Goes t → Leads t bs step
    → Leads s (b ∷ bs) step
cons_leads s t b bs step is more = record {
  runs = λ m n rest h.
      let e : n + 1 + length bs ≡ n + length (b ∷ bs) = omega arith in
      run_step m n s b (bs ++ rest) (Goes t) (λ e. absurd (omega arith)) is
      ∙ more.runs m (n + 1) rest (omega arith) ∙ ap (λ (k : ℕ). after m k rest step) e;
}

then_leads : (s t : State) (xs ys : List ℕ) (step : Step) → Leads s xs (Goes t) → Leads t ys step
    → Leads s (xs ++ ys) step
then_leads s t xs ys step first more = record {
  runs = λ m n rest h.
      let size = length-append xs ys in
      let e : n + length xs + length ys ≡ n + length (xs ++ ys) = omega arith in
      ap (run m n s) (append_assoc xs ys rest) ∙ first.runs m n (ys ++ rest) (omega arith)
      ∙ more.runs m (n + length xs) rest (omega arith) ∙ ap (λ (k : ℕ). after m k rest step) e;
}

-- a line of text
line_leads : (arrays : List Opened) (kind : LineKind) (done text : List ℕ)
    → length done + length text ≤ line_limit → IsTrue (list_all is_line_byte text)
    → Leads (at arrays (Line kind) done) text (Goes (at arrays (Line kind) (done ++ text)))
unfolding scan
line_leads arrays kind done [] short clean =
    subst (λ (t : List ℕ). Leads (at arrays (Line kind) done) [] (Goes (at arrays (Line kind) t)))
    (sym (append-nil done)) (none_leads _)
line_leads arrays kind done (b ∷ text) short clean =
    let parts = and_parts (is_line_byte b) (list_all is_line_byte text) clean in
    let ends = and_parts (not (b == 13)) (not (b == 10)) parts.0 in
    let size : length (done ++ b ∷ []) ≡ length done + 1 = length-append done (b ∷ []) in
    let below : length done ≢ line_limit = λ e. omega arith in
    let step = cond-false (b == 13) _ _ (not-true _ ends.0)
    ∙ cond-false (length done == line_limit) _ _ (ne_eqb (length done) line_limit below)
    ∙ cond-false (b == 10) _ _ (not-true _ ends.1) in
    let more = line_leads arrays kind (done ++ b ∷ []) text (omega arith) parts.1 in
    cons_leads _ (at arrays (Line kind) (done ++ b ∷ [])) b text _ step
    (subst (λ (t : List ℕ). Leads (at arrays (Line kind) (done ++ b ∷ [])) text
    (Goes (at arrays (Line kind) t))) (append_assoc done (b ∷ []) text) more)

-- the bytes of a bulk string
pub body_leads : (arrays : List Opened) (left k : ℕ) (done text : List ℕ) → left ≡ length text + k
    → Leads (at arrays (Body left) done) text (Goes (at arrays (Body k) (done ++ text)))
unfolding scan
body_leads arrays left k done [] is =
    let e : left ≡ k = omega arith in
    rw e (subst (λ (t : List ℕ). Leads (at arrays (Body k) done) [] (Goes (at arrays (Body k) t)))
    (sym (append-nil done)) (none_leads _))
body_leads arrays left k done (b ∷ text) is =
    let some : left ≢ 0 = λ e. omega arith in
    let step = cond-false (left == 0) _ _ (ne_eqb left 0 some) in
    let more = body_leads arrays (left - 1) k (done ++ b ∷ []) text (omega arith) in
    cons_leads _ (at arrays (Body (left - 1)) (done ++ b ∷ [])) b text _ step
    (subst (λ (t : List ℕ). Leads (at arrays (Body (left - 1)) (done ++ b ∷ [])) text
    (Goes (at arrays (Body k) t))) (append_assoc done (b ∷ []) text) more)

digit_byte : (d : ℕ) → d < 10 → is_digit (48 + d) ≡ true
digit_byte d h =
    and_from (nat_lt 47 (48 + d)) (nat_lt (48 + d) 58) (lt-ltb 47 (48 + d) (omega arith))
    (lt-ltb (48 + d) 58 (omega arith))

-- one more digit
digit_step : (arrays : List Opened) (kind : HeadKind) (negative : Bool) (n d : ℕ) → 0 < n → d < 10
    → not negative || is_signed kind ≡ true → 10 * n + d ≤ limit kind negative
    → scan (at arrays (Digits kind negative n) []) (48 + d)
    ≡ Goes (at arrays (Digits kind negative (10 * n + d)) [])
unfolding scan
digit_step arrays kind negative n d some digit allowed within =
    let no_cr : 48 + d ≢ 13 = λ e. omega arith in
    let no_zero : n ≢ 0 = λ e. omega arith in
    let value : 48 + d - 48 ≡ d = omega arith in
    let not_past : nat_lt (limit kind negative) (10 * n + (48 + d - 48)) ≡ false =
    le-ltb (limit kind negative) (10 * n + (48 + d - 48)) (omega arith) in
    let may =
    and_from _ _ (and_from _ _ (not_from_false _ (ne_eqb n 0 no_zero)) allowed)
    (digit_byte d digit) in
    cond-false (48 + d == 13) _ _ (ne_eqb (48 + d) 13 no_cr) ∙ cond-false _ _ _ (ap not may)
    ∙ cond-false _ _ _ not_past
    ∙ ap (λ (m : ℕ). Goes (at arrays (Digits kind negative (10 * n + m)) [])) value

abbrev Counts : List Opened → HeadKind → Bool → State → ℕ → List ℕ → Type 0
Counts arrays kind negative from n ds =
    0 < n → n ≤ limit kind negative → Leads from ds (Goes (at arrays (Digits kind negative n) []))

-- the digits of a number
more_digits : (arrays : List Opened) (kind : HeadKind) (negative : Bool) (from : State)
    → not negative || is_signed kind ≡ true
    → (n : ℕ) (ds : List ℕ) → 10 ≤ n → Counts arrays kind negative from (n / 10) ds
    → Counts arrays kind negative from n (ds ++ ((48 + n % 10) ∷ []))
more_digits arrays kind negative from allowed n ds large first some within =
    let whole : 10 * (n / 10) + n % 10 ≡ n = omega arith in
    let step = digit_step arrays kind negative (n / 10) (n % 10) (omega arith) (omega arith) allowed
    (omega arith) in
    let last =
    one_leads (at arrays (Digits kind negative (n / 10)) []) (48 + n % 10)
    (Goes (at arrays (Digits kind negative (10 * (n / 10) + n % 10)) [])) step in
    subst (λ (m : ℕ).
    Leads from (ds ++ (48 + n % 10) ∷ []) (Goes (at arrays (Digits kind negative m) []))) whole
    (then_leads from _ ds ((48 + n % 10) ∷ []) _ (first (omega arith) (omega arith)) last)

-- the first digit
first_digit : (arrays : List Opened) (kind : HeadKind) (d : ℕ) → d < 10
    → scan (at arrays (Head kind) []) (48 + d) ≡ Goes (at arrays (Digits kind false d) [])
unfolding scan
first_digit arrays kind d digit =
    let no_minus : 48 + d ≢ 45 = λ e. omega arith in
    let value : 48 + d - 48 ≡ d = omega arith in
    cond-false (48 + d == 45) _ _ (ne_eqb (48 + d) 45 no_minus)
    ∙ cond-true (is_digit (48 + d)) _ _ (digit_byte d digit)
    ∙ ap (λ (m : ℕ). Goes (at arrays (Digits kind false m) [])) value

or_right : (a b : Bool) → b ≡ true → a || b ≡ true
or_right true b h = refl
or_right false b h = h

minus_digit : (arrays : List Opened) (d : ℕ) → d < 10 → 0 < d
    → scan (at arrays (Minus heads.Number) []) (48 + d)
    ≡ Goes (at arrays (Digits heads.Number true d) [])
unfolding scan
minus_digit arrays d digit some =
    let no_zero : 48 + d ≢ 48 = λ e. omega arith in
    let value : 48 + d - 48 ≡ d = omega arith in
    let is = and_from _ _ (digit_byte d digit) (not_from_false _ (ne_eqb (48 + d) 48 no_zero)) in
    cond-true _ _ _ (or_right (48 + d == 49) _ is)
    ∙ ap (λ (m : ℕ). Goes (at arrays (Digits heads.Number true m) [])) value

-- a number without a minus
plain_leads : (arrays : List Opened) (kind : HeadKind) (n : ℕ) → n ≤ limit kind false → n < 2 ^ 64
    → Leads (at arrays (Head kind) []) (decimal n) (Goes (at arrays (Digits kind false n) []))
plain_leads arrays kind zero within small =
    subst (λ (l : List ℕ).
    Leads (at arrays (Head kind) []) l (Goes (at arrays (Digits kind false 0) [])))
    (sym (decimal_digit 0 (omega arith)))
    (one_leads _ 48 _ (first_digit arrays kind 0 (omega arith)))
plain_leads arrays kind (suc n) within small =
    decimal_by_steps (Counts arrays kind false (at arrays (Head kind) []))
    (λ d digit some below. one_leads _ (48 + d) _ (first_digit arrays kind d digit))
    (more_digits arrays kind false (at arrays (Head kind) []) refl)
    (suc n) small (omega arith) within

-- one with a minus
negative_leads : (arrays : List Opened) (n : ℕ) → 0 < n → n ≤ limit heads.Number true → n < 2 ^ 64
    → Leads (at arrays (Minus heads.Number) []) (decimal n)
    (Goes (at arrays (Digits heads.Number true n) []))
negative_leads arrays n some within small =
    decimal_by_steps (Counts arrays heads.Number true (at arrays (Minus heads.Number) []))
    (λ d digit has below. one_leads _ (48 + d) _ (minus_digit arrays d digit has))
    (more_digits arrays heads.Number true (at arrays (Minus heads.Number) []) refl)
    n small some within

-- the end of a number
number_end : (arrays : List Opened) (kind : HeadKind) (negative : Bool) (n : ℕ)
    → Leads (at arrays (Digits kind negative n) []) line_end
    (headed kind negative n (at arrays (DigitsEnd kind negative n) []))
unfolding scan
number_end arrays kind negative n =
    cons_leads _ (at arrays (DigitsEnd kind negative n) []) 13 (10 ∷ []) _ refl
    (one_leads _ 10 _ refl)

-- the end of a line of text, and of a bulk string
text_end : (arrays : List Opened) (kind : LineKind) (text : List ℕ)
    → Leads (at arrays (Line kind) text) line_end (close arrays (line_frame kind text))
unfolding scan
text_end arrays kind text =
    cons_leads _ (at arrays (LineEnd kind) text) 13 (10 ∷ []) _ refl (one_leads _ 10 _ refl)

body_end : (arrays : List Opened) (text : List ℕ)
    → Leads (at arrays (Body 0) text) line_end (close arrays (frames.Bulk text))
unfolding scan
body_end arrays text =
    cons_leads _ (at arrays BodyEnd text) 13 (10 ∷ []) _ refl (one_leads _ 10 _ refl)

null_leads : (arrays : List Opened) (kind : HeadKind)
    → Leads (at arrays (Head kind) []) (45 ∷ 49 ∷ line_end)
    (headed kind true 1 (at arrays (DigitsEnd kind true 1) []))
unfolding scan
null_leads arrays kind =
    cons_leads _ (at arrays (Minus kind) []) 45 (49 ∷ line_end) _ refl
    (cons_leads _ (at arrays (Digits kind true 1) []) 49 line_end _ refl
    (number_end arrays kind true 1))

-- a step that begins no frame
head_step : (arrays : List Opened) (mark : ℕ) (phase : Phase) → scan (at arrays Begin []) mark
    ≡ Goes (at arrays phase [])
    → (text : List ℕ) (step : Step) → Leads (at arrays phase []) text step
    → Leads (at arrays Begin []) (mark ∷ text) step
head_step arrays mark phase is text step more = cons_leads _ _ mark text step is more

array_step : (arrays : List Opened) → length arrays ≢ depth_limit → scan (at arrays Begin []) 42
    ≡ Goes (at arrays (Head heads.Array) [])
unfolding scan
array_step arrays other =
    cond-false (length arrays == depth_limit) _ _ (ne_eqb (length arrays) depth_limit other)

counted_leads : (arrays : List Opened) (kind : HeadKind) (n : ℕ) → n ≤ limit kind false → n < 2 ^ 64
    → Leads (at arrays (Head kind) []) (decimal n ++ line_end)
    (headed kind false n (at arrays (DigitsEnd kind false n) []))
counted_leads arrays kind n within small =
    then_leads _ _ (decimal n) line_end _ (plain_leads arrays kind n within small)
    (number_end arrays kind false n)

-- a frame within a number of arrays leads to its end
abbrev pub ReadsAt : ℕ → Type 0
ReadsAt depth =
    (frame : Frame) → Fits item_limit depth frame → (arrays : List Opened)
    → depth + length arrays ≡ depth_limit
    → Leads (at arrays Begin []) (spelling frame) (close arrays frame)

line_reads : (arrays : List Opened) (kind : LineKind) (mark : ℕ) (text : List ℕ) → IsLine text
    → scan (at arrays Begin []) mark ≡ Goes (at arrays (Line kind) [])
    → Leads (at arrays Begin []) (mark ∷ text ++ line_end) (close arrays (line_frame kind text))
line_reads arrays kind mark text line is =
    head_step arrays mark (Line kind) is (text ++ line_end) _
    (then_leads _ _ text line_end _
    (line_leads arrays kind [] text (omega (arith, line.0)) line.1) (text_end arrays kind text))

bulk_reads : (arrays : List Opened) (text : List ℕ) → length text ≤ bulk_limit
    → Leads (at arrays Begin []) (spelling (frames.Bulk text)) (close arrays (frames.Bulk text))
unfolding scan
bulk_reads arrays text short =
    head_step arrays 36 (Head heads.Bulk) refl
    (decimal (length text) ++ (line_end ++ (text ++ line_end))) _
    (subst (λ (l : List ℕ).
    Leads (at arrays (Head heads.Bulk) []) l (close arrays (frames.Bulk text)))
    (append_assoc (decimal (length text)) line_end (text ++ line_end))
    (then_leads _ _ (decimal (length text) ++ line_end) (text ++ line_end) _
    (counted_leads arrays heads.Bulk (length text) short (omega arith))
    (then_leads _ _ text line_end _ (body_leads arrays (length text) 0 [] text (omega arith))
    (body_end arrays text))))

number_reads : (arrays : List Opened) (z : ℤ) → FitsSigned w64 z
    → Leads (at arrays Begin []) (spelling (frames.Number z)) (close arrays (frames.Number z))
unfolding scan signed
number_reads arrays (pos n) fits =
    let small = fits.sfits in
    head_step arrays 58 (Head heads.Number) refl (decimal n ++ line_end) _
    (counted_leads arrays heads.Number n (omega arith) (omega arith))
number_reads arrays (negsuc n) fits =
    let small = fits.sfits in
    let e : suc n - 1 ≡ n = omega arith in
    head_step arrays 58 (Head heads.Number) refl (45 ∷ decimal (suc n) ++ line_end) _
    (cons_leads _ (at arrays (Minus heads.Number) []) 45 (decimal (suc n) ++ line_end) _ refl
    (then_leads _ _ (decimal (suc n)) line_end _
    (negative_leads arrays (suc n) (omega arith) (omega arith) (omega arith))
    (subst (λ (m : ℕ). Leads (at arrays (Digits heads.Number true (suc n)) []) line_end
    (close arrays (frames.Number (negsuc m)))) e (number_end arrays heads.Number true (suc n)))))

-- the items of an array
items_read : (depth : ℕ) (arrays : List Opened) (done items : List (List ℕ)) (left : ℕ)
    → ReadsAt depth → suc depth + length arrays ≡ depth_limit → AllByRecursion (IsItem depth) items
    → left ≡ length items → 0 < left
    → Leads (at (record { left = left; items = done } ∷ arrays) Begin []) (concat items)
    (close arrays (frames.Array (done ++ items)))
items_read depth arrays done [] left reads deep all is some = absurd (omega arith)
items_read depth arrays done (x ∷ []) left reads deep all is some =
    let o : Opened = record { left = left; items = done } in
    let read = reads all.0.0 all.0.1 (o ∷ arrays) (omega arith) in
    let one : left == 1 ≡ true = eq-eqb left 1 (omega arith) in
    let step =
    cond-true (left == 1) (close arrays (frames.Array (done ++ spelling all.0.0 ∷ [])))
    (Goes (at (record { left = left - 1; items = done ++ spelling all.0.0 ∷ [] } ∷ arrays) Begin
    [])) one in
    let same : spelling all.0.0 ≡ x = sym all.0.2 in
    let alone : spelling all.0.0 ≡ x ++ [] = same ∙ sym (append-nil x) in
    subst (λ (l : List ℕ).
    Leads (at (o ∷ arrays) Begin []) l (close arrays (frames.Array (done ++ x ∷ [])))) alone
    (subst (λ (l : List ℕ). Leads (at (o ∷ arrays) Begin []) (spelling all.0.0)
    (close arrays (frames.Array (done ++ l ∷ [])))) same
    (subst (λ (s : Step). Leads (at (o ∷ arrays) Begin []) (spelling all.0.0) s) step read))
items_read depth arrays done (x ∷ y ∷ ys) left reads deep all is some =
    let o : Opened = record { left = left; items = done } in
    let read = reads all.0.0 all.0.1 (o ∷ arrays) (omega arith) in
    let same : spelling all.0.0 ≡ x = sym all.0.2 in
    let many : left ≢ 1 = λ e. omega arith in
    let next : List ℕ → State =
    λ l. at (record { left = left - 1; items = done ++ l ∷ [] } ∷ arrays) Begin [] in
    let step =
    cond-false (left == 1) (close arrays (frames.Array (done ++ spelling all.0.0 ∷ [])))
    (Goes (next (spelling all.0.0))) (ne_eqb left 1 many) in
    let first =
    subst (λ (s : Step). Leads (at (o ∷ arrays) Begin []) (spelling all.0.0) s) step read in
    let first_x =
    subst (λ (l : List ℕ). Leads (at (o ∷ arrays) Begin []) l (Goes (next l))) same first in
    let more =
    items_read depth arrays (done ++ x ∷ []) (y ∷ ys) (left - 1) reads deep all.1 (omega arith)
    (omega arith) in
    then_leads _ (next x) x (concat (y ∷ ys)) _ first_x
    (subst (λ (l : List (List ℕ)). Leads (next x) (concat (y ∷ ys)) (close arrays (frames.Array l)))
    (append_assoc done (x ∷ []) (y ∷ ys)) more)

array_reads : (depth : ℕ) (arrays : List Opened) (items : List (List ℕ)) → ReadsAt depth
    → suc depth + length arrays ≡ depth_limit → length items ≤ item_limit
    → AllByRecursion (IsItem depth) items
    → Leads (at arrays Begin []) (spelling (frames.Array items)) (close arrays (frames.Array items))
array_reads depth arrays [] reads deep few all =
    let other : length arrays ≢ depth_limit = λ e. omega arith in
    head_step arrays 42 (Head heads.Array) (array_step arrays other) (decimal 0 ++ line_end) _
    (counted_leads arrays heads.Array 0 (omega arith) (omega arith))
array_reads depth arrays (x ∷ xs) reads deep few all =
    let items : List (List ℕ) = x ∷ xs in
    let other : length arrays ≢ depth_limit = λ e. omega arith in
    let some : length items ≢ 0 = λ e. omega arith in
    let opened : Step = Goes (at (record { left = length items; items = [] } ∷ arrays) Begin []) in
    let step =
    cond-false (length items == 0) (close arrays (frames.Array [])) opened
    (ne_eqb (length items) 0 some) in
    let head =
    subst (λ (s : Step).
    Leads (at arrays (Head heads.Array) []) (decimal (length items) ++ line_end) s) step
    (counted_leads arrays heads.Array (length items) few (omega arith)) in
    head_step arrays 42 (Head heads.Array) (array_step arrays other)
    (decimal (length items) ++ (line_end ++ concat items)) _
    (subst (λ (l : List ℕ).
    Leads (at arrays (Head heads.Array) []) l (close arrays (frames.Array items)))
    (append_assoc (decimal (length items)) line_end (concat items))
    (then_leads _ _ (decimal (length items) ++ line_end) (concat items) _ head
    (items_read depth arrays [] items (length items) reads deep all refl (omega arith))))

pub frame_reads : (depth : ℕ) → ReadsAt depth
unfolding scan
frame_reads depth (frames.Simple text) fits arrays deep = line_reads arrays Plain 43 text fits refl
frame_reads depth (frames.Fault text) fits arrays deep = line_reads arrays Failure 45 text fits refl
frame_reads depth (frames.Number z) fits arrays deep = number_reads arrays z fits
frame_reads depth (frames.Bulk text) fits arrays deep = bulk_reads arrays text fits
frame_reads depth frames.Null fits arrays deep =
    head_step arrays 36 (Head heads.Bulk) refl (45 ∷ 49 ∷ line_end) _ (null_leads arrays heads.Bulk)
frame_reads zero frames.NullArray fits arrays deep = absurd fits
frame_reads (suc depth) frames.NullArray fits arrays deep =
    let other : length arrays ≢ depth_limit = λ e. omega arith in
    head_step arrays 42 (Head heads.Array) (array_step arrays other) (45 ∷ 49 ∷ line_end) _
    (null_leads arrays heads.Array)
frame_reads zero (frames.Array items) fits arrays deep = absurd fits
frame_reads (suc depth) (frames.Array items) fits arrays deep =
    array_reads depth arrays items (frame_reads depth) deep fits.0 fits.1

-- a frame that is spelled is read, whatever follows it
pub spelled_is_read : (m : ℕ) (frame : Frame) (rest : List ℕ) → Fits item_limit depth_limit frame
    → length (spelling frame) ≤ m → read_within m (spelling frame ++ rest) ≡ Whole frame rest
spelled_is_read m frame rest fits short =
    (frame_reads depth_limit frame fits [] refl).runs m 0 rest (omega arith)
