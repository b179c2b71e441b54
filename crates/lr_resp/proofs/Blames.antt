-- Each byte that can't stand where it does has the cause that the table says.
use Rattle.std.proofs.Common.{◌≡◌, ◌≢◌, ◌⊎◌, inl, inr, ℕ, ◌+◌, ◌-◌, ◌*◌, ◌==◌, nat_lt, Bool, true, false, not, cond, ◌&&◌, ◌||◌, List, [], ◌∷◌, ◌++◌, length, refl, sym, subst, ◌∙◌, true≢false}
use Rattle.std.proofs.Math.Bool.{or-false}
use Rattle.std.proofs.lemmas.Bool.{cond_both, eqb-true, eqb-false, ltb-true, and_parts, and_from, not-false}
use Rattle.lr_resp.specs.declared.frame.Frame.{Frame}
use Rattle.lr_resp.specs.declared.frame.Frame.TheVariants as frames
use Rattle.lr_resp.specs.declared.cause.Cause.{Cause}
use Rattle.lr_resp.specs.declared.phase.LineKind.{LineKind}
use Rattle.lr_resp.specs.declared.phase.HeadKind.{HeadKind}
use Rattle.lr_resp.specs.declared.phase.HeadKind.TheVariants as heads
use Rattle.lr_resp.specs.declared.phase.Phase.{Phase}
use Rattle.lr_resp.specs.declared.phase.Phase.TheVariants.{Begin, Line, LineEnd, Head, Minus, Digits, DigitsEnd, Body, BodyEnd}
use Rattle.lr_resp.specs.Limits.{line_limit, frame_limit, depth_limit}
use Rattle.lr_resp.specs.Spelling.{spelling}
use Rattle.lr_resp.specs.Opened.{Opened}
use Rattle.lr_resp.specs.Scan.{State, at, Step, Goes, Ends, Fails, close, scan, scan_at, scan_begin, scan_line, scan_head, scan_minus, scan_digits, scan_body, headed, line_frame, is_digit, limit, may_go_on, signed}
use Rattle.lr_resp.specs.Causes.{HasCause, IsTooLong, PassesLimit}

-- what a step tells of its byte
abbrev Blames : ℕ → State → ℕ → Step → Type 0
Blames n s b (Goes t) = Unit {0}
Blames n s b (Ends frame) = Unit {0}
Blames n s b (Fails cause) = HasCause cause n s b

not_long : (n : ℕ) (s : State) (b : ℕ) → n ≢ frame_limit → ¬ PassesLimit s.phase s.text b
    → ¬ IsTooLong n s b
not_long n s b short never = λ long. elim long [ inl e ↦ short e | inr passes ↦ never passes ]

-- a frame that is whole blames no byte
close_blames : (n : ℕ) (s : State) (b : ℕ) (arrays : List Opened) (frame : Frame)
    → Blames n s b (close arrays frame)
close_blames n s b [] frame = tt
close_blames n s b (o ∷ os) frame =
    cond_both (o.left == 1) _ _ (Blames n s b)
    (λ _. close_blames n s b os (frames.Array (o.items ++ spelling frame ∷ [])))
    (λ _. tt)

begin_blames : (n : ℕ) (arrays : List Opened) (text : List ℕ) (b : ℕ) → n ≢ frame_limit
    → Blames n (at arrays Begin text) b (scan_begin (at arrays Begin text) b)
begin_blames n arrays text b short =
    let P : Step → Type 0 = Blames n (at arrays Begin text) b in
    let never = not_long n (at arrays Begin text) b short (λ passes. passes) in
    cond_both (b == 43) _ _ P (λ _. tt) (λ n43.
    cond_both (b == 45) _ _ P (λ _. tt) (λ n45.
    cond_both (b == 58) _ _ P (λ _. tt) (λ n58.
    cond_both (b == 36) _ _ P (λ _. tt) (λ n36.
    cond_both (b == 42) _ _ P
    (λ is. cond_both (length arrays == depth_limit) _ _ P
    (λ deep. (never, (eqb-true b 42 is, eqb-true (length arrays) depth_limit deep)))
    (λ _. tt))
    (λ n42. (
      never,
      (
        eqb-false b 43 n43,
        eqb-false b 45 n45,
        eqb-false b 58 n58,
        eqb-false b 36 n36,
        eqb-false b 42 n42,
      ),
    ))))))

line_blames : (n : ℕ) (arrays : List Opened) (kind : LineKind) (text : List ℕ) (b : ℕ)
    → n ≢ frame_limit
    → Blames n (at arrays (Line kind) text) b (scan_line kind (at arrays (Line kind) text) b)
line_blames n arrays kind text b short =
    let s = at arrays (Line kind) text in
    let P : Step → Type 0 = Blames n s b in
    cond_both (b == 13) _ _ P (λ _. tt) (λ no_cr.
    cond_both (length text == line_limit) _ _ P
    (λ full. inr (eqb-true (length text) line_limit full, eqb-false b 13 no_cr))
    (λ other. cond_both (b == 10) _ _ P
    (λ is. (
      not_long n s b short
          (λ passes. absurd (eqb-false (length text) line_limit other passes.0)),
      eqb-true b 10 is,
    ))
    (λ _. tt)))

head_blames : (n : ℕ) (arrays : List Opened) (kind : HeadKind) (text : List ℕ) (b : ℕ)
    → n ≢ frame_limit
    → Blames n (at arrays (Head kind) text) b (scan_head kind (at arrays (Head kind) text) b)
head_blames n arrays kind text b short =
    let s = at arrays (Head kind) text in
    let P : Step → Type 0 = Blames n s b in
    cond_both (b == 45) _ _ P (λ _. tt) (λ no_minus.
    cond_both (is_digit b) _ _ P (λ _. tt) (λ none. (
      not_long n s b short (λ passes. passes),
      (eqb-false b 45 no_minus, λ is. true≢false (sym is ∙ none)),
    )))

no_minus_digit : (one digit zero : Bool) → one || (digit && not zero) ≡ false
    → (digit ≢ true) ⊎ (zero ≡ true)
no_minus_digit true digit zero is = absurd (true≢false is)
no_minus_digit false false zero is = inl (λ e. true≢false (sym e))
no_minus_digit false true true is = inr refl
no_minus_digit false true false is = absurd (true≢false is)

minus_blames : (n : ℕ) (arrays : List Opened) (kind : HeadKind) (text : List ℕ) (b : ℕ)
    → n ≢ frame_limit
    → Blames n (at arrays (Minus kind) text) b (scan_minus kind (at arrays (Minus kind) text) b)
minus_blames n arrays heads.Number text b short =
    let s = at arrays (Minus heads.Number) text in
    cond_both ((b == 49) || (is_digit b && not (b == 48))) _ _ (Blames n s b) (λ _. tt)
    (λ none. (
      not_long n s b short (λ passes. passes),
      elim (no_minus_digit (b == 49) (is_digit b) (b == 48) none) [
        | inl never ↦ inl never
        | inr zero ↦ inr (eqb-true b 48 zero)
      ],
    ))
minus_blames n arrays heads.Bulk text b short =
    let s = at arrays (Minus heads.Bulk) text in
    cond_both ((b == 49) || false) _ _ (Blames n s b) (λ _. tt)
    (λ none. (
      not_long n s b short (λ passes. passes),
      eqb-false b 49 (sym (or-false (b == 49))
          ∙ none),
    ))
minus_blames n arrays heads.Array text b short =
    let s = at arrays (Minus heads.Array) text in
    cond_both ((b == 49) || false) _ _ (Blames n s b) (λ _. tt)
    (λ none. (
      not_long n s b short (λ passes. passes),
      eqb-false b 49 (sym (or-false (b == 49))
          ∙ none),
    ))

not_both : (x : Bool) → not x ≡ true → x ≢ true
not_both true never = λ _. true≢false (sym never)
not_both false never = λ is. true≢false (sym is)

digits_blames : (n : ℕ) (arrays : List Opened) (kind : HeadKind) (negative : Bool) (k : ℕ)
    (text : List ℕ) (b : ℕ) → n ≢ frame_limit
    → Blames n (at arrays (Digits kind negative k) text) b
    (scan_digits kind negative k (at arrays (Digits kind negative k) text) b)
digits_blames n arrays kind negative k text b short =
    let s = at arrays (Digits kind negative k) text in
    let P : Step → Type 0 = Blames n s b in
    let both : Bool = may_go_on kind negative k && is_digit b in
    cond_both (b == 13) _ _ P (λ _. tt) (λ no_cr.
    cond_both (not both) _ _ P
    (λ never. (
      not_long n s b short
          (λ passes. absurd (not_both both never (and_from _ _ passes.0 passes.1))),
      (eqb-false b 13 no_cr, not_both both never),
    ))
    (λ go. cond_both (nat_lt (limit kind negative) (10 * k + (b - 48))) _ _ P
    (λ past.
    let parts = and_parts (may_go_on kind negative k) (is_digit b) (not-false both go) in
    inr (parts.0, parts.1, ltb-true (limit kind negative) (10 * k + (b - 48)) past))
    (λ _. tt)))

-- what a line with a number begins blames no byte
headed_blames : (n : ℕ) (s t : State) (b : ℕ) (kind : HeadKind) (negative : Bool) (k : ℕ)
    → Blames n s b (headed kind negative k t)
headed_blames n s t b heads.Number negative k =
    close_blames n s b t.arrays (frames.Number (signed negative k))
headed_blames n s t b heads.Bulk true k = close_blames n s b t.arrays frames.Null
headed_blames n s t b heads.Bulk false k = tt
headed_blames n s t b heads.Array true k = close_blames n s b t.arrays frames.NullArray
headed_blames n s t b heads.Array false k =
    cond_both (k == 0) _ _ (Blames n s b)
    (λ _. close_blames n s b t.arrays (frames.Array [])) (λ _. tt)

-- where a LF must stand
lf_blames : (n : ℕ) (s : State) (b : ℕ) (step : Step) → Blames n s b step
    → (b ≢ 10 → HasCause Cause.BadEnd n s b)
    → Blames n s b (cond (b == 10) step (Fails Cause.BadEnd))
lf_blames n s b step whole never =
    cond_both (b == 10) _ _ (Blames n s b) (λ _. whole) (λ other. never (eqb-false b 10 other))

body_blames : (n : ℕ) (arrays : List Opened) (left : ℕ) (text : List ℕ) (b : ℕ)
    → n ≢ frame_limit
    → Blames n (at arrays (Body left) text) b (scan_body left (at arrays (Body left) text) b)
body_blames n arrays left text b short =
    let s = at arrays (Body left) text in
    let P : Step → Type 0 = Blames n s b in
    cond_both (left == 0) _ _ P
    (λ over. cond_both (b == 13) _ _ P (λ _. tt)
    (λ no_cr. (
      not_long n s b short (λ passes. passes),
      (eqb-true left 0 over, eqb-false b 13 no_cr),
    )))
    (λ _. tt)

blames_at : (n : ℕ) (phase : Phase) (arrays : List Opened) (text : List ℕ) (b : ℕ)
    → n ≢ frame_limit
    → Blames n (at arrays phase text) b (scan_at phase (at arrays phase text) b)
blames_at n Begin arrays text b short = begin_blames n arrays text b short
blames_at n (Line kind) arrays text b short = line_blames n arrays kind text b short
blames_at n (LineEnd kind) arrays text b short =
    let s = at arrays (LineEnd kind) text in
    lf_blames n s b _ (close_blames n s b arrays (line_frame kind text))
    (λ other. (not_long n s b short (λ passes. passes), other))
blames_at n (Head kind) arrays text b short = head_blames n arrays kind text b short
blames_at n (Minus kind) arrays text b short = minus_blames n arrays kind text b short
blames_at n (Digits kind negative k) arrays text b short =
    digits_blames n arrays kind negative k text b short
blames_at n (DigitsEnd kind negative k) arrays text b short =
    let s = at arrays (DigitsEnd kind negative k) text in
    lf_blames n s b _ (headed_blames n s s b kind negative k)
    (λ other. (not_long n s b short (λ passes. passes), other))
blames_at n (Body left) arrays text b short = body_blames n arrays left text b short
blames_at n BodyEnd arrays text b short =
    let s = at arrays BodyEnd text in
    lf_blames n s b _ (close_blames n s b arrays (frames.Bulk text))
    (λ other. (not_long n s b short (λ passes. passes), other))

pub fails_with : (n : ℕ) (s : State) (b : ℕ) (cause : Cause) → n ≢ frame_limit
    → scan s b ≡ Fails cause → HasCause cause n s b
unfolding scan
fails_with n s b cause short is =
    let P : Step → Type 0 = Blames n s b in
    subst P is (blames_at n s.phase s.arrays s.text b short)
