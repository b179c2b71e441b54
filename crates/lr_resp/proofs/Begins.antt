-- Where reading stands, a frame can still come.
use Rattle.std.proofs.Common.{replicate, ◌≡◌, ℕ, zero, suc, ◌+◌, ◌-◌, ◌<◌, Bool, true, false, List, [], ◌∷◌, ◌++◌, length, decimal, arith, refl, sym, ap, subst, ◌∙◌, length-append}
use Rattle.std.specs.List.{concat, AllByRecursion}
use Rattle.std.proofs.lemmas.List.{append-nil, append_assoc, length-replicate}
use Rattle.std.proofs.lemmas.List.Folds.{concat-append}
use Rattle.std.proofs.lemmas.Fmt.{decimal_digit}
use Rattle.lr_resp.specs.declared.frame.Frame.{Frame}
use Rattle.lr_resp.specs.declared.frame.Frame.TheVariants as frames
use Rattle.lr_resp.specs.declared.phase.LineKind.TheVariants.{Plain, Failure}
use Rattle.lr_resp.specs.declared.phase.HeadKind.{HeadKind}
use Rattle.lr_resp.specs.declared.phase.HeadKind.TheVariants as heads
use Rattle.lr_resp.specs.declared.phase.Phase.{Phase}
use Rattle.lr_resp.specs.declared.phase.Phase.TheVariants.{Begin, Line, LineEnd, Head, Minus, Digits, DigitsEnd, Body, BodyEnd}
use Rattle.lr_resp.specs.Limits.{item_limit, depth_limit}
use Rattle.lr_resp.specs.Spelling.{spelling, line_end}
use Rattle.lr_resp.specs.Opened.{Opened}
use Rattle.lr_resp.specs.Grammar.{Fits}
use Rattle.lr_resp.specs.Sound.{IsSound, ArraysAreSound, PhaseIsSound, IsItem, HeadFits, NumberIs}
use Rattle.lr_resp.specs.Scan.{State, signed}
use Rattle.lr_resp.specs.Spelled.{spelled, arrays_bytes, opened_bytes, phase_bytes, number_text, head_mark}
use Rattle.lr_resp.proofs.Taken.{all_append, signed_fits, signed_text, null_array_fits}

-- the shortest frame
dots : ℕ → List (List ℕ)
dots zero = []
dots (suc n) = (43 ∷ line_end) ∷ dots n

length-dots : (n : ℕ) → length (dots n) ≡ n
unfolding dots
length-dots zero = refl
length-dots (suc n) = omega (arith, length-dots n)

dots_fit : (depth n : ℕ) → AllByRecursion (IsItem depth) (dots n)
unfolding dots
dots_fit depth zero = tt
dots_fit depth (suc n) = ((frames.Simple [], (omega arith, refl), refl), dots_fit depth n)

-- these bytes begin a frame that fits
pub record Begins (depth : ℕ) (bytes : List ℕ) : Type 0 where
  pub more : List ℕ
  pub frame : Frame
  pub fits : Fits item_limit depth frame
  pub whole : bytes ++ more ≡ spelling frame

begins-along : (depth : ℕ) (x y : List ℕ) → x ≡ y → Begins depth x → Begins depth y
begins-along depth x y e h = let P : List ℕ → Type 0 = λ bytes. Begins depth bytes in subst P e h

-- behind an item come the others that are missing
array_begins : (o : Opened) (x : List ℕ) → 0 < o.left
    → opened_bytes o ++ (x ++ concat (dots (o.left - 1)))
    ≡ spelling (frames.Array (o.items ++ x ∷ dots (o.left - 1)))
array_begins o x some =
    let items = o.items ++ x ∷ dots (o.left - 1) in
    let size : length items ≡ o.left + length o.items =
    omega (arith, length-append o.items (x ∷ dots (o.left - 1)), length-dots (o.left - 1)) in
    append_assoc (42 ∷ decimal (o.left + length o.items)) (line_end ++ concat o.items)
    (x ++ concat (dots (o.left - 1)))
    ∙ ap (λ (l : List ℕ). 42 ∷ decimal (o.left + length o.items) ++ (line_end ++ l))
    (sym (concat-append o.items (x ∷ dots (o.left - 1))))
    ∙ ap (λ (m : ℕ). 42 ∷ decimal m ++ (line_end ++ concat items)) (sym size)

arrays_begin : (depth : ℕ) (arrays : List Opened) (frame : Frame) → ArraysAreSound depth arrays
    → Fits item_limit depth frame → Begins depth_limit (arrays_bytes arrays ++ spelling frame)
arrays_begin depth [] frame good fits =
    record {
      more = [];
      frame = frame;
      fits = subst (λ (d : ℕ). Fits item_limit d frame) good fits;
      whole =
          append-nil (spelling frame);
    }
arrays_begin depth (o ∷ os) frame good fits =
    let x = spelling frame in
    let fill = concat (dots (o.left - 1)) in
    let items = o.items ++ x ∷ dots (o.left - 1) in
    let size : length items ≡ o.left + length o.items =
    omega (arith, good.0, length-append o.items (x ∷ dots (o.left - 1)), length-dots (o.left - 1))
    in
    let all =
    all_append (IsItem depth) o.items (x ∷ dots (o.left - 1)) good.2
    ((frame, fits, refl), dots_fit depth (o.left - 1)) in
    let outer =
    arrays_begin (suc depth) os (frames.Array items) good.3 (omega (arith, good.1), all) in
    record {
      more = fill ++ outer.more;
      frame = outer.frame;
      fits = outer.fits;
      whole = sym (append_assoc (arrays_bytes (o ∷ os) ++ x) fill outer.more)
          ∙ ap (λ (l : List ℕ). l ++ outer.more)
          (ap (λ (l : List ℕ). l ++ fill) (append_assoc (arrays_bytes os) (opened_bytes o) x)
          ∙ append_assoc (arrays_bytes os) (opened_bytes o ++ x) fill
          ∙ ap (λ (l : List ℕ). arrays_bytes os ++ l) (append_assoc (opened_bytes o) x fill
          ∙ array_begins o x good.0))
          ∙ outer.whole;
    }

-- any bytes, as many as are missing
abbrev zeros : ℕ → List ℕ
zeros n = replicate n 0

length-zeros : (n : ℕ) → length (zeros n) ≡ n
length-zeros n = length-replicate n 0

-- the CR of a number's line has come
number_begins : (depth : ℕ) (kind : HeadKind) (negative : Bool) (n : ℕ) → HeadFits depth kind
    → NumberIs kind negative n → Begins depth (head_mark kind ∷ number_text negative n ++ 13 ∷ [])
number_begins depth heads.Number negative n fits number =
    record {
      more = 10 ∷ [];
      frame = frames.Number (signed negative n);
      fits = signed_fits negative n number;
      whole = append_assoc (58 ∷ number_text negative n) (13 ∷ []) (10 ∷ [])
          ∙ ap (λ (l : List ℕ). 58 ∷ l ++ line_end) (sym (signed_text negative n number.minus));
    }
number_begins depth heads.Bulk true n fits number =
    let one : decimal n ≡ 49 ∷ [] = ap decimal (number.null refl refl)
    ∙ decimal_digit 1 (omega arith) in
    record {
      more = 10 ∷ [];
      frame = frames.Null;
      fits = tt;
      whole =
          ap (λ (l : List ℕ). (36 ∷ (45 ∷ l) ++ 13 ∷ []) ++ 10 ∷ []) one;
    }
number_begins depth heads.Bulk false n fits number =
    let size : length (zeros n) ≡ n = length-zeros n in
    record {
      more = 10 ∷ (zeros n ++ line_end);
      frame = frames.Bulk (zeros n);
      fits = omega (arith, number.within);
      whole = append_assoc (36 ∷ decimal n) (13 ∷ []) (10 ∷ (zeros n ++ line_end))
          ∙ ap (λ (m : ℕ). 36 ∷ decimal m ++ (line_end ++ (zeros n ++ line_end))) (sym size);
    }
number_begins depth heads.Array true n fits number =
    let one : decimal n ≡ 49 ∷ [] = ap decimal (number.null refl refl)
    ∙ decimal_digit 1 (omega arith) in
    record {
      more = 10 ∷ [];
      frame = frames.NullArray;
      fits = null_array_fits depth fits;
      whole =
          ap (λ (l : List ℕ). (42 ∷ (45 ∷ l) ++ 13 ∷ []) ++ 10 ∷ []) one;
    }
number_begins zero heads.Array false n fits number = absurd (omega arith)
number_begins (suc depth) heads.Array false n fits number =
    record {
      more = 10 ∷ concat (dots n);
      frame = frames.Array (dots n);
      fits = (omega (arith, length-dots n, number.within), dots_fit depth n);
      whole = append_assoc (42 ∷ decimal n) (13 ∷ []) (10 ∷ concat (dots n))
          ∙ ap (λ (m : ℕ). 42 ∷ decimal m ++ (line_end ++ concat (dots n))) (sym (length-dots n));
    }

-- a number's line before its CR
digits_begin : (depth : ℕ) (kind : HeadKind) (negative : Bool) (n : ℕ) → HeadFits depth kind
    → NumberIs kind negative n → Begins depth (head_mark kind ∷ number_text negative n)
digits_begin depth kind negative n fits number =
    let b = number_begins depth kind negative n fits number in
    record {
      more = 13 ∷ b.more;
      frame = b.frame;
      fits = b.fits;
      whole =
          sym (append_assoc (head_mark kind ∷ number_text negative n) (13 ∷ []) b.more) ∙ b.whole;
    }

digit_within_all : (kind : HeadKind) (negative : Bool) → NumberIs kind negative 1
digit_within_all heads.Number true =
    record { within = omega arith; minus = λ _. omega arith; null = λ _ _. refl }
digit_within_all heads.Number false =
    record { within = omega arith; minus = λ _. omega arith; null = λ _ _. refl }
digit_within_all heads.Bulk negative =
    record { within = omega arith; minus = λ _. omega arith; null = λ _ _. refl }
digit_within_all heads.Array negative =
    record { within = omega arith; minus = λ _. omega arith; null = λ _ _. refl }

head_begins : (depth : ℕ) (kind : HeadKind) → HeadFits depth kind
    → Begins depth (head_mark kind ∷ [])
head_begins depth kind fits =
    let b = digits_begin depth kind false 1 fits (digit_within_all kind false) in
    record { more = decimal 1 ++ b.more; frame = b.frame; fits = b.fits; whole = b.whole }

minus_begins : (depth : ℕ) (kind : HeadKind) → HeadFits depth kind
    → Begins depth (head_mark kind ∷ 45 ∷ [])
minus_begins depth kind fits =
    let b = digits_begin depth kind true 1 fits (digit_within_all kind true) in
    record { more = decimal 1 ++ b.more; frame = b.frame; fits = b.fits; whole = b.whole }

phase_begins : (depth : ℕ) (phase : Phase) (text : List ℕ) → PhaseIsSound depth phase text
    → Begins depth (phase_bytes phase text)
phase_begins depth Begin text good =
    record {
      more = 43 ∷ line_end;
      frame = frames.Simple [];
      fits = (omega arith, refl);
      whole =
          refl;
    }
phase_begins depth (Line Plain) text good =
    record { more = line_end; frame = frames.Simple text; fits = good; whole = refl }
phase_begins depth (Line Failure) text good =
    record { more = line_end; frame = frames.Fault text; fits = good; whole = refl }
phase_begins depth (LineEnd Plain) text good =
    record {
      more = 10 ∷ [];
      frame = frames.Simple text;
      fits = good;
      whole =
          append_assoc (43 ∷ text) (13 ∷ []) (10 ∷ []);
    }
phase_begins depth (LineEnd Failure) text good =
    record {
      more = 10 ∷ [];
      frame = frames.Fault text;
      fits = good;
      whole =
          append_assoc (45 ∷ text) (13 ∷ []) (10 ∷ []);
    }
phase_begins depth (Head kind) text good = head_begins depth kind good.1
phase_begins depth (Minus kind) text good = minus_begins depth kind good.1
phase_begins depth (Digits kind negative n) text good =
    digits_begin depth kind negative n good.1 good.2
phase_begins depth (DigitsEnd kind negative n) text good =
    number_begins depth kind negative n good.1 good.2
phase_begins depth (Body left) text good =
    let size : length (text ++ zeros left) ≡ left + length text =
    omega (arith, length-append text (zeros left), length-zeros left) in
    record {
      more = zeros left ++ line_end;
      frame = frames.Bulk (text ++ zeros left);
      fits = omega arith;
      whole = append_assoc (36 ∷ decimal (left + length text)) (line_end ++ text)
          (zeros left ++ line_end)
          ∙ ap (λ (l : List ℕ). 36 ∷ decimal (left + length text) ++ (line_end ++ l))
          (sym (append_assoc text (zeros left) line_end))
          ∙ ap (λ (m : ℕ). 36 ∷ decimal m ++ (line_end ++ ((text ++ zeros left) ++ line_end)))
          (sym size);
    }
phase_begins depth BodyEnd text good =
    record {
      more = 10 ∷ [];
      frame = frames.Bulk text;
      fits = good;
      whole = append_assoc (36 ∷ decimal (length text)) (line_end ++ (text ++ 13 ∷ [])) (10 ∷ [])
          ∙ ap (λ (l : List ℕ). 36 ∷ decimal (length text) ++ (line_end ++ l))
          (append_assoc text (13 ∷ []) (10 ∷ []));
    }

-- where reading stands, a frame can still come
pub state_begins : (s : State) → IsSound s → Begins depth_limit (spelled s)
unfolding spelled
state_begins s good =
    let inner = phase_begins good.depth s.phase s.text good.phase in
    let outer = arrays_begin good.depth s.arrays inner.frame good.arrays inner.fits in
    record {
      more = inner.more ++ outer.more;
      frame = outer.frame;
      fits = outer.fits;
      whole = sym (append_assoc (arrays_bytes s.arrays ++ phase_bytes s.phase s.text) inner.more
          outer.more)
          ∙ ap (λ (l : List ℕ). l ++ outer.more)
          (append_assoc (arrays_bytes s.arrays) (phase_bytes s.phase s.text) inner.more
          ∙ ap (λ (l : List ℕ). arrays_bytes s.arrays ++ l) inner.whole)
          ∙ outer.whole;
    }
