-- Reading is the grammar, in both directions.
use Rattle.std.proofs.Common.{◌≡◌, ◌≢◌, ℕ, ◌+◌, ◌≤◌, ◌==◌, Bool, true, false, List, [], ◌∷◌, ◌++◌, length, arith, refl, sym, ap, subst, ◌∙◌, length-append, inl}
use Rattle.std.proofs.lemmas.List.{append-nil, append_assoc}
use Rattle.std.proofs.lemmas.Bool.{eqb-true, eqb-false}
use Rattle.lr_resp.specs.declared.frame.Frame.{Frame}
use Rattle.lr_resp.specs.declared.cause.Cause.{Cause}
use Rattle.lr_resp.specs.declared.cause.Cause.TheVariants.{TooLong}
use Rattle.lr_resp.specs.Limits.{item_limit, depth_limit, frame_limit}
use Rattle.lr_resp.specs.Spelling.{spelling}
use Rattle.lr_resp.specs.Grammar.{Fits}
use Rattle.lr_resp.specs.Sound.{IsSound}
use Rattle.lr_resp.specs.Spelled.{spelled}
use Rattle.lr_resp.specs.Scan.{State, Step, Goes, Ends, Fails, start, scan}
use Rattle.lr_resp.specs.Stream.{IsReached, Reading, Part, Whole, Broken, run, read, read_within}
use Rattle.lr_resp.specs.Causes.{HasCause}
use Rattle.lr_resp.specs.Laws.{BeginsFrame, WholeIsSpelled, SpelledIsWhole, PartBegins, BeginsPart, BrokenIsFirst, CauseIsFirst, WholeStays, BrokenStays}
use Rattle.lr_resp.proofs.Blames.{fails_with}
use Rattle.lr_resp.proofs.Taken.{Reaches, scan_reaches}
use Rattle.lr_resp.proofs.Reached.{run_long, run_goes, run_ends, run_fails, run_over, reached_start, spelled_start}
use Rattle.lr_resp.proofs.Complete.{spelled_is_read}
use Rattle.lr_resp.proofs.Begins.{state_begins}

-- a fault, by the bytes before it and the state there
pub record FaultAt (m n : ℕ) (s : State) (bytes : List ℕ) (place : ℕ) (cause : Cause) : Type 0 where
  pub before : List ℕ
  pub byte : ℕ
  pub rest : List ℕ
  pub state : State
  pub good : IsSound state
  pub parts : bytes ≡ before ++ byte ∷ rest
  pub counted : place ≡ n + length before
  pub reached : spelled state ≡ spelled s ++ before
  pub bound : place ≤ m
  pub long : place ≡ m → cause ≡ TooLong
  pub fails : place ≢ m → scan state byte ≡ Fails cause
  pub leads : (k : ℕ) (more : List ℕ) → place ≤ k → run k n s (before ++ more)
      ≡ run k place state more

-- what a reading tells
abbrev pub Told : ℕ → ℕ → State → List ℕ → Reading → Type 0
Told m n s bytes Part =
    (n + length bytes ≤ m) × (next : State) × IsSound next × (spelled next ≡ spelled s ++ bytes)
Told m n s bytes (Whole frame rest) =
    Fits item_limit depth_limit frame × (spelled s ++ bytes ≡ spelling frame ++ rest)
    × (n + length bytes ≤ m + length rest)
Told m n s bytes (Broken place cause) = FaultAt m n s bytes place cause

here : (m n : ℕ) (s : State) (b : ℕ) (bs : List ℕ) (cause : Cause) → IsSound s → n ≤ m
    → (n ≡ m → cause ≡ TooLong) → (n ≢ m → scan s b ≡ Fails cause) → FaultAt m n s (b ∷ bs) n cause
here m n s b bs cause good within long fails =
    let e : n ≡ n + 0 = omega arith in
    record {
      before = [];
      byte = b;
      rest = bs;
      state = s;
      good = good;
      parts = refl;
      counted = e;
      reached = sym (append-nil (spelled s));
      bound = within;
      long = long;
      fails = fails;
      leads =
          λ k more h. refl;
    }

-- a byte further on
further : (m n : ℕ) (s t : State) (b : ℕ) (bs : List ℕ) (reading : Reading) → scan s b ≡ Goes t
    → spelled t ≡ spelled s ++ b ∷ [] → Told m (n + 1) t bs reading → Told m n s (b ∷ bs) reading
further m n s t b bs Part is on told = (
  omega (arith, told.0),
  told.1,
  told.2,
  told.3 ∙ ap (λ (l : List ℕ). l ++ bs) on
      ∙ append_assoc (spelled s) (b ∷ []) bs,
)
further m n s t b bs (Whole frame rest) is on told = (
  told.0,
  sym (append_assoc (spelled s) (b ∷ []) bs) ∙ ap (λ (l : List ℕ). l ++ bs) (sym on)
      ∙ told.1,
  omega (arith, told.2),
)
further m n s t b bs (Broken place cause) is on told = record {
  before = b ∷ told.before;
  byte = told.byte;
  rest = told.rest;
  state = told.state;
  good = told.good;
  parts = ap (λ (l : List ℕ). b ∷ l) told.parts;
  counted = omega (arith, told.counted);
  reached = told.reached ∙ ap (λ (l : List ℕ). l ++ told.before) on
      ∙ append_assoc (spelled s) (b ∷ []) told.before;
  bound = told.bound;
  long = told.long;
  fails = told.fails;
  leads = λ k more h.
      run_goes k n s t b (told.before ++ more) (λ e. absurd (omega (arith, told.counted))) is
      ∙ told.leads k more h;
}

abbrev Further : ℕ → List ℕ → Type 0
Further m bs = (n : ℕ) (s : State) → IsSound s → n ≤ m → Told m n s bs (run m n s bs)

tells_by : (m n : ℕ) (s : State) (b : ℕ) (bs : List ℕ) → Further m bs → IsSound s → n ≤ m → n ≢ m
    → (step : Step) → scan s b ≡ step → Told m n s (b ∷ bs) (run m n s (b ∷ bs))
tells_by m n s b bs more good within short (Goes t) is =
    let P : Reading → Type 0 = Told m n s (b ∷ bs) in
    let parts =
    subst (λ (step : Step). Reaches (spelled s ++ b ∷ []) step) is (scan_reaches s b good) in
    subst P (sym (run_goes m n s t b bs short is))
    (further m n s t b bs (run m (n + 1) t bs) is parts.1 (more (n + 1) t parts.0 (omega arith)))
tells_by m n s b bs more good within short (Ends frame) is =
    let P : Reading → Type 0 = Told m n s (b ∷ bs) in
    let parts =
    subst (λ (step : Step). Reaches (spelled s ++ b ∷ []) step) is (scan_reaches s b good) in
    subst P (sym (run_ends m n s frame b bs short is)) (
      parts.0,
      sym (append_assoc (spelled s) (b ∷ []) bs)
          ∙ ap (λ (l : List ℕ). l ++ bs) (sym parts.1),
      omega arith,
    )
tells_by m n s b bs more good within short (Fails cause) is =
    let P : Reading → Type 0 = Told m n s (b ∷ bs) in
    subst P (sym (run_fails m n s cause b bs short is))
    (here m n s b bs cause good within (λ e. absurd (short e)) (λ _. is))

tells_at : (m n : ℕ) (s : State) (b : ℕ) (bs : List ℕ) → Further m bs → IsSound s → n ≤ m
    → (long : Bool) → n == m ≡ long → Told m n s (b ∷ bs) (run m n s (b ∷ bs))
tells_at m n s b bs more good within true is =
    let P : Reading → Type 0 = Told m n s (b ∷ bs) in
    let e = eqb-true n m is in
    subst P (sym (run_long m n s b bs e))
    (here m n s b bs TooLong good within (λ _. refl) (λ other. absurd (other e)))
tells_at m n s b bs more good within false is =
    tells_by m n s b bs more good within (eqb-false n m is) (scan s b) refl

pub tells : (m : ℕ) (bytes : List ℕ) (n : ℕ) (s : State) → IsSound s → n ≤ m
    → Told m n s bytes (run m n s bytes)
tells m [] n s good within =
    let P : Reading → Type 0 = Told m n s [] in
    subst P (sym (run_over m n s)) (omega arith, s, good, sym (append-nil (spelled s)))
tells m (b ∷ bs) n s good within = tells_at m n s b bs (tells m bs) good within (n == m) refl

told : (bytes : List ℕ) (reading : Reading) → read bytes ≡ reading
    → Told frame_limit 0 start bytes reading
told bytes reading is =
    let P : Reading → Type 0 = Told frame_limit 0 start bytes in
    subst P is (tells frame_limit bytes 0 start reached_start.good (omega arith))

from_start : (bytes : List ℕ) → spelled start ++ bytes ≡ bytes
from_start bytes = ap (λ (l : List ℕ). l ++ bytes) spelled_start

pub whole_is_spelled : WholeIsSpelled
whole_is_spelled bytes rest frame is =
    let t = told bytes (Whole frame rest) is in
    let same = sym (from_start bytes) ∙ t.1 in
    ((t.0, refl, omega (arith, t.2, ap length same, length-append (spelling frame) rest)), same)

pub spelled_is_whole : SpelledIsWhole
spelled_is_whole bytes rest frame spells =
    ap (λ (l : List ℕ). read (l ++ rest)) spells.1
    ∙ spelled_is_read frame_limit frame rest spells.0 (omega (arith, spells.2, ap length spells.1))

begins : (s : State) (bytes : List ℕ) → IsSound s → spelled s ≡ bytes → BeginsFrame bytes
begins s bytes good is =
    let b = state_begins s good in
    (b.more, b.frame, b.fits, ap (λ (l : List ℕ). l ++ b.more) (sym is) ∙ b.whole)

pub part_begins : PartBegins
part_begins bytes is =
    let t = told bytes Part is in
    (omega (arith, t.0), begins t.1 bytes t.2 (t.3 ∙ from_start bytes))

pub broken_is_first : BrokenIsFirst
broken_is_first bytes place cause is =
    let t = told bytes (Broken place cause) is in (
      t.before,
      t.byte,
      t.rest,
      (t.parts, omega (arith, t.counted)),
      t.bound,
      begins t.state t.before t.good (t.reached ∙ from_start t.before),
      λ other b.
          let m = length (spelling b.1) + place + 1 in
          let whole = spelled_is_read m b.1 [] b.2 (omega arith) in
          let same : spelling b.1 ++ [] ≡ t.before ++ (t.byte ∷ b.0) = append-nil (spelling b.1)
          ∙ sym b.3 ∙ append_assoc t.before (t.byte ∷ []) b.0 in
          let fault = t.leads m (t.byte ∷ b.0) (omega arith)
          ∙ run_fails m place t.state cause t.byte b.0 (λ e. absurd (omega arith))
          (t.fails other) in
          let both : Whole b.1 [] ≡ Broken place cause = sym whole ∙ ap (read_within m) same
          ∙ fault in
          absurd (cc both),
    )

no_length : (xs : List ℕ) → length xs ≡ 0 → xs ≡ []
no_length [] h = refl
no_length (x ∷ xs) h = absurd (omega arith)

no_part : (bytes more : List ℕ) (frame : Frame) (reading : Reading) → length bytes ≤ frame_limit
    → Fits item_limit depth_limit frame → bytes ++ more ≡ spelling frame → more ≢ []
    → read bytes ≡ reading
    → reading ≡ Part
no_part bytes more frame Part short fits is some e = refl
no_part bytes more frame (Whole inner rest) short fits is some e =
    let t = whole_is_spelled bytes rest inner e in
    let m = length (spelling frame) + length (spelling inner) in
    let outer = spelled_is_read m frame [] fits (omega arith) in
    let again = spelled_is_read m inner (rest ++ more) t.0.0 (omega arith) in
    let same : spelling frame ++ [] ≡ spelling inner ++ (rest ++ more) = append-nil (spelling frame)
    ∙ sym is ∙ ap (λ (l : List ℕ). l ++ more) t.1 ∙ append_assoc (spelling inner) rest more in
    let both : Whole frame [] ≡ Whole inner (rest ++ more) = sym outer ∙ ap (read_within m) same
    ∙ again in
    let none : [] ≡ rest ++ more = cc both in
    let size : length more ≡ 0 = omega (arith, ap length none, length-append rest more) in
    absurd (some (no_length more size))
no_part bytes more frame (Broken place cause) short fits is some e =
    let t = broken_is_first bytes place cause e in
    let size = ap length t.3.0 ∙ length-append t.0 (t.1 ∷ t.2) in
    let below : place ≢ frame_limit = λ f. omega (arith, t.3.1) in
    absurd (t.6 below (
      t.2 ++ more,
      frame,
      fits,
      append_assoc t.0 (t.1 ∷ []) (t.2 ++ more) ∙ sym (append_assoc t.0 (t.1 ∷ t.2) more)
          ∙ ap (λ (l : List ℕ). l ++ more) (sym t.3.0) ∙ is,
    ))

pub begins_part : BeginsPart
begins_part bytes more frame short fits is some =
    no_part bytes more frame (read bytes) short fits is some refl

cause_at : (n : ℕ) (s : State) (b : ℕ) (cause : Cause) → (long : Bool) → n == frame_limit ≡ long
    → (n ≡ frame_limit → cause ≡ TooLong) → (n ≢ frame_limit → scan s b ≡ Fails cause)
    → HasCause cause n s b
cause_at n s b cause true is long fails =
    let e = eqb-true n frame_limit is in
    subst (λ (c : Cause). HasCause c n s b) (sym (long e)) (inl e)
cause_at n s b cause false is long fails =
    let short = eqb-false n frame_limit is in fails_with n s b cause short (fails short)

pub cause_is_first : CauseIsFirst
cause_is_first bytes place cause is =
    let t = told bytes (Broken place cause) is in
    let same = t.reached ∙ from_start t.before in
    let counted : place ≡ length t.before = omega (arith, t.counted) in
    let reached : IsReached place t.state = record {
      good = t.good;
      counted = counted ∙ ap length (sym same);
      bound = t.bound;
      reach = λ rest. ap (λ (l : List ℕ). read (l ++ rest)) same
          ∙ t.leads frame_limit rest t.bound;
    } in (
      t.before,
      t.byte,
      t.rest,
      t.state,
      (t.parts, counted),
      same,
      reached,
      cause_at place t.state t.byte cause (place == frame_limit) refl t.long t.fails,
    )

-- what was read stays so, when more bytes come
abbrev Stays : List ℕ → Reading → Reading → Type 0
Stays more Part reading = Unit {0}
Stays more (Whole frame rest) reading = reading ≡ Whole frame (rest ++ more)
Stays more (Broken place cause) reading = reading ≡ Broken place cause

abbrev AllStay : ℕ → List ℕ → List ℕ → Type 0
AllStay m bs more = (n : ℕ) (s : State) → Stays more (run m n s bs) (run m n s (bs ++ more))

stays-along : (more : List ℕ) (one other longer others : Reading) → one ≡ other
    → longer ≡ others → Stays more other others → Stays more one longer
stays-along more one other longer others e f h =
    let P : Reading → Type 0 = λ reading. Stays more reading others in
    let Q : Reading → Type 0 = λ reading. Stays more one reading in
    subst Q (sym f) (subst P (sym e) h)

stays_by : (m n : ℕ) (s : State) (b : ℕ) (bs more : List ℕ) → AllStay m bs more → n ≢ m
    → (step : Step) → scan s b ≡ step
    → Stays more (run m n s (b ∷ bs)) (run m n s (b ∷ bs ++ more))
stays_by m n s b bs more rest short (Goes t) is =
    stays-along more _ _ _ _ (run_goes m n s t b bs short is)
    (run_goes m n s t b (bs ++ more) short is) (rest (n + 1) t)
stays_by m n s b bs more rest short (Ends frame) is =
    stays-along more _ (Whole frame bs) _ (Whole frame (bs ++ more))
    (run_ends m n s frame b bs short is) (run_ends m n s frame b (bs ++ more) short is) refl
stays_by m n s b bs more rest short (Fails cause) is =
    stays-along more _ (Broken n cause) _ (Broken n cause)
    (run_fails m n s cause b bs short is) (run_fails m n s cause b (bs ++ more) short is) refl

stays_at : (m n : ℕ) (s : State) (b : ℕ) (bs more : List ℕ) → AllStay m bs more
    → (long : Bool) → n == m ≡ long
    → Stays more (run m n s (b ∷ bs)) (run m n s (b ∷ bs ++ more))
stays_at m n s b bs more rest true is =
    let e = eqb-true n m is in
    stays-along more _ (Broken n TooLong) _ (Broken n TooLong) (run_long m n s b bs e)
    (run_long m n s b (bs ++ more) e) refl
stays_at m n s b bs more rest false is =
    stays_by m n s b bs more rest (eqb-false n m is) (scan s b) refl

stays : (m : ℕ) (bs more : List ℕ) → AllStay m bs more
stays m [] more n s =
    let P : Reading → Type 0 = λ reading. Stays more reading (run m n s more) in
    subst P (sym (run_over m n s)) tt
stays m (b ∷ bs) more n s = stays_at m n s b bs more (stays m bs more) (n == m) refl

pub whole_stays : WholeStays
whole_stays bytes more rest frame is =
    let P : Reading → Type 0 = λ reading. Stays more reading (read (bytes ++ more)) in
    subst P is (stays frame_limit bytes more 0 start)

pub broken_stays : BrokenStays
broken_stays bytes more place cause is =
    let P : Reading → Type 0 = λ reading. Stays more reading (read (bytes ++ more)) in
    subst P is (stays frame_limit bytes more 0 start)
