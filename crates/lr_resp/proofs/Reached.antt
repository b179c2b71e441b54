-- Reading a stream byte by byte reads its bytes.
use Rattle.std.proofs.Common.{◌≡◌, ◌≢◌, ℕ, ◌+◌, ◌-◌, ◌<◌, ◌==◌, Bool, true, false, List, [], ◌∷◌, ◌++◌, length, drop, get_or, arith, refl, sym, ap, subst, ◌∙◌, length-append}
use Rattle.std.proofs.Math.Seq.{drop-cons}
use Rattle.std.proofs.lemmas.List.{append_assoc}
use Rattle.std.proofs.lemmas.Bool.{cond-true, cond-false, eqb-true, eqb-false, ne_eqb}
use Rattle.std.proofs.Common.{eq-eqb}
use Rattle.lr_resp.specs.declared.frame.Frame.{Frame}
use Rattle.lr_resp.specs.declared.cause.Cause.{Cause}
use Rattle.lr_resp.specs.declared.cause.Cause.TheVariants.{TooLong}
use Rattle.lr_resp.specs.declared.progress.Progress.{Progress}
use Rattle.lr_resp.specs.declared.progress.Progress.TheVariants as answers
use Rattle.lr_resp.specs.Limits.{frame_limit}
use Rattle.lr_resp.specs.Spelled.{spelled}
use Rattle.lr_resp.specs.Scan.{State, Step, Goes, Ends, Fails, start, scan}
use Rattle.lr_resp.specs.Steps.{Answers}
use Rattle.lr_resp.specs.Stream.{Part, Whole, Broken, Stream, run, read, follow, IsReached}
use Rattle.lr_resp.proofs.Taken.{Reaches, scan_reaches}

pub run_long : (m n : ℕ) (s : State) (b : ℕ) (bs : List ℕ) → n ≡ m
    → run m n s (b ∷ bs) ≡ Broken n TooLong
unfolding run
run_long m n s b bs is = cond-true (n == m) _ _ (eq-eqb n m is)

pub run_step : (m n : ℕ) (s : State) (b : ℕ) (bs : List ℕ) (step : Step) → n ≢ m → scan s b ≡ step
    → run m n s (b ∷ bs) ≡ follow n bs (λ next. run m (n + 1) next bs) step
unfolding run
run_step m n s b bs step short is =
    cond-false (n == m) _ _ (ne_eqb n m short)
    ∙ ap (follow n bs (λ (next : State). run m (n + 1) next bs)) is

pub run_goes : (m n : ℕ) (s next : State) (b : ℕ) (bs : List ℕ) → n ≢ m → scan s b ≡ Goes next
    → run m n s (b ∷ bs) ≡ run m (n + 1) next bs
run_goes m n s next b bs short is = run_step m n s b bs (Goes next) short is

pub run_ends : (m n : ℕ) (s : State) (frame : Frame) (b : ℕ) (bs : List ℕ) → n ≢ m
    → scan s b ≡ Ends frame → run m n s (b ∷ bs) ≡ Whole frame bs
run_ends m n s frame b bs short is = run_step m n s b bs (Ends frame) short is

pub run_fails : (m n : ℕ) (s : State) (cause : Cause) (b : ℕ) (bs : List ℕ) → n ≢ m
    → scan s b ≡ Fails cause → run m n s (b ∷ bs) ≡ Broken n cause
run_fails m n s cause b bs short is = run_step m n s b bs (Fails cause) short is

pub run_over : (m n : ℕ) (s : State) → run m n s [] ≡ Part
unfolding run
run_over m n s = refl

pub reached_start : IsReached 0 start
unfolding spelled
reached_start =
    record {
      good = record { depth = 4; arrays = refl; phase = refl };
      counted = refl;
      bound =
          omega arith;
      reach = λ rest. refl;
    }

pub spelled_start : spelled start ≡ []
unfolding spelled
spelled_start = refl

pub reached_next : (n : ℕ) (s next : State) (b : ℕ) → IsReached n s → n ≢ frame_limit
    → scan s b ≡ Goes next → IsReached (n + 1) next
reached_next n s next b at short is =
    let parts =
    subst (λ (step : Step). Reaches (spelled s ++ b ∷ []) step) is (scan_reaches s b at.good) in
    let size : length (spelled next) ≡ length (spelled s) + 1 = ap length parts.1
    ∙ length-append (spelled s) (b ∷ []) in
    record {
      good = parts.0;
      counted = omega (arith, at.counted);
      bound = omega (arith, at.bound);
      reach = λ rest. ap (λ (l : List ℕ). read (l ++ rest)) parts.1
          ∙ ap read (append_assoc (spelled s) (b ∷ []) rest) ∙ at.reach (b ∷ rest)
          ∙ run_goes frame_limit n s next b rest short is;
    }

pub stream_is : (stream : Stream) (past : ℕ) (unread : List ℕ) → past ≡ stream.past
    → unread ≡ stream.unread → record { past = past; unread = unread } ≡ stream
stream_is stream past unread e f =
    let P : ℕ → Stream = λ x. record { past = x; unread = unread } in
    let Q : List ℕ → Stream = λ x. record { past = stream.past; unread = x } in
    ap P e ∙ ap Q f

-- what is ahead, by its first byte
pub first_byte : (ahead : List ℕ) (b none : ℕ) → 0 < length ahead → b ≡ get_or ahead 0 none
    → ahead ≡ b ∷ drop 1 ahead
first_byte ahead b none some is =
    drop-cons ahead 0 none some ∙ ap (λ (x : ℕ). x ∷ drop 1 ahead) (sym is)

pub not_empty : (empty : Bool) (ahead : List ℕ) → empty ≡ (length ahead == 0)
    → empty ≡ false → 0 < length ahead
not_empty empty ahead is other =
    let some = eqb-false (length ahead) 0 (sym is ∙ other) in omega (arith, some)

pub is_empty : (empty : Bool) (ahead : List ℕ) → empty ≡ (length ahead == 0)
    → empty ≡ true → ahead ≡ []
is_empty empty [] is over = refl
is_empty empty (b ∷ ahead) is over =
    let none = eqb-true (length (b ∷ ahead)) 0 (sym is ∙ over) in absurd (omega (arith, none))

-- the bytes of a stream: those of the frame so far, and those ahead
pub record StandsIn (n : ℕ) (s : State) (ahead unread : List ℕ) : Type 0 where
  pub reached : IsReached n s
  pub all : spelled s ++ ahead ≡ unread

pub read_here : (n : ℕ) (s : State) (ahead unread : List ℕ) → StandsIn n s ahead unread
    → read unread ≡ run frame_limit n s ahead
read_here n s ahead unread stands = ap read (sym stands.all) ∙ stands.reached.reach ahead

pub part_here : (n : ℕ) (s : State) (ahead unread : List ℕ) → StandsIn n s ahead unread
    → ahead ≡ [] → read unread ≡ Part
part_here n s ahead unread stands none =
    read_here n s ahead unread stands ∙ ap (run frame_limit n s) none ∙ run_over frame_limit n s

pub long_here : (n : ℕ) (s : State) (b : ℕ) (ahead unread : List ℕ)
    → StandsIn n s (b ∷ ahead) unread → n ≡ frame_limit → read unread ≡ Broken n TooLong
long_here n s b ahead unread stands is =
    read_here n s (b ∷ ahead) unread stands ∙ run_long frame_limit n s b ahead is

pub fails_here : (n : ℕ) (s : State) (b : ℕ) (ahead unread : List ℕ) (cause : Cause)
    → StandsIn n s (b ∷ ahead) unread → n ≢ frame_limit → scan s b ≡ Fails cause
    → read unread ≡ Broken n cause
fails_here n s b ahead unread cause stands short is =
    read_here n s (b ∷ ahead) unread stands ∙ run_fails frame_limit n s cause b ahead short is

pub ends_here : (n : ℕ) (s : State) (b : ℕ) (ahead unread : List ℕ) (frame : Frame)
    → StandsIn n s (b ∷ ahead) unread → n ≢ frame_limit → scan s b ≡ Ends frame
    → read unread ≡ Whole frame ahead
ends_here n s b ahead unread frame stands short is =
    read_here n s (b ∷ ahead) unread stands ∙ run_ends frame_limit n s frame b ahead short is

pub size_here : (n : ℕ) (s : State) (b : ℕ) (ahead unread : List ℕ)
    → StandsIn n s (b ∷ ahead) unread → length unread - length ahead ≡ n + 1
size_here n s b ahead unread stands =
    let size = ap length (sym stands.all) ∙ length-append (spelled s) (b ∷ ahead) in
    omega (arith, size, stands.reached.counted)

pub goes_here : (n : ℕ) (s next : State) (b : ℕ) (ahead unread : List ℕ)
    → StandsIn n s (b ∷ ahead) unread → n ≢ frame_limit → scan s b ≡ Goes next
    → StandsIn (n + 1) next ahead unread
goes_here n s next b ahead unread stands short is =
    let P : Step → Type 0 = Reaches (spelled s ++ b ∷ []) in
    let parts = subst P is (scan_reaches s b stands.reached.good) in
    record {
      reached = reached_next n s next b stands.reached short is;
      all = ap (λ (l : List ℕ). l ++ ahead) parts.1
          ∙ append_assoc (spelled s) (b ∷ []) ahead ∙ stands.all;
    }

-- the same, where the state and what is ahead have other names
pub stands-along : (n : ℕ) (s t : State) (ahead others unread : List ℕ) → t ≡ s → ahead ≡ others
    → StandsIn n s ahead unread → StandsIn n t others unread
stands-along n s t ahead others unread same alike stands =
    record {
      reached = subst (λ (x : State). IsReached n x) (sym same) stands.reached;
      all = ap (λ (x : State). spelled x ++ others) same
          ∙ ap (λ (l : List ℕ). spelled s ++ l) (sym alike) ∙ stands.all;
    }

pub stands_at : (n : ℕ) (s t : State) (b none : ℕ) (ahead slice unread : List ℕ) → t ≡ s
    → slice ≡ ahead → 0 < length ahead → b ≡ get_or slice 0 none → StandsIn n s ahead unread
    → StandsIn n t (b ∷ drop 1 ahead) unread
stands_at n s t b none ahead slice unread same alike some is stands =
    stands-along n s t ahead (b ∷ drop 1 ahead) unread same
    (first_byte ahead b none some (is ∙ ap (λ (l : List ℕ). get_or l 0 none) alike)) stands

-- the same, where the size and what is ahead have other names
pub stands-named : (n m : ℕ) (s : State) (ahead others unread : List ℕ) → m ≡ n → others ≡ ahead
    → StandsIn n s ahead unread → StandsIn m s others unread
stands-named n m s ahead others unread size same stands =
    subst (λ (k : ℕ). StandsIn k s others unread) (sym size)
    (subst (λ (l : List ℕ). StandsIn n s l unread) (sym same) stands)

pub on_of : (step : Step) (old : State) (answer : Progress) (new : State)
    → answer ≡ answers.GoesOn → Answers step old answer new → step ≡ Goes new
on_of step old answer new is h = subst (λ (a : Progress). Answers step old a new) is h

pub whole_of : (step : Step) (old : State) (answer : Progress) (new : State) (frame : Frame)
    → answer ≡ answers.Whole frame → Answers step old answer new
    → (step ≡ Ends frame) × (new ≡ start)
whole_of step old answer new frame is h = subst (λ (a : Progress). Answers step old a new) is h

pub broken_of : (step : Step) (old : State) (answer : Progress) (new : State) (cause : Cause)
    → answer ≡ answers.Broken cause → Answers step old answer new
    → (step ≡ Fails cause) × (new ≡ old)
broken_of step old answer new cause is h = subst (λ (a : Progress). Answers step old a new) is h
