-- Frames that are counted one after the other.
use Rattle.std.proofs.Common.{◌≡◌, ℕ, ◌+◌, ◌≤◌, Bool, true, false, List, [], ◌∷◌, ◌++◌, length, map, replicate, arith, refl, sym, ap, subst, ◌∙◌, length-append}
use Rattle.std.specs.List.{concat, AllByRecursion}
use Rattle.std.proofs.lemmas.List.{append-nil, append_assoc, map-append, replicate_more}
use Rattle.std.proofs.lemmas.List.Folds.{concat-append}
use Rattle.lr_resp.specs.declared.frame.Frame.{Frame}
use Rattle.lr_resp.specs.declared.frame.Frame.TheVariants as frames
use Rattle.lr_resp.specs.Spelling.{spelling}
use Rattle.lr_resp.specs.Grammar.{Spells}
use Rattle.lr_resp.specs.Stream.{Stream, Whole, read}
use Rattle.lr_resp.specs.declared.decoder.Decoded.{Decoded}
use Rattle.lr_resp.specs.declared.decoder.Decoded.TheVariants as decoded
use Rattle.lr_resp.specs.Next.{NextIs}
use Rattle.lr_resp.proofs.Readings.{whole_is_spelled}
use Rattle.frame_race.specs.Counted.{BeginsWith, came}

abbrev spellings : List Frame → List ℕ
spellings fs = concat (map spelling fs)

abbrev AreSpelled : List Frame → Type 0
AreSpelled fs = AllByRecursion (λ frame. Spells (spelling frame) frame) fs

all_of_both : (fs gs : List Frame) → AreSpelled fs → AreSpelled gs → AreSpelled (fs ++ gs)
all_of_both [] gs a b = b
all_of_both (f ∷ fs) gs a b = (a.0, all_of_both fs gs a.1 b)

spellings_of_both : (fs gs : List Frame) → spellings (fs ++ gs) ≡ spellings fs ++ spellings gs
spellings_of_both fs gs =
    ap concat (map-append spelling fs gs) ∙ concat-append (map spelling fs) (map spelling gs)

has_bytes : (frame : Frame) → 1 ≤ length (spelling frame)
has_bytes (frames.Simple text) = omega arith
has_bytes (frames.Fault text) = omega arith
has_bytes (frames.Number n) = omega arith
has_bytes (frames.Bulk text) = omega arith
has_bytes frames.Null = omega arith
has_bytes frames.NullArray = omega arith
has_bytes (frames.Array items) = omega arith

have_bytes : (fs : List Frame) → length fs ≤ length (spellings fs)
have_bytes [] = omega arith
have_bytes (f ∷ fs) =
    omega (arith, has_bytes f, have_bytes fs, length-append (spelling f) (spellings fs))

-- each frame has a byte at least
pub counts_at_most : (count : ℕ) (bytes rest : List ℕ) → BeginsWith count bytes rest
    → count + length rest ≤ length bytes
counts_at_most count bytes rest b = omega (
  arith,
  b.counted,
  have_bytes b.frames,
  ap length b.all,
  length-append (spellings b.frames) rest,
)

pub none_yet : (bytes : List ℕ) → BeginsWith 0 bytes bytes
none_yet bytes = record { frames = []; spelled = tt; all = refl; counted = refl }

-- some frames, and then some more of what is behind them
pub and_more : (n m : ℕ) (bytes old new : List ℕ) → BeginsWith n bytes old → BeginsWith m old new
    → BeginsWith (n + m) bytes new
and_more n m bytes old new a b = record {
  frames = a.frames ++ b.frames;
  spelled = all_of_both a.frames b.frames a.spelled b.spelled;
  all = a.all ∙ ap (λ (l : List ℕ). spellings a.frames ++ l) b.all
      ∙ sym (append_assoc (spellings a.frames) (spellings b.frames) new)
      ∙ ap (λ (l : List ℕ). l ++ new) (sym (spellings_of_both a.frames b.frames));
  counted = ap (λ (k : ℕ). k + m) a.counted ∙ ap (λ (k : ℕ). length a.frames + k) b.counted
      ∙ sym (length-append a.frames b.frames);
}

-- the same where more bytes follow
pub followed : (n : ℕ) (bytes rest behind : List ℕ) → BeginsWith n bytes rest
    → BeginsWith n (bytes ++ behind) (rest ++ behind)
followed n bytes rest behind b = record {
  frames = b.frames;
  spelled = b.spelled;
  all = ap (λ (l : List ℕ). l ++ behind) b.all ∙ append_assoc (spellings b.frames) rest behind;
  counted = b.counted;
}

-- a frame that is read is one more
pub one_read : (old new : List ℕ) (frame : Frame) → read old ≡ Whole frame new
    → BeginsWith 1 old new
one_read old new frame is =
    let whole = whole_is_spelled old new frame is in
    record {
      frames = frame ∷ [];
      spelled = (whole.0, tt);
      all = whole.1 ∙ ap (λ (l : List ℕ). l ++ new) (sym (append-nil (spelling frame)));
      counted = refl;
    }

abbrev bit : Bool → ℕ
bit true = 1
bit false = 0

pub one_came : (d : Decoded) (old new : Stream) → NextIs d old new → came d ≡ true
    → BeginsWith 1 old.unread new.unread
one_came (decoded.Frame frame) old new next is = one_read old.unread new.unread frame next.0
one_came decoded.More old new next is = absurd (omega (arith, ap bit is))
one_came (decoded.Broken place cause) old new next is = absurd (omega (arith, ap bit is))

-- a piece is fed, and the frames that stand next are taken
pub fed_more : (n m : ℕ) (bytes old rest piece behind between new : List ℕ)
    → BeginsWith n bytes (old ++ rest) → rest ≡ piece ++ behind → between ≡ old ++ piece
    → BeginsWith m between new → BeginsWith (n + m) bytes (new ++ behind)
fed_more n m bytes old rest piece behind between new a split fed b =
    let same : old ++ rest ≡ between ++ behind = ap (λ (l : List ℕ). old ++ l) split
    ∙ sym (append_assoc old piece behind) ∙ ap (λ (l : List ℕ). l ++ behind) (sym fed) in
    and_more n m bytes (between ++ behind) (new ++ behind)
    (subst (λ (l : List ℕ). BeginsWith n bytes l) same a) (followed m between new behind b)

-- at the end of the stream nothing is behind what is unread
pub at_end : (n : ℕ) (bytes unread rest : List ℕ) → BeginsWith n bytes (unread ++ rest)
    → rest ≡ [] → BeginsWith n bytes unread
at_end n bytes unread rest a none =
    subst (λ (l : List ℕ). BeginsWith n bytes l)
    (ap (λ (l : List ℕ). unread ++ l) none ∙ append-nil unread) a

pub one_copy_more : (n : ℕ) (frame : List ℕ)
    → concat (replicate n frame) ++ frame ≡ concat (replicate (n + 1) frame)
one_copy_more n frame =
    ap (λ (l : List ℕ). concat (replicate n frame) ++ l) (sym (append-nil frame))
    ∙ sym (concat-append (replicate n frame) (frame ∷ []))
    ∙ ap concat (replicate_more n frame)
