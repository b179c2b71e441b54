-- Calls on one stream, one after the other.
use Rattle.std.proofs.Common.{◌≡◌, ◌≢◌, ℕ, ◌+◌, ◌-◌, ◌%◌, ◌^◌, ◌<◌, List, [], ◌∷◌, ◌++◌, length, map, arith, refl, sym, ap, ◌∙◌, length-append}
use Rattle.std.specs.List.{concat, AllByRecursion}
use Rattle.std.proofs.lemmas.List.{append-nil, append_assoc}
use Rattle.lr_resp.specs.declared.frame.Frame.{Frame}
use Rattle.lr_resp.specs.Spelling.{spelling}
use Rattle.lr_resp.specs.Grammar.{Spells}
use Rattle.lr_resp.specs.Stream.{Stream, Whole, read, begun}
use Rattle.lr_resp.specs.Turns.{Turn, Fed, Gave, fed, given, Lead, FramesComeInOrder, PiecesDoNotMatter}
use Rattle.lr_resp.proofs.Reached.{stream_is}
use Rattle.lr_resp.proofs.Readings.{whole_is_spelled, spelled_is_whole}

-- all bytes of some frames
abbrev spellings : List Frame → List ℕ
spellings frames = concat (map spelling frames)

abbrev AreSpelled : List Frame → Type 0
AreSpelled frames = AllByRecursion (λ frame. Spells (spelling frame) frame) frames

-- what some turns came to
record InOrder (turns : List Turn) (old new : Stream) : Type 0 where
  pub bytes : old.unread ++ fed turns ≡ spellings (given turns) ++ new.unread
  pub spelled : AreSpelled (given turns)
  pub past : new.past ≡ (old.past + length (spellings (given turns))) % 2 ^ 64

past_more : (past size all here rest : ℕ) → all ≡ here + rest → size ≡ here
    → ((past + size) % 2 ^ 64 + rest) % 2 ^ 64 ≡ (past + all) % 2 ^ 64
past_more past size all here rest e f = omega arith

in_order : (turns : List Turn) (old new : Stream) → old.past < 2 ^ 64 → Lead turns old new
    → InOrder turns old new
in_order [] old new small lead =
    let e : old.past ≡ (old.past + 0) % 2 ^ 64 = omega arith in
    record {
      bytes = append-nil old.unread ∙ ap (λ (s : Stream). s.unread) (sym lead);
      spelled = tt;
      past = ap (λ (s : Stream). s.past) lead ∙ e;
    }
in_order (Fed piece ∷ turns) old new small lead =
    let next : Stream = record { past = old.past; unread = old.unread ++ piece } in
    let rest = in_order turns next new small lead in
    record {
      bytes = sym (append_assoc old.unread piece (fed turns)) ∙ rest.bytes;
      spelled = rest.spelled;
      past = rest.past;
    }
in_order (Gave frame ∷ turns) old new small lead =
    let next = lead.0 in
    let whole = whole_is_spelled old.unread next.unread frame lead.1.0 in
    let below : next.past < 2 ^ 64 = omega (arith, lead.1.1) in
    let rest = in_order turns next new below lead.2 in
    let x = spelling frame in
    let gone : length old.unread - length next.unread ≡ length x =
    omega (arith, ap length whole.1, length-append x next.unread) in
    record {
      bytes = ap (λ (l : List ℕ). l ++ fed turns) whole.1
          ∙ append_assoc x next.unread (fed turns)
          ∙ ap (λ (l : List ℕ). x ++ l) rest.bytes
          ∙ sym (append_assoc x (spellings (given turns)) new.unread);
      spelled = (whole.0, rest.spelled);
      past = rest.past
          ∙ ap (λ (p : ℕ). (p + length (spellings (given turns))) % 2 ^ 64) lead.1.1
          ∙ past_more old.past (length old.unread - length next.unread) _ (length x)
          (length (spellings (given turns))) (length-append x (spellings (given turns))) gone;
    }

pub frames_come_in_order : FramesComeInOrder
frames_come_in_order turns stream lead =
    let order = in_order turns begun stream (omega arith) lead in
    let size = length (spellings (given turns)) in
    let e : 0 + size ≡ size = omega arith in
    (order.bytes, order.spelled, order.past ∙ ap (λ (n : ℕ). n % 2 ^ 64) e)

-- bytes that begin with frames begin with no others
same_frames : (fs gs : List Frame) (x y : List ℕ) → AreSpelled fs → AreSpelled gs
    → spellings fs ++ x ≡ spellings gs ++ y
    → ((frame : Frame) (rest : List ℕ) → read x ≢ Whole frame rest)
    → ((frame : Frame) (rest : List ℕ) → read y ≢ Whole frame rest)
    → (fs ≡ gs) × (x ≡ y)
same_frames [] [] x y a b same xo yo = (refl, same)
same_frames [] (g ∷ gs) x y a b same xo yo =
    let is = ap read (same ∙ append_assoc (spelling g) (spellings gs) y)
    ∙ spelled_is_whole (spelling g) (spellings gs ++ y) g b.0 in
    absurd (xo g (spellings gs ++ y) is)
same_frames (f ∷ fs) [] x y a b same xo yo =
    let is = ap read (sym same ∙ append_assoc (spelling f) (spellings fs) x)
    ∙ spelled_is_whole (spelling f) (spellings fs ++ x) f a.0 in
    absurd (yo f (spellings fs ++ x) is)
same_frames (f ∷ fs) (g ∷ gs) x y a b same xo yo =
    let alike : spelling f ++ (spellings fs ++ x) ≡ spelling g ++ (spellings gs ++ y) =
    sym (append_assoc (spelling f) (spellings fs) x) ∙ same
    ∙ append_assoc (spelling g) (spellings gs) y in
    let both : Whole f (spellings fs ++ x) ≡ Whole g (spellings gs ++ y) =
    sym (spelled_is_whole (spelling f) (spellings fs ++ x) f a.0) ∙ ap read alike
    ∙ spelled_is_whole (spelling g) (spellings gs ++ y) g b.0 in
    let one : f ≡ g = cc both in
    let behind : spellings fs ++ x ≡ spellings gs ++ y = cc both in
    let rest = same_frames fs gs x y a.1 b.1 behind xo yo in
    (ap (λ (h : Frame). h ∷ fs) one ∙ ap (λ (hs : List Frame). g ∷ hs) rest.0, rest.1)

pub pieces_do_not_matter : PiecesDoNotMatter
pieces_do_not_matter turns others stream other lead leads alike over overs =
    let one = in_order turns begun stream (omega arith) lead in
    let two = in_order others begun other (omega arith) leads in
    let same = same_frames (given turns) (given others) stream.unread other.unread one.spelled
    two.spelled (sym one.bytes ∙ alike ∙ two.bytes) over overs in (
      same.0,
      stream_is other stream.past stream.unread
          (one.past ∙ ap (λ (fs : List Frame). (0 + length (spellings fs)) % 2 ^ 64) same.0
          ∙ sym two.past)
          same.1,
    )
