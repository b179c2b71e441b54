-- One line more.
use Rattle.std.proofs.Common.{◌≡◌, ◌⊎◌, inl, inr, ⊎_elim, ℕ, ◌+◌, List, [], ◌∷◌, ◌++◌, length, refl, sym, ap, ◌∙◌, subst, arith, append_assoc, append-nil}
use Rattle.std.proofs.lemmas.List.{length-append}
use Rattle.lr_outside.specs.Lines.{lines_of, HasNoLineEnd, IsFirstLine}
use Rattle.lr_machine.specs.declared.event.Event.{Event}
use Rattle.lr_machine.specs.declared.schedule_line.ScheduleLine.{ScheduleLine}
use Rattle.lr_machine.specs.declared.schedule_line.ScheduleLine.TheVariants as kinds
use Rattle.lr_machine.specs.Transcript.{IsLine, AreLinesOf, shown_line, bad_line, too_many_line}
use Rattle.lr_machine.specs.Shown.{shown}
use Rattle.lr_machine.specs.World.{World, first_world, world_after, next}
use Rattle.lr_machine_laws.proofs.Schedules.{goes_well_throughout}
use Rattle.lr_machine_wakeups.proofs.Schedules.{none_lost_throughout}
use Rattle.lr_machine_renewals.proofs.Schedules.{renewed_throughout}
use Rattle.lr_play.specs.Ends.{lines_with_ends, shown_of, IsRun, RanThrough, StoppedAt, BrokeOff, WereRead, ShowsEvents, ShowsRefusal, WrittenInPart}
use Rattle.lr_play.specs.Progress.{Progress, text_of}
use Rattle.lr_play.proofs.Events.{AreLinesOf-push, AreLinesOf-length, AreLinesOf-few, AreLinesOf-within, world_after-push, transcript-push}

-- lines that are those of events make a run
pub is_run : (lines : List (List ℕ)) (events : List Event) → AreLinesOf 1 lines events → IsRun lines events
is_run lines events are =
    let within = AreLinesOf-within 1 lines events are in
    let few = AreLinesOf-few 1 lines events (omega arith) are in
    record {
      texts = are;
      well = goes_well_throughout events within;
      awake = none_lost_throughout events within (omega (arith, few));
      renews = renewed_throughout events within (omega (arith, few));
    }

lines_with_ends-append : (xs ys : List (List ℕ)) → lines_with_ends (xs ++ ys) ≡ lines_with_ends xs ++ lines_with_ends ys
lines_with_ends-append [] ys = refl
lines_with_ends-append (x ∷ xs) ys =
    ap (λ (l : List ℕ). (x ++ 10 ∷ []) ++ l) (lines_with_ends-append xs ys) ∙ sym (append_assoc (x ++ 10 ∷ []) (lines_with_ends xs) (lines_with_ends ys))

lines_with_ends-one : (line : List ℕ) → lines_with_ends (line ∷ []) ≡ line ++ 10 ∷ []
lines_with_ends-one line = append-nil (line ++ 10 ∷ [])

rest_nil : (xs ys : List ℕ) → xs ++ ys ≡ [] → ys ≡ []
rest_nil [] ys e = e
rest_nil (x ∷ xs) ys e = cc

module _ (all before left held : List ℕ) (number : ℕ) (world : World) (p : Progress all before left held number world) where
  run_so_far : IsRun p.taken p.events
  run_so_far = is_run p.taken p.events p.texts

  -- the lines so far, with one more
  lines_more : (line : List ℕ) (later : List (List ℕ)) → lines_of left ≡ line ∷ later → lines_of all ≡ p.taken ++ line ∷ later
  lines_more line later first = p.lines ∙ ap (λ (l : List (List ℕ)). p.taken ++ l) first

  written_more : (now text : List ℕ) → now ≡ held ++ text → now ≡ before ++ (shown_of p.events ++ text)
  written_more now text wrote = wrote ∙ ap (λ (l : List ℕ). l ++ text) p.holds ∙ append_assoc before (shown_of p.events) text

  -- an event more
  texts_more : (line : List ℕ) (event : Event) → IsLine number line (kinds.Event event) → AreLinesOf 1 (p.taken ++ line ∷ []) (p.events ++ event ∷ [])
  texts_more line event is = AreLinesOf-push 1 number p.taken p.events line event p.count p.texts is

  shown_more : (event : Event) → shown_of (p.events ++ event ∷ []) ≡ shown_of p.events ++ text_of world number (kinds.Event event)
  shown_more event =
      let many : length p.events + 1 ≡ number = omega (arith, AreLinesOf-length 1 p.taken p.events p.texts, p.count) in
      transcript-push first_world 1 p.events event
      ∙ ap (λ n. shown_of p.events ++ shown_line n (shown (world_after first_world p.events) event)) many
      ∙ ap (λ (w : World). shown_of p.events ++ shown_line number (shown w event)) (sym p.world_is)

  -- a line that is no event ends the run
  pub stopped : (line : List ℕ) (later : List (List ℕ)) (kind : ScheduleLine) (n : ℕ) (refusal now : List ℕ) → lines_of left ≡ line ∷ later → IsLine number line kind → n ≡ number → now ≡ held ++ refusal
      → StoppedAt n kind refusal all before now
  stopped line later kind n refusal now first is same wrote = record {
    earlier = p.taken;
    line = line;
    later = later;
    lines = lines_more line later first;
    place = same ∙ p.count;
    here = subst (λ m. IsLine m line kind) (sym same) is;
    events = p.events;
    run = run_so_far;
    written = wrote ∙ ap (λ (l : List ℕ). l ++ refusal) p.holds;
  }

  -- a refused line ends the lines up to it
  refused : (line : List ℕ) (kind : ScheduleLine) → IsLine number line kind → (kind ≡ kinds.Bad) ⊎ (kind ≡ kinds.TooMany) → ShowsRefusal (p.taken ++ line ∷ []) (shown_of p.events ++ text_of world number kind)
  refused line kind is which = record {
    earlier = p.taken;
    line = line;
    split = refl;
    events = p.events;
    run = run_so_far;
    refusal = text_of world number kind;
    shown = refl;
    refused = ⊎_elim
        (λ bad. inl (subst (λ n. IsLine n line kinds.Bad) p.count (subst (IsLine number line) bad is), ap (text_of world number) bad ∙ ap bad_line p.count))
        (λ many. inr (subst (λ n. IsLine n line kinds.TooMany) p.count (subst (IsLine number line) many is), ap (text_of world number) many ∙ ap too_many_line p.count))
        which;
  }

  -- a line that was read whole, or is refused
  abbrev pub Shows : List ℕ → ScheduleLine → List ℕ → Type 0
  Shows line kind rest = WereRead all rest (p.taken ++ line ∷ []) ⊎ ((kind ≡ kinds.Bad) ⊎ (kind ≡ kinds.TooMany))

  shows : (line rest : List ℕ) (kind : ScheduleLine) → IsLine number line kind → Shows line kind rest
      → ShowsEvents all rest (p.taken ++ line ∷ []) (shown_of p.events ++ text_of world number kind) ⊎ ShowsRefusal (p.taken ++ line ∷ []) (shown_of p.events ++ text_of world number kind)
  shows line rest (kinds.Event event) is (inl read) = inl (record {
    read = read;
    events = p.events ++ event ∷ [];
    run = is_run (p.taken ++ line ∷ []) (p.events ++ event ∷ []) (texts_more line event is);
    shown = sym (shown_more event);
  })
  shows line rest (kinds.Event event) is (inr (inl e)) = absurd (cc e)
  shows line rest (kinds.Event event) is (inr (inr e)) = absurd (cc e)
  shows line rest kinds.Bad is which = inr (refused line kinds.Bad is (inl refl))
  shows line rest kinds.TooMany is which = inr (refused line kinds.TooMany is (inr refl))

  -- a line that was written in part
  pub in_part : (line : List ℕ) (later : List (List ℕ)) (kind : ScheduleLine) (rest now front back : List ℕ) → lines_of left ≡ line ∷ later → IsLine number line kind
      → Shows line kind rest → text_of world number kind ≡ front ++ back → now ≡ held ++ front → WrittenInPart all rest before now
  in_part line later kind rest now front back first is which cut wrote = record {
    lines = p.taken ++ line ∷ [];
    later = later;
    first = lines_more line later first ∙ sym (append_assoc p.taken (line ∷ []) later);
    text = shown_of p.events ++ text_of world number kind;
    shown = shows line rest kind is which;
    front = shown_of p.events ++ front;
    unwritten = back;
    cut = ap (λ (l : List ℕ). shown_of p.events ++ l) cut ∙ sym (append_assoc (shown_of p.events) front back);
    written = written_more now front wrote;
  }

  -- nothing is left
  pub ran_through : (rest : List ℕ) → rest ≡ [] → left ≡ [] → RanThrough all rest before held
  ran_through rest none end =
      let whole : lines_of all ≡ p.taken = p.lines ∙ ap (λ (l : List ℕ). p.taken ++ lines_of l) end ∙ append-nil p.taken in
      record { read = none; events = p.events; run = subst (λ ls. IsRun ls p.events) (sym whole) run_so_far; written = p.holds }

  -- a read failed
  pub broke_off : (kept rest : List ℕ) → left ≡ kept ++ rest → HasNoLineEnd kept → BrokeOff all rest before held
  broke_off kept rest split none = record {
    lines = p.taken;
    whole = ⊎_elim
        (λ e. inl (kept, e ∙ ap (λ (l : List ℕ). lines_with_ends p.taken ++ l) split ∙ sym (append_assoc (lines_with_ends p.taken) kept rest), none))
        (λ e. inr (rest_nil kept rest (sym split ∙ e), sym (p.lines ∙ ap (λ (l : List ℕ). p.taken ++ lines_of l) e ∙ append-nil p.taken)))
        p.cut;
    events = p.events;
    run = run_so_far;
    written = p.holds;
  }

  -- where the bytes stand once a line was taken
  cut_more : (after line : List ℕ) → IsFirstLine left after line → (all ≡ lines_with_ends (p.taken ++ line ∷ []) ++ after) ⊎ (after ≡ [])
  cut_more after line is = ⊎_elim
      (λ cut. ⊎_elim (λ e. inl (more e cut)) (λ e. absurd (none e)) p.cut)
      (λ last. inr last.1)
      is.bytes
    where
      more : all ≡ lines_with_ends p.taken ++ left → left ≡ line ++ 10 ∷ after → all ≡ lines_with_ends (p.taken ++ line ∷ []) ++ after
      more e cut =
          e ∙ ap (λ (l : List ℕ). lines_with_ends p.taken ++ l) (cut ∙ sym (append_assoc line (10 ∷ []) after) ∙ ap (λ (l : List ℕ). l ++ after) (sym (lines_with_ends-one line)))
          ∙ sym (append_assoc (lines_with_ends p.taken) (lines_with_ends (line ∷ [])) after) ∙ ap (λ (l : List ℕ). l ++ after) (sym (lines_with_ends-append p.taken (line ∷ [])))

      none : left ≡ [] → ⊥
      none e = let h : [] ≡ line ∷ lines_of after = sym (ap lines_of e) ∙ is.lines in cc

  -- an event was shown
  pub goes_on : (after line : List ℕ) (event : Event) (now : List ℕ) → IsFirstLine left after line → IsLine number line (kinds.Event event) → now ≡ held ++ text_of world number (kinds.Event event)
      → Progress all before after now (number + 1) (next world event)
  goes_on after line event now first is wrote = record {
    taken = p.taken ++ line ∷ [];
    events = p.events ++ event ∷ [];
    texts = texts_more line event is;
    lines = lines_more line (lines_of after) first.lines ∙ sym (append_assoc p.taken (line ∷ []) (lines_of after));
    count = simp length-append (omega (arith, p.count));
    world_is = ap (λ (w : World). next w event) p.world_is ∙ sym (world_after-push first_world p.events event);
    holds = written_more now (text_of world number (kinds.Event event)) wrote ∙ ap (λ (l : List ℕ). before ++ l) (sym (shown_more event));
    cut = cut_more after line first;
  }

  -- the line that was taken was read
  pub was_read : (after line kept rest : List ℕ) → IsFirstLine left after line → after ≡ kept ++ rest → WereRead all rest (p.taken ++ line ∷ [])
  was_read after line kept rest first split = ⊎_elim
      (λ e. inl (kept, e ∙ ap (λ (l : List ℕ). lines_with_ends (p.taken ++ line ∷ []) ++ l) split ∙ sym (append_assoc (lines_with_ends (p.taken ++ line ∷ [])) kept rest)))
      (λ e. inr (rest_nil kept rest (sym split ∙ e), sym (lines_more line (lines_of after) first.lines ∙ ap (λ (l : List ℕ). p.taken ++ line ∷ lines_of l) e)))
      (cut_more after line first)

-- before the first line
pub start : (all before : List ℕ) → Progress all before all before 1 first_world
start all before = record {
  taken = [];
  events = [];
  texts = tt;
  lines = refl;
  count = refl;
  world_is = refl;
  holds = sym (append-nil before);
  cut = inl refl;
}

-- a run that has taken nothing and written nothing
pub nothing_written : (all before : List ℕ) → WrittenInPart all all before before
nothing_written all before = record {
  lines = [];
  later = lines_of all;
  first = refl;
  text = [];
  shown = inl (record { read = inl ([], refl); events = []; run = is_run [] [] tt; shown = refl });
  front = [];
  unwritten = [];
  cut = refl;
  written = sym (append-nil before);
}
