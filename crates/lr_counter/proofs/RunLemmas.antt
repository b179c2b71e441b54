-- From a step on the key of a number to all objects.
use Rattle.std.proofs.Common.{◌≡◌, ℕ, max, List, Option, ap, sym, subst, ◌∙◌}
use Rattle.std.specs.Str.{bytes_eq}
use Rattle.lr_names.specs.Key.{key_text}
use Rattle.lr_names.specs.Name.{IsName}
use Rattle.lr_names.specs.declared.part.Part.{Part}
use Rattle.lr_names.specs.declared.post.Post.{Post}
use Rattle.lr_keys.specs.KeySpace.{ChangesOnly, KeyEntry, Keys, StaysSame, entry_at, live_entries}
use Rattle.lr_keys.proofs.FrameLaws.{others_are_live}
use Rattle.lr_objects.specs.declared.reply.Reply.{Reply}
use Rattle.lr_model.specs.Answer.{Objects, answer_with}
use Rattle.lr_model.specs.Outcome.{Outcome}
use Rattle.lr_model.specs.Table.{put}
use Rattle.lr_counter.specs.Numbers.{IsNumberAt, NumbersStand, number_entry_of}
use Rattle.lr_counter.specs.Run.{IsNumberRun}
use Rattle.lr_counter.specs.Step.{IsNumberStep}
use Rattle.lr_counter.proofs.NumbersLaws.{number_at, numbers_stand_with, other_names_are_live}

-- A step on the key of a name: the memory was taken, then the moment came, then the key changed.
module _ (old roomy middle new : Keys) (asked : ℕ) (stays : StaysSame old roomy)
    (passed : middle.moment ≡ max roomy.moment asked)
    (left : entry_at middle ≡ live_entries (max roomy.moment asked) (entry_at roomy))
    (now : new.moment ≡ middle.moment) (part : Part) (name : List ℕ) (named : IsName name)
    (key : List ℕ) (is : key ≡ key_text part name) (others : ChangesOnly key middle new) where
  abbrev moment : ℕ
  moment = max old.moment asked

  same : max roomy.moment asked ≡ moment
  same = ap (λ n. max n asked) stays.moment

  passed_to : middle.moment ≡ moment
  passed_to = passed ∙ same

  left_of : entry_at middle ≡ live_entries moment (entry_at old)
  left_of =
      left ∙ ap (λ n. live_entries n (entry_at roomy)) same
      ∙ ap (live_entries moment) stays.entries

  only : ChangesOnly (key_text part name) middle new
  only = subst (λ k. ChangesOnly k middle new) is others

  -- Objects of a table, each seen as a number of at most so much, and what puts another object into
  -- the table.
  module _ {X : Type 0} (most : ℕ) (view : X → Option ℕ) (table : Objects → List ℕ → X)
      (with_object : Objects → List ℕ → X → Objects)
      (puts : (objects : Objects) (object : X)
      → table (with_object objects name object) ≡ put bytes_eq (table objects) name object) where
    abbrev Stand : Keys → Objects → Type 0
    Stand keys objects = NumbersStand part most keys (λ q. view (table objects q))

    -- For which objects the keys stood says what the key held before the moment came, too.
    pub number_run : (answer : Reply × Option Post) (function : X → Outcome X)
        → ((object : X) → entry_at old key ≡ number_entry_of (view object)
        → IsNumberAt most (entry_at middle key) (view object)
        → IsNumberStep view most new key answer (function object))
        → IsNumberRun Stand old new moment (key_text part name) answer
        (λ objects. answer_with (function (table objects name)) (with_object objects name))
    number_run answer function steps = record {
      reply = λ objects stand. (step objects stand).reply;
      post = λ objects stand. (step objects stand).post;
      stands = λ objects stand.
          let object = (function (table objects name)).object in
          subst (λ (t : List ℕ → X). NumbersStand part most new (λ q. view (t q)))
          (sym (puts objects object))
          (numbers_stand_with part most view old new (table objects) stand name object
          (subst (λ k. IsNumberAt most (entry_at new k) (view object)) is (step objects stand).number)
          (λ q in_names other.
          other_names_are_live old middle new moment passed_to left_of now part name only q other));
      frame =
          others_are_live old middle new moment passed_to left_of now (key_text part name) only;
      now = now ∙ passed_to;
    }
      where
        there : (objects : Objects) → Stand old objects
            → IsNumberAt most (entry_at middle key) (view (table objects name))
        there objects stand =
            subst (λ k. IsNumberAt most (entry_at middle k) (view (table objects name))) (sym is)
            (subst (λ (f : List ℕ → Option KeyEntry).
            IsNumberAt most (f (key_text part name)) (view (table objects name)))
            (sym left_of)
            (number_at part most old (λ q. view (table objects q)) stand moment name named))

        step : (objects : Objects) → Stand old objects
            → IsNumberStep view most new key answer (function (table objects name))
        step objects stand =
            steps (table objects name) (ap (entry_at old) is ∙ stand.at_keys name named)
            (there objects stand)
