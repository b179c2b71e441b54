-- From the keys of one kind to all keys.
use Rattle.std.proofs.Common.{◌≡◌, ℕ, ◌≤◌, max, List, Bool, true, false, Option, Some, None, IsSome, is_some, IsTrue, Result, Ok, Err, IfOk, OnOk, OnErr, refl, sym, ap, subst, ◌∙◌, arith}
use Rattle.std.specs.List.{list_any}
use Rattle.std.specs.Str.{bytes_eq}
use Rattle.std.proofs.lemmas.Bool.{false≢true}
use Rattle.lr_names.specs.Key.{keys_of}
use Rattle.lr_names.specs.Name.{IsName}
use Rattle.lr_names.specs.declared.kind.Kind.{Kind}
use Rattle.lr_names.specs.declared.post.Post.{Post}
use Rattle.lr_objects.specs.Op.{kind_of, name_of}
use Rattle.lr_objects.specs.declared.op.Op.{Op}
use Rattle.lr_objects.specs.declared.reply.Reply.{Reply}
use Rattle.lr_keys.specs.KeySpace.{KeyEntry, Keys, AreLive, StaysSame, entry_at, live_entry, OthersAreLive}
use Rattle.lr_keys.proofs.FrameLaws.{live_entry-ahead}
use Rattle.lr_limits.specs.Limits.{last_moment}
use Rattle.lr_model.specs.Answer.{Objects, no_objects, reply_of, objects_after, post_of}
use Rattle.lr_model.specs.Board.{same_kind}
use Rattle.lr_server.specs.Done.{HasRun, IsRun, StillStands}
use Rattle.lr_server.specs.Stands.{KindStands, KeysStand}
use Rattle.lr_server.proofs.KindLaws.{one_kind, keys_apart}
use Rattle.lr_server.proofs.KindsLater.{KindGoesOn}
use Rattle.lr_server.proofs.Stays.{others_stay, kind_stays, kind_without_keys}

-- what is live of a key was there
was_there : (moment : ℕ) (entry : Option KeyEntry) → IsSome (live_entry moment entry) → IsSome entry
was_there moment None there = there
was_there moment (Some entry) there = refl

module _ (old new : Keys) (objects : Objects) (moment : ℕ) (op : Op)
    (stands : KeysStand old objects) (named : IsName (name_of op))
    (later : old.moment ≤ new.moment) (early : new.moment ≤ last_moment)
    (frame : OthersAreLive (keys_of (kind_of op) (name_of op)) old new)
    (own : KindStands (kind_of op) new (objects_after objects moment op)) where
  abbrev next : Objects
  next = objects_after objects moment op

  goes_on : (kind : Kind) → same_kind kind (kind_of op) ≡ false → KindGoesOn kind old new
  goes_on kind apart = record {
    later = later;
    early = early;
    live = λ name key is_name among.
        frame key (keys_apart kind (kind_of op) name (name_of op) key apart among);
  }

  each_kind : (kind : Kind) → KindStands kind new next
  each_kind kind = by (same_kind kind (kind_of op)) refl
    where
      by : (b : Bool) → same_kind kind (kind_of op) ≡ b → KindStands kind new next
      by true same =
          subst (λ (k : Kind). KindStands k new next) (sym (one_kind kind (kind_of op) same)) own
      by false apart =
          kind_stays kind old new objects next (goes_on kind apart)
          (others_stay kind objects moment op.name op.call apart) (stands.kinds kind)

  no_other_key : (key : List ℕ) → IsSome (entry_at new key) → (kind : Kind) × (name : List ℕ)
      × IsName name × IsTrue (list_any (bytes_eq key) (keys_of kind name))
  no_other_key key there = by (list_any (bytes_eq key) (keys_of (kind_of op) (name_of op))) refl
    where
      by : (b : Bool) → list_any (bytes_eq key) (keys_of (kind_of op) (name_of op)) ≡ b
          → (kind : Kind) × (name : List ℕ)
          × IsName name × IsTrue (list_any (bytes_eq key) (keys_of kind name))
      by true among = (kind_of op, name_of op, named, among)
      by false other = stands.nothing_else key
          (was_there new.moment (entry_at old key) (subst IsSome (frame key other) there))

  -- the keys stand for the objects after a call, where those of its kind do and all others are live
  pub keys_stand_after : KeysStand new next
  keys_stand_after = record { kinds = each_kind; nothing_else = no_other_key }

-- A function of a kind ran at a moment: what it says of its own kind, and that all other keys are
-- live.
record RanOnKind (kind : Kind) (old new : Keys) (moment : ℕ) (op : Op)
    (reply : Reply) (post : Option Post) : Type 0 where
  replies : (objects : Objects) → KindStands kind old objects
      → reply ≡ reply_of objects moment op
  posts : (objects : Objects) → KindStands kind old objects → post ≡ post_of objects moment op
  stands : (objects : Objects) → KindStands kind old objects
      → KindStands kind new (objects_after objects moment op)
  frame : OthersAreLive (keys_of kind (name_of op)) old new
  now : new.moment ≡ moment

ran_on_all : (kind : Kind) (old new : Keys) (moment : ℕ) (op : Op) (reply : Reply)
    (post : Option Post) → kind_of op ≡ kind → IsName (name_of op)
    → old.moment ≤ moment → moment ≤ last_moment
    → RanOnKind kind old new moment op reply post → HasRun old new moment op reply post
ran_on_all kind old new moment op reply post is named later early ran =
    let own : RanOnKind (kind_of op) old new moment op reply post =
    subst (λ (k : Kind). RanOnKind k old new moment op reply post) (sym is) ran in
    let later_on : old.moment ≤ new.moment = omega (arith, ran.now) in
    let early_on : new.moment ≤ last_moment = omega (arith, ran.now) in
    record {
      replies = λ objects stands. own.replies objects (stands.kinds (kind_of op));
      posts = λ objects stands. own.posts objects (stands.kinds (kind_of op));
      stands = λ objects stands.
          keys_stand_after old new objects moment op stands named later_on early_on own.frame
          (own.stands objects (stands.kinds (kind_of op)));
      in_time = omega (arith, ran.now);
    }

-- Keys that stay the same stand for the same objects.
stays_standing : (old new : Keys) → AreLive old → StaysSame old new → StillStands old new
stays_standing old new live same = record {
  stands = λ objects stands. record {
    kinds = λ kind.
        kind_stays kind old new objects objects (goes_on kind) refl (stands.kinds kind);
    nothing_else = λ key there.
        stands.nothing_else key
        (subst IsSome (ap (λ (f : List ℕ → Option KeyEntry). f key) same.entries) there);
  };
  moment = same.moment;
}
  where
    is_live : (key : List ℕ) (entry : Option KeyEntry) → entry_at old key ≡ entry
        → live_entry old.moment entry ≡ entry
    is_live key None here = refl
    is_live key (Some e) here = live_entry-ahead old.moment e (live.live key e here).ahead

    goes_on : (kind : Kind) → KindGoesOn kind old new
    goes_on kind = record {
      later = omega (arith, same.moment);
      early = omega (arith, same.moment, live.moment);
      live = λ name key named among.
          ap (λ (f : List ℕ → Option KeyEntry). f key) same.entries
          ∙ sym (is_live key (entry_at old key) refl)
          ∙ ap (λ m. live_entry m (entry_at old key)) (sym same.moment);
    }

-- and so do keys that are as they were
still_standing : (old new : Keys) → new ≡ old → StillStands old new
still_standing old new same =
    subst (StillStands old) (sym same) (record { stands = λ objects stands. stands; moment = refl })

-- what an error leaves, by what it leaves of the keys
on_err : {E T : Type 0} (P Q : Type 0) (result : Result T E) → (P → Q) → OnErr result P
    → OnErr result Q
on_err P Q (Ok value) so err = tt
on_err P Q (Err fault) so err = so err

module _ {E : Type 0} (kind : Kind) (old new : Keys) (moment : ℕ) (op : Op)
    (result : Result (Reply × Option Post) E) (is : kind_of op ≡ kind)
    (named : IsName (name_of op)) (later : old.moment ≤ moment) (early : moment ≤ last_moment)
    (replies : IfOk result (λ r. (objects : Objects) → KindStands kind old objects
    → r.0 ≡ reply_of objects (max old.moment moment) op))
    (posts : IfOk result (λ r. (objects : Objects) → KindStands kind old objects
    → r.1 ≡ post_of objects (max old.moment moment) op))
    (stands : OnOk result ((objects : Objects) → KindStands kind old objects
    → KindStands kind new (objects_after objects (max old.moment moment) op)))
    (frame : OnOk result (OthersAreLive (keys_of kind (name_of op)) old new))
    (now : OnOk result (new.moment ≡ max old.moment moment)) where
  -- a call of a kind, as the clauses of its functions say it
  has_run : IfOk result (λ r. HasRun old new moment op r.0 r.1)
  has_run = by result replies posts stands frame now
    where
      same_moment : max old.moment moment ≡ moment
      same_moment = omega (arith, later)

      by : (result : Result (Reply × Option Post) E)
          → IfOk result (λ r. (objects : Objects) → KindStands kind old objects
          → r.0 ≡ reply_of objects (max old.moment moment) op)
          → IfOk result (λ r. (objects : Objects) → KindStands kind old objects
          → r.1 ≡ post_of objects (max old.moment moment) op)
          → OnOk result ((objects : Objects) → KindStands kind old objects
          → KindStands kind new (objects_after objects (max old.moment moment) op))
          → OnOk result (OthersAreLive (keys_of kind (name_of op)) old new)
          → OnOk result (new.moment ≡ max old.moment moment)
          → IfOk result (λ r. HasRun old new moment op r.0 r.1)
      by (Err fault) replies posts stands frame now = tt
      by (Ok r) replies posts stands frame now =
          ran_on_all kind old new moment op r.0 r.1 is named later early
          (subst (λ m. RanOnKind kind old new m op r.0 r.1) same_moment (record {
            replies = replies;
            posts = posts;
            stands = stands;
            frame = frame;
            now = now;
          }))

  -- where want of memory leaves the keys as they were
  pub is_run : OnErr result (new ≡ old) → IsRun old new moment op result
  is_run err = record {
    ran = has_run;
    err = on_err (new ≡ old) (StillStands old new) result (still_standing old new) err;
  }

  -- where it leaves the moment and the entries
  pub is_run_on_same : AreLive old → OnErr result (StaysSame old new)
      → IsRun old new moment op result
  is_run_on_same live err = record {
    ran = has_run;
    err = on_err (StaysSame old new) (StillStands old new) result (stays_standing old new live) err;
  }

-- where no key is there, the keys stand for no objects
pub no_keys_stand_for_no_objects : (keys : Keys) → entry_at keys ≡ (λ _. None)
    → KeysStand keys no_objects
no_keys_stand_for_no_objects keys none = record {
  kinds = λ kind. kind_without_keys kind keys none;
  nothing_else = λ key there.
      let absent : is_some (entry_at keys key) ≡ false =
      ap (λ (f : List ℕ → Option KeyEntry). is_some (f key)) none in
      absurd (false≢true (sym absent ∙ there));
}
