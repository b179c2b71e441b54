-- What keys show at a moment is told by the objects that they stand for.
use Rattle.std.proofs.Common.{◌≡◌, ◌≤◌, ◌⊎◌, true, ℕ, List, [], ◌∷◌, Option, Some, None, IsTrue, inl, inr, refl, sym, ap, subst, ◌∙◌}
use Rattle.std.specs.Prelude.{IsSome}
use Rattle.std.specs.List.{AllByRecursion, list_any}
use Rattle.std.specs.Str.{bytes_eq}
use Rattle.std.proofs.Math.Nat.{max-eq_right}
use Rattle.std.proofs.lemmas.Bool.{false≢true, or_cases}
use Rattle.lr_limits.specs.Limits.{amount_limit, last_moment, token_limit}
use Rattle.lr_commands.specs.declared.look.Look.{Look}
use Rattle.lr_names.specs.Key.{key_text, keys_of}
use Rattle.lr_names.specs.Name.{IsName}
use Rattle.lr_names.specs.declared.kind.Kind.{Kind}
use Rattle.lr_names.specs.declared.kind.Kind.TheVariants as kinds
use Rattle.lr_names.specs.declared.part.Part.{Part}
use Rattle.lr_names.specs.declared.part.Part.TheVariants as parts
use Rattle.lr_keys.specs.KeySpace.{KeyEntry, Keys, entry_at, live_entry}
use Rattle.lr_keys.proofs.TableLaws.{same_bytes}
use Rattle.lr_looks.specs.Looks.{entry_frame, key_of, look_frame}
use Rattle.lr_looks.specs.Seen.{if_brief}
use Rattle.lr_model.specs.declared.hold.Hold.{Hold}
use Rattle.lr_model.specs.Answer.{Objects}
use Rattle.lr_resp.specs.declared.frame.Frame.{Frame}
use Rattle.lr_counter.specs.Numbers.{NumbersStand}
use Rattle.lr_hold.specs.Holds.{HoldsStand}
use Rattle.lr_hold.proofs.HoldsLaws.{held_at}
use Rattle.lr_fair.specs.Stands.{holds_of as fair_holds}
use Rattle.lr_fenced.specs.Stands.{holds_of as fenced_holds, tokens_of}
use Rattle.lr_server.specs.Looked.{ShowsAt}
use Rattle.lr_server.specs.Stands.{KindStands, KeysStand}

among : (P : List ℕ → Type 0) (key : List ℕ) (keys : List (List ℕ))
    → IsTrue (list_any (bytes_eq key) keys) → AllByRecursion P keys → P key
among P key [] there all = absurd (false≢true there)
among P key (k ∷ keys) there all =
    by (λ rest. among P key keys rest all.1)
    (or_cases (bytes_eq key k) (list_any (bytes_eq key) keys) there)
  where
    by : (list_any (bytes_eq key) keys ≡ true → P key)
        → (bytes_eq key k ≡ true) ⊎ (list_any (bytes_eq key) keys ≡ true) → P key
    by in_rest (inl here) = subst P (sym (same_bytes key k here)) all.0
    by in_rest (inr rest) = in_rest rest

-- Two key maps, as they are seen at a moment that isn't before theirs.
module _ (a b : Keys) (moment : ℕ) (early : moment ≤ last_moment) (a_before : a.moment ≤ moment)
    (b_before : b.moment ≤ moment)
  where
    -- they hold the same under a key
    abbrev IsSameAt : List ℕ → Type 0
    IsSameAt key = live_entry moment (entry_at a key) ≡ live_entry moment (entry_at b key)

    same_hold : (part : Part) (holds : List ℕ → Option Hold) → HoldsStand part a holds
        → HoldsStand part b holds → (name : List ℕ) → IsName name → IsSameAt (key_text part name)
    same_hold part holds one other name named =
        (held_at part a holds one moment a_before early name named).stands
        ∙ sym (held_at part b holds other moment b_before early name named).stands

    same_entry : (key : List ℕ) (entry : Option KeyEntry) → entry_at a key ≡ entry
        → entry_at b key ≡ entry → IsSameAt key
    same_entry key entry one other = ap (live_entry moment) (one ∙ sym other)

    same_number : (part : Part) (most : ℕ) (numbers : List ℕ → Option ℕ)
        → NumbersStand part most a numbers → NumbersStand part most b numbers → (name : List ℕ)
        → IsName name → IsSameAt (key_text part name)
    same_number part most numbers one other name named =
        ap (live_entry moment) (one.at_keys name named ∙ sym (other.at_keys name named))

    -- under the keys of an object that both stand for
    same_object : (kind : Kind) (objects : Objects) → KindStands kind a objects
        → KindStands kind b objects → (name : List ℕ) → IsName name
        → AllByRecursion IsSameAt (keys_of kind name)
    same_object kinds.Mutex objects one other name named =
        (same_hold parts.Lock objects.mutexes one other name named, tt)
    same_object kinds.Fair objects one other name named =
        let p = one.queues name named in
        let q = other.queues name named in (
          same_hold parts.Fair (fair_holds objects) one.held other.held name named,
          (
            same_entry (key_text parts.FairQueue name) _ p.items_are q.items_are,
            (same_entry (key_text parts.FairStale name) _ p.stales_are q.stales_are, tt),
          ),
        )
    same_object kinds.Rw objects one other name named =
        let p = (one.locks name named).has in
        let q = (other.locks name named).has in (
          same_entry (key_text parts.Rw name) _ p.counts_are q.counts_are,
          (same_entry (key_text parts.RwDeadlines name) _ p.deadlines_are q.deadlines_are, tt),
        )
    same_object kinds.Fenced objects one other name named = (
      same_hold parts.Fenced (fenced_holds objects) one.held other.held name named,
      (
        same_number parts.Token token_limit (tokens_of objects) one.tokens other.tokens name named,
        tt,
      ),
    )
    same_object kinds.Semaphore objects one other name named =
        (same_number parts.Semaphore amount_limit objects.semaphores one other name named, tt)
    same_object kinds.Permits objects one other name named =
        let p = one.each name named in
        let q = other.each name named in (
          same_entry (key_text parts.Permits name) _ p.number_at.stands q.number_at.stands,
          (same_entry (key_text parts.PermitLeases name) _ p.leases_at.stands q.leases_at.stands, tt),
        )
    same_object kinds.Countdown objects one other name named =
        (ap (live_entry moment) (one.at_keys name named ∙ sym (other.at_keys name named)), tt)

    module _ (objects : Objects) (one : KeysStand a objects) (other : KeysStand b objects) where
      found : (key : List ℕ)
          → (kind : Kind) × (name : List ℕ) × IsName name
          × IsTrue (list_any (bytes_eq key) (keys_of kind name))
          → IsSameAt key
      found key of =
          among IsSameAt key (keys_of of.0 of.1) of.3
          (same_object of.0 objects (one.kinds of.0) (other.kinds of.0) of.1 of.2)

      same_at : (key : List ℕ) → IsSameAt key
      same_at key = by (entry_at a key) (entry_at b key) refl refl
        where
          by : (x y : Option KeyEntry) → entry_at a key ≡ x → entry_at b key ≡ y → IsSameAt key
          by (Some e) y is_x is_y = found key (one.nothing_else key (subst IsSome (sym is_x) refl))
          by None (Some e) is_x is_y =
              found key (other.nothing_else key (subst IsSome (sym is_y) refl))
          by None None is_x is_y = same_entry key None is_x is_y

      -- so they show the same
      same_frame : (look : Look) → look_frame a moment look ≡ look_frame b moment look
      same_frame look =
          ap shown_at (max-eq_right a_before)
          ∙ ap (λ e. entry_frame moment look (if_brief (key_of look) e)) (same_at (key_of look))
          ∙ sym (ap shown_at-other (max-eq_right b_before))
        where
          shown_at : ℕ → Frame
          shown_at later =
              entry_frame later look (if_brief (key_of look) (live_entry later (entry_at a (key_of look))))

          shown_at-other : ℕ → Frame
          shown_at-other later =
              entry_frame later look (if_brief (key_of look) (live_entry later (entry_at b (key_of look))))

-- what a look shows is told by the objects
pub one_frame : (objects : Objects) (moment : ℕ) (look : Look) (x y : Frame)
    → moment ≤ last_moment → ShowsAt objects moment look x → ShowsAt objects moment look y → x ≡ y
one_frame objects moment look x y early one other =
    one.shows
    ∙ same_frame one.keys other.keys moment early one.in_time other.in_time objects one.stand
    other.stand look
    ∙ sym other.shows
