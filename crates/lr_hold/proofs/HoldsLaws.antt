-- For which holds the keys of a part stand: laws for the crates above.
use Rattle.std.proofs.Common.{◌≡◌, ◌≤◌, ◌<◌, ◌==◌, ℕ, nat_lt, Bool, true, false, List, Option, Some, None, option_map, if◌then◌else◌, refl, ap, sym, subst, ◌∙◌, arith}
use Rattle.std.specs.Option.{ForSome}
use Rattle.std.specs.Str.{bytes_eq}
use Rattle.std.proofs.lemmas.Bool.Decides.{nat_tests}
use Rattle.lr_limits.specs.Limits.{last_moment, never}
use Rattle.lr_names.specs.Key.{key_text}
use Rattle.lr_names.specs.Name.{IsName}
use Rattle.lr_names.specs.declared.part.Part.{Part}
use Rattle.lr_names.proofs.KeyLaws.{keys_differ}
use Rattle.lr_keys.specs.KeySpace.{Keys, ChangesOnly, entry_at, is_ahead, live_entry, live_entries}
use Rattle.lr_keys.proofs.FrameLaws.{at_key, live_stays}
use Rattle.lr_keys.proofs.TableLaws.{same_bytes}
use Rattle.lr_objects.specs.declared.reply.Reply.{Reply}
use Rattle.lr_model.specs.declared.hold.Hold.{Hold}
use Rattle.lr_model.specs.Hold.{live_hold}
use Rattle.lr_model.specs.Outcome.{Outcome}
use Rattle.lr_model.specs.Table.{put}
use Rattle.lr_model.proofs.Tables.{one_table}
use Rattle.lr_hold.specs.Holds.{IsHold, HoldsStand, expiry_of, hold_entry}
use Rattle.lr_hold.specs.Step.{IsLiveHold, IsHeld, IsHoldStep}

-- a key lies ahead as long as its hold is live: at each moment that a clock shows
is_ahead-expiry_of : (moment deadline : ℕ) → moment ≤ last_moment
    → is_ahead moment (expiry_of deadline) ≡ nat_lt moment deadline
is_ahead-expiry_of moment deadline early = by (deadline == never) refl
  where
    by : (n : Bool) → (deadline == never) ≡ n
        → is_ahead moment (if n then None else Some deadline) ≡ nat_lt moment deadline
    by true ends_never = grind (arith, nat_tests)
    by false ends = refl

-- what is live of a hold later
live_entry-hold_entry : (now moment : ℕ) (held : Option Hold) → now ≤ moment → moment ≤ last_moment
    → live_entry moment (option_map hold_entry (live_hold now held))
    ≡ option_map hold_entry (live_hold moment held)
live_entry-hold_entry now moment None later early = refl
live_entry-hold_entry now moment (Some hold) later early =
    by (nat_lt now hold.deadline) (nat_lt moment hold.deadline) refl refl
  where
    ahead : is_ahead moment (expiry_of hold.deadline) ≡ nat_lt moment hold.deadline
    ahead = is_ahead-expiry_of moment hold.deadline early

    by : (b l : Bool) → nat_lt now hold.deadline ≡ b → nat_lt moment hold.deadline ≡ l
        → live_entry moment (option_map hold_entry (if b then Some hold else None))
        ≡ option_map hold_entry (if l then Some hold else None)
    by true true now_live live =
        ap (λ (b : Bool). if b then Some (hold_entry hold) else None) (ahead ∙ live)
    by true false now_live gone =
        ap (λ (b : Bool). if b then Some (hold_entry hold) else None) (ahead ∙ gone)
    by false true now_gone live = absurd (grind (arith, nat_tests))
    by false false now_gone gone = refl

-- what is live of a hold was one, and lies ahead
live_hold-was : (moment : ℕ) (held : Option Hold) (hold : Hold) → live_hold moment held ≡ Some hold
    → (held ≡ Some hold) × (moment < hold.deadline)
live_hold-was moment None hold at = absurd (cc at)
live_hold-was moment (Some h) hold at = by (nat_lt moment h.deadline) refl at
  where
    by : (b : Bool) → nat_lt moment h.deadline ≡ b → (if b then Some h else None) ≡ Some hold
        → (◌≡◌ {A = Option Hold} (Some h) (Some hold)) × (moment < hold.deadline)
    by true live at =
        let one : h ≡ hold = cc at in
        let ahead : moment < h.deadline = grind (arith, nat_tests) in
        (at, subst (λ (x : Hold). moment < x.deadline) one ahead)
    by false gone at = absurd (cc at)

-- a hold that is live stays
pub live_hold-live : (moment : ℕ) (held : Option Hold) → IsLiveHold moment held
    → live_hold moment held ≡ held
live_hold-live moment None live = refl
live_hold-live moment (Some hold) live =
    let ahead = live.live hold refl in
    let test : nat_lt moment hold.deadline ≡ true = grind (arith, nat_tests) in
    ap (λ (b : Bool). if b then Some hold else None) test

-- what stands in the table already
put-own : (holds : List ℕ → Option Hold) (name : List ℕ)
    → put bytes_eq holds name (holds name) ≡ holds
put-own holds name =
    one_table (put bytes_eq holds name (holds name)) holds (λ q. by q (bytes_eq name q) refl)
  where
    by : (q : List ℕ) (b : Bool) → bytes_eq name q ≡ b → (if b then holds name else holds q) ≡ holds q
    by q true same = ap holds (same_bytes name q same)
    by q false other = refl

-- where there is no key nothing is held
pub no_holds_stand : (part : Part) (keys : Keys) → entry_at keys ≡ (λ _. None)
    → HoldsStand part keys (λ name. None)
no_holds_stand part keys none = record {
  at_keys = λ name named. at_key (entry_at keys) (λ _. None) none (key_text part name);
  bounds = λ name hold at. absurd (cc at);
}

module _ (part : Part) (old : Keys) (holds : List ℕ → Option Hold) (stand : HoldsStand part old holds) where
  -- what is live at a key later
  live_at : (moment : ℕ) → old.moment ≤ moment → moment ≤ last_moment → (name : List ℕ) → IsName name
      → live_entry moment (entry_at old (key_text part name))
      ≡ option_map hold_entry (live_hold moment (holds name))
  live_at moment later early name named =
      ap (live_entry moment) (stand.at_keys name named)
      ∙ live_entry-hold_entry old.moment moment (holds name) later early

  -- what is held at a moment, by what is left of the keys then
  pub held_at : (moment : ℕ) → old.moment ≤ moment → moment ≤ last_moment → (name : List ℕ) → IsName name
      → IsHeld moment (live_entry moment (entry_at old (key_text part name)))
      (live_hold moment (holds name))
  held_at moment later early name named = record {
    stands = live_at moment later early name named;
    hold = record {
      within = λ hold at. stand.bounds name hold (live_hold-was moment (holds name) hold at).0;
      live = λ hold at. (live_hold-was moment (holds name) hold at).1;
    };
  }

  -- where nothing changes but the memory that is prepared
  pub holds_stand_settled : (new : Keys) → new.moment ≡ old.moment → entry_at new ≡ entry_at old
      → HoldsStand part new holds
  holds_stand_settled new now entries = record {
    at_keys = λ name named.
        at_key (entry_at new) (entry_at old) entries (key_text part name)
        ∙ stand.at_keys name named
        ∙ ap (λ m. option_map hold_entry (live_hold m (holds name))) (sym now);
    bounds = stand.bounds;
  }

  module _ (new : Keys) (later : old.moment ≤ new.moment) (early : new.moment ≤ last_moment) where
    -- As time goes on, what is left of the keys stands for the same holds.
    pub holds_stand_later : ((name : List ℕ) → IsName name
        → entry_at new (key_text part name) ≡ live_entry new.moment (entry_at old (key_text part name)))
        → HoldsStand part new holds
    holds_stand_later entries = record {
      at_keys = λ name named. entries name named ∙ live_at new.moment later early name named;
      bounds = stand.bounds;
    }

    -- and so where a step leaves a hold as it was
    pub holds_stand_still : (name : List ℕ) → entry_at new ≡ live_entries new.moment (entry_at old)
        → HoldsStand part new (put bytes_eq holds name (holds name))
    holds_stand_still name entries =
        subst (HoldsStand part new) (sym (put-own holds name)) (holds_stand_later (λ q named.
        at_key (entry_at new) (live_entries new.moment (entry_at old)) entries (key_text part q)))

    -- Where one key holds what is live of another hold, and all others what is live of theirs, the
    -- keys stand for that hold.
    pub holds_stand_with : (name : List ℕ) (hold : Option Hold) → ForSome hold IsHold
        → entry_at new (key_text part name) ≡ option_map hold_entry (live_hold new.moment hold)
        → ((q : List ℕ) → IsName q → bytes_eq name q ≡ false
        → entry_at new (key_text part q) ≡ live_entry new.moment (entry_at old (key_text part q)))
        → HoldsStand part new (put bytes_eq holds name hold)
    holds_stand_with name hold within here others = record {
      at_keys = λ q named. by q named (bytes_eq name q) refl;
      bounds = λ q h at. bound q h (bytes_eq name q) at;
    }
      where
        by : (q : List ℕ) → IsName q → (b : Bool) → bytes_eq name q ≡ b → entry_at new (key_text part q)
            ≡ option_map hold_entry (live_hold new.moment (if b then hold else holds q))
        by q named true same =
            subst (λ n. entry_at new (key_text part n) ≡ option_map hold_entry (live_hold new.moment hold))
            (same_bytes name q same) here
        by q named false other = others q named other ∙ live_at new.moment later early q named

        bound : (q : List ℕ) (h : Hold) (b : Bool) → (if b then hold else holds q) ≡ Some h → IsHold h
        bound q h true at = within h at
        bound q h false at = stand.bounds q h at

-- A step at one key, once the moment has come: from the keys before both to those after both.
module _ (old middle new : Keys) (moment : ℕ) (passed : middle.moment ≡ moment)
    (left : entry_at middle ≡ live_entries moment (entry_at old)) (now : new.moment ≡ middle.moment) where
  -- The keys of a part stand for the holds with that of the outcome.
  pub holds_stand_after : (part : Part) (name : List ℕ) (reply : Reply) (outcome : Outcome (Option Hold))
      → ChangesOnly (key_text part name) middle new
      → IsHoldStep new (key_text part name) reply outcome
      → (holds : List ℕ → Option Hold) → HoldsStand part old holds
      → old.moment ≤ moment → moment ≤ last_moment
      → HoldsStand part new (put bytes_eq holds name outcome.object)
  holds_stand_after part name reply outcome others step holds stand later early =
      let stays = live_hold-live new.moment outcome.object step.held.hold in
      holds_stand_with part old holds stand new (omega (arith, now, passed)) (omega (arith, now, passed))
      name outcome.object step.held.hold.within
      (step.held.stands ∙ ap (option_map hold_entry) (sym stays))
      (λ q in_names other.
      live_stays old middle new moment passed left now (key_text part q)
      (others (key_text part q) (keys_differ part part name q (λ _. other))))
