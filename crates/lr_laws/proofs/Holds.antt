-- The tenure of an owner and the hold that there is: each says what the other says. The plain, the
-- fair and the fenced lock have this in common.
use Rattle.std.proofs.Common.{◌≡◌, ℕ, ◌<◌, ◌≤◌, Bool, true, false, nat_lt, Option, Some, None, if◌then◌else◌, refl, sym, ap, ◌∙◌, subst, arith}
use Rattle.std.proofs.lemmas.Bool.{false≢true, false_from_ne_true}
use Rattle.std.proofs.lemmas.Bool.Decides.{nat_tests}
use Rattle.lr_names.specs.Owner.{ThreadOfClient}
use Rattle.lr_model.specs.declared.hold.Hold.{Hold}
use Rattle.lr_model.specs.Hold.{live_hold}
use Rattle.lr_model.specs.Tenure.{Tenure, is_current, no_tenure}

-- the owner has the hold, until the tenure's deadline
pub record HasHold (owner : ThreadOfClient) (tenure : Tenure) (held : Option Hold) : Type 0 where
  pub hold : Hold
  pub is : held ≡ Some hold
  pub mine : hold.owner ≡ owner
  pub until : hold.deadline ≡ tenure.deadline

-- the tenure is of this hold: as often taken, and until the same deadline
pub record IsTenureOf (hold : Hold) (tenure : Tenure) : Type 0 where
  pub count : tenure.count ≡ hold.count
  pub deadline : tenure.deadline ≡ hold.deadline
  pub some : 1 ≤ hold.count

-- While the tenure is current the owner has the hold, and while the owner has a live hold the
-- tenure is of it.
pub record HoldsAsTold (owner : ThreadOfClient) (moment : ℕ) (tenure : Tenure)
    (held : Option Hold) : Type 0 where
  pub held_while : is_current tenure moment ≡ true → HasHold owner tenure held
  pub told_while : (hold : Hold) → live_hold moment held ≡ Some hold → hold.owner ≡ owner
      → IsTenureOf hold tenure

pub one_hold : (a b : Hold) → Some a ≡ Some b → a ≡ b
one_hold a b e = cc

pub no_hold : (hold : Hold) → None ≡ Some hold → ⊥
no_hold hold e = cc

-- one hold isn't two owners'
pub one_owner : (a b : ThreadOfClient) (t u : Tenure) (held : Option Hold)
    → HasHold a t held → HasHold b u held → a ≡ b
one_owner a b t u held h k =
    let one : h.hold ≡ k.hold = one_hold h.hold k.hold (sym h.is ∙ k.is) in
    sym h.mine ∙ ap (λ (x : Hold). x.owner) one ∙ k.mine

-- nobody holds, and an owner has no tenure
pub without_tenure : (owner : ThreadOfClient) (moment : ℕ)
    → HoldsAsTold owner moment no_tenure None
without_tenure owner moment = record {
  held_while = λ current. absurd (false≢true current);
  told_while = λ hold live mine. absurd (no_hold hold live);
}

-- what is current later is current before
current_before : (tenure : Tenure) (m n : ℕ)
    → m ≤ n → is_current tenure n ≡ true → is_current tenure m ≡ true
current_before tenure m n le current = grind (arith, nat_tests)

-- the deadline of what is current is ahead, and a hold whose deadline is ahead is live
deadline_ahead : (tenure : Tenure) (moment : ℕ)
    → is_current tenure moment ≡ true → moment < tenure.deadline
deadline_ahead tenure moment current = grind (arith, nat_tests)

still_live : (hold : Hold) (moment : ℕ)
    → moment < hold.deadline → live_hold moment (Some hold) ≡ Some hold
still_live hold moment ahead = grind (arith, nat_tests)

-- a live hold is the one that stands there, and its deadline is ahead
pub record IsLiveHold (moment : ℕ) (held : Option Hold) (hold : Hold) : Type 0 where
  pub is : held ≡ Some hold
  pub ahead : moment < hold.deadline

pub live_hold-is : (moment : ℕ) (held : Option Hold) (hold : Hold)
    → live_hold moment held ≡ Some hold → IsLiveHold moment held hold
live_hold-is moment None hold live = absurd (no_hold hold live)
live_hold-is moment (Some held) hold live = by_test (nat_lt moment held.deadline) refl live
  where
    by_test : (ahead : Bool) → nat_lt moment held.deadline ≡ ahead
        → (if ahead then Some held else None) ≡ Some hold → IsLiveHold moment (Some held) hold
    by_test true ahead e = record {
      is = e;
      ahead = subst (λ (h : Hold). moment < h.deadline) (one_hold held hold e)
          (grind (arith, nat_tests));
    }
    by_test false gone e = absurd (no_hold hold e)

-- what is live is so at each moment before
live_before : (held : Option Hold) (hold : Hold) (m n : ℕ)
    → m ≤ n → live_hold n held ≡ Some hold → live_hold m held ≡ Some hold
live_before held hold m n le live =
    let now = live_hold-is n held hold live in
    ap (live_hold m) now.is ∙ still_live hold m (omega (arith, now.ahead))

-- time passes
pub held_later : (owner : ThreadOfClient) (m n : ℕ) (tenure : Tenure) (held : Option Hold)
    → m ≤ n → HoldsAsTold owner m tenure held → HoldsAsTold owner n tenure held
held_later owner m n tenure held le h = record {
  held_while = λ current. h.held_while (current_before tenure m n le current);
  told_while = λ hold live. h.told_while hold (live_before held hold m n le live);
}

-- a live hold is still live at the same moment
pub live_hold-live : (moment : ℕ) (held : Option Hold)
    → live_hold moment (live_hold moment held) ≡ live_hold moment held
live_hold-live moment held = by_live (live_hold moment held) refl
  where
    by_live : (live : Option Hold) → live_hold moment held ≡ live
        → live_hold moment live ≡ live
    by_live None e = refl
    by_live (Some hold) e = still_live hold moment (live_hold-is moment held hold e).ahead

-- the same is so of the live hold
pub held_live : (owner : ThreadOfClient) (moment : ℕ) (tenure : Tenure) (held : Option Hold)
    → HoldsAsTold owner moment tenure held
    → HoldsAsTold owner moment tenure (live_hold moment held)
held_live owner moment tenure held h = record {
  held_while = λ current.
      let now = h.held_while current in
      let ahead = subst (λ d. moment < d) (sym now.until) (deadline_ahead tenure moment current) in
      record {
        hold = now.hold;
        is = ap (live_hold moment) now.is ∙ still_live now.hold moment ahead;
        mine = now.mine;
        until = now.until;
      };
  told_while = λ hold live. h.told_while hold (sym (live_hold-live moment held) ∙ live);
}

-- a tenure of a live hold is current
pub told_current : (moment : ℕ) (hold : Hold) (tenure : Tenure)
    → live_hold moment (Some hold) ≡ Some hold → IsTenureOf hold tenure
    → is_current tenure moment ≡ true
told_current moment hold tenure live told =
    let ahead = (live_hold-is moment (Some hold) hold live).ahead in
    grind (arith, nat_tests, ahead, told.count, told.deadline, told.some)

-- where nobody holds, no tenure is current
pub not_current : (owner : ThreadOfClient) (moment : ℕ) (tenure : Tenure)
    → HoldsAsTold owner moment tenure None → is_current tenure moment ≡ false
not_current owner moment tenure h =
    false_from_ne_true _ (λ current. no_hold (h.held_while current).hold (h.held_while current).is)
