-- What a call knows after its turn.
use Rattle.std.proofs.Common.{◌≡◌, ℕ, List, [], ◌∷◌, ◌++◌, length, Option, Some, None, refl, sym, ap, ◌∙◌, subst, append_assoc, append-nil}
use Rattle.std.specs.Prelude.{Result, Ok, Err, IfOk, OnOk, OnErr, slice_get}
use Rattle.std.specs.Option.{ForSome}
use Rattle.lr_model.specs.declared.entry.Act.{Act}
use Rattle.lr_model.specs.declared.entry.Entry.{Entry}
use Rattle.lr_model.specs.History.{after, IsLegal, state_at_start}
use Rattle.lr_server.specs.declared.answered.Answered.{Answered}
use Rattle.lr_server.specs.declared.fault.StepFault.{StepFault}
use Rattle.lr_server.specs.Server.{ServerValue, state_of, with_entry, with_made, entry_made, IsTold}
use Rattle.lr_turnstile.specs.declared.view.View.{View}
use Rattle.lr_turnstile.specs.Views.{entries_by, Grew, HasOwn, IsSame, left_with, left_same}
use Rattle.lr_turnstile.proofs.Lists.{entries_by-append}
use Rattle.lr_service.specs.Closes.{MayClose}
use Rattle.lr_service.specs.Served.{server_at, IsServed}
use Rattle.lr_service.specs.Calls.{entries_with, HadTurn, IsServedTo}
use Rattle.lr_service.proofs.Openers.{ClosesOwn-push}

-- What was made.

-- by a step that may be refused
abbrev pub made_by : {A E : Type 0} → Result A E → Option Entry → Option Entry
made_by (Ok value) made = made
made_by (Err fault) made = None

-- by an opening, whose entry has the number that it gives
abbrev pub opened_by : {E : Type 0} → Result ℕ E → (ℕ → Entry) → Option Entry
opened_by (Ok conn) entry = Some (entry conn)
opened_by (Err fault) entry = None

module _ {E : Type 0} (old new : ServerValue) where
  pub made_is : {A : Type 0} (result : Result A E) (made : Option Entry)
      → OnOk result (new ≡ with_made old made) → OnErr result (new ≡ old)
      → new ≡ with_made old (made_by result made)
  made_is (Ok value) made ok err = ok
  made_is (Err fault) made ok err = err

  pub opened_is : (result : Result ℕ E) (entry : ℕ → Entry)
      → IfOk result (λ conn. new ≡ with_entry old (entry conn)) → OnErr result (new ≡ old)
      → new ≡ with_made old (opened_by result entry)
  opened_is (Ok conn) entry ok err = ok
  opened_is (Err fault) entry ok err = err

module _ {E : Type 0} (before now : View) (history : List Entry) where
  pub had_by : {A : Type 0} (result : Result A E) (made : Option Entry)
      → HadTurn before history (made_by result made) now
      → OnOk result (HadTurn before history made now)
      × OnErr result (HadTurn before history None now)
  had_by (Ok value) made had = (had, tt)
  had_by (Err fault) made had = (tt, had)

  pub had_opened : (result : Result ℕ E) (entry : ℕ → Entry)
      → HadTurn before history (opened_by result entry) now
      → IfOk result (λ conn. HadTurn before history (Some (entry conn)) now)
      × OnErr result (HadTurn before history None now)
  had_opened (Ok conn) entry had = (had, tt)
  had_opened (Err fault) entry had = (tt, had)

-- What stands behind the gate afterwards.

found_at : (entries : List Entry) (made : Option Entry)
    → slice_get (entries_with entries made) (length entries) ≡ made
found_at [] None = refl
found_at [] (Some entry) = refl
found_at (x ∷ xs) None = found_at xs None
found_at (x ∷ xs) (Some entry) = found_at xs (Some entry)

made_entries : (seen : List Entry) (made : Option Entry)
    → (with_made (server_at seen) made).entries ≡ entries_with seen made
made_entries seen None = refl
made_entries seen (Some entry) = refl

-- the entry at the end of what there was is what was made
pub found_made : (old new : ServerValue) (seen : List Entry) (made found : Option Entry)
    (count : ℕ) → IsServed old seen → new ≡ with_made old made → count ≡ length old.entries
    → found ≡ slice_get new.entries count → found ≡ made
found_made old new seen made found count served is counted at =
    let news : new.entries ≡ entries_with seen made =
    ap (λ (s : ServerValue). s.entries)
    (is ∙ ap (λ (s : ServerValue). with_made s made) served.is)
    ∙ made_entries seen made in
    let counts : count ≡ length seen =
    counted ∙ ap (λ (s : ServerValue). length s.entries) served.is in
    at ∙ ((λ i. slice_get (news i) (counts i)) ∙ found_at seen made)

-- it stands for the longer history
pub served_with : (old new : ServerValue) (seen : List Entry) (made : Option Entry)
    → IsServed old seen → new ≡ with_made old made
    → IsLegal (state_at_start new.last) new.entries
    → ForSome made (λ entry. MayClose (after (state_at_start 0) seen) entry entry.act)
    → IsServed new (entries_with seen made)
served_with old new seen None served is legal may = record {
  is = is ∙ served.is;
  legal = served.legal;
  closes = served.closes;
}
served_with old new seen (Some entry) served is legal may =
    let now : new ≡ server_at (seen ++ entry ∷ []) =
    is ∙ ap (λ (s : ServerValue). with_entry s entry) served.is in record {
      is = now;
      legal = subst (λ (s : ServerValue). IsLegal (state_at_start s.last) s.entries) now legal;
      closes = ClosesOwn-push (state_at_start 0) seen entry served.closes (may entry refl);
    }

-- What is known from before the turn on.

grew_on : (u v : View) (history : List Entry) → v.caller ≡ u.caller → Grew u v.seen
    → Grew v history → Grew u history
grew_on u v history same a b = record {
  later = a.later ++ b.later;
  begins = b.begins ∙ (ap (λ l. l ++ b.later) a.begins ∙ append_assoc u.seen a.later b.later);
  none_own = entries_by-append u.caller a.later b.later
      ∙ (λ i. a.none_own i ++ (ap (λ k. entries_by k b.later) (sym same) ∙ b.none_own) i);
}

pub had_turn_on : (u v now : View) (history : List Entry) (made : Option Entry) → IsSame u v
    → v.mine ≡ u.mine → Grew u v.seen → HadTurn v history made now → HadTurn u history made now
had_turn_on u v now history made same mine grew had = record {
  grew = grew_on u v history same.caller grew had.grew;
  seen = had.seen;
  mine = had.mine ∙ ap (λ l. entries_with l made) mine;
  own = had.own;
  same = record {
    caller = had.same.caller ∙ same.caller;
    first = had.same.first ∙ same.first;
    spent = had.same.spent ∙ same.spent;
    made = had.same.made ∙ same.made;
    out = had.same.out ∙ same.out;
    joined = had.same.joined ∙ same.joined;
  };
}

grew_none : (v : View) → Grew v v.seen
grew_none v = record { later = []; begins = sym (append-nil v.seen); none_own = refl }

pub same_if : (v now x : View) → now ≡ x → x.caller ≡ v.caller → x.is_first ≡ v.is_first
    → x.is_spent ≡ v.is_spent → x.made ≡ v.made → x.out ≡ v.out → x.joined ≡ v.joined
    → IsSame v now
same_if v now x is caller first spent made out joined = record {
  caller = ap (λ z. z.caller) is ∙ caller;
  first = ap (λ z. z.is_first) is ∙ first;
  spent = ap (λ z. z.is_spent) is ∙ spent;
  made = ap (λ z. z.made) is ∙ made;
  out = ap (λ z. z.out) is ∙ out;
  joined = ap (λ z. z.joined) is ∙ joined;
}

pub had_left_with : (v now : View) (made : Option Entry) (entry : Entry) → made ≡ Some entry
    → now ≡ left_with entry v → HasOwn now → HadTurn v v.seen made now
had_left_with v now made entry is left own =
    subst (λ m. HadTurn v v.seen m now) (sym is) (record {
      grew = grew_none v;
      seen = ap (λ z. z.seen) left;
      mine = ap (λ z. z.mine) left;
      own = own;
      same = same_if v now (left_with entry v) left refl refl refl refl refl refl;
    })

pub had_left_same : (v now : View) (made : Option Entry) → made ≡ None → now ≡ left_same v
    → HasOwn v → HadTurn v v.seen made now
had_left_same v now made is left own =
    subst (λ m. HadTurn v v.seen m now) (sym is) (record {
      grew = grew_none v;
      seen = ap (λ z. z.seen) left;
      mine = ap (λ z. z.mine) left;
      own = subst HasOwn (sym left) own;
      same = same_if v now (left_same v) left refl refl refl refl refl refl;
    })

-- a request was served, as the pass knew it before it had the turn
pub served_on : (u v now : View) (reading conn : ℕ) (act : Act)
    (result : Result Answered StepFault) → IsSame u v → v.mine ≡ u.mine → Grew u v.seen
    → IsServedTo v reading conn act result now → IsServedTo u reading conn act result now
served_on u v now reading conn act (Ok answered) same mine grew s =
    let server : ServerValue = server_at s.history in record {
      history = s.history;
      told = subst (λ c. IsTold (state_of server) (entry_made server reading c conn act) answered)
          same.caller s.told;
      only_subscribed = s.only_subscribed;
      ok = subst (λ c. HadTurn u s.history (entry_made server reading c conn act) now) same.caller
          (had_turn_on u v now s.history (entry_made server reading v.caller conn act) same mine
          grew s.ok);
      err = tt;
      full = s.full;
      dropped = s.dropped;
      not_too_many = s.not_too_many;
    }
served_on u v now reading conn act (Err fault) same mine grew s = record {
  history = s.history;
  told = tt;
  only_subscribed = tt;
  ok = tt;
  err = had_turn_on u v now s.history None same mine grew s.err;
  full = s.full;
  dropped = s.dropped;
  not_too_many = s.not_too_many;
}
