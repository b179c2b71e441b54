-- Who waits for permits: refused by a reply, and still refused until a message or the due moment.
use Rattle.std.proofs.Common.{◌≡◌, ℕ, suc, ◌+◌, ◌-◌, ◌<◌, ◌≤◌, nat_lt, List, [], ◌∷◌, length, Bool, true, false, Option, Some, None, if◌then◌else◌, refl, sym, ap, ◌∙◌, subst, arith}
use Rattle.std.specs.List.{AllByRecursion}
use Rattle.std.proofs.lemmas.Bool.{false≢true, lt-ltb}
use Rattle.std.proofs.lemmas.Option.{same_Some}
use Rattle.std.proofs.lemmas.Slice.Eq.{bytes_eq-Decides}
use Rattle.lr_limits.specs.Limits.{member_limit, watchdog_lease}
use Rattle.lr_names.specs.declared.kind.Kind.TheVariants.{Permits as PermitKind}
use Rattle.lr_objects.specs.PermitCalls.{permit_call_of}
use Rattle.lr_objects.specs.Reply.{blocks}
use Rattle.lr_objects.specs.declared.kinds.Function.TheVariants as functions
use Rattle.lr_objects.specs.declared.permits.PermitCall.{PermitCall}
use Rattle.lr_objects.specs.declared.permits.PermitCall.TheVariants as calls
use Rattle.lr_objects.specs.declared.permits.PermitFunction.{PermitFunction}
use Rattle.lr_objects.specs.declared.permits.PermitFunction.TheVariants as permit
use Rattle.lr_objects.specs.declared.reply.Reply.{Reply}
use Rattle.lr_objects.specs.declared.reply.Reply.TheVariants.{Granted, Busy, Short, TooMany, BadLease}
use Rattle.lr_model.specs.Moment.{is_lease}
use Rattle.lr_model.specs.Outcome.{Outcome, silent_outcome}
use Rattle.lr_model.specs.Permits.{PermitLease, Permits, live_leases, live_permits, lease_under, least_deadline, permits_post, with_new_lease, set_number, take_beside, take_of, give_back_lease, permit_call}
use Rattle.lr_waiting.specs.Peak.{tells}
use Rattle.lr_waiting.specs.Stand.{due_by_reply}
use Rattle.lr_wakeups.specs.Reached.{IsBefore, EndNoEarlier}
use Rattle.lr_laws.proofs.Permits.{live-again}

-- whether a function is refused, where it is called at a moment
abbrev pub refuses : PermitFunction → List ℕ → ℕ → ℕ → List ℕ → ℕ → Permits → Bool
refuses f name moment number id lease held =
    blocks (permit_call name moment (permit_call_of f number id lease) held).reply
    (functions.Permits f)

-- Who tries is refused where the number isn't set, or where the id has no permit and none is free.
pub data IsFull (moment : ℕ) (id : List ℕ) (held : Permits) : Type 0 where
  Unset : held.number ≡ None → IsFull moment id held
  Taken : (number : ℕ) → held.number ≡ Some number
      → lease_under id (live_leases moment held.leases) ≡ None
      → nat_lt (length (live_leases moment held.leases)) number ≡ false → IsFull moment id held

-- what it is told then
abbrev pub told_full : {moment : ℕ} {id : List ℕ} {held : Permits} → IsFull moment id held → Reply
told_full {moment} {id} {held} (Unset is) = Short
told_full {moment} {id} {held} (Taken number is none full) =
    Busy (least_deadline (live_leases moment held.leases) - moment)

none_some : {X : Type 0} (x : X) → None ≡ Some x → ⊥
none_some x e = absurd (cc e)

module _ (moment : ℕ) (id : List ℕ) (held : Permits) where
  abbrev live : Permits
  live = live_permits moment held

  -- an outcome that refuses finds it so, and tells so
  abbrev Finds : Outcome Permits → Type 0
  Finds outcome =
      blocks outcome.reply (functions.Permits permit.Try) ≡ true
      → (full : IsFull moment id held) × (outcome.reply ≡ told_full full)

  finds-room : (lease : ℕ) (room : Bool)
      → Finds
      (if room then silent_outcome Granted (with_new_lease id (moment + lease) live)
      else silent_outcome TooMany live)
  finds-room lease true refused = absurd (false≢true refused)
  finds-room lease false refused = absurd (false≢true refused)

  finds-free : (lease number : ℕ) → held.number ≡ Some number
      → lease_under id live.leases ≡ None → (free : Bool)
      → nat_lt (length live.leases) number ≡ free
      → Finds
      (if free
      then (if nat_lt (length live.leases) member_limit
      then silent_outcome Granted (with_new_lease id (moment + lease) live)
      else silent_outcome TooMany live)
      else silent_outcome (Busy (least_deadline live.leases - moment)) live)
  finds-free lease number is none true e refused =
      finds-room lease (nat_lt (length live.leases) member_limit) refused
  finds-free lease number is none false e refused = (Taken number is none e, refl)

  finds-beside : (lease number : ℕ) → held.number ≡ Some number → (own : Option PermitLease)
      → lease_under id live.leases ≡ own → Finds (take_beside moment id lease live number own)
  finds-beside lease number is (Some own) e refused = absurd (false≢true refused)
  finds-beside lease number is None e refused =
      finds-free lease number is e (nat_lt (length live.leases) number) refl refused

  finds-of : (lease : ℕ) (number : Option ℕ) → held.number ≡ number
      → Finds (take_of moment id lease live number)
  finds-of lease None is refused = (Unset is, refl)
  finds-of lease (Some number) is refused =
      finds-beside lease number is (lease_under id live.leases) refl refused

  -- who is refused finds it so
  pub finds-try : (name : List ℕ) (lease : ℕ)
      → Finds (permit_call name moment (calls.Try id lease) held)
  finds-try name lease = by (is_lease lease)
    where
      by : (is : Bool)
          → Finds
          (if is then take_of moment id lease live held.number
          else silent_outcome BadLease held)
      by true refused = finds-of lease held.number refl refused
      by false refused = absurd (false≢true refused)

  -- and who finds it so is refused
  pub full-refused : (name : List ℕ) (number : ℕ) → IsFull moment id held
      → refuses permit.Try name moment number id watchdog_lease held ≡ true
  full-refused name number (Unset is) =
      ap
      (λ n. blocks (take_of moment id watchdog_lease live n).reply
      (functions.Permits permit.Try))
      is
  full-refused name number (Taken most is none full) =
      ap
      (λ n. blocks (take_of moment id watchdog_lease live n).reply
      (functions.Permits permit.Try))
      is
      ∙ ap
      (λ own. blocks (take_beside moment id watchdog_lease live most own).reply
      (functions.Permits permit.Try))
      none
      ∙ ap
      (λ free. blocks
      (if free
      then (if nat_lt (length live.leases) member_limit
      then silent_outcome Granted (with_new_lease id (moment + watchdog_lease) live)
      else silent_outcome TooMany live)
      else silent_outcome (Busy (least_deadline live.leases - moment)) live).reply
      (functions.Permits permit.Try))
      full

-- a message of these permits tells those who wait
told_own : (name : List ℕ) → tells PermitKind name (Some (permits_post name)) ≡ true
told_own name = (bytes_eq-Decides name name).1 refl

-- A call then leaves the permits as they are, or takes away what has expired, unless it sends a
-- message.
pub data Leaves (moment : ℕ) (held now : Permits) : Type 0 where
  Same : now ≡ held → Leaves moment held now
  Live : now ≡ live_permits moment held → Leaves moment held now

module _ (name : List ℕ) (moment : ℕ) (id : List ℕ) (held : Permits)
    (full : IsFull moment id held) where
  abbrev rest : Permits
  rest = live_permits moment held

  abbrev Quietly : Outcome Permits → Type 0
  Quietly outcome = tells PermitKind name outcome.post ≡ false → Leaves moment held outcome.object

  quiet-set : (number : ℕ) (set : Option ℕ) → Quietly (set_number name number rest set)
  quiet-set number None silent = absurd (false≢true (sym silent ∙ told_own name))
  quiet-set number (Some set) silent = Live refl

  quiet-release : (own : Option PermitLease) (other : List ℕ)
      → Quietly (give_back_lease name other rest own)
  quiet-release None other silent = Live refl
  quiet-release (Some own) other silent = absurd (false≢true (sym silent ∙ told_own name))

  -- none is free
  not_free : (number : ℕ) → held.number ≡ Some number
      → nat_lt (length rest.leases) number ≡ true → ⊥
  not_free number is free = by full
    where
      by : IsFull moment id held → ⊥
      by (Unset none) = none_some number (sym none ∙ is)
      by (Taken most so none taken) =
          false≢true
          (sym taken ∙ ap (nat_lt (length rest.leases)) (same_Some most number (sym so ∙ is)) ∙ free)

  quiet-take : (other : List ℕ) (lease number : ℕ) → held.number ≡ Some number → (free : Bool)
      → nat_lt (length rest.leases) number ≡ free
      → Quietly
      (if free
      then (if nat_lt (length rest.leases) member_limit
      then silent_outcome Granted (with_new_lease other (moment + lease) rest)
      else silent_outcome TooMany rest)
      else silent_outcome (Busy (least_deadline rest.leases - moment)) rest)
  quiet-take other lease number is true e silent = absurd (not_free number is e)
  quiet-take other lease number is false e silent = Live refl

  quiet-beside : (other : List ℕ) (lease number : ℕ) → held.number ≡ Some number
      → (own : Option PermitLease)
      → Quietly (take_beside moment other lease rest number own)
  quiet-beside other lease number is (Some own) silent = Live refl
  quiet-beside other lease number is None silent =
      quiet-take other lease number is (nat_lt (length rest.leases) number) refl silent

  quiet-of : (other : List ℕ) (lease : ℕ) (number : Option ℕ) → held.number ≡ number
      → Quietly (take_of moment other lease rest number)
  quiet-of other lease None is silent = Live refl
  quiet-of other lease (Some number) is silent =
      quiet-beside other lease number is (lease_under other rest.leases) silent

  pub quiet-call : (call : PermitCall) → Quietly (permit_call name moment call held)
  quiet-call (calls.Set number) silent = quiet-set number held.number silent
  quiet-call (calls.Release other) silent =
      quiet-release (lease_under other rest.leases) other silent
  quiet-call calls.Count silent = Live refl
  quiet-call (calls.Try other lease) silent = by (is_lease lease) silent
    where
      by : (is : Bool)
          → Quietly
          (if is then take_of moment other lease rest held.number
          else silent_outcome BadLease held)
      by true silent = quiet-of other lease held.number refl silent
      by false silent = Same refl

-- Functions that don't try aren't refused.

set_try : permit.Set ≡ permit.Try → ⊥
set_try e = absurd (cc e)

release_try : permit.Release ≡ permit.Try → ⊥
release_try e = absurd (cc e)

count_try : permit.Count ≡ permit.Try → ⊥
count_try e = absurd (cc e)

never-refuses : (name : List ℕ) (moment number : ℕ) (id : List ℕ) (lease : ℕ) (held : Permits)
    (f : PermitFunction) → (f ≡ permit.Try → ⊥)
    → refuses f name moment number id lease held ≡ true → ⊥
never-refuses name moment number id lease held permit.Try other refused = other refl
never-refuses name moment number id lease held permit.Count other refused = false≢true refused
never-refuses name moment number id lease held permit.Set other refused = by held.number refused
  where
    by : (set : Option ℕ)
        → blocks (set_number name number (live_permits moment held) set).reply
        (functions.Permits permit.Set) ≡ true
        → ⊥
    by None r = false≢true r
    by (Some n) r = false≢true r
never-refuses name moment number id lease held permit.Release other refused =
    by (lease_under id (live_leases moment held.leases)) refused
  where
    by : (own : Option PermitLease)
        → blocks (give_back_lease name id (live_permits moment held) own).reply
        (functions.Permits permit.Release) ≡ true
        → ⊥
    by None r = false≢true r
    by (Some o) r = false≢true r

-- What stays refused.

-- at every moment from now on, before the due moment, the function is refused, and no live lease
-- ends before it
pub record IsHeldUntil (f : PermitFunction) (name : List ℕ) (now number : ℕ) (id : List ℕ)
    (due : Option ℕ) (held : Permits) : Type 0 where
  pub refused : (moment : ℕ) → now ≤ moment → IsBefore moment due
      → refuses f name moment number id watchdog_lease held ≡ true
  pub in_time : (moment : ℕ) → now ≤ moment → IsBefore moment due
      → EndNoEarlier due (live_leases moment held.leases)

before-earlier : (now moment : ℕ) (due : Option ℕ) → now ≤ moment → IsBefore moment due
    → IsBefore now due
before-earlier now moment None le before = tt
before-earlier now moment (Some due) le before = omega (arith, le, before)

-- what is refused later is refused of the live permits too
live-refuses : (f : PermitFunction) (name : List ℕ) (now moment number : ℕ) (id : List ℕ)
    (held : Permits) → now ≤ moment
    → refuses f name moment number id watchdog_lease held ≡ true
    → refuses f name moment number id watchdog_lease (live_permits now held) ≡ true
live-refuses permit.Try name now moment number id held le refused =
    ap
    (λ leases. blocks
    (take_of moment id watchdog_lease (record { number = held.number; leases = leases })
    held.number).reply
    (functions.Permits permit.Try))
    (live-again now moment le held.leases)
    ∙ refused
live-refuses permit.Set name now moment number id held le refused =
    absurd (never-refuses name moment number id watchdog_lease held permit.Set set_try refused)
live-refuses permit.Release name now moment number id held le refused =
    absurd
    (never-refuses name moment number id watchdog_lease held permit.Release release_try refused)
live-refuses permit.Count name now moment number id held le refused =
    absurd
    (never-refuses name moment number id watchdog_lease held permit.Count count_try refused)

-- a call that sends no message leaves it so
pub held-call : (f : PermitFunction) (name : List ℕ) (now number : ℕ) (id : List ℕ)
    (due : Option ℕ) (held : Permits) (call : PermitCall)
    → tells PermitKind name (permit_call name now call held).post ≡ false
    → IsHeldUntil f name now number id due held
    → IsHeldUntil f name now number id due (permit_call name now call held).object
held-call f name now number id due held call silent waits = record {
  refused = λ moment le before. refused moment le before (leaves moment le before f refl);
  in_time = λ moment le before. in_time moment le before (leaves moment le before f refl);
}
  where
    other : (g : PermitFunction) → (g ≡ permit.Try → ⊥) → f ≡ g → (moment : ℕ) → now ≤ moment
        → IsBefore moment due → ⊥
    other g not is moment le before =
        never-refuses name now number id watchdog_lease held g not
        (subst (λ g. refuses g name now number id watchdog_lease held ≡ true) is
        (waits.refused now (omega arith) (before-earlier now moment due le before)))

    leaves : (moment : ℕ) → now ≤ moment → IsBefore moment due → (g : PermitFunction) → f ≡ g
        → Leaves now held (permit_call name now call held).object
    leaves moment le before permit.Try is =
        quiet-call name now id held
        (finds-try now id held name watchdog_lease
        (subst (λ g. refuses g name now number id watchdog_lease held ≡ true) is
        (waits.refused now (omega arith) (before-earlier now moment due le before)))).0
        call silent
    leaves moment le before permit.Set is =
        absurd (other permit.Set set_try is moment le before)
    leaves moment le before permit.Release is =
        absurd (other permit.Release release_try is moment le before)
    leaves moment le before permit.Count is =
        absurd (other permit.Count count_try is moment le before)

    refused : (moment : ℕ) → now ≤ moment → IsBefore moment due
        → Leaves now held (permit_call name now call held).object
        → refuses f name moment number id watchdog_lease (permit_call name now call held).object
        ≡ true
    refused moment le before (Same e) =
        ap (refuses f name moment number id watchdog_lease) e ∙ waits.refused moment le before
    refused moment le before (Live e) =
        ap (refuses f name moment number id watchdog_lease) e
        ∙ live-refuses f name now moment number id held le (waits.refused moment le before)

    in_time : (moment : ℕ) → now ≤ moment → IsBefore moment due
        → Leaves now held (permit_call name now call held).object
        → EndNoEarlier due
        (live_leases moment (permit_call name now call held).object.leases)
    in_time moment le before (Same e) =
        subst (λ (p : Permits). EndNoEarlier due (live_leases moment p.leases)) (sym e)
        (waits.in_time moment le before)
    in_time moment le before (Live e) =
        subst (λ (p : Permits). EndNoEarlier due (live_leases moment p.leases)) (sym e)
        (subst (EndNoEarlier due) (sym (live-again now moment le held.leases))
        (waits.in_time moment le before))

-- What a reply leaves.

-- no lease ends before the first
least-first : (leases : List PermitLease) (bound : ℕ) → bound ≤ least_deadline leases
    → AllByRecursion (λ lease. bound ≤ lease.deadline) leases
least-first [] bound le = tt
least-first (lease ∷ []) bound le = (le, tt)
least-first (lease ∷ next ∷ rest) bound le =
    (omega (arith, le), least-first (next ∷ rest) bound (omega (arith, le)))

-- leases that end later are all live
all-live : (moment : ℕ) (leases : List PermitLease)
    → AllByRecursion (λ lease. suc moment ≤ lease.deadline) leases
    → live_leases moment leases ≡ leases
all-live moment [] ends = refl
all-live moment (lease ∷ rest) ends =
    let live : moment < lease.deadline = omega (arith, ends.0) in
    ap (λ b. if b then lease ∷ live_leases moment rest else live_leases moment rest)
    (lt-ltb moment lease.deadline live)
    ∙ ap (λ l. lease ∷ l) (all-live moment rest ends.1)

module _ (name : List ℕ) (now at number : ℕ) (id : List ℕ) (held : Permits) (past : at ≤ now) where
  -- while no permit is taken or given back
  unset-held : held.number ≡ None → IsHeldUntil permit.Try name now number id None held
  unset-held is = record {
    refused = λ moment le before. full-refused moment id held name number (Unset is);
    in_time = λ moment le before. tt;
  }

  module _ (most : ℕ) (is : held.number ≡ Some most)
      (none : lease_under id (live_leases now held.leases) ≡ None)
      (full : nat_lt (length (live_leases now held.leases)) most ≡ false) where
    abbrev first : ℕ
    first = least_deadline (live_leases now held.leases)

    -- until the first of them ends all are live
    same-live : (moment : ℕ) → now ≤ moment → moment < at + (first - now)
        → live_leases moment held.leases ≡ live_leases now held.leases
    same-live moment le before =
        sym (live-again now moment le held.leases)
        ∙ all-live moment (live_leases now held.leases)
        (least-first (live_leases now held.leases) (suc moment) (omega (arith, past, le, before)))

    taken-held : IsHeldUntil permit.Try name now number id (Some (at + (first - now))) held
    taken-held = record {
      refused = λ moment le before.
          full-refused moment id held name number
          (Taken most is
          (ap (lease_under id) (same-live moment le before) ∙ none)
          (ap (λ (l : List PermitLease). nat_lt (length l) most) (same-live moment le before)
          ∙ full));
      in_time = λ moment le before.
          subst (EndNoEarlier (Some (at + (first - now)))) (sym (same-live moment le before))
          (least-first (live_leases now held.leases) (at + (first - now))
          (omega (arith, past, le, before)));
    }

  tried-held : (reply : Reply) (full : IsFull now id held) → reply ≡ told_full full
      → IsHeldUntil permit.Try name now number id (due_by_reply at (Some reply)) held
  tried-held reply (Unset is) told =
      subst (λ r. IsHeldUntil permit.Try name now number id (due_by_reply at (Some r)) held)
      (sym told) (unset-held is)
  tried-held reply (Taken most is none full) told =
      subst (λ r. IsHeldUntil permit.Try name now number id (due_by_reply at (Some r)) held)
      (sym told) (taken-held most is none full)

  -- a reply that refuses a call leaves it so
  pub held-answered : (f : PermitFunction) (lease : ℕ)
      → refuses f name now number id lease held ≡ true
      → IsHeldUntil f name now number id
      (due_by_reply at
      (Some (permit_call name now (permit_call_of f number id lease) held).reply))
      held
  held-answered permit.Try lease refused =
      let found = finds-try now id held name lease refused in
      tried-held (permit_call name now (calls.Try id lease) held).reply found.0 found.1
  held-answered permit.Set lease refused =
      absurd (never-refuses name now number id lease held permit.Set set_try refused)
  held-answered permit.Release lease refused =
      absurd (never-refuses name now number id lease held permit.Release release_try refused)
  held-answered permit.Count lease refused =
      absurd (never-refuses name now number id lease held permit.Count count_try refused)
