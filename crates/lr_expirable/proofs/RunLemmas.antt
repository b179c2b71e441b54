-- The run of a function, from the keys before it to those after it.
use Rattle.std.proofs.Common.{◌≡◌, ◌≢◌, ◌<◌, ℕ, true, false, List, [], Option, Some, None, Ok, option_map, refl, sym, ap, subst, ◌∙◌, arith}
use Rattle.std.proofs.lemmas.Bool.{cond-true, cond-false, false≢true, true≢false}
use Rattle.std.proofs.lemmas.Bool.Decides.{nat_tests}
use Rattle.lr_names.specs.Owner.{IsId, id_text}
use Rattle.lr_names.specs.declared.post.Post.{Post}
use Rattle.lr_objects.specs.declared.permits.PermitCall.{PermitCall}
use Rattle.lr_objects.specs.declared.permits.PermitCall.TheVariants.{Set, Try, Release, Count}
use Rattle.lr_objects.specs.declared.reply.Reply.{Reply}
use Rattle.lr_objects.specs.declared.reply.Reply.TheVariants.{BadLease}
use Rattle.lr_keys.specs.declared.value_kind.ValueKind.TheVariants.{Counter}
use Rattle.lr_keys.specs.KeySpace.{ChangesOnly, IsPrepared, KeyEntry, Keys, Plan, StaysSame, entry_at, live_entry, live_entries, plan_at, score_at}
use Rattle.lr_keys.proofs.TableLaws.{bytes_eq-other}
use Rattle.lr_model.specs.Moment.{is_lease, is_live}
use Rattle.lr_model.specs.Outcome.{silent_outcome}
use Rattle.lr_model.specs.Permits.{PermitLease, Permits, is_under, lease_under, live_leases, live_permits, permit_call}
use Rattle.lr_model.proofs.ReadWriteFacts.{All-like, filter-passes, find-filter, length-filter-le, none_some}
use Rattle.lr_counter.specs.Numbers.{number_entry_of}
use Rattle.lr_counter.proofs.NumbersLaws.{live_entry-number}
use Rattle.lr_expirable.specs.Leases.{AreLeasesAt, in_order_of}
use Rattle.lr_expirable.specs.Run.{IsPermitRun, IsReadyFor, has_lease, is_taken, live_call}
use Rattle.lr_expirable.specs.Stands.{ArePermitsAt}
use Rattle.lr_expirable.specs.Step.{AreLive, ChangesOnlyTwo, IsPermitStep}
use Rattle.lr_expirable.proofs.ChangeLemmas.{score_at-lease}
use Rattle.lr_expirable.proofs.EntryLaws.{live-members}
use Rattle.lr_expirable.proofs.LeaseLaws.{deadline_in}

-- permits are there later as they were
pub at-later : (old new : Keys) (moment : ℕ) (number leases : List ℕ) (permits : Permits)
    → entry_at new number ≡ live_entry moment (entry_at old number)
    → entry_at new leases ≡ live_entry moment (entry_at old leases)
    → ArePermitsAt old number leases permits → ArePermitsAt new number leases permits
at-later old new moment number leases permits first second at = record {
  number_at = record {
    stands =
        first ∙ ap (live_entry moment) at.number_at.stands
        ∙ live_entry-number moment permits.number;
    within = at.number_at.within;
  };
  some = at.some;
  leases_at = record {
    stands =
        second ∙ ap (live_entry moment) at.leases_at.stands
        ∙ live-members moment (in_order_of permits.leases);
    are = at.leases_at.are;
  };
  enough = at.enough;
}

-- without the leases that are gone
at-live : (middle left : Keys) (number leases : List ℕ) → number ≢ leases → (moment : ℕ)
    → ((xs : List PermitLease) → AreLeasesAt (entry_at middle leases) xs
    → AreLeasesAt (entry_at left leases) (live_leases moment xs))
    → ChangesOnly leases middle left → (permits : Permits)
    → ArePermitsAt middle number leases permits
    → ArePermitsAt left number leases (live_permits moment permits)
at-live middle left number leases apart moment removes others permits at = record {
  number_at = record {
    stands =
        others number (bytes_eq-other leases number (λ e. apart (sym e)))
        ∙ at.number_at.stands;
    within = at.number_at.within;
  };
  some = at.some;
  leases_at = removes permits.leases at.leases_at;
  enough =
      omega (
        arith,
        at.enough,
        length-filter-le (λ (l : PermitLease). is_live l.deadline moment) permits.leases,
      );
}

-- the live leases are live
are-live : (moment : ℕ) (leases : List PermitLease) → AreLive moment (live_leases moment leases)
are-live moment leases =
    All-like (λ l. is_live l.deadline moment ≡ true) (λ l. moment < l.deadline)
    (λ l live. grind (arith, live, nat_tests)) (live_leases moment leases)
    (filter-passes (λ (l : PermitLease). is_live l.deadline moment) leases)

-- a function with a lease that is one sees the live leases
call-live : (name : List ℕ) (moment : ℕ) (call : PermitCall) (permits : Permits)
    → has_lease call ≡ true
    → permit_call name moment call permits ≡ live_call name moment call (live_permits moment permits)
call-live name moment (Set number) permits good = refl
call-live name moment (Try id lease) permits good = cond-true (is_lease lease) _ _ good
call-live name moment (Release id) permits good = refl
call-live name moment Count permits good = refl

-- and with another it changes nothing
call-bad : (name : List ℕ) (moment : ℕ) (call : PermitCall) (permits : Permits)
    → has_lease call ≡ false → permit_call name moment call permits ≡ silent_outcome BadLease permits
call-bad name moment (Set number) permits bad = absurd (true≢false bad)
call-bad name moment (Try id lease) permits bad = cond-false (is_lease lease) _ _ bad
call-bad name moment (Release id) permits bad = absurd (true≢false bad)
call-bad name moment Count permits bad = absurd (true≢false bad)

-- ---- the memory that is taken first

-- that of the number
pub ready_to_set : (old new : Keys) (number leases : List ℕ) (permits : Permits)
    → ArePermitsAt old number leases permits
    → (entry_at old number ≡ None → IsPrepared new number Counter [])
    → (amount moment : ℕ) → IsReadyFor (Set amount) new number leases (live_permits moment permits)
ready_to_set old new number leases permits at room amount moment none =
    room (at.number_at.stands ∙ ap number_entry_of none)

-- none for an id whose lease lasts beyond the moment
pub not_lacking : (keys : Keys) (number leases : List ℕ) (permits : Permits)
    → ArePermitsAt keys number leases permits → (id : List ℕ) → IsId id → (moment : ℕ)
    → (member : List ℕ) → member ≡ id_text id
    → is_taken moment (score_at member (entry_at keys leases)) ≡ true
    → lease_under id (live_leases moment permits.leases) ≡ None → ⊥
not_lacking keys number leases permits at id in_id moment member text taken none =
    by (lease_under id permits.leases) refl
    (sym (ap (is_taken moment) (score_at-lease (entry_at keys leases) permits.leases at.leases_at id
    in_id member text)) ∙ taken)
  where
    by : (own : Option PermitLease) → lease_under id permits.leases ≡ own
        → is_taken moment (Ok (option_map deadline_in own)) ≡ true → ⊥
    by None found taken = false≢true taken
    by (Some own) found taken =
        none_some own (sym (find-filter (is_under id)
        (λ (l : PermitLease). is_live l.deadline moment) permits.leases own found taken) ∙ none)

-- it stays
pub ready-still : (call : PermitCall) (old new : Keys) (number leases : List ℕ) (permits : Permits)
    → plan_at new ≡ plan_at old → IsReadyFor call old number leases permits
    → IsReadyFor call new number leases permits
ready-still (Set amount) old new number leases permits same ready = λ none.
    ap (λ (f : List ℕ → Option Plan). f number) same ∙ ready none
ready-still (Try id lease) old new number leases permits same ready = λ none.
    ap (λ (f : List ℕ → Option Plan). f leases) same ∙ ready none
ready-still (Release id) old new number leases permits same ready = tt
ready-still Count old new number leases permits same ready = tt

-- ---- the run

-- memory was taken, then the moment came, then what had run out went, and then came the step
pub permit_run : (old roomy middle left new : Keys) (number leases : List ℕ) → number ≢ leases
    → (moment : ℕ) → StaysSame old roomy → middle.moment ≡ moment
    → entry_at middle ≡ live_entries moment (entry_at roomy)
    → ((xs : List PermitLease) → AreLeasesAt (entry_at middle leases) xs
    → AreLeasesAt (entry_at left leases) (live_leases middle.moment xs))
    → ChangesOnly leases middle left → left.moment ≡ middle.moment
    → (call : PermitCall) → has_lease call ≡ true
    → ((permits : Permits) → ArePermitsAt old number leases permits
    → IsReadyFor call left number leases (live_permits moment permits))
    → (name : List ℕ) (answer : Reply × Option Post)
    → ((permits : Permits) → ArePermitsAt left number leases permits
    → AreLive left.moment permits.leases → IsReadyFor call left number leases permits
    → IsPermitStep new number leases answer (live_call name left.moment call permits))
    → ChangesOnlyTwo number leases left new → new.moment ≡ left.moment
    → IsPermitRun old new number leases moment answer (permit_call name moment call)
permit_run old roomy middle left new number leases apart moment same passed entries removes others
    stays call good ready name answer steps others2 stays2 = record {
      step = λ permits at.
          let here = at-later old middle moment number leases permits (later number) (later leases) at in
          let live : Permits = live_permits moment permits in
          let now : left.moment ≡ moment = stays ∙ passed in
          let gone : ArePermitsAt left number leases live =
          at-live middle left number leases apart moment
          (subst (λ m. (xs : List PermitLease) → AreLeasesAt (entry_at middle leases) xs
          → AreLeasesAt (entry_at left leases) (live_leases m xs)) passed removes) others permits here in
          subst (IsPermitStep new number leases answer) (sym (call-live name moment call permits good))
          (subst (λ m. IsPermitStep new number leases answer (live_call name m call live)) now
          (steps live gone (subst (λ m. AreLive m live.leases) (sym now)
          (are-live moment permits.leases)) (ready permits at)));
      others = λ key one two. others2 key one two ∙ others key two ∙ later key;
      now = stays2 ∙ stays ∙ passed;
    }
  where
    later : (key : List ℕ) → entry_at middle key ≡ live_entry moment (entry_at old key)
    later key =
        ap (λ (f : List ℕ → Option KeyEntry). f key) entries
        ∙ ap (λ (f : List ℕ → Option KeyEntry). live_entry moment (f key)) same.entries

-- a lease out of range: only the moment comes
pub bad_run : (old new : Keys) (number leases : List ℕ) (moment : ℕ) → new.moment ≡ moment
    → entry_at new ≡ live_entries moment (entry_at old) → (name : List ℕ) (call : PermitCall)
    → has_lease call ≡ false
    → IsPermitRun old new number leases moment (BadLease, None) (permit_call name moment call)
bad_run old new number leases moment passed entries name call bad = record {
  step = λ permits at.
      subst (IsPermitStep new number leases (BadLease, None))
      (sym (call-bad name moment call permits bad))
      (record {
        reply = refl;
        post = refl;
        permits = at-later old new moment number leases permits (later number) (later leases) at;
      });
  others = λ key one two. later key;
  now = passed;
}
  where
    later : (key : List ℕ) → entry_at new key ≡ live_entry moment (entry_at old key)
    later key = ap (λ (f : List ℕ → Option KeyEntry). f key) entries
