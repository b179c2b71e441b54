-- The run of a function, from the keys before it to those after it.
use Rattle.std.proofs.Common.{◌≡◌, ◌<◌, ℕ, true, List, Option, Some, None, Ok, option_map, refl, sym, ap, subst, ◌∙◌, arith}
use Rattle.std.proofs.lemmas.Bool.{cond_both, cond-true, false≢true}
use Rattle.std.proofs.lemmas.Bool.Decides.{nat_tests}
use Rattle.lr_names.specs.Owner.{ThreadOfClient, IsOwner}
use Rattle.lr_objects.specs.declared.access.Access.{Access}
use Rattle.lr_objects.specs.declared.access.Access.TheVariants.{Read, Write}
use Rattle.lr_objects.specs.declared.read_write.ReadWriteCall.{ReadWriteCall}
use Rattle.lr_objects.specs.declared.read_write.ReadWriteCall.TheVariants.{Take, Unlock, Renew}
use Rattle.lr_objects.specs.declared.reply.Reply.{Reply}
use Rattle.lr_keys.specs.KeySpace.{Content, Fields, Members, KeyEntry, Keys, Plan, plan_at, StaysSame, entry_at, entry_with_value, is_empty, live_entry, live_entries, score_at}
use Rattle.lr_model.specs.declared.read_write_hold.ReadWriteHold.{ReadWriteHold}
use Rattle.lr_model.specs.Moment.{is_lease, is_live}
use Rattle.lr_model.specs.ReadWrite.{ReadWriteLock, is_hold_of, hold_of, live_holds, read_write_call}
use Rattle.lr_model.proofs.ReadWriteFacts.{All-like, find-filter, filter-passes, none_some}
use Rattle.lr_rw.specs.Holds.{IsLockAt, member_text, counts_of, deadlines_of}
use Rattle.lr_rw.specs.Run.{IsLockRun, IsReadyFor, LacksHold, is_held, lease_of, live_call}
use Rattle.lr_rw.specs.Step.{AreLive, ChangesOnlyTwo, IsLockStep}
use Rattle.lr_rw.proofs.DeadlineLaws.{deadline_in}
use Rattle.lr_rw.proofs.LookLemmas.{score_at-hold}

-- what has no expiry is live for ever
pub live-lasting : (moment : ℕ) (value : Content)
    → live_entry moment (entry_with_value value None) ≡ entry_with_value value None
live-lasting moment value =
    cond_both (is_empty value) None (Some (record { value = value; expiry = None }))
    (λ e. live_entry moment e ≡ e) (λ empty. refl) (λ some. refl)

-- so a lock is there later as it was
pub at-later : (old new : Keys) (moment : ℕ) (counts deadlines : List ℕ) (lock : ReadWriteLock)
    → entry_at new counts ≡ live_entry moment (entry_at old counts)
    → entry_at new deadlines ≡ live_entry moment (entry_at old deadlines)
    → IsLockAt old counts deadlines lock → IsLockAt new counts deadlines lock
at-later old new moment counts deadlines lock first second at = record {
  has = record {
    counts_are =
        first ∙ ap (live_entry moment) at.has.counts_are
        ∙ live-lasting moment (Fields (counts_of lock));
    deadlines_are =
        second ∙ ap (live_entry moment) at.has.deadlines_are
        ∙ live-lasting moment (Members (deadlines_of lock));
  };
  is = at.is;
}

-- the live holds are live
live-holds : (moment : ℕ) (lock : ReadWriteLock) → AreLive moment (live_holds moment lock)
live-holds moment lock =
    All-like (λ h. is_live h.deadline moment ≡ true) (λ h. moment < h.deadline)
    (λ h live. grind (arith, live, nat_tests)) (live_holds moment lock)
    (filter-passes (λ (h : ReadWriteHold). is_live h.deadline moment) lock)

-- a function with a lease that is one sees the live holds
call-live : (name : List ℕ) (moment : ℕ) (call : ReadWriteCall) (lock : ReadWriteLock)
    → is_lease (lease_of call) ≡ true
    → read_write_call name moment call lock ≡ live_call name moment call (live_holds moment lock)
call-live name moment (Take Read owner lease) lock good = cond-true (is_lease lease) _ _ good
call-live name moment (Take Write owner lease) lock good = cond-true (is_lease lease) _ _ good
call-live name moment (Unlock access owner rest) lock good = cond-true (is_lease rest) _ _ good
call-live name moment (Renew access owner lease) lock good = cond-true (is_lease lease) _ _ good

-- a hold that lasts beyond the moment is one that the owner has then
pub not_lacking : (keys : Keys) (counts deadlines : List ℕ) (lock : ReadWriteLock)
    → IsLockAt keys counts deadlines lock → (owner : ThreadOfClient) (access : Access)
    → IsOwner owner → (moment : ℕ)
    → is_held moment (score_at (member_text access owner) (entry_at keys deadlines)) ≡ true
    → hold_of owner access (live_holds moment lock) ≡ None → ⊥
not_lacking keys counts deadlines lock at owner access in_owner moment held none =
    by (hold_of owner access lock) refl
    (sym (ap (is_held moment) (score_at-hold keys counts deadlines lock at owner access in_owner))
    ∙ held)
  where
    by : (own : Option ReadWriteHold) → hold_of owner access lock ≡ own
        → is_held moment (Ok (option_map deadline_in own)) ≡ true → ⊥
    by None found held = false≢true held
    by (Some own) found held =
        none_some own (sym (find-filter (is_hold_of owner access)
        (λ (h : ReadWriteHold). is_live h.deadline moment) lock own found held) ∙ none)

-- memory that was taken stays
pub ready-still : (call : ReadWriteCall) (old new : Keys) (counts deadlines : List ℕ)
    → plan_at new ≡ plan_at old → IsReadyFor call old counts deadlines
    → IsReadyFor call new counts deadlines
ready-still (Take access owner lease) old new counts deadlines same ready = record {
  counts_ready = ap (λ (f : List ℕ → Option Plan). f counts) same ∙ ready.counts_ready;
  deadlines_ready = ap (λ (f : List ℕ → Option Plan). f deadlines) same ∙ ready.deadlines_ready;
}
ready-still (Unlock access owner rest) old new counts deadlines same ready = tt
ready-still (Renew access owner lease) old new counts deadlines same ready = tt

-- memory was taken, then the moment came, then what had expired went, and then came the step
pub lock_run : (old roomy middle left new : Keys) (counts deadlines : List ℕ) (moment : ℕ)
    → StaysSame old roomy → middle.moment ≡ moment
    → entry_at middle ≡ live_entries moment (entry_at roomy)
    → ((lock : ReadWriteLock) → IsLockAt middle counts deadlines lock
    → IsLockAt left counts deadlines (live_holds middle.moment lock))
    → ChangesOnlyTwo counts deadlines middle left → left.moment ≡ middle.moment
    → (call : ReadWriteCall) → is_lease (lease_of call) ≡ true
    → ((lock : ReadWriteLock) → IsLockAt old counts deadlines lock
    → LacksHold call (live_holds moment lock) → IsReadyFor call left counts deadlines)
    → (name : List ℕ) (reply : Reply)
    → ((lock : ReadWriteLock) → IsLockAt left counts deadlines lock → AreLive left.moment lock
    → (LacksHold call lock → IsReadyFor call left counts deadlines)
    → IsLockStep new counts deadlines reply (live_call name left.moment call lock))
    → ChangesOnlyTwo counts deadlines left new → new.moment ≡ left.moment
    → IsLockRun old new counts deadlines moment reply (read_write_call name moment call)
lock_run old roomy middle left new counts deadlines moment same passed entries removes others stays
    call good ready name reply steps others2 stays2 = record {
      step = λ lock at.
          let here = at-later old middle moment counts deadlines lock (later counts) (later deadlines) at in
          let live : ReadWriteLock = live_holds moment lock in
          let gone : IsLockAt left counts deadlines live =
          subst (λ m. IsLockAt left counts deadlines (live_holds m lock)) passed (removes lock here) in
          let now : left.moment ≡ moment = stays ∙ passed in
          subst (IsLockStep new counts deadlines reply) (sym (call-live name moment call lock good))
          (subst (λ m. IsLockStep new counts deadlines reply (live_call name m call live)) now
          (steps live gone (subst (λ m. AreLive m live) (sym now) (live-holds moment lock))
          (ready lock at)));
      others = λ key one two.
          others2 key one two ∙ others key one two ∙ later key;
      now = stays2 ∙ stays ∙ passed;
    }
  where
    later : (key : List ℕ) → entry_at middle key ≡ live_entry moment (entry_at old key)
    later key =
        ap (λ (f : List ℕ → Option KeyEntry). f key) entries
        ∙ ap (λ (f : List ℕ → Option KeyEntry). live_entry moment (f key)) same.entries
