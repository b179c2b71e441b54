-- What a look at the holds of a lock tells of one who would take it: what is live of them, by the
-- deadlines of those that stand.
use Rattle.std.proofs.Common.{◌≡◌, ◌≤◌, ◌<◌, ◌+◌, ◌==◌, ℕ, max, nat_lt, Bool, true, false, not, ◌&&◌, ◌||◌, if◌then◌else◌, [], ◌∷◌, length, find, Option, Some, None, is_some, option_map, Ok, refl, sym, ap, ◌∙◌, arith}
use Rattle.std.specs.List.{AllByRecursion}
use Rattle.std.proofs.lemmas.Bool.{false≢true, true≢false}
use Rattle.std.proofs.lemmas.Bool.Decides.{nat_tests}
use Rattle.lr_limits.specs.Limits.{hold_limit, member_limit}
use Rattle.lr_names.specs.Owner.{ThreadOfClient, same_owner}
use Rattle.lr_objects.specs.Reply.{blocks}
use Rattle.lr_objects.specs.declared.access.Access.{Access}
use Rattle.lr_objects.specs.declared.access.Access.TheVariants.{Read, Write}
use Rattle.lr_objects.specs.declared.kinds.Function.TheVariants.{ReadWrite}
use Rattle.lr_objects.specs.declared.read_write.ReadWriteFunction.{ReadWriteFunction}
use Rattle.lr_objects.specs.declared.reply.Reply.TheVariants.{Granted, TooDeep, TooMany}
use Rattle.lr_model.specs.declared.read_write_hold.ReadWriteHold.{ReadWriteHold}
use Rattle.lr_model.specs.Moment.{is_live}
use Rattle.lr_model.specs.Outcome.{silent_outcome}
use Rattle.lr_model.specs.ReadWrite.{ReadWriteLock, LockOutcome, same_access, is_write, is_hold_of, is_writer_beside, hold_of, writer_beside, live_holds, last_deadline, holding_so, first_hold, take_again, read_unhindered, read_beside, write_first, write_with, read, write}
use Rattle.lr_model.specs.ReadWriteHolds.{AreApart, MayStandBeside}
use Rattle.lr_model.proofs.ReadWriteFacts.{All-filter, All-like, has_key, same_owner-sym}
use Rattle.lr_rw.specs.Run.{is_held}
use Rattle.lr_rw.specs.Step.{last_deadline_if}
use Rattle.lr_rw.proofs.DeadlineLaws.{deadline_in}
use Rattle.lr_rw.proofs.EndLaws.{find-nowhere}

-- ---- of some holds a lock has one at most

-- behind one that passes no other does
abbrev IsLone : (ReadWriteHold → Bool) → ReadWriteLock → Type 0
IsLone test [] = Unit {0}
IsLone test (hold ∷ rest) =
    (test hold ≡ true → AllByRecursion (λ x. test x ≡ false) rest) × IsLone test rest

lone : (test : ReadWriteHold → Bool)
    → ((hold x : ReadWriteHold) → MayStandBeside hold x → test hold ≡ true → test x ≡ false)
    → (lock : ReadWriteLock) → AreApart lock → IsLone test lock
lone test alone [] apart = tt
lone test alone (hold ∷ rest) apart = (
  λ is. All-like (MayStandBeside hold) (λ x. test x ≡ false) (λ x beside. alone hold x beside is)
      rest apart.0,
  lone test alone rest apart.1,
)

lone_hold : (owner : ThreadOfClient) (access : Access) (hold x : ReadWriteHold)
    → MayStandBeside hold x → is_hold_of owner access hold ≡ true
    → is_hold_of owner access x ≡ false
lone_hold owner access hold x beside is =
    let key = has_key owner access hold is in
    (λ i. is_hold_of (sym key.owner_is i) (sym key.access_is i) x) ∙ beside.another

lone_writer : (owner : ThreadOfClient) (hold x : ReadWriteHold) → MayStandBeside hold x
    → is_writer_beside owner hold ≡ true → is_writer_beside owner x ≡ false
lone_writer owner hold x beside writes =
    by hold.access x.access (same_owner hold.owner x.owner) (not (same_owner hold.owner owner))
    (not (same_owner x.owner owner))
    (ap (λ b. b && same_access x.access hold.access) (same_owner-sym hold.owner x.owner)
    ∙ beside.another)
    beside.peace writes
  where
    by : (a b : Access) (same p q : Bool) → (same && same_access b a) ≡ false
        → (not same && (is_write a || is_write b)) ≡ false → (is_write a && p) ≡ true
        → (is_write b && q) ≡ false
    by Read b same p q another peace writes = absurd (false≢true writes)
    by Write Read same p q another peace writes = refl
    by Write Write true p q another peace writes = absurd (true≢false another)
    by Write Write false p q another peace writes = absurd (true≢false peace)

module _ (moment : ℕ) where
  -- it is found among the live ones exactly where its deadline is above the moment
  found-live : (test : ReadWriteHold → Bool) (lock : ReadWriteLock) → IsLone test lock
      → is_held moment (Ok (option_map deadline_in (find test lock)))
      ≡ is_some (find test (live_holds moment lock))
  found-live test [] lone = refl
  found-live test (hold ∷ rest) lone =
      by (test hold) (is_live hold.deadline moment) refl refl (found-live test rest lone.1)
    where
      left : ReadWriteLock
      left = live_holds moment rest

      by : (passes live : Bool) → test hold ≡ passes → is_live hold.deadline moment ≡ live
          → is_held moment (Ok (option_map deadline_in (find test rest))) ≡ is_some (find test left)
          → is_held moment (Ok (option_map deadline_in (if passes then Some hold else find test rest)))
          ≡ is_some (find test (if live then hold ∷ left else left))
      by true true e f later = f ∙ sym (ap (λ b. is_some (if b then Some hold else find test left)) e)
      by true false e f later =
          f
          ∙ sym (ap is_some (find-nowhere test left (All-filter (λ x. test x ≡ false)
          (λ (h : ReadWriteHold). is_live h.deadline moment) rest (lone.0 e))))
      by false true e f later =
          later ∙ sym (ap (λ b. is_some (if b then Some hold else find test left)) e)
      by false false e f later = later

  -- some hold is live exactly where the last deadline is above the moment
  any-live : (lock : ReadWriteLock)
      → nat_lt moment (last_deadline lock) ≡ nat_lt 0 (length (live_holds moment lock))
  any-live [] = grind (arith, nat_tests)
  any-live (hold ∷ rest) = by (is_live hold.deadline moment) refl (any-live rest)
    where
      by : (live : Bool) → is_live hold.deadline moment ≡ live
          → nat_lt moment (last_deadline rest) ≡ nat_lt 0 (length (live_holds moment rest))
          → nat_lt moment (max hold.deadline (last_deadline rest))
          ≡ nat_lt 0 (length (if live then hold ∷ live_holds moment rest else live_holds moment rest))
      by true e later =
          let ahead : moment < hold.deadline = grind (arith, e, nat_tests) in
          let last : moment < max hold.deadline (last_deadline rest) = omega (arith, ahead) in
          grind (arith, last, nat_tests)
      by false e later =
          let gone : hold.deadline ≤ moment = grind (arith, e, nat_tests) in
          let same : nat_lt moment (max hold.deadline (last_deadline rest))
          ≡ nat_lt moment (last_deadline rest) = grind (arith, gone, nat_tests) in
          same ∙ later

  any-live-if : (lock : ReadWriteLock) → is_held moment (Ok (last_deadline_if lock))
      ≡ nat_lt 0 (length (live_holds moment lock))
  any-live-if [] = refl
  any-live-if (hold ∷ rest) = any-live (hold ∷ rest)

-- ---- who waits

module _ (moment : ℕ) (owner : ThreadOfClient) (lease : ℕ) (function : ReadWriteFunction)
    (lock : ReadWriteLock) (apart : AreApart lock) where
  abbrev live : ReadWriteLock
  live = live_holds moment lock

  abbrev waits : LockOutcome → Bool
  waits outcome = blocks outcome.reply (ReadWrite function)

  -- nobody who takes it once more
  again : (deadline : ℕ) (own : ReadWriteHold) → waits (take_again deadline live own) ≡ false
  again deadline own = by (own.count == hold_limit)
    where
      by : (b : Bool)
          → waits (if b then silent_outcome TooDeep live
          else holding_so Granted (record own { count = own.count + 1; deadline = deadline }) live)
          ≡ false
      by true = refl
      by false = refl

  -- to read: where another writes
  pub reading : is_held moment (Ok (option_map deadline_in (writer_beside owner lock)))
      ≡ waits (read moment owner lease live)
  reading =
      found-live moment (is_writer_beside owner) lock
      (lone (is_writer_beside owner) (lone_writer owner) lock apart)
      ∙ by (writer_beside owner live)
    where
      first : (room : Bool)
          → false ≡ waits (if room
          then holding_so Granted (first_hold owner Read (moment + lease)) live
          else silent_outcome TooMany live)
      first true = refl
      first false = refl

      unhindered : (own : Option ReadWriteHold)
          → false ≡ waits (read_unhindered owner (moment + lease) live own)
      unhindered None = first (nat_lt (length live) member_limit)
      unhindered (Some own) = sym (again (moment + lease) own)

      by : (writer : Option ReadWriteHold)
          → is_some writer ≡ waits (read_beside moment owner lease live writer)
      by None = unhindered (hold_of owner Read live)
      by (Some writer) = refl

  -- to write: nobody who writes
  own-live : is_held moment (Ok (option_map deadline_in (hold_of owner Write lock)))
      ≡ is_some (hold_of owner Write live)
  own-live =
      found-live moment (is_hold_of owner Write) lock
      (lone (is_hold_of owner Write) (lone_hold owner Write) lock apart)

  pub writing_again : is_held moment (Ok (option_map deadline_in (hold_of owner Write lock))) ≡ true
      → false ≡ waits (write moment owner lease live)
  writing_again held = by (hold_of owner Write live) (sym own-live ∙ held)
    where
      by : (own : Option ReadWriteHold) → is_some own ≡ true
          → false ≡ waits (write_with moment owner lease live own)
      by None some = absurd (false≢true some)
      by (Some own) some = sym (again (moment + lease) own)

  -- else where anybody holds it
  pub writing_first : is_held moment (Ok (option_map deadline_in (hold_of owner Write lock))) ≡ false
      → is_held moment (Ok (last_deadline_if lock)) ≡ waits (write moment owner lease live)
  writing_first free =
      any-live-if moment lock ∙ by (hold_of owner Write live) (sym own-live ∙ free)
    where
      nobody : (left : ReadWriteLock)
          → nat_lt 0 (length left) ≡ waits (write_first moment owner lease left)
      nobody [] = refl
      nobody (hold ∷ rest) =
          let some : nat_lt 0 (length (hold ∷ rest)) ≡ true = grind (arith, nat_tests) in
          some

      by : (own : Option ReadWriteHold) → is_some own ≡ false
          → nat_lt 0 (length live) ≡ waits (write_with moment owner lease live own)
      by None none = nobody live
      by (Some own) none = absurd (true≢false none)
