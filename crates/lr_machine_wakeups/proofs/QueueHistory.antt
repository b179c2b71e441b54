-- A place that the last try, unlock or leave of a channel's owner left is in the queue as long as it
-- isn't stale.
use Rattle.std.proofs.Common.{◌≡◌, ℕ, ◌<◌, ◌≤◌, List, [], ◌∷◌, Bool, true, false, not, ◌&&◌, Option, Some, None, refl, sym, ap, ◌∙◌, arith, if◌then◌else◌}
use Rattle.std.specs.Option.{option_map}
use Rattle.std.proofs.lemmas.Bool.{and_from, false≢true}
use Rattle.std.proofs.lemmas.Slice.Eq.{bytes_eq-Decides}
use Rattle.std.proofs.lemmas.Option.{same_Some}
use Rattle.lr_names.specs.Channel.{ChannelOf, is_fair}
use Rattle.lr_names.specs.Owner.{ThreadOfClient}
use Rattle.lr_names.specs.declared.kind.Kind.{Kind}
use Rattle.lr_names.specs.declared.kind.Kind.TheVariants as kinds
use Rattle.lr_objects.specs.Kinds.{call_kind}
use Rattle.lr_objects.specs.Op.{call_on, queued_by, channel_of}
use Rattle.lr_objects.specs.declared.fair.FairCall.{FairCall}
use Rattle.lr_objects.specs.declared.fair.FairCall.TheVariants.{Renew}
use Rattle.lr_objects.specs.declared.reply.Reply.TheVariants as replies
use Rattle.lr_objects.specs.declared.kinds.Call.{Call}
use Rattle.lr_objects.specs.declared.kinds.Call.TheVariants as calls
use Rattle.lr_objects.specs.declared.op.Op.{Op}
use Rattle.lr_model.specs.declared.entry.Act.{Act}
use Rattle.lr_model.specs.declared.entry.Act.TheVariants as acts
use Rattle.lr_model.specs.declared.entry.Entry.{Entry}
use Rattle.lr_model.specs.Answer.{Objects, objects_after}
use Rattle.lr_model.specs.Board.{same_channel}
use Rattle.lr_model.specs.Fair.{FairPlace, FairLock, place_of, with_queue, fair_renew}
use Rattle.lr_model.specs.Hold.{live_hold, renew_hold}
use Rattle.lr_model.specs.Moment.{is_lease}
use Rattle.lr_model.specs.Outcome.{silent_outcome}
use Rattle.lr_model.specs.History.{State, objects_by, step, after, IsLegal}
use Rattle.lr_model.proofs.SameChannel.{same_self}
use Rattle.lr_waiting.specs.Queue.{is_own_call, is_fair_renewal, renews_fair, leaves_place, stale_of, stale_on, place_by_call, place_by_act, place_after}
use Rattle.lr_laws.specs.FairTurns.{IsFairCallOf}
use Rattle.lr_laws.proofs.NameTables.{put_at}
use Rattle.lr_laws.proofs.FairPlaces.{place_stays-call}
use Rattle.lr_machine.specs.Sound.{IsInOrder}
use Rattle.lr_machine.specs.World.{World, first_state}
use Rattle.lr_machine_wakeups.specs.WorldFacts.{PlaceStays}

never : {A : Type 0} (x : A) → None ≡ Some x → ⊥
never x e = absurd (cc e)

fair_is : (kind : Kind) → is_fair kind ≡ true → kind ≡ kinds.Fair
fair_is kinds.Fair is = refl
fair_is _ is = absurd (false≢true is)

-- a renewal leaves each queue as it is
renewal-queue : (objects : Objects) (moment : ℕ) (op : Op) (name : List ℕ)
    → renews_fair op.call ≡ true
    → ((objects_after objects moment op).fair_locks name).queue
    ≡ (objects.fair_locks name).queue
renewal-queue objects moment op name = by op.call
  where
    kept : (owner : ThreadOfClient) (lease : ℕ) (lock : FairLock) (is : Bool)
        → (if is
        then with_queue lock.queue (renew_hold moment owner lease (live_hold moment lock.held))
        else silent_outcome replies.BadLease lock).object.queue
        ≡ lock.queue
    kept owner lease lock true = refl
    kept owner lease lock false = refl

    by_fair : (call : FairCall) → is_fair_renewal call ≡ true
        → ((objects_after objects moment (call_on op.name (calls.Fair call))).fair_locks
        name).queue
        ≡ (objects.fair_locks name).queue
    by_fair (Renew owner lease) is =
        put_at (λ here (lock : FairLock). lock.queue ≡ (objects.fair_locks name).queue)
        objects.fair_locks op.name name
        (fair_renew moment owner lease (objects.fair_locks op.name)).object
        (λ here.
        kept owner lease (objects.fair_locks op.name) (is_lease lease)
        ∙ ap (λ n. (objects.fair_locks n).queue) (sym ((bytes_eq-Decides name op.name).0 here)))
        (λ there. refl)
    by_fair _ is = absurd (false≢true is)

    by : (call : Call) → renews_fair call ≡ true
        → ((objects_after objects moment (call_on op.name call)).fair_locks name).queue
        ≡ (objects.fair_locks name).queue
    by (calls.Fair call) is = by_fair call is
    by _ is = absurd (false≢true is)

module _ (channel : ChannelOf) (owner : ThreadOfClient) (fair : is_fair channel.kind ≡ true)
    (names : channel.owner ≡ Some owner) where
  -- what a call of the owner on this lock is
  own-call : (op : Op) → IsFairCallOf channel.name owner op → is_own_call channel op ≡ true
  own-call op of =
      and_from (is_fair channel.kind) (same_channel channel (channel_of op)) fair
      (ap (same_channel channel) (sym same) ∙ same_self channel)
    where
      kind : (call : Call) → queued_by call ≡ Some owner → kinds.Fair ≡ call_kind call
      kind (calls.Fair call) e = refl
      kind (calls.Lock call) e = absurd (never owner e)
      kind (calls.Fenced call) e = absurd (never owner e)
      kind (calls.ReadWrite call) e = absurd (never owner e)
      kind (calls.Semaphore call) e = absurd (never owner e)
      kind (calls.Permits call) e = absurd (never owner e)
      kind (calls.Countdown call) e = absurd (never owner e)

      kind_is : channel.kind ≡ call_kind op.call
      kind_is = fair_is channel.kind fair ∙ kind op.call of.by_owner

      owner_is : channel.owner ≡ queued_by op.call
      owner_is = names ∙ sym of.by_owner

      same : channel ≡ channel_of op
      same = λ i. record { kind = kind_is i; name = sym of.on_it i; owner = owner_is i }

  -- the place that was left is there
  abbrev Stays : ℕ → Objects → Option ℕ → Type 0
  Stays moment objects left =
      (stale : ℕ) → left ≡ Some stale → moment < stale → stale_on channel objects ≡ Some stale

  -- a call of another leaves it
  others-call : (objects : Objects) (moment : ℕ) (op : Op) (stale : ℕ)
      → is_own_call channel op ≡ false → moment < stale
      → stale_on channel objects ≡ Some stale
      → stale_on channel (objects_after objects moment op) ≡ Some stale
  others-call objects moment op stale other lasts found =
      by (place_of owner (objects.fair_locks channel.name).queue) refl
      (sym (ap (λ o. stale_of o channel.name objects) names) ∙ found)
    where
      by : (place : Option FairPlace)
          → place_of owner (objects.fair_locks channel.name).queue ≡ place
          → option_map (λ (p : FairPlace). p.stale) place ≡ Some stale
          → stale_on channel (objects_after objects moment op) ≡ Some stale
      by None e f = absurd (never stale f)
      by (Some place) e f =
          let same : place.stale ≡ stale = same_Some place.stale stale f in
          let still =
          place_stays-call owner place channel.name objects moment op.name op.call
          (λ own. absurd (false≢true (sym other ∙ own-call op own)))
          (omega (arith, same, lasts)) e in
          ap (λ o. stale_of o channel.name (objects_after objects moment op)) names
          ∙ ap (option_map (λ (p : FairPlace). p.stale)) still ∙ ap Some same

  -- and so does a renewal, whoever makes it
  renewal-call : (objects : Objects) (moment : ℕ) (op : Op) → renews_fair op.call ≡ true
      → stale_on channel (objects_after objects moment op) ≡ stale_on channel objects
  renewal-call objects moment op is =
      ap (λ o. stale_of o channel.name (objects_after objects moment op)) names
      ∙ ap (λ queue. option_map (λ (p : FairPlace). p.stale) (place_of owner queue))
      (renewal-queue objects moment op channel.name is)
      ∙ sym (ap (λ o. stale_of o channel.name objects) names)

  -- a call that isn't about the owner's place leaves it
  place-call : (objects : Objects) (moment : ℕ) (op : Op) (stale : ℕ)
      → leaves_place channel op ≡ false → moment < stale
      → stale_on channel objects ≡ Some stale
      → stale_on channel (objects_after objects moment op) ≡ Some stale
  place-call objects moment op stale not_own lasts found =
      by (is_own_call channel op) (renews_fair op.call) refl refl not_own
    where
      by : (own renews : Bool) → is_own_call channel op ≡ own → renews_fair op.call ≡ renews
          → (own && not renews) ≡ false
          → stale_on channel (objects_after objects moment op) ≡ Some stale
      by false renews e f is = others-call objects moment op stale e lasts found
      by true true e f is = renewal-call objects moment op f ∙ found
      by true false e f is = absurd (false≢true (sym is))

  stays-call : (state : State) (moment : ℕ) (op : Op) (left : Option ℕ)
      → state.moment ≤ moment → Stays state.moment state.objects left
      → Stays moment (objects_after state.objects moment op)
      (place_by_call channel state moment op left)
  stays-call state moment op left le stays stale = by (leaves_place channel op) refl
    where
      by : (own : Bool) → leaves_place channel op ≡ own
          → (if own then stale_on channel (objects_after state.objects moment op) else left)
          ≡ Some stale
          → moment < stale
          → stale_on channel (objects_after state.objects moment op) ≡ Some stale
      by true e f lasts = f
      by false e f lasts =
          place-call state.objects moment op stale e lasts
          (stays stale f (omega (arith, le, lasts)))

  stays-act : (state : State) (moment : ℕ) (act : Act) (left : Option ℕ)
      → state.moment ≤ moment → Stays state.moment state.objects left
      → Stays moment (objects_by state moment act) (place_by_act channel state moment act left)
  stays-act state moment (acts.Call op) left le stays = stays-call state moment op left le stays
  stays-act state moment _ left le stays =
      λ stale e lasts. stays stale e (omega (arith, le, lasts))

  stays-after : (entries : List Entry) (state : State) (left : Option ℕ)
      → IsLegal state entries → Stays state.moment state.objects left
      → Stays (after state entries).moment (after state entries).objects
      (place_after channel state entries left)
  stays-after [] state left legal stays = stays
  stays-after (entry ∷ entries) state left legal stays =
      stays-after entries (step state entry)
      (place_by_act channel state entry.moment entry.act left) legal.1
      (stays-act state entry.moment entry.act left legal.0.in_time stays)

pub places-stay : (world : World) → IsInOrder world → (channel : ChannelOf)
    → PlaceStays world channel
places-stay world order channel owner stale fair names left lasts =
    stays-after channel owner fair names world.entries first_state None order.legal
    (λ other e. absurd (never other e)) stale left (omega (arith, order.in_time, lasts))
