-- Threads join exactly while their client doesn't hear their channel, at each change.
use Rattle.std.proofs.Common.{◌≡◌, ℕ, ◌≤◌, Bool, true, false, not, Option, Some, None, refl, ap, sym, ◌∙◌, subst, ◌⊎◌, inl, inr}
use Rattle.std.proofs.lemmas.Bool.{and_from, false≢true, cases_eq}
use Rattle.lr_limits.specs.Limits.{thread_limit}
use Rattle.lr_names.specs.Channel.{ChannelOf, channel_wakes}
use Rattle.lr_objects.specs.declared.reply.Reply.{Reply}
use Rattle.lr_waiting.specs.declared.waiter.Stage.{Stage}
use Rattle.lr_waiting.specs.declared.waiter.Waiter.{Waiter}
use Rattle.lr_model.specs.Board.{same_channel}
use Rattle.lr_waiting.specs.Latch.{is_subscribed, leave_in, register_in}
use Rattle.lr_waiting.specs.Session.{at_stage, channel_in, channel_for, owner_in, with_latches, is_joining_at}
use Rattle.lr_waiting.specs.Client.{Client, waiter_in}
use Rattle.lr_model.proofs.SameChannel.{same_is, same_self}
use Rattle.lr_wakeups.specs.Registered.{registered_with, is_registered, IsCounted}
use Rattle.lr_wakeups.specs.Joining.{FitsStage, gives_up_at, IsPlaced, PlacedWith, PlacedIn}
use Rattle.lr_wakeups.proofs.EntryChanges.{ChangesEntry, heard_left, heard_registered}
use Rattle.lr_wakeups.proofs.Registered.{counts_one, counts_two}
use Rattle.lr_wakeups.proofs.Threads.{ChangesThread}

-- a request that is registered is so at its channel
pub registered_there : (client : Client) (thread : ℕ) (waiter : Waiter)
    → waiter_in client thread ≡ Some waiter → waiter.registered ≡ true
    → is_registered (channel_in client.session thread waiter) client thread ≡ true
registered_there client thread waiter was inside =
    ap (registered_with (channel_in client.session thread waiter) client thread) was
    ∙ and_from waiter.registered
    (same_channel (channel_in client.session thread waiter) (channel_in client.session thread waiter))
    inside (same_self (channel_in client.session thread waiter))

-- whether a thread gives its place in a queue up
abbrev pub gives_up_with : Option Waiter → Bool
gives_up_with None = false
gives_up_with (Some waiter) = gives_up_at waiter.stage waiter.want.function

-- a thread stays placed where its client hears its channel as before
pub placed_on : (before after : Client) (thread : ℕ) → thread ≤ thread_limit
    → after.session.client ≡ before.session.client
    → waiter_in after thread ≡ waiter_in before thread
    → ((q : ChannelOf) → is_registered q before thread ≡ true
    → gives_up_with (waiter_in before thread) ≡ false
    → is_subscribed (after.session.latches.entries q)
    ≡ is_subscribed (before.session.latches.entries q))
    → PlacedIn before thread → PlacedIn after thread
placed_on before after thread within id same heard placed = record {
  placed = subst (PlacedWith after.session thread) (sym same)
      (by (waiter_in before thread) refl placed.placed);
}
  where
    by : (found : Option Waiter) → waiter_in before thread ≡ found
        → PlacedWith before.session thread found → PlacedWith after.session thread found
    by None was old = tt
    by (Some waiter) was old = record {
      fits = old.fits;
      joining = λ inside stays.
          old.joining inside stays
          ∙ ap not
          (sym
          (ap is_subscribed
          (λ i. after.session.latches.entries
          (channel_for (record { client = id i; thread = thread }) waiter.want))
          ∙ heard (channel_in before.session thread waiter)
          (registered_there before thread waiter was inside) (ap gives_up_with was ∙ stays)));
    }

-- one thread changes, and its own request is placed
pub placed_changes : (thread : ℕ) (found : Option Waiter) (reply : Option Reply)
    (before after : Client) → ChangesThread thread found reply before after
    → PlacedWith (with_latches after.session.latches before.session) thread found
    → ((t : ℕ) → t ≤ thread_limit → (t ≡ thread → ⊥) → (q : ChannelOf)
    → is_registered q before t ≡ true
    → is_subscribed (after.session.latches.entries q)
    ≡ is_subscribed (before.session.latches.entries q))
    → ((t : ℕ) → t ≤ thread_limit → PlacedIn before t)
    → (t : ℕ) → t ≤ thread_limit → PlacedIn after t
placed_changes thread found reply before after changes own heard placed t within =
    by (cases_eq t thread)
  where
    own_in : (f : Option Waiter)
        → PlacedWith (with_latches after.session.latches before.session) thread f
        → PlacedWith after.session thread f
    own_in None old = tt
    own_in (Some waiter) old = record {
      fits = old.fits;
      joining = λ inside stays.
          old.joining inside stays
          ∙ ap (λ x. not (is_subscribed x))
          (sym
          (λ i. after.session.latches.entries
          (channel_for (record { client = changes.id i; thread = thread }) waiter.want)));
    }

    by : (t ≡ thread) ⊎ (t ≡ thread → ⊥) → PlacedIn after t
    by (inl same) =
        subst (PlacedIn after) (sym same)
        (record {
          placed = subst (PlacedWith after.session thread) (sym changes.waiter) (own_in found own);
        })
    by (inr apart) =
        placed_on before after t within changes.id (changes.waiters t apart)
        (λ q there stays. heard t within apart q there) (placed t within)

-- The changes of one thread.

module _ (thread : ℕ) (reply : Option Reply) (before after : Client) (within : thread ≤ thread_limit)
    (placed : (t : ℕ) → t ≤ thread_limit → PlacedIn before t) where
  -- a request that isn't registered comes or goes, and all hear what they heard
  pub place_begun : (waiter : Waiter) → ChangesThread thread (Some waiter) reply before after
      → FitsStage waiter.stage waiter.registered → waiter.registered ≡ false
      → ((q : ChannelOf) → is_subscribed (after.session.latches.entries q)
      ≡ is_subscribed (before.session.latches.entries q))
      → (t : ℕ) → t ≤ thread_limit → PlacedIn after t
  place_begun waiter changes fits outside heard =
      placed_changes thread (Some waiter) reply before after changes
      (record {
        fits = fits;
        joining = λ inside stays. absurd (false≢true (sym outside ∙ inside));
      })
      (λ t under apart q there. heard q) placed

  pub place_ended : ChangesThread thread None reply before after
      → ((q : ChannelOf) → is_subscribed (after.session.latches.entries q)
      ≡ is_subscribed (before.session.latches.entries q))
      → (t : ℕ) → t ≤ thread_limit → PlacedIn after t
  place_ended changes heard =
      placed_changes thread None reply before after changes tt
      (λ t under apart q there. heard q) placed

  module _ (waiter : Waiter) (was : waiter_in before thread ≡ Some waiter) where
    -- how it was placed
    pub placed_was : IsPlaced before.session thread waiter
    placed_was =
        let here : PlacedWith before.session thread (waiter_in before thread) =
        (placed thread within).placed in
        subst (PlacedWith before.session thread) was here

    -- A request comes to another stage, and joins then as it did. One that gives its place up may
    -- join or not.
    pub place_restaged : (stage : Stage)
        → ChangesThread thread (Some (at_stage stage waiter)) reply before after
        → FitsStage stage waiter.registered
        → (gives_up_at stage waiter.want.function ≡ false
        → (gives_up_at waiter.stage waiter.want.function ≡ false)
        × (is_joining_at stage ≡ is_joining_at waiter.stage))
        → ((q : ChannelOf) → is_subscribed (after.session.latches.entries q)
        ≡ is_subscribed (before.session.latches.entries q))
        → (t : ℕ) → t ≤ thread_limit → PlacedIn after t
    place_restaged stage changes fits joins heard =
        placed_changes thread (Some (at_stage stage waiter)) reply before after changes
        (record {
          fits = fits;
          joining = λ inside stays.
              (joins stays).1 ∙ placed_was.joining inside (joins stays).0
              ∙ ap not (sym (heard (channel_in before.session thread waiter)));
        })
        (λ t under apart q there. heard q) placed

    module _ (counted : (channel : ChannelOf) → IsCounted channel before) where
      -- a request ends that is registered
      pub place_left : ChangesThread thread None reply before after → waiter.registered ≡ true
          → ChangesEntry (channel_in before.session thread waiter)
          (leave_in (channel_wakes (channel_in before.session thread waiter).kind)
          (before.session.latches.entries (channel_in before.session thread waiter)))
          before.session.latches.entries after.session.latches.entries
          → (t : ℕ) → t ≤ thread_limit → PlacedIn after t
      place_left changes inside entry =
          placed_changes thread None reply before after changes tt heard placed
        where
          heard : (t : ℕ) → t ≤ thread_limit → (t ≡ thread → ⊥) → (q : ChannelOf)
              → is_registered q before t ≡ true
              → is_subscribed (after.session.latches.entries q)
              ≡ is_subscribed (before.session.latches.entries q)
          heard t under apart q there =
              by (same_channel q (channel_in before.session thread waiter)) refl
            where
              by : (same : Bool)
                  → same_channel q (channel_in before.session thread waiter) ≡ same
                  → is_subscribed (after.session.latches.entries q)
                  ≡ is_subscribed (before.session.latches.entries q)
              by false e = ap is_subscribed (entry.there q e)
              by true e =
                  let here : q ≡ channel_in before.session thread waiter =
                  same_is q (channel_in before.session thread waiter) e in
                  let other = ap (λ c. is_registered c before t) (sym here) ∙ there in
                  let two = counts_two (channel_in before.session thread waiter) before thread t
                  within under apart (counted (channel_in before.session thread waiter))
                  (registered_there before thread waiter was inside) other in
                  ap (λ c. is_subscribed (after.session.latches.entries c)) here
                  ∙ ap is_subscribed entry.here
                  ∙ heard_left
                  (channel_wakes (channel_in before.session thread waiter).kind)
                  (before.session.latches.entries (channel_in before.session thread waiter)) two
                  ∙ ap (λ c. is_subscribed (before.session.latches.entries c)) (sym here)

      -- a request registers: it joins where its client doesn't hear the channel then
      pub place_registered : (joined : Waiter)
          → ChangesThread thread (Some joined) reply before after
          → FitsStage joined.stage joined.registered → joined.want ≡ waiter.want
          → is_joining_at joined.stage
          ≡ not (is_subscribed
          (register_in (before.session.latches.entries (channel_in before.session thread waiter))))
          → ChangesEntry (channel_in before.session thread waiter)
          (register_in (before.session.latches.entries (channel_in before.session thread waiter)))
          before.session.latches.entries after.session.latches.entries
          → (t : ℕ) → t ≤ thread_limit → PlacedIn after t
      place_registered joined changes fits want joining entry =
          placed_changes thread (Some joined) reply before after changes
          (record {
            fits = fits;
            joining = λ inside stays.
                joining
                ∙ ap (λ x. not (is_subscribed x))
                (sym entry.here
                ∙ (λ i. after.session.latches.entries
                (channel_for (owner_in before.session thread) (sym want i))));
          })
          heard placed
        where
          heard : (t : ℕ) → t ≤ thread_limit → (t ≡ thread → ⊥) → (q : ChannelOf)
              → is_registered q before t ≡ true
              → is_subscribed (after.session.latches.entries q)
              ≡ is_subscribed (before.session.latches.entries q)
          heard t under apart q there =
              by (same_channel q (channel_in before.session thread waiter)) refl
            where
              by : (same : Bool)
                  → same_channel q (channel_in before.session thread waiter) ≡ same
                  → is_subscribed (after.session.latches.entries q)
                  ≡ is_subscribed (before.session.latches.entries q)
              by false e = ap is_subscribed (entry.there q e)
              by true e =
                  let here : q ≡ channel_in before.session thread waiter =
                  same_is q (channel_in before.session thread waiter) e in
                  let one = counts_one q before t under (counted q) there in
                  let some = subst (λ c. 1 ≤ (before.session.latches.entries c).registered) here one in
                  ap (λ c. is_subscribed (after.session.latches.entries c)) here
                  ∙ ap is_subscribed entry.here
                  ∙ heard_registered
                  (before.session.latches.entries (channel_in before.session thread waiter)) some
                  ∙ ap (λ c. is_subscribed (before.session.latches.entries c)) (sym here)
