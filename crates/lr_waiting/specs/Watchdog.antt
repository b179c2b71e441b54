-- The watchdog of a client: the holds that it renews until they are given back, as long as it lives.
-- After Redisson, whose watchdog renews a lock each third of its lease. What a late reply may still
-- change is this project's own.
use Rattle.std.specs.Prelude.{◌≡◌, ℕ, ◌+◌, ◌≤◌, ◌==◌, ◌/◌, nat_le, Bool, true, false, ◌&&◌, Option, Some, None, is_some, if◌then◌else◌}
use Rattle.std.specs.Option.{option_map}
use Rattle.std.specs.Str.{bytes_eq}
use Rattle.lr_names.specs.Owner.{ThreadOfClient, same_owner}
use Rattle.lr_names.specs.declared.post.Due.{Due}
use Rattle.lr_names.specs.declared.post.Due.TheVariants.{At, Never}
use Rattle.lr_objects.specs.Op.{call_on}
use Rattle.lr_objects.specs.declared.access.Access.TheVariants as accesses
use Rattle.lr_objects.specs.declared.fair.FairCall.TheVariants as fair
use Rattle.lr_objects.specs.declared.fenced.FencedCall.TheVariants as fenced
use Rattle.lr_objects.specs.declared.kinds.Call.{Call}
use Rattle.lr_objects.specs.declared.kinds.Call.TheVariants as calls
use Rattle.lr_objects.specs.declared.lock.LockCall.TheVariants as lock
use Rattle.lr_objects.specs.declared.op.Op.{Op}
use Rattle.lr_objects.specs.declared.read_write.ReadWriteCall.TheVariants as read_write
use Rattle.lr_objects.specs.declared.reply.Reply.{Reply}
use Rattle.lr_objects.specs.declared.reply.Reply.TheVariants as replies
use Rattle.lr_waiting.specs.declared.watch.RenewFault.{RenewFault}
use Rattle.lr_waiting.specs.declared.watch.RenewFault.TheVariants.{NoWatch, Renewing, NotDue}
use Rattle.lr_waiting.specs.declared.watch.RenewTaken.{RenewTaken}
use Rattle.lr_waiting.specs.declared.watch.RenewTaken.TheVariants as takes
use Rattle.lr_waiting.specs.declared.watch.Renewal.{Renewal}
use Rattle.lr_waiting.specs.declared.watch.Watch.{Watch}
use Rattle.lr_waiting.specs.declared.watch.WatchKey.{WatchKey}
use Rattle.lr_waiting.specs.declared.watch.WatchKind.{WatchKind}
use Rattle.lr_waiting.specs.declared.watch.WatchKind.TheVariants as watched
use Rattle.lr_waiting.specs.Latch.{next_count}
use Rattle.lr_model.specs.Table.{put}

-- the lease that it takes, the holds that it renews, how many of the client's grants were such, and
-- the renewals that were asked for and whose replies weren't taken
pub record Watchdog : Type 0 where
  pub lease : ℕ
  pub watches : WatchKey → Option Watch
  pub generation : ℕ
  pub renewals : WatchKey → Option Renewal

-- before the first grant
abbrev pub first_watchdog : ℕ → Watchdog
first_watchdog lease = record {
  lease = lease;
  watches = λ key. None;
  generation = 0;
  renewals = λ key. None;
}

-- of a client that was cut off: it renews nothing any longer
abbrev pub cut_watchdog : Watchdog → Watchdog
cut_watchdog watchdog =
    record watchdog { watches = λ key. None; renewals = λ key. None }

-- whether two watched holds are one
abbrev pub watch_number : WatchKind → ℕ
watch_number watched.Lock = 0
watch_number watched.Fair = 1
watch_number watched.Fenced = 2
watch_number watched.Read = 3
watch_number watched.Write = 4

unfoldable pub same_watch : WatchKey → WatchKey → Bool
same_watch a b =
    same_owner a.owner b.owner && (watch_number a.kind == watch_number b.kind)
    && bytes_eq a.name b.name

-- whether a hold is renewed
abbrev pub is_watched : Watchdog → WatchKey → Bool
is_watched watchdog key = is_some (watchdog.watches key)

-- a hold is renewed next when a third of the lease has passed since it was asked for
abbrev pub due_from : ℕ → ℕ → ℕ
due_from at lease = at + lease / 3

-- a hold that was asked for at a moment, under the watchdog's lease, was granted
abbrev pub watch_granted : ℕ → WatchKey → Watchdog → Watchdog
watch_granted at key watchdog =
    let generation = next_count watchdog.generation in
    record watchdog {
      watches = put same_watch watchdog.watches key
          (Some (record { due = due_from at watchdog.lease; generation = generation }));
      generation = generation;
    }

-- a hold isn't renewed any longer
abbrev pub watch_dropped : WatchKey → Watchdog → Watchdog
watch_dropped key watchdog =
    record watchdog { watches = put same_watch watchdog.watches key None }

-- Why a renewal can't be asked for at a moment: the hold isn't watched, a renewal was asked for and
-- its reply not taken, or the hold falls due later.
abbrev pub unless_due : ℕ → Watch → Option RenewFault
unless_due moment watch =
    if nat_le watch.due moment then None else Some (NotDue watch.due)

abbrev pub renew_fault_with : ℕ → Option Watch → Option Renewal → Option RenewFault
renew_fault_with moment None renewal = Some NoWatch
renew_fault_with moment (Some watch) (Some renewal) = Some Renewing
renew_fault_with moment (Some watch) None = unless_due moment watch

abbrev pub renew_fault : ℕ → WatchKey → Watchdog → Option RenewFault
renew_fault moment key watchdog =
    renew_fault_with moment (watchdog.watches key) (watchdog.renewals key)

-- whether it can
abbrev pub IsToRenew : ℕ → Watchdog → WatchKey → Type 0
IsToRenew moment watchdog key = renew_fault moment key watchdog ≡ None

-- a renewal notes for which grant it was asked, and when
abbrev pub renewal_noted : ℕ → WatchKey → Option Watch → Watchdog → Watchdog
renewal_noted moment key None watchdog = watchdog
renewal_noted moment key (Some watch) watchdog = record watchdog {
  renewals = put same_watch watchdog.renewals key
      (Some (record { generation = watch.generation; at = moment }));
}

abbrev pub renewal_asked : ℕ → WatchKey → Watchdog → Watchdog
renewal_asked moment key watchdog =
    renewal_noted moment key (watchdog.watches key) watchdog

-- The reply to a renewal. It counts for the grant for which it was asked, and for no newer one: from
-- a renewal the next third counts from its asking, and a hold that couldn't be renewed isn't watched
-- any longer.
abbrev pub is_of : Watch → Renewal → Bool
is_of watch renewal = watch.generation == renewal.generation

abbrev pub renewal_told_of : Bool → ℕ → Renewal → RenewTaken
renewal_told_of true lease renewal = takes.Due (due_from renewal.at lease)
renewal_told_of false lease renewal = takes.Ended

abbrev pub renewal_told : Bool → ℕ → Option Watch → Renewal → RenewTaken
renewal_told renewed lease None renewal = takes.Stale
renewal_told renewed lease (Some watch) renewal =
    if is_of watch renewal then renewal_told_of renewed lease renewal else takes.Stale

-- what is told, where a renewal was asked for
abbrev pub renewal_taken_by : Bool → WatchKey → Watchdog → Option RenewTaken
renewal_taken_by renewed key watchdog =
    option_map (renewal_told renewed watchdog.lease (watchdog.watches key))
    (watchdog.renewals key)

-- the watch of its grant then
abbrev pub watch_renewed : Bool → ℕ → Watch → Renewal → Option Watch
watch_renewed true lease watch renewal =
    Some (record { due = due_from renewal.at lease; generation = watch.generation })
watch_renewed false lease watch renewal = None

abbrev pub watch_after : Bool → ℕ → Option Watch → Renewal → Option Watch
watch_after renewed lease None renewal = None
watch_after renewed lease (Some watch) renewal =
    if is_of watch renewal then watch_renewed renewed lease watch renewal else Some watch

abbrev pub renewal_ended : Bool → WatchKey → Option Renewal → Watchdog → Watchdog
renewal_ended renewed key None watchdog = watchdog
renewal_ended renewed key (Some renewal) watchdog = record watchdog {
  watches = put same_watch watchdog.watches key
      (watch_after renewed watchdog.lease (watchdog.watches key) renewal);
  renewals = put same_watch watchdog.renewals key None;
}

abbrev pub renewal_taken : Bool → WatchKey → Watchdog → Watchdog
renewal_taken renewed key watchdog =
    renewal_ended renewed key (watchdog.renewals key) watchdog

-- When the next renewal is to be asked for: the least due moment of the watches that have none
-- asked for.
pub record FallsDue (watchdog : Watchdog) (moment : ℕ) (key : WatchKey) : Type 0 where
  pub watch : Watch
  pub watched : watchdog.watches key ≡ Some watch
  pub idle : watchdog.renewals key ≡ None
  pub due : watch.due ≡ moment

abbrev pub IsNextDue : Watchdog → Due → Type 0
IsNextDue watchdog Never =
    (moment : ℕ) (key : WatchKey) → FallsDue watchdog moment key → ⊥
IsNextDue watchdog (At moment) =
    ((key : WatchKey) × FallsDue watchdog moment key)
    × ((other : ℕ) (key : WatchKey) → FallsDue watchdog other key → moment ≤ other)

-- The call by which a hold is renewed.

abbrev pub renewal_call : WatchKind → ThreadOfClient → ℕ → Call
renewal_call watched.Lock owner lease = calls.Lock (lock.Renew owner lease)
renewal_call watched.Fair owner lease = calls.Fair (fair.Renew owner lease)
renewal_call watched.Fenced owner lease = calls.Fenced (fenced.Renew owner lease)
renewal_call watched.Read owner lease =
    calls.ReadWrite (read_write.Renew accesses.Read owner lease)
renewal_call watched.Write owner lease =
    calls.ReadWrite (read_write.Renew accesses.Write owner lease)

abbrev pub renewal_op : WatchKey → ℕ → Op
renewal_op key lease = call_on key.name (renewal_call key.kind key.owner lease)

-- whether it was
abbrev pub is_renewed : Reply → Bool
is_renewed replies.Renewed = true
is_renewed _ = false
