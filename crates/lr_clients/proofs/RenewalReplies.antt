-- The replies to renewals, by the holds that they are of.
use Rattle.std.proofs.Common.{◌≡◌, Bool, List, Option, cond, Result, Ok, Err, OnOk, IsOk, sym, ap, ◌∙◌}
use Rattle.std.specs.Map.{lookup}
use Rattle.lr_objects.specs.declared.reply.Reply.{Reply}
use Rattle.lr_model.specs.Table.{put}
use Rattle.lr_model.proofs.Tables.{one_table}
use Rattle.lr_waiting.specs.contracts.watch.WatchKeyPartialEq.TheImpl.{ghosts}
use Rattle.lr_waiting.specs.declared.watch.WatchKey.{WatchKey}
use Rattle.lr_waiting.specs.Watchdog.{same_watch}
use Rattle.lr_watchdog.proofs.SameWatch.{derived_same}
use Rattle.lr_clients.specs.Client.{RenewedValue, renewed_of}

-- a look-up by the `==` of the type finds the same
pub lookup-same : (rows : List (WatchKey × Reply)) (key : WatchKey)
    → lookup (ghosts.eq key) rows ≡ lookup (same_watch key) rows
lookup-same rows key =
    ap (λ (test : WatchKey → Bool). lookup test rows)
    (one_table (ghosts.eq key) (same_watch key) (derived_same key))

-- the replies after a change at one hold
pub reply-set : (key : WatchKey) (reply : Option Reply) (old new : RenewedValue)
    → ((q : WatchKey) → lookup (ghosts.eq q) new.rows
    ≡ cond (ghosts.eq key q) reply (lookup (ghosts.eq q) old.rows))
    → renewed_of new ≡ put same_watch (renewed_of old) key reply
reply-set key reply old new sets = one_table _ _ (λ q.
    sym (lookup-same new.rows q) ∙ sets q
    ∙ ap (cond (ghosts.eq key q) reply) (lookup-same old.rows q)
    ∙ ap (λ b. cond b reply (renewed_of old q)) (derived_same key q))

-- what a call ensures where it succeeds, of one that does
pub where-ok : {T E P : Type 0} (r : Result T E) → IsOk r → OnOk r P → P
where-ok (Ok x) is ensured = ensured
where-ok (Err e) is ensured = absurd (cc is)
