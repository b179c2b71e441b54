-- From the run on the two keys of a lock to all objects and all keys.
use Rattle.std.proofs.Common.{◌≡◌, ℕ, List, [], ◌∷◌, Option, is_some, sym, ap, subst, ◌∙◌}
use Rattle.lr_names.specs.Key.{key_text, keys_of}
use Rattle.lr_names.specs.Name.{IsName}
use Rattle.lr_names.specs.declared.kind.Kind.TheVariants as kinds
use Rattle.lr_names.specs.declared.part.Part.TheVariants.{Rw, RwDeadlines}
use Rattle.lr_names.specs.declared.post.Post.{Post}
use Rattle.lr_keys.specs.KeySpace.{KeyEntry, Keys, OthersAreLive, entry_at, live_entry}
use Rattle.lr_keys.proofs.FrameLaws.{list_any-head, list_any-tail}
use Rattle.lr_keys.proofs.TableLaws.{bytes_eq-other}
use Rattle.lr_objects.specs.declared.read_write.ReadWriteCall.{ReadWriteCall}
use Rattle.lr_objects.specs.declared.reply.Reply.{Reply}
use Rattle.lr_model.specs.Answer.{Objects, reply_of, objects_after, post_of}
use Rattle.lr_model.specs.ReadWrite.{ReadWriteLock, LockOutcome, read_write_call}
use Rattle.lr_rw.specs.Holds.{counts_entry}
use Rattle.lr_rw.specs.Run.{IsLockRun, post_told, read_write_op}
use Rattle.lr_rw.specs.Stands.{ReadWriteLocksStand}
use Rattle.lr_rw.specs.Step.{IsLockStep}
use Rattle.lr_rw.proofs.PostLemmas.{post-told}
use Rattle.lr_rw.proofs.StandsLaws.{read_write_locks_stand_settled, read_write_locks_stand_with}

module _ (old answered new : Keys) (counts deadlines name : List ℕ) (named : IsName name)
    (moment : ℕ) (reply : Reply) (call : ReadWriteCall)
    (run : IsLockRun old answered counts deadlines moment reply (read_write_call name moment call))
    (counts_are : counts ≡ key_text Rw name) (deadlines_are : deadlines ≡ key_text RwDeadlines name)
    (settled : entry_at new ≡ entry_at answered) where
  ran : IsLockRun old answered (key_text Rw name) (key_text RwDeadlines name) moment reply
      (read_write_call name moment call)
  ran =
      subst (λ d. IsLockRun old answered (key_text Rw name) d moment reply
      (read_write_call name moment call)) deadlines_are
      (subst (λ c. IsLockRun old answered c deadlines moment reply
      (read_write_call name moment call)) counts_are run)

  -- the step on the lock of the objects
  stepped : (objects : Objects) → ReadWriteLocksStand old objects
      → IsLockStep answered (key_text Rw name) (key_text RwDeadlines name) reply
      (read_write_call name moment call (objects.read_write_locks name))
  stepped objects stand = ran.step (objects.read_write_locks name) (stand.locks name named)

  pub replies : (objects : Objects) → ReadWriteLocksStand old objects
      → reply ≡ reply_of objects moment (read_write_op name call)
  replies objects stand = (stepped objects stand).answer

  pub posts : (objects : Objects) → ReadWriteLocksStand old objects → (post : Option Post)
      → post ≡ post_told name call reply (is_some (entry_at new counts))
      → post ≡ post_of objects moment (read_write_op name call)
  posts objects stand post is =
      let step = stepped objects stand in
      let lock : ReadWriteLock = objects.read_write_locks name in
      let outcome : LockOutcome = read_write_call name moment call lock in
      let left : entry_at new counts ≡ counts_entry outcome.object =
      ap (entry_at new) counts_are ∙ ap (λ (f : List ℕ → Option KeyEntry). f (key_text Rw name)) settled
      ∙ step.lock.has.counts_are in
      is ∙ (λ i. post_told name call (step.answer i) (is_some (left i)))
      ∙ sym (post-told name moment call lock)

  pub stands : (objects : Objects) → ReadWriteLocksStand old objects
      → ReadWriteLocksStand new (objects_after objects moment (read_write_op name call))
  stands objects stand =
      read_write_locks_stand_settled answered new
      (objects_after objects moment (read_write_op name call))
      (read_write_locks_stand_with old answered moment objects stand name
      (read_write_call name moment call (objects.read_write_locks name)).object
      (stepped objects stand).lock ran.others) settled

  pub others_live : new.moment ≡ answered.moment → OthersAreLive (keys_of kinds.Rw name) old new
  others_live now = λ key apart.
      ap (λ (f : List ℕ → Option KeyEntry). f key) settled
      ∙ ran.others key
      (bytes_eq-other (key_text Rw name) key
      (list_any-head key (key_text Rw name) (key_text RwDeadlines name ∷ []) apart))
      (bytes_eq-other (key_text RwDeadlines name) key
      (list_any-head key (key_text RwDeadlines name) []
      (list_any-tail key (key_text Rw name) (key_text RwDeadlines name ∷ []) apart)))
      ∙ ap (λ m. live_entry m (entry_at old key)) (sym (now ∙ ran.now))
