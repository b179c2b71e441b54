-- From the run on the two keys of permits to all objects and all keys.
use Rattle.std.proofs.Common.{◌≡◌, ℕ, List, [], ◌∷◌, Option, sym, ap, subst, ◌∙◌}
use Rattle.lr_names.specs.Key.{key_text, keys_of}
use Rattle.lr_names.specs.Name.{IsName}
use Rattle.lr_names.specs.declared.kind.Kind.TheVariants as kinds
use Rattle.lr_names.specs.declared.part.Part.TheVariants as parts
use Rattle.lr_names.specs.declared.post.Post.{Post}
use Rattle.lr_keys.specs.KeySpace.{KeyEntry, Keys, OthersAreLive, entry_at, live_entry}
use Rattle.lr_keys.proofs.FrameLaws.{list_any-head, list_any-tail}
use Rattle.lr_keys.proofs.TableLaws.{bytes_eq-other}
use Rattle.lr_objects.specs.declared.permits.PermitCall.{PermitCall}
use Rattle.lr_objects.specs.declared.reply.Reply.{Reply}
use Rattle.lr_model.specs.Answer.{Objects, reply_of, objects_after, post_of}
use Rattle.lr_model.specs.Permits.{permit_call}
use Rattle.lr_expirable.specs.Run.{IsPermitRun, permit_op}
use Rattle.lr_expirable.specs.Stands.{PermitsStand}
use Rattle.lr_expirable.specs.Step.{IsPermitStep}
use Rattle.lr_expirable.proofs.StandsLaws.{permits_stand_settled, permits_stand_with}

module _ (old answered new : Keys) (number leases name : List ℕ) (named : IsName name)
    (moment : ℕ) (answer : Reply × Option Post) (call : PermitCall)
    (run : IsPermitRun old answered number leases moment answer (permit_call name moment call))
    (number_is : number ≡ key_text parts.Permits name)
    (leases_is : leases ≡ key_text parts.PermitLeases name)
    (settled : entry_at new ≡ entry_at answered) where
  abbrev own : List ℕ
  own = key_text parts.Permits name

  abbrev own_leases : List ℕ
  own_leases = key_text parts.PermitLeases name

  ran : IsPermitRun old answered own own_leases moment answer (permit_call name moment call)
  ran =
      subst (λ l. IsPermitRun old answered own l moment answer (permit_call name moment call))
      leases_is
      (subst (λ n. IsPermitRun old answered n leases moment answer (permit_call name moment call))
      number_is run)

  -- the step on the permits of the objects
  stepped : (objects : Objects) → PermitsStand old objects
      → IsPermitStep answered own own_leases answer
      (permit_call name moment call (objects.permits name))
  stepped objects stand = ran.step (objects.permits name) (stand.each name named)

  pub replies : (objects : Objects) → PermitsStand old objects
      → answer.0 ≡ reply_of objects moment (permit_op name call)
  replies objects stand = (stepped objects stand).reply

  pub posts : (objects : Objects) → PermitsStand old objects
      → answer.1 ≡ post_of objects moment (permit_op name call)
  posts objects stand = (stepped objects stand).post

  pub stands : (objects : Objects) → PermitsStand old objects
      → PermitsStand new (objects_after objects moment (permit_op name call))
  stands objects stand =
      permits_stand_settled answered new (objects_after objects moment (permit_op name call))
      (permits_stand_with old answered moment objects stand name
      (permit_call name moment call (objects.permits name)).object
      (stepped objects stand).permits ran.others) settled

  pub others_live : new.moment ≡ answered.moment
      → OthersAreLive (keys_of kinds.Permits name) old new
  others_live now = λ key apart.
      ap (λ (f : List ℕ → Option KeyEntry). f key) settled
      ∙ ran.others key (bytes_eq-other own key (list_any-head key own (own_leases ∷ []) apart))
      (bytes_eq-other own_leases key (list_any-head key own_leases []
      (list_any-tail key own (own_leases ∷ []) apart)))
      ∙ ap (λ m. live_entry m (entry_at old key)) (sym (now ∙ ran.now))
