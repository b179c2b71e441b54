-- From a step on the key of a semaphore to all objects.
use Rattle.std.proofs.Common.{◌≡◌, ℕ, List, Option, max, refl}
use Rattle.std.specs.Str.{bytes_eq}
use Rattle.lr_names.specs.Key.{key_text}
use Rattle.lr_names.specs.Name.{IsName}
use Rattle.lr_names.specs.declared.part.Part.TheVariants.{Semaphore}
use Rattle.lr_names.specs.declared.post.Post.{Post}
use Rattle.lr_keys.specs.KeySpace.{ChangesOnly, Keys, StaysSame, entry_at, live_entries}
use Rattle.lr_limits.specs.Limits.{amount_limit}
use Rattle.lr_objects.specs.declared.semaphore.SemaphoreCall.{SemaphoreCall}
use Rattle.lr_objects.specs.declared.reply.Reply.{Reply}
use Rattle.lr_model.specs.Answer.{answer}
use Rattle.lr_model.specs.Semaphore.{semaphore_call}
use Rattle.lr_model.specs.Table.{put}
use Rattle.lr_counter.specs.Numbers.{IsNumberAt, number_entry_of}
use Rattle.lr_counter.specs.Run.{IsNumberRun}
use Rattle.lr_counter.specs.Step.{IsNumberStep}
use Rattle.lr_counter.proofs.RunLemmas.{number_run}
use Rattle.lr_semaphore.specs.Run.{semaphore_op}
use Rattle.lr_semaphore.specs.Stands.{SemaphoresStand}

-- a step on the key: the memory was taken, then the moment came, then the key changed
pub semaphore_run : (old roomy middle new : Keys) (asked : ℕ) → StaysSame old roomy
    → middle.moment ≡ max roomy.moment asked
    → entry_at middle ≡ live_entries (max roomy.moment asked) (entry_at roomy)
    → new.moment ≡ middle.moment → (name : List ℕ) → IsName name → (call : SemaphoreCall)
    → (key : List ℕ) → key ≡ key_text Semaphore name → ChangesOnly key middle new
    → (r : Reply × Option Post)
    → ((semaphore : Option ℕ) → entry_at old key ≡ number_entry_of semaphore
    → IsNumberAt amount_limit (entry_at middle key) semaphore
    → IsNumberStep (λ s. s) amount_limit new key r (semaphore_call name call semaphore))
    → IsNumberRun SemaphoresStand old new (max old.moment asked) (key_text Semaphore name) r
    (λ objects. answer objects (max old.moment asked) (semaphore_op name call))
semaphore_run old roomy middle new asked stays passed left now name named call key is others r steps =
    number_run old roomy middle new asked stays passed left now Semaphore name named key is others
    amount_limit (λ s. s) (λ objects. objects.semaphores)
    (λ objects name object.
    record objects { semaphores = put bytes_eq objects.semaphores name object })
    (λ objects object. refl) r (semaphore_call name call) steps
