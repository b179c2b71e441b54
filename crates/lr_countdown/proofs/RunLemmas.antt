-- From a step on the key of a latch to all objects.
use Rattle.std.proofs.Common.{◌≡◌, ℕ, List, Option, max, refl}
use Rattle.std.specs.Str.{bytes_eq}
use Rattle.lr_names.specs.Key.{key_text}
use Rattle.lr_names.specs.Name.{IsName}
use Rattle.lr_names.specs.declared.part.Part.TheVariants.{Countdown}
use Rattle.lr_names.specs.declared.post.Post.{Post}
use Rattle.lr_keys.specs.KeySpace.{ChangesOnly, Keys, StaysSame, entry_at, live_entries}
use Rattle.lr_limits.specs.Limits.{amount_limit}
use Rattle.lr_objects.specs.declared.countdown.CountdownCall.{CountdownCall}
use Rattle.lr_objects.specs.declared.reply.Reply.{Reply}
use Rattle.lr_model.specs.Answer.{answer}
use Rattle.lr_model.specs.Countdown.{countdown_call}
use Rattle.lr_model.specs.Table.{put}
use Rattle.lr_counter.specs.Numbers.{IsNumberAt, number_entry_of, some_unless_zero}
use Rattle.lr_counter.specs.Run.{IsNumberRun}
use Rattle.lr_counter.specs.Step.{IsNumberStep}
use Rattle.lr_counter.proofs.RunLemmas.{number_run}
use Rattle.lr_countdown.specs.Run.{countdown_op}
use Rattle.lr_countdown.specs.Stands.{CountdownsStand}

-- a step on the key: the memory was taken, then the moment came, then the key changed
pub countdown_run : (old roomy middle new : Keys) (asked : ℕ) → StaysSame old roomy
    → middle.moment ≡ max roomy.moment asked
    → entry_at middle ≡ live_entries (max roomy.moment asked) (entry_at roomy)
    → new.moment ≡ middle.moment → (name : List ℕ) → IsName name → (call : CountdownCall)
    → (key : List ℕ) → key ≡ key_text Countdown name → ChangesOnly key middle new
    → (r : Reply × Option Post)
    → ((count : ℕ) → entry_at old key ≡ number_entry_of (some_unless_zero count)
    → IsNumberAt amount_limit (entry_at middle key) (some_unless_zero count)
    → IsNumberStep some_unless_zero amount_limit new key r (countdown_call name call count))
    → IsNumberRun CountdownsStand old new (max old.moment asked) (key_text Countdown name) r
    (λ objects. answer objects (max old.moment asked) (countdown_op name call))
countdown_run old roomy middle new asked stays passed left now name named call key is others r steps =
    number_run old roomy middle new asked stays passed left now Countdown name named key is others
    amount_limit some_unless_zero (λ objects. objects.countdowns)
    (λ objects name object.
    record objects { countdowns = put bytes_eq objects.countdowns name object })
    (λ objects object. refl) r (countdown_call name call) steps
