-- What functions are given, and its words.
use Rattle.std.proofs.Common.{◌≡◌, ℕ, ◌<◌, ◌≤◌, ◌^◌, Bool, true, false, List, [], ◌∷◌, length, get_or, decimal, refl, ap, ◌∙◌, arith}
use Rattle.std.specs.List.{AllByRecursion}
use Rattle.std.proofs.lemmas.Fmt.{decimal_injective}
use Rattle.lr_names.specs.Owner.{ThreadOfClient, IsId, IsOwner, id_text, owner_text}
use Rattle.lr_names.proofs.OwnerLaws.{id_text-injective, owner_text-injective, length-id_text, length-owner_text}
use Rattle.lr_text.proofs.NumberLaws.{length-decimal}
use Rattle.lr_objects.specs.declared.access.Access.{Access}
use Rattle.lr_objects.specs.declared.access.Access.TheVariants.{Read, Write}
use Rattle.lr_objects.specs.declared.kinds.Call.{Call}
use Rattle.lr_objects.specs.declared.kinds.Call.TheVariants as kinds
use Rattle.lr_objects.specs.declared.lock.LockCall.TheVariants as lock
use Rattle.lr_objects.specs.declared.fair.FairCall.TheVariants as fair
use Rattle.lr_objects.specs.declared.read_write.ReadWriteCall.TheVariants as read_write
use Rattle.lr_objects.specs.declared.fenced.FencedCall.TheVariants as fenced
use Rattle.lr_objects.specs.declared.semaphore.SemaphoreCall.TheVariants as semaphore
use Rattle.lr_objects.specs.declared.permits.PermitCall.TheVariants as permit
use Rattle.lr_objects.specs.declared.countdown.CountdownCall.TheVariants as countdown
use Rattle.lr_objects.specs.Amount.{IsAmount}
use Rattle.lr_objects.specs.Kinds.{IsCallOfKind}
use Rattle.lr_frames.specs.declared.given.Given.{Given}
use Rattle.lr_frames.specs.declared.shape.Shape.{Shape}
use Rattle.lr_frames.specs.declared.shape.Shape.TheVariants.{Nothing, Owner, OwnerLease, OwnerLeaseQueue, OwnerModeLease, Number, Id, IdLease}
use Rattle.lr_frames.specs.Faults.{IsNamed, IsNumbered, Fits}
use Rattle.lr_frames.specs.Given.{owned, given_nothing, given_owner, given_lease, given_number, given_id, given_words, queue_word, access_word}
use Rattle.lr_frames.specs.Read.{IsGiven}
use Rattle.lr_frames.specs.Said.{call_said}
use Rattle.lr_frames.specs.Shape.{shape_of}
use Rattle.lr_frames.specs.Words.{word_at}

-- the parts that a function with this shape is given are such
abbrev pub IsSound : Shape → Given → Type 0
IsSound Nothing given = Unit {0}
IsSound Owner given = IsOwner given.owner
IsSound OwnerLease given = IsOwner given.owner × (given.lease < 2 ^ 64)
IsSound OwnerLeaseQueue given = IsOwner given.owner × (given.lease < 2 ^ 64)
IsSound OwnerModeLease given = IsOwner given.owner × (given.lease < 2 ^ 64)
IsSound Number given = IsAmount given.number
IsSound Id given = IsId given.id
IsSound IdLease given = IsId given.id × (given.lease < 2 ^ 64)

-- these parts alone
abbrev pub parts_of : Shape → Given → Given
parts_of Nothing given = given_nothing
parts_of Owner given = given_owner given.owner
parts_of OwnerLease given = given_lease given.owner given.lease
parts_of OwnerLeaseQueue given = owned given.owner given.lease given.queue Read
parts_of OwnerModeLease given = owned given.owner given.lease false given.access
parts_of Number given = given_number given.number
parts_of Id given = given_id given.id 0
parts_of IdLease given = given_id given.id given.lease

-- what a call says is sound, and has no other parts
pub call_sound : (call : Call) → IsCallOfKind call → (call_said call).given.lease < 2 ^ 64
    → IsSound (shape_of (call_said call).function) (call_said call).given
call_sound (kinds.Lock (lock.Try owner lease)) is small = (is, small)
call_sound (kinds.Lock (lock.Unlock owner rest)) is small = (is, small)
call_sound (kinds.Lock (lock.Renew owner lease)) is small = (is, small)
call_sound (kinds.Lock lock.Force) is small = tt
call_sound (kinds.Fair (fair.Try owner lease queue)) is small = (is, small)
call_sound (kinds.Fair (fair.Unlock owner rest)) is small = (is, small)
call_sound (kinds.Fair (fair.Leave owner)) is small = is
call_sound (kinds.Fair (fair.Renew owner lease)) is small = (is, small)
call_sound (kinds.ReadWrite (read_write.Take Read owner lease)) is small = (is, small)
call_sound (kinds.ReadWrite (read_write.Take Write owner lease)) is small = (is, small)
call_sound (kinds.ReadWrite (read_write.Unlock Read owner rest)) is small = (is, small)
call_sound (kinds.ReadWrite (read_write.Unlock Write owner rest)) is small = (is, small)
call_sound (kinds.ReadWrite (read_write.Renew access owner lease)) is small = (is, small)
call_sound (kinds.Fenced (fenced.Try owner lease)) is small = (is, small)
call_sound (kinds.Fenced (fenced.Unlock owner rest)) is small = (is, small)
call_sound (kinds.Fenced (fenced.Renew owner lease)) is small = (is, small)
call_sound (kinds.Fenced fenced.Token) is small = tt
call_sound (kinds.Semaphore (semaphore.Set number)) is small = is
call_sound (kinds.Semaphore (semaphore.Try number)) is small = is
call_sound (kinds.Semaphore (semaphore.Release number)) is small = is
call_sound (kinds.Semaphore semaphore.Count) is small = tt
call_sound (kinds.Permits (permit.Set number)) is small = is
call_sound (kinds.Permits (permit.Try id lease)) is small = (is, small)
call_sound (kinds.Permits (permit.Release id)) is small = is
call_sound (kinds.Permits permit.Count) is small = tt
call_sound (kinds.Countdown (countdown.Set number)) is small = is
call_sound (kinds.Countdown countdown.Down) is small = tt
call_sound (kinds.Countdown countdown.Count) is small = tt

pub call_parts : (call : Call)
    → (call_said call).given ≡ parts_of (shape_of (call_said call).function) (call_said call).given
call_parts (kinds.Lock lock.Force) = refl
call_parts (kinds.Fair (fair.Leave owner)) = refl
call_parts (kinds.ReadWrite (read_write.Take Read owner lease)) = refl
call_parts (kinds.ReadWrite (read_write.Unlock Read owner lease)) = refl
call_parts (kinds.Fenced fenced.Token) = refl
call_parts (kinds.Semaphore semaphore.Count) = refl
call_parts (kinds.Permits permit.Count) = refl
call_parts (kinds.Countdown countdown.Count) = refl
call_parts _ = refl

-- The same words are of the same parts.

queue_word-injective : (a b : Bool) → queue_word a ≡ queue_word b → a ≡ b
queue_word-injective true true same = refl
queue_word-injective false false same = refl
queue_word-injective true false same = absurd (omega (arith, ap (λ (l : List ℕ). get_or l 0 0) same))
queue_word-injective false true same = absurd (omega (arith, ap (λ (l : List ℕ). get_or l 0 0) same))

access_word-injective : (a b : Access) → access_word a ≡ access_word b → a ≡ b
access_word-injective Read Read same = refl
access_word-injective Write Write same = refl
access_word-injective Read Write same = absurd (omega (arith, ap (λ (l : List ℕ). get_or l 0 0) same))
access_word-injective Write Read same = absurd (omega (arith, ap (λ (l : List ℕ). get_or l 0 0) same))

at : (place : ℕ) (xs ys : List (List ℕ)) → xs ≡ ys → word_at xs place ≡ word_at ys place
at place xs ys same = ap (λ (l : List (List ℕ)). word_at l place) same

pub same_parts : (shape : Shape) (g h : Given) → IsSound shape g → IsSound shape h
    → given_words shape g ≡ given_words shape h → parts_of shape g ≡ parts_of shape h
same_parts Nothing g h in_g in_h same = refl
same_parts Owner g h in_g in_h same =
    ap given_owner (owner_text-injective g.owner h.owner in_g in_h (at 0 _ _ same))
same_parts OwnerLease g h in_g in_h same =
    let owner = owner_text-injective g.owner h.owner in_g.0 in_h.0 (at 0 _ _ same) in
    let lease = decimal_injective g.lease h.lease in_g.1 in_h.1 (at 1 _ _ same) in
    ap (λ (o : ThreadOfClient). given_lease o g.lease) owner ∙ ap (λ (n : ℕ). given_lease h.owner n) lease
same_parts OwnerLeaseQueue g h in_g in_h same =
    let owner = owner_text-injective g.owner h.owner in_g.0 in_h.0 (at 0 _ _ same) in
    let lease = decimal_injective g.lease h.lease in_g.1 in_h.1 (at 1 _ _ same) in
    let queue = queue_word-injective g.queue h.queue (at 2 _ _ same) in
    ap (λ (o : ThreadOfClient). owned o g.lease g.queue Read) owner
    ∙ ap (λ (n : ℕ). owned h.owner n g.queue Read) lease
    ∙ ap (λ (b : Bool). owned h.owner h.lease b Read) queue
same_parts OwnerModeLease g h in_g in_h same =
    let owner = owner_text-injective g.owner h.owner in_g.0 in_h.0 (at 0 _ _ same) in
    let access = access_word-injective g.access h.access (at 1 _ _ same) in
    let lease = decimal_injective g.lease h.lease in_g.1 in_h.1 (at 2 _ _ same) in
    ap (λ (o : ThreadOfClient). owned o g.lease false g.access) owner
    ∙ ap (λ (n : ℕ). owned h.owner n false g.access) lease
    ∙ ap (λ (a : Access). owned h.owner h.lease false a) access
same_parts Number g h in_g in_h same =
    ap given_number (decimal_injective g.number h.number (omega (arith, in_g.1)) (omega (arith, in_h.1)) (at 0 _ _ same))
same_parts Id g h in_g in_h same =
    ap (λ (i : List ℕ). given_id i 0) (id_text-injective g.id h.id in_g in_h (at 0 _ _ same))
same_parts IdLease g h in_g in_h same =
    let id = id_text-injective g.id h.id in_g.0 in_h.0 (at 0 _ _ same) in
    let lease = decimal_injective g.lease h.lease in_g.1 in_h.1 (at 1 _ _ same) in
    ap (λ (i : List ℕ). given_id i g.lease) id ∙ ap (λ (n : ℕ). given_id h.id n) lease

-- The words of what is given have no fault.

pub words_fit : (shape : Shape) (name : List ℕ) (given : Given) → Fits shape (name ∷ given_words shape given)
words_fit Nothing name given = refl
words_fit Owner name given = refl
words_fit OwnerLease name given = refl
words_fit OwnerLeaseQueue name given = refl
words_fit OwnerModeLease name given = refl
words_fit Number name given = refl
words_fit Id name given = refl
words_fit IdLease name given = refl

pub words_named : (shape : Shape) (name : List ℕ) (given : Given) → IsSound shape given
    → IsNamed shape (name ∷ given_words shape given)
words_named Nothing name given is = tt
words_named Owner name given is = (given.owner, is, refl)
words_named OwnerLease name given is = (given.owner, is.0, refl)
words_named OwnerLeaseQueue name given is = (given.owner, is.0, refl)
words_named OwnerModeLease name given is = (given.owner, is.0, refl)
words_named Number name given is = tt
words_named Id name given is = (given.id, is, refl)
words_named IdLease name given is = (given.id, is.0, refl)

pub words_numbered : (shape : Shape) (name : List ℕ) (given : Given) → IsSound shape given
    → IsNumbered shape (name ∷ given_words shape given)
words_numbered Nothing name given is = tt
words_numbered Owner name given is = tt
words_numbered OwnerLease name given is = (given.lease, is.1, refl)
words_numbered OwnerLeaseQueue name given is = ((given.lease, is.1, refl), (given.queue, refl))
words_numbered OwnerModeLease name given is = ((given.access, refl), (given.lease, is.1, refl))
words_numbered Number name given is = (given.number, is, refl)
words_numbered Id name given is = tt
words_numbered IdLease name given is = (given.lease, is.1, refl)

owner_brief : (owner : ThreadOfClient) → IsOwner owner → length (owner_text owner) ≤ 64
owner_brief owner is = omega (arith, length-owner_text owner is.thread)

id_brief : (id : List ℕ) → length (id_text id) ≤ 64
id_brief id = omega (arith, length-id_text id)

number_brief : (number : ℕ) → number < 2 ^ 64 → length (decimal number) ≤ 64
number_brief number small = omega (arith, (length-decimal number small).1)

queue_brief : (queue : Bool) → length (queue_word queue) ≤ 64
queue_brief true = omega arith
queue_brief false = omega arith

access_brief : (access : Access) → length (access_word access) ≤ 64
access_brief Read = omega arith
access_brief Write = omega arith

-- Words that were read one by one are those of what is given.

pub are_words : (shape : Shape) (words : List (List ℕ)) (given : Given) → Fits shape words
    → IsGiven shape words given → words ≡ word_at words 0 ∷ given_words shape given
are_words Nothing (a ∷ []) given fits is = refl
are_words Owner (a ∷ b ∷ []) given fits is = ap (λ (l : List ℕ). a ∷ l ∷ []) is
are_words OwnerLease (a ∷ b ∷ c ∷ []) given fits is =
    ap (λ (l : List ℕ). a ∷ l ∷ c ∷ []) is.0
    ∙ ap (λ (l : List ℕ). a ∷ owner_text given.owner ∷ l ∷ []) is.1
are_words OwnerLeaseQueue (a ∷ b ∷ c ∷ d ∷ []) given fits is =
    ap (λ (l : List ℕ). a ∷ l ∷ c ∷ d ∷ []) is.0
    ∙ ap (λ (l : List ℕ). a ∷ owner_text given.owner ∷ l ∷ d ∷ []) is.1
    ∙ ap (λ (l : List ℕ). a ∷ owner_text given.owner ∷ decimal given.lease ∷ l ∷ []) is.2
are_words OwnerModeLease (a ∷ b ∷ c ∷ d ∷ []) given fits is =
    ap (λ (l : List ℕ). a ∷ l ∷ c ∷ d ∷ []) is.0
    ∙ ap (λ (l : List ℕ). a ∷ owner_text given.owner ∷ l ∷ d ∷ []) is.1
    ∙ ap (λ (l : List ℕ). a ∷ owner_text given.owner ∷ access_word given.access ∷ l ∷ []) is.2
are_words Number (a ∷ b ∷ []) given fits is = ap (λ (l : List ℕ). a ∷ l ∷ []) is
are_words Id (a ∷ b ∷ []) given fits is = ap (λ (l : List ℕ). a ∷ l ∷ []) is
are_words IdLease (a ∷ b ∷ c ∷ []) given fits is =
    ap (λ (l : List ℕ). a ∷ l ∷ c ∷ []) is.0
    ∙ ap (λ (l : List ℕ). a ∷ id_text given.id ∷ l ∷ []) is.1
are_words Nothing [] given fits is = absurd (omega (arith, fits))
are_words Nothing (a ∷ b ∷ l) given fits is = absurd (omega (arith, fits))
are_words Owner [] given fits is = absurd (omega (arith, fits))
are_words Owner (a ∷ []) given fits is = absurd (omega (arith, fits))
are_words Owner (a ∷ b ∷ c ∷ l) given fits is = absurd (omega (arith, fits))
are_words OwnerLease [] given fits is = absurd (omega (arith, fits))
are_words OwnerLease (a ∷ []) given fits is = absurd (omega (arith, fits))
are_words OwnerLease (a ∷ b ∷ []) given fits is = absurd (omega (arith, fits))
are_words OwnerLease (a ∷ b ∷ c ∷ d ∷ l) given fits is = absurd (omega (arith, fits))
are_words OwnerLeaseQueue [] given fits is = absurd (omega (arith, fits))
are_words OwnerLeaseQueue (a ∷ []) given fits is = absurd (omega (arith, fits))
are_words OwnerLeaseQueue (a ∷ b ∷ []) given fits is = absurd (omega (arith, fits))
are_words OwnerLeaseQueue (a ∷ b ∷ c ∷ []) given fits is = absurd (omega (arith, fits))
are_words OwnerLeaseQueue (a ∷ b ∷ c ∷ d ∷ e ∷ l) given fits is = absurd (omega (arith, fits))
are_words OwnerModeLease [] given fits is = absurd (omega (arith, fits))
are_words OwnerModeLease (a ∷ []) given fits is = absurd (omega (arith, fits))
are_words OwnerModeLease (a ∷ b ∷ []) given fits is = absurd (omega (arith, fits))
are_words OwnerModeLease (a ∷ b ∷ c ∷ []) given fits is = absurd (omega (arith, fits))
are_words OwnerModeLease (a ∷ b ∷ c ∷ d ∷ e ∷ l) given fits is = absurd (omega (arith, fits))
are_words Number [] given fits is = absurd (omega (arith, fits))
are_words Number (a ∷ []) given fits is = absurd (omega (arith, fits))
are_words Number (a ∷ b ∷ c ∷ l) given fits is = absurd (omega (arith, fits))
are_words Id [] given fits is = absurd (omega (arith, fits))
are_words Id (a ∷ []) given fits is = absurd (omega (arith, fits))
are_words Id (a ∷ b ∷ c ∷ l) given fits is = absurd (omega (arith, fits))
are_words IdLease [] given fits is = absurd (omega (arith, fits))
are_words IdLease (a ∷ []) given fits is = absurd (omega (arith, fits))
are_words IdLease (a ∷ b ∷ []) given fits is = absurd (omega (arith, fits))
are_words IdLease (a ∷ b ∷ c ∷ d ∷ l) given fits is = absurd (omega (arith, fits))

-- They are brief.
pub given_brief : (shape : Shape) (given : Given) → IsSound shape given
    → (length (given_words shape given) ≤ 3) × AllByRecursion (λ text. length text ≤ 64) (given_words shape given)
given_brief Nothing given is = (omega arith, tt)
given_brief Owner given is = (omega arith, (owner_brief given.owner is, tt))
given_brief OwnerLease given is =
    (omega arith, (owner_brief given.owner is.0, (number_brief given.lease is.1, tt)))
given_brief OwnerLeaseQueue given is =
    (omega arith, (owner_brief given.owner is.0, (number_brief given.lease is.1, (queue_brief given.queue, tt))))
given_brief OwnerModeLease given is =
    (omega arith, (owner_brief given.owner is.0, (access_brief given.access, (number_brief given.lease is.1, tt))))
given_brief Number given is = (omega arith, (number_brief given.number (omega (arith, is.1)), tt))
given_brief Id given is = (omega arith, (id_brief given.id, tt))
given_brief IdLease given is =
    (omega arith, (id_brief given.id, (number_brief given.lease is.1, tt)))
