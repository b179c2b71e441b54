-- Channels that are one.
use Rattle.std.proofs.Common.{◌≡◌, ℕ, Bool, true, false, ◌&&◌, ◌==◌, Option, Some, None, refl, ap, sym, ◌∙◌, if◌then◌else◌}
use Rattle.std.specs.Str.{bytes_eq}
use Rattle.std.proofs.lemmas.Slice.Eq.{bytes_eq-Decides}
use Rattle.std.proofs.lemmas.Bool.{and_from}
use Rattle.std.proofs.lemmas.Bool.Decides.{Decides-eqb}
use Rattle.lr_names.specs.Owner.{ThreadOfClient, same_owner}
use Rattle.lr_names.specs.Channel.{ChannelOf}
use Rattle.lr_names.specs.declared.kind.Kind.{Kind}
use Rattle.lr_names.specs.declared.kind.Kind.TheVariants.{Mutex, Fair, Rw, Fenced, Semaphore, Permits, Countdown}
use Rattle.lr_names.specs.contracts.kind.Kind.{the_type}
use denote.Enum.Bare.{sameb}
use denote.Enum.Declared.{tag_of}
use Rattle.lr_names.specs.contracts.channel.ChannelPartialEq.TheImpl.{ghosts}
use Rattle.lr_model.specs.Board.{same_channel, same_queue_owner, kind_number}

-- a test that is true has both its parts true
both : (a b : Bool) → (a && b) ≡ true → (a ≡ true) × (b ≡ true)
both true true e = (refl, refl)
both true false e = absurd (cc e)
both false b e = absurd (cc e)

-- the kind of a number
kind_at : ℕ → Kind
kind_at n = if n == 0 then Mutex else
    (if n == 1 then Fair else
    (if n == 2 then Rw else
    (if n == 3 then Fenced else
    (if n == 4 then Semaphore else (if n == 5 then Permits else Countdown)))))

kind_back : (kind : Kind) → kind_at (kind_number kind) ≡ kind
unfolding kind_at
kind_back Mutex = refl
kind_back Fair = refl
kind_back Rw = refl
kind_back Fenced = refl
kind_back Semaphore = refl
kind_back Permits = refl
kind_back Countdown = refl

kind_is : (a b : Kind) → (kind_number a == kind_number b) ≡ true → a ≡ b
kind_is a b e = sym (kind_back a) ∙ ap kind_at ((Decides-eqb (kind_number a) (kind_number b)).0 e)
    ∙ kind_back b

owner_is : (a b : ThreadOfClient) → same_owner a b ≡ true → a ≡ b
owner_is a b e =
    let parts = both (bytes_eq a.client b.client) (a.thread == b.thread) e in
    let client = (bytes_eq-Decides a.client b.client).0 parts.0 in
    let thread = (Decides-eqb a.thread b.thread).0 parts.1 in
    λ i. record { client = client i; thread = thread i }

owner_self : (a : ThreadOfClient) → same_owner a a ≡ true
owner_self a = ap (λ b. b && (a.thread == a.thread)) ((bytes_eq-Decides a.client a.client).1 refl)
    ∙ (Decides-eqb a.thread a.thread).1 refl

queue_owner_is : (a b : Option ThreadOfClient) → same_queue_owner a b ≡ true → a ≡ b
queue_owner_is None None e = refl
queue_owner_is None (Some b) e = absurd (cc e)
queue_owner_is (Some a) None e = absurd (cc e)
queue_owner_is (Some a) (Some b) e = ap Some (owner_is a b e)

queue_owner_self : (a : Option ThreadOfClient) → same_queue_owner a a ≡ true
queue_owner_self None = refl
queue_owner_self (Some a) = owner_self a

pub same_is : (a b : ChannelOf) → same_channel a b ≡ true → a ≡ b
unfolding same_channel
same_is a b e =
    let parts = both (kind_number a.kind == kind_number b.kind && bytes_eq a.name b.name)
    (same_queue_owner a.owner b.owner) e in
    let more = both (kind_number a.kind == kind_number b.kind) (bytes_eq a.name b.name) parts.0 in
    let kind = kind_is a.kind b.kind more.0 in
    let name = (bytes_eq-Decides a.name b.name).0 more.1 in
    let owner = queue_owner_is a.owner b.owner parts.1 in
    λ i. record { kind = kind i; name = name i; owner = owner i }

pub same_self : (a : ChannelOf) → same_channel a a ≡ true
unfolding same_channel
same_self a =
    and_from (kind_number a.kind == kind_number a.kind && bytes_eq a.name a.name)
    (same_queue_owner a.owner a.owner)
    (and_from (kind_number a.kind == kind_number a.kind) (bytes_eq a.name a.name)
    ((Decides-eqb (kind_number a.kind) (kind_number a.kind)).1 refl)
    ((bytes_eq-Decides a.name a.name).1 refl))
    (queue_owner_self a.owner)

-- whichever comes first
same_back : (a b : ChannelOf) → same_channel a b ≡ true → same_channel b a ≡ true
same_back a b e = ap (same_channel b) (same_is a b e) ∙ same_self b

pub same_symm : (a b : ChannelOf) → same_channel a b ≡ same_channel b a
same_symm a b = by (same_channel a b) (same_channel b a) refl refl
  where
    by : (x y : Bool) → same_channel a b ≡ x → same_channel b a ≡ y → x ≡ y
    by true y e f = sym (same_back a b e) ∙ f
    by false true e f = sym e ∙ same_back b a f
    by false false e f = refl

-- the tag of a kind is its number
kind_tag : (kind : Kind) → tag_of the_type kind ≡ kind_number kind
kind_tag Mutex = refl
kind_tag Fair = refl
kind_tag Rw = refl
kind_tag Fenced = refl
kind_tag Semaphore = refl
kind_tag Permits = refl
kind_tag Countdown = refl

and_assoc : (x y z : Bool) → (x && (y && z)) ≡ ((x && y) && z)
and_assoc true y z = refl
and_assoc false y z = refl

-- the `==` of the type tells the same
pub derived_same : (a b : ChannelOf) → ghosts.eq a b ≡ same_channel a b
unfolding same_channel
derived_same a b = by_owner a.owner b.owner
  where
    by_kind : (z : Bool) → (sameb the_type a.kind b.kind && (bytes_eq a.name b.name && z))
        ≡ ((kind_number a.kind == kind_number b.kind && bytes_eq a.name b.name) && z)
    by_kind z = (λ i. (kind_tag a.kind i == kind_tag b.kind i) && (bytes_eq a.name b.name && z))
        ∙ and_assoc (kind_number a.kind == kind_number b.kind) (bytes_eq a.name b.name) z

    by_owner : (o p : Option ThreadOfClient)
        → ghosts.eq (record { kind = a.kind; name = a.name; owner = o })
        (record { kind = b.kind; name = b.name; owner = p })
        ≡ ((kind_number a.kind == kind_number b.kind && bytes_eq a.name b.name) && same_queue_owner
        o p)
    by_owner None None = by_kind true
    by_owner None (Some p) = by_kind false
    by_owner (Some o) None = by_kind false
    by_owner (Some o) (Some p) = by_kind (same_owner o p)
