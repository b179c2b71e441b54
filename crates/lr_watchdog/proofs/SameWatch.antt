-- Watched holds that are one.
use Rattle.std.proofs.Common.{◌≡◌, ℕ, Bool, true, false, ◌&&◌, ◌==◌, refl, ap, sym, ◌∙◌, if◌then◌else◌}
use Rattle.std.specs.Cmp.{IsEquivalence}
use Rattle.std.specs.Str.{bytes_eq}
use Rattle.std.proofs.lemmas.Slice.Eq.{bytes_eq-Decides}
use Rattle.std.proofs.lemmas.Bool.{and_from}
use Rattle.std.proofs.lemmas.Bool.Decides.{Decides-eqb}
use Rattle.lr_names.specs.Owner.{ThreadOfClient, same_owner}
use Rattle.lr_waiting.specs.declared.watch.WatchKey.{WatchKey}
use Rattle.lr_waiting.specs.declared.watch.WatchKind.{WatchKind}
use Rattle.lr_waiting.specs.declared.watch.WatchKind.TheVariants.{Lock, Fair, Fenced, Read, Write}
use Rattle.lr_waiting.specs.contracts.watch.WatchKind.{the_type}
use Rattle.lr_waiting.specs.contracts.watch.WatchKeyPartialEq.TheImpl.{ghosts}
use Rattle.lr_waiting.specs.Watchdog.{same_watch, watch_number}
use denote.Enum.Declared.{tag_of}

-- a test that is true has both its parts true
both : (a b : Bool) → (a && b) ≡ true → (a ≡ true) × (b ≡ true)
both true true e = (refl, refl)
both true false e = absurd (cc e)
both false b e = absurd (cc e)

-- the kind of a number
kind_at : ℕ → WatchKind
kind_at n = if n == 0 then Lock else
    (if n == 1 then Fair else (if n == 2 then Fenced else (if n == 3 then Read else Write)))

kind_back : (kind : WatchKind) → kind_at (watch_number kind) ≡ kind
unfolding kind_at
kind_back Lock = refl
kind_back Fair = refl
kind_back Fenced = refl
kind_back Read = refl
kind_back Write = refl

kind_is : (a b : WatchKind) → (watch_number a == watch_number b) ≡ true → a ≡ b
kind_is a b e = sym (kind_back a)
    ∙ ap kind_at ((Decides-eqb (watch_number a) (watch_number b)).0 e) ∙ kind_back b

owner_is : (a b : ThreadOfClient) → same_owner a b ≡ true → a ≡ b
owner_is a b e =
    let parts = both (bytes_eq a.client b.client) (a.thread == b.thread) e in
    let client = (bytes_eq-Decides a.client b.client).0 parts.0 in
    let thread = (Decides-eqb a.thread b.thread).0 parts.1 in
    λ i. record { client = client i; thread = thread i }

owner_self : (a : ThreadOfClient) → same_owner a a ≡ true
owner_self a = ap (λ b. b && (a.thread == a.thread)) ((bytes_eq-Decides a.client a.client).1 refl)
    ∙ (Decides-eqb a.thread a.thread).1 refl

pub same_is : (a b : WatchKey) → same_watch a b ≡ true → a ≡ b
unfolding same_watch
same_is a b e =
    let parts = both (same_owner a.owner b.owner && watch_number a.kind == watch_number b.kind)
    (bytes_eq a.name b.name) e in
    let more = both (same_owner a.owner b.owner) (watch_number a.kind == watch_number b.kind)
    parts.0 in
    let owner = owner_is a.owner b.owner more.0 in
    let kind = kind_is a.kind b.kind more.1 in
    let name = (bytes_eq-Decides a.name b.name).0 parts.1 in
    λ i. record { owner = owner i; kind = kind i; name = name i }

pub same_self : (a : WatchKey) → same_watch a a ≡ true
unfolding same_watch
same_self a =
    and_from (same_owner a.owner a.owner && watch_number a.kind == watch_number a.kind)
    (bytes_eq a.name a.name)
    (and_from (same_owner a.owner a.owner) (watch_number a.kind == watch_number a.kind)
    (owner_self a.owner) ((Decides-eqb (watch_number a.kind) (watch_number a.kind)).1 refl))
    ((bytes_eq-Decides a.name a.name).1 refl)

-- whichever comes first
same_back : (a b : WatchKey) → same_watch a b ≡ true → same_watch b a ≡ true
same_back a b e = ap (same_watch b) (same_is a b e) ∙ same_self b

pub same_symm : (a b : WatchKey) → same_watch a b ≡ same_watch b a
same_symm a b = by (same_watch a b) (same_watch b a) refl refl
  where
    by : (x y : Bool) → same_watch a b ≡ x → same_watch b a ≡ y → x ≡ y
    by true y e f = sym (same_back a b e) ∙ f
    by false true e f = sym e ∙ same_back b a f
    by false false e f = refl

-- the tag of a kind is its number
kind_tag : (kind : WatchKind) → tag_of the_type kind ≡ watch_number kind
kind_tag Lock = refl
kind_tag Fair = refl
kind_tag Fenced = refl
kind_tag Read = refl
kind_tag Write = refl

and_assoc : (x y z : Bool) → (x && (y && z)) ≡ ((x && y) && z)
and_assoc true y z = refl
and_assoc false y z = refl

-- the `==` of the type tells the same
pub derived_same : (a b : WatchKey) → ghosts.eq a b ≡ same_watch a b
unfolding same_watch
derived_same a b =
    (λ i. same_owner a.owner b.owner
    && ((kind_tag a.kind i == kind_tag b.kind i) && bytes_eq a.name b.name))
    ∙ and_assoc (same_owner a.owner b.owner) (watch_number a.kind == watch_number b.kind)
    (bytes_eq a.name b.name)

-- so it is an equivalence
pub watch_keys_equiv : IsEquivalence ghosts.eq
watch_keys_equiv = record {
  refl = λ a. derived_same a a ∙ same_self a;
  symm = λ a b. derived_same a b ∙ same_symm a b ∙ sym (derived_same b a);
  congr = λ a b c e. ap (λ k. ghosts.eq k c) (same_is a b (sym (derived_same a b) ∙ e));
}
