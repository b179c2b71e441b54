-- Of expirable permits no more are live at once than were set: the tenures that the replies tell are
-- the leases, as far as both are live, and there are no more leases than the number.
use Rattle.std.proofs.Common.{◌≡◌, ◌≤◌, ℕ, ◌+◌, nat_lt, Bool, true, false, not, List, [], ◌∷◌, length, filter, Option, Some, None, unwrap_or, if◌then◌else◌, refl, sym, ap, ◌∙◌, arith}
use Rattle.std.specs.Str.{bytes_eq}
use Rattle.std.proofs.lemmas.Bool.{cond_both}
use Rattle.std.proofs.lemmas.Bool.Decides.{nat_tests}
use Rattle.lr_limits.specs.Limits.{member_limit}
use Rattle.lr_objects.specs.Op.{call_on}
use Rattle.lr_objects.specs.declared.kinds.Call.{Call}
use Rattle.lr_objects.specs.declared.kinds.Call.TheVariants as kinds
use Rattle.lr_objects.specs.declared.permits.PermitCall.{PermitCall}
use Rattle.lr_objects.specs.declared.permits.PermitCall.TheVariants.{Set, Try, Release, Count}
use Rattle.lr_model.specs.declared.entry.Act.{Act}
use Rattle.lr_model.specs.declared.entry.Act.TheVariants as acts
use Rattle.lr_model.specs.declared.entry.Entry.{Entry}
use Rattle.lr_model.specs.Answer.{Objects, reply_of, objects_after}
use Rattle.lr_model.specs.History.{State, IsLegal, after, objects_by, state_at_start, step}
use Rattle.lr_model.specs.Moment.{is_lease, is_live}
use Rattle.lr_model.specs.Outcome.{Outcome}
use Rattle.lr_model.specs.PermitCounts.{PermitTenures, no_tenures, with_tenure, without_tenure, tenures_by_call, tenures_by_act, tenures_after, NeverMoreThanSet}
use Rattle.lr_model.specs.Permits.{PermitLease, Permits, live_leases, live_permits, is_under, lease_under, without_lease, with_new_lease, set_number, take_permit, take_beside, take_of, give_back_lease, permit_try}
use Rattle.lr_model.specs.Table.{put}
use Rattle.lr_model.proofs.ReadWriteFacts.{length-filter-le}
use Rattle.lr_laws.proofs.ToldLaws.{agrees_here, told_more, told_nothing}

-- ---- filters

-- the order of two filters doesn't matter
filters-swap : (p q : PermitLease → Bool) (xs : List PermitLease)
    → filter p (filter q xs) ≡ filter q (filter p xs)
filters-swap p q [] = refl
filters-swap p q (x ∷ xs) = by (p x) (q x) refl refl (filters-swap p q xs)
  where
    first : (b : Bool) → p x ≡ b → filter p (x ∷ filter q xs)
        ≡ (if b then x ∷ filter p (filter q xs) else filter p (filter q xs))
    first b e = ap (λ c. if c then x ∷ filter p (filter q xs) else filter p (filter q xs)) e

    second : (b : Bool) → q x ≡ b → filter q (x ∷ filter p xs)
        ≡ (if b then x ∷ filter q (filter p xs) else filter q (filter p xs))
    second b e = ap (λ c. if c then x ∷ filter q (filter p xs) else filter q (filter p xs)) e

    by : (a b : Bool) → p x ≡ a → q x ≡ b → filter p (filter q xs) ≡ filter q (filter p xs)
        → filter p (if b then x ∷ filter q xs else filter q xs)
        ≡ filter q (if a then x ∷ filter p xs else filter p xs)
    by true true e f rest = first true e ∙ ap (λ l. x ∷ l) rest ∙ sym (second true f)
    by true false e f rest = rest ∙ sym (second false f)
    by false true e f rest = first false e ∙ rest
    by false false e f rest = rest

-- what is live later is live now
pub live-again : (now moment : ℕ) → now ≤ moment → (leases : List PermitLease)
    → live_leases moment (live_leases now leases) ≡ live_leases moment leases
live-again now moment later [] = refl
live-again now moment later (x ∷ xs) =
    by (is_live x.deadline now) refl (live-again now moment later xs)
  where
    by : (b : Bool) → is_live x.deadline now ≡ b
        → live_leases moment (live_leases now xs) ≡ live_leases moment xs
        → live_leases moment (if b then x ∷ live_leases now xs else live_leases now xs)
        ≡ live_leases moment (x ∷ xs)
    by true e rest = ap (λ l. if is_live x.deadline moment then x ∷ l else l) rest
    by false e rest =
        let gone : is_live x.deadline moment ≡ false = grind (arith, e, later, nat_tests) in
        rest
        ∙ sym (ap (λ c. if c then x ∷ live_leases moment xs else live_leases moment xs) gone)

-- ---- one name

-- what the replies told of permits agrees with them from a moment on
record Agrees (now : ℕ) (told : PermitTenures) (permits : Permits) : Type 0 where
  number : told.number ≡ unwrap_or permits.number 0
  live : (moment : ℕ) → now ≤ moment
      → live_leases moment told.tenures ≡ live_leases moment permits.leases
  few : length permits.leases ≤ told.number

-- and later too
agrees-later : (now later : ℕ) → now ≤ later → (told : PermitTenures) (permits : Permits)
    → Agrees now told permits → Agrees later told permits
agrees-later now later passed told permits agrees = record {
  number = agrees.number;
  live = λ moment after. agrees.live moment (omega (arith, passed, after));
  few = agrees.few;
}

-- and without what has expired
agrees-live : (now : ℕ) (told : PermitTenures) (permits : Permits) → Agrees now told permits
    → Agrees now told (live_permits now permits)
agrees-live now told permits agrees = record {
  number = agrees.number;
  live = λ moment later. agrees.live moment later ∙ sym (live-again now moment later permits.leases);
  few =
      omega (
        arith,
        agrees.few,
        length-filter-le (λ (lease : PermitLease). is_live lease.deadline now) permits.leases,
      );
}

module _ (name : List ℕ) (objects : Objects) (told : PermitTenures) (moment : ℕ)
    (agrees : Agrees moment told (objects.permits name)) (key : List ℕ) where
  abbrev permits : Permits
  permits = objects.permits key

  abbrev live : Permits
  live = live_permits moment permits

  -- after a call on the permits of the key, so answered, they still agree
  abbrev StillAgrees : PermitCall → Outcome Permits → Type 0
  StillAgrees call outcome =
      Agrees moment (tenures_by_call name moment key (kinds.Permits call) outcome.reply told)
      (put bytes_eq objects.permits key outcome.object name)

  -- what is known of the permits before the call, where it is on these
  known : bytes_eq name key ≡ true → Agrees moment told permits
  known = agrees_here (Agrees moment) objects.permits name key told agrees

  known_live : bytes_eq name key ≡ true → Agrees moment told live
  known_live here = agrees-live moment told permits (known here)

  -- the reply tells more of them, or nothing
  more : (now : PermitTenures) (object : Permits)
      → (bytes_eq name key ≡ true → Agrees moment now object)
      → Agrees moment (if bytes_eq name key then now else told)
      (put bytes_eq objects.permits key object name)
  more = told_more (Agrees moment) objects.permits name key told agrees

  nothing : Agrees moment told (put bytes_eq objects.permits key live name)
  nothing = told_nothing (Agrees moment) objects.permits name key told agrees live known_live

  -- setting the number, taking, and giving back
  set : (number : ℕ) (now : Option ℕ) → live.number ≡ now
      → StillAgrees (Set number) (set_number key number live now)
  set number None none =
      more (record told { number = number }) (record live { number = Some number }) (λ here.
      let was = known_live here in
      record {
        number = refl;
        live = was.live;
        few =
            let zero : told.number ≡ 0 = was.number ∙ ap (λ o. unwrap_or o 0) none in
            omega (arith, was.few, zero);
      })
  set number (Some now) is = nothing

  module _ (id : List ℕ) (lease : ℕ) where
    taken : (number : ℕ) → live.number ≡ Some number
        → StillAgrees (Try id lease) (take_permit moment id lease live number)
    taken number is =
        cond_both (nat_lt (length live.leases) number) _ _ (StillAgrees (Try id lease))
        (λ free. cond_both (nat_lt (length live.leases) member_limit) _ _
        (StillAgrees (Try id lease))
        (λ room. more (with_tenure id (moment + lease) told)
        (with_new_lease id (moment + lease) live) (λ here.
        let was = known_live here in
        record {
          number = was.number;
          live = λ later after.
              ap (λ l. if is_live (moment + lease) later
              then record { id = id; deadline = moment + lease } ∷ l else l) (was.live later after);
          few =
              let all : told.number ≡ number = was.number ∙ ap (λ o. unwrap_or o 0) is in
              grind (arith, nat_tests, free, all);
        }))
        (λ full. nothing)) (λ none. nothing)

    beside : (number : ℕ) → live.number ≡ Some number → (own : Option PermitLease)
        → StillAgrees (Try id lease) (take_beside moment id lease live number own)
    beside number is (Some own) = nothing
    beside number is None = taken number is

    by_number : (now : Option ℕ) → live.number ≡ now
        → StillAgrees (Try id lease) (take_of moment id lease live now)
    by_number None none = nothing
    by_number (Some number) is = beside number is (lease_under id live.leases)

    tried : StillAgrees (Try id lease) (permit_try moment id lease permits)
    tried =
        cond_both (is_lease lease) _ _ (StillAgrees (Try id lease))
        (λ good. by_number live.number refl)
        (λ bad. told_nothing (Agrees moment) objects.permits name key told agrees permits known)

  released : (id : List ℕ) (own : Option PermitLease)
      → StillAgrees (Release id) (give_back_lease key id live own)
  released id None = nothing
  released id (Some own) =
      more (without_tenure id told) (record live { leases = without_lease id live.leases }) (λ here.
      let was = known_live here in
      let other : PermitLease → Bool = λ lease. not (is_under id lease) in
      record {
        number = was.number;
        live = λ later after.
            let is : PermitLease → Bool = λ lease. is_live lease.deadline later in
            filters-swap is other told.tenures ∙ ap (without_lease id) (was.live later after)
            ∙ sym (filters-swap is other live.leases);
        few = omega (arith, was.few, length-filter-le other live.leases);
      })

module _ (name : List ℕ) where
  -- what was told of the name agrees with the objects from a moment on
  abbrev AgreesWith : ℕ → PermitTenures → Objects → Type 0
  AgreesWith now told objects = Agrees now told (objects.permits name)

  kept : (moment : ℕ) (key : List ℕ) (call : Call) (told : PermitTenures) (objects : Objects)
      → AgreesWith moment told objects
      → AgreesWith moment
      (tenures_by_call name moment key call (reply_of objects moment (call_on key call)) told)
      (objects_after objects moment (call_on key call))
  kept moment key (kinds.Permits (Set number)) told objects agrees =
      set name objects told moment agrees key number (objects.permits key).number refl
  kept moment key (kinds.Permits (Try id lease)) told objects agrees =
      tried name objects told moment agrees key id lease
  kept moment key (kinds.Permits (Release id)) told objects agrees =
      released name objects told moment agrees key id
      (lease_under id (live_leases moment (objects.permits key).leases))
  kept moment key (kinds.Permits Count) told objects agrees =
      nothing name objects told moment agrees key
  -- a call on an object of another kind
  kept moment key call told objects agrees = agrees

  by_act : (state : State) (moment : ℕ) (act : Act) (told : PermitTenures)
      → AgreesWith moment told state.objects
      → AgreesWith moment (tenures_by_act name state moment act told) (objects_by state moment act)
  by_act state moment (acts.Call op) told agrees =
      kept moment op.name op.call told state.objects agrees
  by_act state moment _ told agrees = agrees

  by_history : (entries : List Entry) (state : State) (told : PermitTenures)
      → IsLegal state entries → AgreesWith state.moment told state.objects
      → AgreesWith (after state entries).moment (tenures_after name state entries told)
      (after state entries).objects
  by_history [] state told legal agrees = agrees
  by_history (entry ∷ entries) state told legal agrees =
      by_history entries (step state entry)
      (tenures_by_act name state entry.moment entry.act told) legal.1
      (by_act state entry.moment entry.act told
      (agrees-later state.moment entry.moment legal.0.in_time told (state.objects.permits name)
      agrees))

-- so of what was set no more is live
pub never_more_than_set : (last : ℕ) (entries : List Entry) → IsLegal (state_at_start last) entries
    → NeverMoreThanSet (state_at_start last) entries
never_more_than_set last entries legal name moment later =
    let start : State = state_at_start last in
    let agrees = by_history name entries start no_tenures legal
    (record { number = refl; live = λ at passed. refl; few = omega arith }) in
    let leases : List PermitLease = ((after start entries).objects.permits name).leases in
    let same = ap (λ (l : List PermitLease). length l) (agrees.live moment later) in
    omega (
      arith,
      same,
      length-filter-le (λ (lease : PermitLease). is_live lease.deadline moment) leases,
      agrees.few,
    )
