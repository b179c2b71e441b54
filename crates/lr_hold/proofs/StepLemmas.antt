-- The steps on the key of a hold, by how many times their owner holds it.
use Rattle.std.proofs.Common.{◌≡◌, ◌≤◌, ◌<◌, ◌+◌, ◌-◌, ◌==◌, ℕ, ℤ, pos, ◌+ℤ◌, negsuc, Bool, true, false, cond, IsTrue, List, Option, Some, None, is_some, refl, ap, sym, subst, ◌∙◌, arith}
use Rattle.std.proofs.lemmas.Bool.Decides.{nat_tests}
use Rattle.std.proofs.lemmas.Int.{ints}
use Rattle.lr_limits.specs.Limits.{hold_limit, last_moment, longest_lease, never}
use Rattle.lr_names.specs.Owner.{ThreadOfClient, IsOwner, owner_text, same_owner}
use Rattle.lr_names.specs.declared.post.Post.{Post}
use Rattle.lr_keys.specs.FieldMap.{is_i64}
use Rattle.lr_keys.specs.KeySpace.{KeyEntry, Keys, entry_at}
use Rattle.lr_keys.specs.Table.{with_key}
use Rattle.lr_keys.proofs.TableLaws.{with_key-same}
use Rattle.lr_objects.specs.declared.reply.Reply.{Reply}
use Rattle.lr_objects.specs.declared.reply.Reply.TheVariants.{Granted, Busy, Kept, Freed, NotHeld, Renewed, Lost, TooDeep}
use Rattle.lr_model.specs.declared.hold.Hold.{Hold}
use Rattle.lr_model.specs.Hold.{take_hold, give_back_hold, renew_hold, holding, freeing}
use Rattle.lr_model.specs.Moment.{is_lease}
use Rattle.lr_model.specs.Outcome.{Outcome, silent_outcome}
use Rattle.lr_hold.specs.Holds.{IsHold, expiry_of, hold_entry}
use Rattle.lr_hold.specs.Step.{IsLiveHold, IsHeld, IsHoldStep, hold_count, one_field}
use Rattle.lr_hold.proofs.CountLemmas.{same_owners}

-- What the functions make of a hold.
module _ (moment : ℕ) (owner : ThreadOfClient) where
  -- another who takes it, and the owner, who may hold it as often as is allowed already
  abbrev taken : ℕ → Hold → Bool → Bool → Outcome (Option Hold)
  taken lease hold mine full =
      cond mine (cond full (silent_outcome TooDeep (Some hold))
      (holding Granted owner (hold.count + 1) (moment + lease)))
      (silent_outcome (Busy (hold.deadline - moment)) (Some hold))

  -- another who gives it back, and the owner, who may have it for the last time
  abbrev given_back : Option Post → ℕ → Hold → Bool → Bool → Outcome (Option Hold)
  given_back post rest hold mine last =
      cond mine (cond last (freeing post) (holding Kept owner (hold.count - 1) (moment + rest)))
      (silent_outcome NotHeld (Some hold))

  -- the owner holds it as often as is allowed
  take_hold-full : (lease : ℕ) (held : Option Hold) → IsLiveHold moment held
      → hold_limit ≤ hold_count owner held
      → take_hold moment owner lease held ≡ silent_outcome TooDeep held
  take_hold-full lease None live many = absurd (omega arith)
  take_hold-full lease (Some hold) live many = by (same_owner hold.owner owner) many
    where
      full : hold_limit ≤ hold.count → (hold.count == hold_limit) ≡ true
      full many = let most = (live.within hold refl).most in grind (arith, nat_tests)

      by : (s : Bool) → hold_limit ≤ cond s hold.count 0
          → taken lease hold s (hold.count == hold_limit) ≡ silent_outcome TooDeep (Some hold)
      by true many = ap (taken lease hold true) (full many)
      by false many = absurd (omega arith)

  -- another holds it
  take_hold-other : (lease : ℕ) (hold : Hold) → IsHold hold → hold_count owner (Some hold) ≡ 0
      → take_hold moment owner lease (Some hold)
      ≡ silent_outcome (Busy (hold.deadline - moment)) (Some hold)
  take_hold-other lease hold within none = by (same_owner hold.owner owner) none
    where
      by : (s : Bool) → cond s hold.count 0 ≡ 0 → taken lease hold s (hold.count == hold_limit)
          ≡ silent_outcome (Busy (hold.deadline - moment)) (Some hold)
      by true none = let some = within.some in absurd (omega arith)
      by false none = refl

  -- the owner takes it once more
  take_hold-more : (lease : ℕ) (hold : Hold) → same_owner hold.owner owner ≡ true
      → hold.count < hold_limit → take_hold moment owner lease (Some hold)
      ≡ holding Granted owner (hold.count + 1) (moment + lease)
  take_hold-more lease hold mine few =
      let more : (hold.count == hold_limit) ≡ false = grind (arith, nat_tests) in
      ap (λ b. taken lease hold b (hold.count == hold_limit)) mine ∙ ap (taken lease hold true) more

  -- the owner gives the last hold back
  give_back_hold-last : (post : Option Post) (rest : ℕ) (held : Option Hold)
      → hold_count owner held ≡ 1 → give_back_hold post moment owner rest held ≡ freeing post
  give_back_hold-last post rest None one = absurd (omega arith)
  give_back_hold-last post rest (Some hold) one = by (same_owner hold.owner owner) one
    where
      by : (s : Bool) → cond s hold.count 0 ≡ 1
          → given_back post rest hold s (hold.count == 1) ≡ freeing post
      by true one =
          let last : (hold.count == 1) ≡ true = grind (arith, nat_tests) in
          ap (given_back post rest hold true) last
      by false one = absurd (omega arith)

  -- the owner gives one of several holds back
  give_back_hold-more : (post : Option Post) (rest : ℕ) (hold : Hold)
      → same_owner hold.owner owner ≡ true → 1 < hold.count
      → give_back_hold post moment owner rest (Some hold)
      ≡ holding Kept owner (hold.count - 1) (moment + rest)
  give_back_hold-more post rest hold mine many =
      let more : (hold.count == 1) ≡ false = grind (arith, nat_tests) in
      ap (λ b. given_back post rest hold b (hold.count == 1)) mine
      ∙ ap (given_back post rest hold true) more

  -- nothing to give back or to renew
  give_back_hold-none : (post : Option Post) (rest : ℕ) (held : Option Hold)
      → IsLiveHold moment held → hold_count owner held ≡ 0
      → give_back_hold post moment owner rest held ≡ silent_outcome NotHeld held
  give_back_hold-none post rest None live none = refl
  give_back_hold-none post rest (Some hold) live none = by (same_owner hold.owner owner) none
    where
      by : (s : Bool) → cond s hold.count 0 ≡ 0
          → given_back post rest hold s (hold.count == 1) ≡ silent_outcome NotHeld (Some hold)
      by true none = let some = (live.within hold refl).some in absurd (omega arith)
      by false none = refl

  renew_hold-none : (lease : ℕ) (held : Option Hold) → IsLiveHold moment held
      → hold_count owner held ≡ 0 → renew_hold moment owner lease held ≡ silent_outcome Lost held
  renew_hold-none lease None live none = refl
  renew_hold-none lease (Some hold) live none = by (same_owner hold.owner owner) none
    where
      by : (s : Bool) → cond s hold.count 0 ≡ 0
          → cond s (holding Renewed owner hold.count (moment + lease))
          (silent_outcome Lost (Some hold))
          ≡ silent_outcome Lost (Some hold)
      by true none = let some = (live.within hold refl).some in absurd (omega arith)
      by false none = refl

-- A hold that begins or goes on now, for a lease in range.
module _ (moment : ℕ) (early : moment ≤ last_moment)
    (owner : ThreadOfClient) (in_owner : IsOwner owner) (count lease : ℕ) (test : is_lease lease ≡ true) where
  abbrev held_now : Hold
  held_now = record { owner = owner; count = count; deadline = moment + lease }

  lease-range : (1 ≤ lease) × (lease ≤ longest_lease)
  lease-range = grind (arith, nat_tests)

  -- it is live
  live_now : 1 ≤ count → count ≤ hold_limit → IsLiveHold moment (Some held_now)
  live_now some most =
      let before : moment + lease ≤ never = omega (arith, lease-range.1) in
      let within : IsHold held_now =
      record { owner = in_owner; some = some; most = most; deadline = before } in
      let live : moment < moment + lease = omega (arith, lease-range.0) in
      record {
        within = λ h at. subst IsHold (let one : held_now ≡ h = cc at in one) within;
        live = λ h at.
            subst (λ (x : Hold). moment < x.deadline)
            (let one : held_now ≡ h = cc at in one) live;
      }

  -- its deadline is an expiry
  expiry_of-now : expiry_of (moment + lease) ≡ Some (moment + lease)
  expiry_of-now =
      let below : moment + lease < never = omega (arith, lease-range.1) in
      let other : (moment + lease == never) ≡ false = grind (arith, nat_tests) in
      ap (λ b. cond b None (Some (moment + lease))) other

-- Steps that leave the keys as they are.
module _ (keys : Keys) (owner : ThreadOfClient) (key : List ℕ) where
  -- too deep
  pub full_step : (lease : ℕ) (held : Option Hold) → IsHeld keys.moment (entry_at keys key) held
      → hold_limit ≤ hold_count owner held
      → IsHoldStep keys key TooDeep (take_hold keys.moment owner lease held)
  full_step lease held at many =
      subst (IsHoldStep keys key TooDeep)
      (sym (take_hold-full keys.moment owner lease held at.hold many))
      (record { answer = refl; held = at })

  -- busy: somebody holds it, and not the owner
  pub busy_step : (lease millis : ℕ) (held : Option Hold)
      → IsHeld keys.moment (entry_at keys key) held → hold_count owner held ≡ 0 → true ≡ is_some (entry_at keys key)
      → ((hold : Hold) → IsHeld keys.moment (entry_at keys key) (Some hold)
      → millis ≡ hold.deadline - keys.moment)
      → IsHoldStep keys key (Busy millis) (take_hold keys.moment owner lease held)
  busy_step lease millis None at none there left = absurd (cc (there ∙ ap is_some at.stands))
  busy_step lease millis (Some hold) at none there left =
      subst (IsHoldStep keys key (Busy millis))
      (sym (take_hold-other keys.moment owner lease hold (at.hold.within hold refl) none))
      (record { answer = ap (λ n. Busy n) (left hold at); held = at })

  -- nothing to give back, or to renew
  pub not_held_step : (post : Option Post) (rest : ℕ) (held : Option Hold)
      → IsHeld keys.moment (entry_at keys key) held → hold_count owner held ≡ 0
      → IsHoldStep keys key NotHeld (give_back_hold post keys.moment owner rest held)
  not_held_step post rest held at none =
      subst (IsHoldStep keys key NotHeld)
      (sym (give_back_hold-none keys.moment owner post rest held at.hold none))
      (record { answer = refl; held = at })

  pub lost_step : (lease : ℕ) (held : Option Hold) → IsHeld keys.moment (entry_at keys key) held
      → hold_count owner held ≡ 0
      → IsHoldStep keys key Lost (renew_hold keys.moment owner lease held)
  lost_step lease held at none =
      subst (IsHoldStep keys key Lost)
      (sym (renew_hold-none keys.moment owner lease held at.hold none))
      (record { answer = refl; held = at })

-- A step after which nobody holds it.
pub freed_step : (old new : Keys) (owner : ThreadOfClient) (key : List ℕ) (post : Option Post) (rest : ℕ)
    (held : Option Hold) → hold_count owner held ≡ 1 → entry_at new ≡ with_key key None (entry_at old)
    → IsHoldStep new key Freed (give_back_hold post old.moment owner rest held)
freed_step old new owner key post rest held one entries =
    let gone : entry_at new key ≡ None =
    ap (λ (f : List ℕ → Option KeyEntry). f key) entries ∙ with_key-same key None (entry_at old) in
    subst (IsHoldStep new key Freed) (sym (give_back_hold-last old.moment owner post rest held one))
    (record {
      answer = refl;
      held = record {
        stands = gone;
        hold = record { within = λ h at. absurd (cc at); live = λ h at. absurd (cc at) };
      };
    })

-- Steps after which the owner holds it, for a lease from now on.
module _ (old new : Keys) (key : List ℕ) (now : new.moment ≡ old.moment)
    (early : old.moment ≤ last_moment) (owner : ThreadOfClient) (in_owner : IsOwner owner)
    (lease : ℕ) (test : is_lease lease ≡ true) where
  -- what `add` promises: where nothing is held, and of what the owner holds
  abbrev pub IsMade : ℤ → List ℕ → Type 0
  IsMade by text = entry_at old key ≡ None
      → entry_at new key ≡ Some (one_field text by (Some (old.moment + lease)))

  abbrev pub IsAdded : ℤ → List ℕ → Type 0
  IsAdded by text = (count : ℤ) (expiry : Option ℕ)
      → entry_at old key ≡ Some (one_field text count expiry)
      → IsTrue (is_i64 (count +ℤ by))
      → entry_at new key ≡ Some (one_field text (count +ℤ by) (Some (old.moment + lease)))

  -- the entry of the owner's hold
  own_entry : (hold : Hold) → hold.owner ≡ owner → Some (hold_entry hold)
      ≡ Some (one_field (owner_text owner) (pos hold.count) (expiry_of hold.deadline))
  own_entry hold mine =
      ap (λ o. Some (one_field (owner_text o) (pos hold.count) (expiry_of hold.deadline))) mine

  holding_step : (reply : Reply) (count : ℕ) → 1 ≤ count → count ≤ hold_limit
      → entry_at new key ≡ Some (one_field (owner_text owner) (pos count) (Some (old.moment + lease)))
      → IsHoldStep new key reply (holding reply owner count (old.moment + lease))
  holding_step reply count some most entry =
      let live = live_now old.moment early owner in_owner count lease test some most in
      let expiry = expiry_of-now old.moment early owner in_owner count lease test in
      record {
        answer = refl;
        held = record {
          stands = entry ∙ ap (λ e. Some (one_field (owner_text owner) (pos count) e)) (sym expiry);
          hold = subst (λ m. IsLiveHold m
              (Some (record { owner = owner; count = count; deadline = old.moment + lease })))
              (sym now) live;
        };
      }

  -- where `add` speaks of the owner's text
  granted_by_text : (held : Option Hold) → IsHeld old.moment (entry_at old key) held
      → hold_count owner held < hold_limit → (hold_count owner held ≡ 0 → entry_at old key ≡ None)
      → IsMade (pos 1) (owner_text owner) → IsAdded (pos 1) (owner_text owner)
      → IsHoldStep new key Granted (take_hold old.moment owner lease held)
  granted_by_text None at few free made added =
      holding_step Granted 1 (omega arith) (omega arith) (made at.stands)
  granted_by_text (Some hold) at few free made added = by (same_owner hold.owner owner) refl
    where
      fits : (n : ℕ) → n < hold_limit → IsTrue (is_i64 (pos n +ℤ pos 1))
      fits n small = grind (arith, ints)

      by : (s : Bool) → same_owner hold.owner owner ≡ s
          → IsHoldStep new key Granted (take_hold old.moment owner lease (Some hold))
      by true mine =
          let same = ap (λ b. cond b hold.count 0) mine in
          let small : hold.count < hold_limit = omega arith in
          let was = at.stands ∙ own_entry hold (same_owners hold.owner owner mine) in
          subst (IsHoldStep new key Granted)
          (sym (take_hold-more old.moment owner lease hold mine small))
          (holding_step Granted (hold.count + 1) (omega arith) (omega arith)
          (added (pos hold.count) (expiry_of hold.deadline) was (fits hold.count small)))
      by false other = absurd (cc (sym (free (ap (λ b. cond b hold.count 0) other)) ∙ at.stands))

  pub granted_step : (text : List ℕ) → text ≡ owner_text owner → (held : Option Hold)
      → IsHeld old.moment (entry_at old key) held → hold_count owner held < hold_limit
      → (hold_count owner held ≡ 0 → entry_at old key ≡ None) → IsMade (pos 1) text
      → IsAdded (pos 1) text → IsHoldStep new key Granted (take_hold old.moment owner lease held)
  granted_step text is held at few free made added =
      granted_by_text held at few free (subst (IsMade (pos 1)) is made)
      (subst (IsAdded (pos 1)) is added)

  kept_by_text : (post : Option Post) (held : Option Hold)
      → IsHeld old.moment (entry_at old key) held → 1 < hold_count owner held → IsAdded (negsuc 0) (owner_text owner)
      → IsHoldStep new key Kept (give_back_hold post old.moment owner lease held)
  kept_by_text post None at many added = absurd (omega arith)
  kept_by_text post (Some hold) at many added = by (same_owner hold.owner owner) refl
    where
      one_less : (n : ℕ) → 1 < n → pos n +ℤ negsuc 0 ≡ pos (n - 1)
      one_less n many = omega (arith, ints)

      fits : (n : ℕ) → 1 < n → n ≤ hold_limit → IsTrue (is_i64 (pos n +ℤ negsuc 0))
      fits n many few = grind (arith, ints)

      by : (s : Bool) → same_owner hold.owner owner ≡ s
          → IsHoldStep new key Kept (give_back_hold post old.moment owner lease (Some hold))
      by true mine =
          let same = ap (λ b. cond b hold.count 0) mine in
          let several : 1 < hold.count = omega arith in
          let most = (at.hold.within hold refl).most in
          let was = at.stands ∙ own_entry hold (same_owners hold.owner owner mine) in
          let entry =
          added (pos hold.count) (expiry_of hold.deadline) was (fits hold.count several most)
          ∙ ap (λ n. Some (one_field (owner_text owner) n (Some (old.moment + lease))))
          (one_less hold.count several) in
          subst (IsHoldStep new key Kept)
          (sym (give_back_hold-more old.moment owner post lease hold mine several))
          (holding_step Kept (hold.count - 1) (omega arith) (omega arith) entry)
      by false other = let none = ap (λ b. cond b hold.count 0) other in absurd (omega arith)

  pub kept_step : (text : List ℕ) → text ≡ owner_text owner
      → (post : Option Post) (held : Option Hold) → IsHeld old.moment (entry_at old key) held
      → 1 < hold_count owner held → IsAdded (negsuc 0) text
      → IsHoldStep new key Kept (give_back_hold post old.moment owner lease held)
  kept_step text is post held at many added =
      kept_by_text post held at many (subst (IsAdded (negsuc 0)) is added)
