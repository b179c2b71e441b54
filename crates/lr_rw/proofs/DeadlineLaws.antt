-- The holds of a lock in order of their deadlines: what is found, put and removed there.
use Rattle.std.proofs.Common.{◌≡◌, ℕ, Bool, true, false, cond, List, [], ◌∷◌, Option, Some, None, option_map, if◌then◌else◌, refl, sym, ap, ◌∙◌}
use Rattle.std.specs.List.{AllByRecursion, IsDistinct}
use Rattle.std.specs.Map.{keys_of, lookup}
use Rattle.std.specs.Str.{bytes_eq}
use Rattle.std.proofs.lemmas.Bool.{cond-false}
use Rattle.std.proofs.lemmas.Cmp.{nat_list_eq_equiv}
use Rattle.std.proofs.lemmas.Map.{lookup-remove_entry}
use Rattle.std.proofs.lemmas.Map.Keys.{IsDistinct-cons}
use Rattle.indexmap.specs.IndexMap.{insert_entry}
use Rattle.lr_names.specs.Owner.{ThreadOfClient, IsOwner}
use Rattle.lr_objects.specs.declared.access.Access.{Access}
use Rattle.lr_sorted.specs.Members.{Members as Scores, score_of, with_score, without_member}
use Rattle.lr_sorted.specs.Sorted.{AreDistinct}
use Rattle.lr_sorted.proofs.MemberLaws.{eq-sym, eq-is}
use Rattle.lr_sorted.proofs.SortedLaws.{sorted-scores, sorted-with_score, sorted-without}
use Rattle.lr_model.specs.declared.read_write_hold.ReadWriteHold.{ReadWriteHold}
use Rattle.lr_model.specs.ReadWrite.{ReadWriteLock, is_hold_of, hold_of, with_hold, without_hold}
use Rattle.lr_model.specs.ReadWriteHolds.{MayStandBeside, AreApart, IsReadWriteHold, IsReadWriteLock}
use Rattle.lr_model.proofs.ReadWriteFacts.{is_hold_of-own, is_hold_of-sym, some_one, none_some}
use Rattle.lr_rw.specs.Holds.{member_text, member_of, with_values, deadlines_of}
use Rattle.lr_rw.proofs.MemberLaws.{bytes_eq-member}
use Rattle.lr_rw.proofs.ValueLaws.{lookup-hold, remove-hold, insert-hold}

abbrev pub deadline_in : ReadWriteHold → ℕ
deadline_in hold = hold.deadline

-- ---- each hold has its own text

texts_differ : (hold : ReadWriteHold) → IsOwner hold.owner → (rest : ReadWriteLock)
    → AllByRecursion (MayStandBeside hold) rest → AllByRecursion IsReadWriteHold rest
    → AllByRecursion (λ y. bytes_eq (member_of hold) y ≡ false) (keys_of (with_values deadline_in rest))
texts_differ hold in_owner [] beside each = tt
texts_differ hold in_owner (x ∷ rest) beside each = (
  bytes_eq-member hold.owner hold.access x in_owner each.0.owner ∙ beside.0.another,
  texts_differ hold in_owner rest beside.1 each.1,
)

distinct : (lock : ReadWriteLock) → AreApart lock → AllByRecursion IsReadWriteHold lock
    → AreDistinct (with_values deadline_in lock)
unfolding IsDistinct
distinct [] apart each = tt
distinct (hold ∷ rest) apart each =
    IsDistinct-cons bytes_eq (member_of hold) (keys_of (with_values deadline_in rest))
    (texts_differ hold each.0.owner rest apart.0 each.1) (distinct rest apart.1 each.1)

-- each hold is the one that is found by its owner and access
pub each-found : (lock : ReadWriteLock) → AreApart lock
    → AllByRecursion (λ h. hold_of h.owner h.access lock ≡ Some h) lock
each-found [] apart = tt
each-found (first ∷ rest) apart = (
  ap (λ b. if b then Some first else hold_of first.owner first.access rest) (is_hold_of-own first),
  later rest apart.0 (each-found rest apart.1),
)
  where
    later : (xs : ReadWriteLock) → AllByRecursion (MayStandBeside first) xs
        → AllByRecursion (λ h. hold_of h.owner h.access rest ≡ Some h) xs
        → AllByRecursion (λ h. hold_of h.owner h.access (first ∷ rest) ≡ Some h) xs
    later [] beside found = tt
    later (x ∷ xs) beside found = (
      cond-false (is_hold_of x.owner x.access first) (Some first) (hold_of x.owner x.access rest)
          (is_hold_of-sym first x ∙ beside.0.another) ∙ found.0,
      later xs beside.1 found.1,
    )

-- what has a value is a hold
pub record IsHoldIn (lock : ReadWriteLock) (member : List ℕ) (hold : ReadWriteHold) : Type 0 where
  pub text : member ≡ member_of hold
  pub owner : IsOwner hold.owner
  pub found : hold_of hold.owner hold.access lock ≡ Some hold

pub value-found : (lock : ReadWriteLock) → AllByRecursion IsReadWriteHold lock → (q : List ℕ) (d : ℕ)
    → lookup (bytes_eq q) (with_values deadline_in lock) ≡ Some d
    → (hold : ReadWriteHold) × IsHoldIn lock q hold × (d ≡ hold.deadline)
value-found [] each q d is = absurd (none_some d (sym is))
value-found (first ∷ rest) each q d is =
    by (bytes_eq q (member_of first)) refl is (value-found rest each.1 q d)
  where
    by : (b : Bool) → bytes_eq q (member_of first) ≡ b
        → (if b then Some first.deadline else lookup (bytes_eq q) (with_values deadline_in rest)) ≡ Some d
        → (lookup (bytes_eq q) (with_values deadline_in rest) ≡ Some d
        → (hold : ReadWriteHold) × IsHoldIn rest q hold × (d ≡ hold.deadline))
        → (hold : ReadWriteHold) × IsHoldIn (first ∷ rest) q hold × (d ≡ hold.deadline)
    by true same is later = (
      first,
      record {
        text = eq-is q (member_of first) same;
        owner = each.0.owner;
        found = ap (λ b. if b then Some first else hold_of first.owner first.access rest)
            (is_hold_of-own first);
      },
      sym (some_one first.deadline d is),
    )
    by false other is later =
        let r = later is in
        let hold : ReadWriteHold = r.0 in
        let apart : is_hold_of hold.owner hold.access first ≡ false =
        sym (bytes_eq-member hold.owner hold.access first r.1.owner each.0.owner)
        ∙ ap (λ t. bytes_eq t (member_of first)) (sym r.1.text) ∙ other in (
          hold,
          record {
            text = r.1.text;
            owner = r.1.owner;
            found = cond-false (is_hold_of hold.owner hold.access first) (Some first)
                (hold_of hold.owner hold.access rest) apart ∙ r.1.found;
          },
          r.2,
        )

-- ---- one lock

module _ (lock : ReadWriteLock) (is : IsReadWriteLock lock) where
  pub values_distinct : AreDistinct (with_values deadline_in lock)
  values_distinct = distinct lock is.apart is.each

  -- the deadline of an owner's hold is found by its text
  pub score_of-hold : (owner : ThreadOfClient) (access : Access) → IsOwner owner
      → score_of (member_text access owner) (deadlines_of lock)
      ≡ option_map deadline_in (hold_of owner access lock)
  score_of-hold owner access in_owner =
      sorted-scores (with_values deadline_in lock) (member_text access owner) values_distinct
      ∙ lookup-hold deadline_in owner access in_owner lock is.each

  -- it goes with the hold
  pub deadlines-without : (owner : ThreadOfClient) (access : Access) → IsOwner owner
      → IsReadWriteLock (without_hold owner access lock)
      → without_member (member_text access owner) (deadlines_of lock)
      ≡ deadlines_of (without_hold owner access lock)
  deadlines-without owner access in_owner left =
      let key : List ℕ = member_text access owner in
      let old : Scores = with_values deadline_in lock in
      sym (sorted-without old (with_values deadline_in (without_hold owner access lock)) key
      values_distinct (distinct (without_hold owner access lock) left.apart left.each)
      (λ q. ap (λ es. lookup (bytes_eq q) es)
      (sym (remove-hold deadline_in owner access in_owner lock is.each))
      ∙ lookup-remove_entry nat_list_eq_equiv (bytes_eq key)
      (λ x y e. ap (λ k. bytes_eq k y) (eq-is key x e)) q old values_distinct))

  -- and comes with it
  pub deadlines-with : (hold : ReadWriteHold) → IsOwner hold.owner
      → IsReadWriteLock (with_hold hold lock)
      → with_score (member_of hold) hold.deadline (deadlines_of lock)
      ≡ deadlines_of (with_hold hold lock)
  deadlines-with hold in_owner more =
      let key : List ℕ = member_of hold in
      let old : Scores = with_values deadline_in lock in
      sym (sorted-with_score old (with_values deadline_in (with_hold hold lock)) key hold.deadline
      values_distinct (distinct (with_hold hold lock) more.apart more.each)
      (λ q. ap (λ es. lookup (bytes_eq q) es)
      (sym (insert-hold deadline_in hold in_owner lock is.each))
      ∙ lookup-insert_entry old key hold.deadline q))
    where
      lookup-insert_entry : (es : Scores) (k : List ℕ) (s : ℕ) (q : List ℕ)
          → lookup (bytes_eq q) (insert_entry bytes_eq es k s)
          ≡ cond (bytes_eq k q) (Some s) (lookup (bytes_eq q) es)
      lookup-insert_entry [] k s q = ap (λ b. cond b (Some s) None) (eq-sym q k)
      lookup-insert_entry (e ∷ es) k s q =
          by (bytes_eq k e.0) refl (lookup-insert_entry es k s q)
        where
          both : (a b : Bool) (x : Option ℕ) → (a ≡ true → b ≡ false)
              → cond a (Some e.1) (cond b (Some s) x) ≡ cond b (Some s) (cond a (Some e.1) x)
          both true true x apart = absurd (cc (apart refl))
          both true false x apart = refl
          both false b x apart = refl

          by : (b : Bool) → bytes_eq k e.0 ≡ b
              → lookup (bytes_eq q) (insert_entry bytes_eq es k s)
              ≡ cond (bytes_eq k q) (Some s) (lookup (bytes_eq q) es)
              → lookup (bytes_eq q) (cond b ((e.0, s) ∷ es) (e ∷ insert_entry bytes_eq es k s))
              ≡ cond (bytes_eq k q) (Some s) (cond (bytes_eq q e.0) (Some e.1) (lookup (bytes_eq q) es))
          by true same later =
              let one : e.0 ≡ k = sym (eq-is k e.0 same) in
              ap (λ b. cond b (Some s) (lookup (bytes_eq q) es))
              (ap (bytes_eq q) one ∙ eq-sym q k)
              ∙ over (bytes_eq k q) (bytes_eq q e.0) (eq-sym k q ∙ ap (bytes_eq q) (sym one))
            where
              over : (a b : Bool) → a ≡ b → cond a (Some s) (lookup (bytes_eq q) es)
                  ≡ cond a (Some s) (cond b (Some e.1) (lookup (bytes_eq q) es))
              over true b same = refl
              over false true same = absurd (cc same)
              over false false same = refl
          by false other later =
              ap (cond (bytes_eq q e.0) (Some e.1)) later
              ∙ both (bytes_eq q e.0) (bytes_eq k q) (lookup (bytes_eq q) es)
              (λ here. ap (bytes_eq k) (eq-is q e.0 here) ∙ other)
