-- What the calls of a key space answer, and what they make of the key of a sorted set.
use Rattle.std.proofs.Common.{◌≡◌, ◌≢◌, ◌<◌, ℕ, suc, pos, List, [], ◌∷◌, length, Option, Some, None, Result, Ok, Err, IfOk, IfSome, if◌then◌else◌, refl, ap, ◌∙◌, subst, arith}
use Rattle.std.specs.Result.{result_unwrap_or}
use Rattle.std.proofs.lemmas.Bool.{cond_both}
use Rattle.lr_lists.specs.Places.{item_at}
use Rattle.lr_sorted.specs.Members.{Scored, Members as Scores, comes_before, inserted, score_of, with_score, without_member}
use Rattle.lr_sorted.proofs.MemberLaws.{eq-same, length-without_member}
use Rattle.lr_keys.specs.declared.fault.KeyFault.{KeyFault}
use Rattle.lr_keys.specs.declared.fault.KeyFault.TheVariants.{WrongKind, Overflow, TooMany, NoMemory}
use Rattle.lr_keys.specs.KeySpace.{Answers, ChangesEntry, Content, Fields, Items, Members, Number, KeyEntry, Keys, count_at, entry_at, entry_with_value, entry_with_member, entry_without_member, score_at, seen, zset_at}
use Rattle.lr_keys.proofs.TableLaws.{with_key-same, with_key-other}

-- Answers.

-- a call that succeeds, by the definition and for want of nothing else
pub succeeds : {T U : Type 0} (show : T → U) (result : Result T KeyFault) (answer : Result U KeyFault)
    (v : U) → Answers show result answer → answer ≡ Ok v → result ≢ Err NoMemory
    → (r : T) × (result ≡ Ok r) × (show r ≡ v)
succeeds show (Ok r) answer v answers is memory = (r, refl, cc)
succeeds show (Err NoMemory) answer v answers is memory = absurd (memory refl)
succeeds show (Err WrongKind) answer v answers is memory = absurd (cc)
succeeds show (Err Overflow) answer v answers is memory = absurd (cc)
succeeds show (Err TooMany) answer v answers is memory = absurd (cc)

pub if_ok : {T : Type 0} (P : T → Type 0) (result : Result T KeyFault) (r : T) → result ≡ Ok r
    → IfOk result P → P r
if_ok {T} P result r is holds = subst (λ (x : Result T KeyFault). IfOk x P) is holds

-- The key of a sorted set without an expiry.

-- what stands first has a score
pub first-there : (entry : Option KeyEntry)
    → IfSome (result_unwrap_or (seen (item_at (pos 0)) (zset_at entry)) None)
    (λ (first : Scored). (score : ℕ) × (score_at first.0 entry ≡ Ok (Some score)))
first-there entry = by (zset_at entry) refl
  where
    by : (found : Result Scores KeyFault) → zset_at entry ≡ found
        → IfSome (result_unwrap_or (seen (item_at (pos 0)) found) None)
        (λ (first : Scored). (score : ℕ) × (score_at first.0 entry ≡ Ok (Some score)))
    by (Err fault) is = tt
    by (Ok []) is = tt
    by (Ok (m ∷ ms)) is = (
      m.1,
      ap (seen (score_of m.0)) is
          ∙ ap (λ b. Ok (if b then Some m.1 else score_of m.0 ms)) (eq-same m.0),
    )

inserted-some : (e : Scored) (ms : Scores)
    → Some (record { value = Members (inserted e ms); expiry = None })
    ≡ entry_with_value (Members (inserted e ms)) None
inserted-some e [] = refl
inserted-some e (m ∷ ms) =
    cond_both (comes_before e m) (e ∷ m ∷ ms) (m ∷ inserted e ms)
    (λ l. Some (record { value = Members l; expiry = None }) ≡ entry_with_value (Members l) None)
    (λ here. refl) (λ there. refl)

-- a member is put, or is the first
pub member-written : (member : List ℕ) (score : ℕ) (members : Scores)
    → Some (entry_with_member member score (entry_with_value (Members members) None))
    ≡ entry_with_value (Members (with_score member score members)) None
member-written member score [] = refl
member-written member score (m ∷ ms) =
    inserted-some (member, score) (without_member member (m ∷ ms))

-- a member goes, and with the last one the key
pub member-removed : (member : List ℕ) (members : Scores)
    → entry_without_member member (entry_with_value (Members members) None)
    ≡ entry_with_value (Members (without_member member members)) None
member-removed member [] = refl
member-removed member (m ∷ ms) = refl

-- a sorted set that loses a member has fewer
pub member-fewer : (member : List ℕ) (entry : Option KeyEntry) (score : ℕ)
    → score_at member entry ≡ Ok (Some score)
    → count_at (entry_without_member member entry) < count_at entry
member-fewer member None score is = absurd (cc)
member-fewer member (Some e) score is = by e.value is
  where
    left : (ms : Scores) (n : ℕ) → suc (length (without_member member ms)) ≡ n
        → count_at (entry_with_value (Members (without_member member ms)) e.expiry) < n
    left ms n e2 = go (without_member member ms) e2
      where
        go : (rest : Scores) → suc (length rest) ≡ n
            → count_at (entry_with_value (Members rest) e.expiry) < n
        go [] h = omega (arith, h)
        go (r ∷ rs) h = omega (arith, h)

    by : (value : Content) → seen (score_of member) (zset_at (Some (record e { value = value })))
        ≡ Ok (Some score)
        → count_at (entry_without_member member (Some (record e { value = value })))
        < count_at (Some (record e { value = value }))
    by (Members ms) is =
        left ms (length ms) (length-without_member member ms score (cc))
    by (Fields pairs) is = absurd (cc)
    by (Items items) is = absurd (cc)
    by (Number n) is = absurd (cc)

-- One key changes, and not another.

pub changed-here : (old new : Keys) (key : List ℕ) (change : Option KeyEntry → Option KeyEntry)
    → ChangesEntry old new key change → entry_at new key ≡ change (entry_at old key)
changed-here old new key change changes =
    ap (λ (f : List ℕ → Option KeyEntry). f key) changes
    ∙ with_key-same key (change (entry_at old key)) (entry_at old)

pub changed-other : (old new : Keys) (key q : List ℕ) (change : Option KeyEntry → Option KeyEntry)
    → ChangesEntry old new key change → key ≢ q → entry_at new q ≡ entry_at old q
changed-other old new key q change changes apart =
    ap (λ (f : List ℕ → Option KeyEntry). f q) changes
    ∙ with_key-other key (change (entry_at old key)) (entry_at old) q apart
