-- Fields in order of making: what stays of the order after each change.
use Rattle.std.proofs.Common.{◌≡◌, ◌≢◌, ◌≤◌, ◌<◌, ℕ, Bool, true, false, cond, suc, List, [], ◌∷◌, ◌++◌, length, map, get_or, nat_lt, Option, Some, None, IsSome, is_some, refl, ap, sym, subst, ◌∙◌, true≢false, arith}
use Rattle.std.specs.List.{IsDistinct, AllByRecursion}
use Rattle.std.specs.Map.{lookup, remove_entry, set_value, keys_of}
use Rattle.std.specs.Option.{option_map}
use Rattle.std.specs.Str.{bytes_eq}
use Rattle.std.proofs.lemmas.Bool.Decides.{nat_tests}
use Rattle.std.proofs.lemmas.List.{map-append}
use Rattle.lr_keys.specs.FieldMap.{field_value}
use Rattle.lr_keys.specs.declared.field_map.Numbered.{Numbered}
use Rattle.lr_keys.specs.FieldOrder.{Field, in_order, pair_of, pairs_of, put_in_order}
use Rattle.lr_keys.specs.Table.{with_key}
use Rattle.lr_keys.proofs.TableLaws.{bytes_eq-same, bytes_eq-other, same_bytes}

-- what stands at a field
abbrev pub at_field : List ℕ → List Field → Option Numbered
at_field q fs = lookup (bytes_eq q) fs

-- all fields are behind a place
abbrev Behind : ℕ → List Field → Type 0
Behind n [] = Unit {0}
Behind n (f ∷ fs) = (n < f.1.order) × Behind n fs

-- none is at a place
abbrev NotAt : ℕ → List Field → Type 0
NotAt n [] = Unit {0}
NotAt n (f ∷ fs) = (f.1.order ≢ n) × NotAt n fs

-- no two fields are the same
abbrev pub Differ : List Field → Type 0
Differ [] = Unit {0}
Differ (f ∷ fs) = (at_field f.0 fs ≡ None) × Differ fs

-- nor at the same place
abbrev pub Apart : List Field → Type 0
Apart [] = Unit {0}
Apart (f ∷ fs) = (at_field f.0 fs ≡ None) × NotAt f.1.order fs × Apart fs

-- and each is behind those before it
abbrev pub Rises : List Field → Type 0
Rises [] = Unit {0}
Rises (f ∷ fs) = (at_field f.0 fs ≡ None) × Behind f.1.order fs × Rises fs

head-at_field : (f : Field) (fs : List Field) → at_field f.0 (f ∷ fs) ≡ Some f.1
head-at_field f fs = ap (λ b. cond b (Some f.1) (at_field f.0 fs)) (bytes_eq-same f.0)

-- what stands at a field whose head is another one
tail-at_field : (q : List ℕ) (f : Field) (fs : List Field) → bytes_eq q f.0 ≡ false
    → at_field q (f ∷ fs) ≡ at_field q fs
tail-at_field q f fs apart = ap (λ b. cond b (Some f.1) (at_field q fs)) apart

-- what stands in the tail stands in the whole
in_tail : (q : List ℕ) (f : Field) (fs : List Field) (v : Numbered) → at_field f.0 fs ≡ None
    → at_field q fs ≡ Some v → at_field q (f ∷ fs) ≡ Some v
in_tail q f fs v absent at = by (bytes_eq q f.0) refl
  where
    by : (b : Bool) → bytes_eq q f.0 ≡ b → cond b (Some f.1) (at_field q fs) ≡ Some v
    by true e = let same : q ≡ f.0 = same_bytes q f.0 e in
        let none : at_field q fs ≡ None = ap (λ k. at_field k fs) same ∙ absent in
        absurd (cc (none, at))
    by false e = at

Behind-at_field : (n : ℕ) (q : List ℕ) (fs : List Field) (v : Numbered) → Behind n fs
    → at_field q fs ≡ Some v → n < v.order
Behind-at_field n q [] v behind at = absurd (cc at)
Behind-at_field n q (f ∷ fs) v behind at =
    by (bytes_eq q f.0) at (Behind-at_field n q fs v behind.1)
  where
    by : (b : Bool) → cond b (Some f.1) (at_field q fs) ≡ Some v
        → (at_field q fs ≡ Some v → n < v.order) → n < v.order
    by true at rest = let same : f.1 ≡ v = cc at in
        subst (λ (x : Numbered). n < x.order) same behind.0
    by false at rest = rest at

Behind-before : (m n : ℕ) (fs : List Field) → m ≤ n → Behind n fs → Behind m fs
Behind-before m n [] le behind = tt
Behind-before m n (f ∷ fs) le behind =
    (omega (arith, behind.0, le), Behind-before m n fs le behind.1)

-- two rising lists with the same at each field are the same
same_keys : (x y : Field) → bytes_eq x.0 y.0 ≡ true → x.1 ≡ y.1 → x ≡ y
same_keys x y keys values = let same : x.0 ≡ y.0 = same_bytes x.0 y.0 keys in
    λ i. (same i, values i)

pub same_rising : (xs ys : List Field) → Rises xs → Rises ys
    → ((q : List ℕ) → at_field q xs ≡ at_field q ys) → xs ≡ ys
same_rising [] [] rx ry same = refl
same_rising [] (y ∷ ys) rx ry same = absurd (cc (same y.0, head-at_field y ys))
same_rising (x ∷ xs) [] rx ry same = absurd (cc (same x.0, head-at_field x xs))
same_rising (x ∷ xs) (y ∷ ys) rx ry same =
    by (same_rising xs ys rx.2 ry.2) (bytes_eq x.0 y.0) refl
  where
    there : at_field x.0 (y ∷ ys) ≡ Some x.1
    there = sym (same x.0) ∙ head-at_field x xs

    tail : x.0 ≡ y.0 → (q : List ℕ) (b : Bool) → bytes_eq q x.0 ≡ b
        → at_field q xs ≡ at_field q ys
    tail keys q true is =
        let own : q ≡ x.0 = same_bytes q x.0 is in
        ap (λ k. at_field k xs) own ∙ rx.0
        ∙ sym (ap (λ k. at_field k ys) (own ∙ keys) ∙ ry.0)
    tail keys q false is =
        sym (tail-at_field q x xs is) ∙ same q
        ∙ tail-at_field q y ys (ap (bytes_eq q) (sym keys) ∙ is)

    by : (((q : List ℕ) → at_field q xs ≡ at_field q ys) → xs ≡ ys) → (b : Bool)
        → bytes_eq x.0 y.0 ≡ b → x ∷ xs ≡ y ∷ ys
    by rest true e =
        let keys : x.0 ≡ y.0 = same_bytes x.0 y.0 e in
        let value : Some y.1 ≡ Some x.1 =
        sym (ap (λ b. cond b (Some y.1) (at_field x.0 ys)) e) ∙ there in
        let values : x.1 ≡ y.1 = cc value in
        let tails = rest (λ q. tail keys q (bytes_eq q x.0) refl) in
        λ i. same_keys x y e values i ∷ tails i
    by rest false e =
        let apart : bytes_eq y.0 x.0 ≡ false = bytes_eq-other y.0 x.0 (λ keys.
        true≢false (sym (ap (λ k. bytes_eq k y.0) (sym keys) ∙ bytes_eq-same y.0) ∙ e)) in
        let later : y.1.order < x.1.order = Behind-at_field y.1.order x.0 ys x.1 ry.1
        (sym (tail-at_field x.0 y ys e) ∙ there) in
        let earlier : x.1.order < y.1.order = Behind-at_field x.1.order y.0 xs y.1 rx.1
        (sym (tail-at_field y.0 x xs apart) ∙ same y.0 ∙ head-at_field y ys) in
        absurd (omega (arith, later, earlier))

-- a field that isn't there isn't the head
other_head : (q : List ℕ) (f : Field) (fs : List Field) → at_field q (f ∷ fs) ≡ None
    → bytes_eq q f.0 ≡ false
other_head q f fs absent = by (bytes_eq q f.0) refl
  where
    by : (b : Bool) → bytes_eq q f.0 ≡ b → bytes_eq q f.0 ≡ false
    by true e = absurd (cc (sym (ap (λ b. cond b (Some f.1) (at_field q fs)) e) ∙ absent))
    by false e = e

-- two fields that differ can be looked at in either order
cond_swap : (q : List ℕ) (x f : Field) → bytes_eq f.0 x.0 ≡ false → (o : Option Numbered)
    → (a b : Bool) → bytes_eq q x.0 ≡ a → bytes_eq q f.0 ≡ b
    → cond a (Some x.1) (cond b (Some f.1) o) ≡ cond b (Some f.1) (cond a (Some x.1) o)
cond_swap q x f apart o true true ex ef = let keys : f.0 ≡ x.0 =
    sym (same_bytes q f.0 ef) ∙ same_bytes q x.0 ex in
    absurd (true≢false (sym (ap (bytes_eq f.0) (sym keys) ∙ bytes_eq-same f.0) ∙ apart))
cond_swap q x f apart o true false ex ef = refl
cond_swap q x f apart o false true ex ef = refl
cond_swap q x f apart o false false ex ef = refl

-- one more in order
put-at_field : (q : List ℕ) (f : Field) (fs : List Field) → at_field f.0 fs ≡ None
    → at_field q (put_in_order f fs) ≡ cond (bytes_eq q f.0) (Some f.1) (at_field q fs)
put-at_field q f [] absent = refl
put-at_field q f (x ∷ xs) absent =
    let apart = other_head f.0 x xs absent in
    let rest : at_field f.0 xs ≡ None = sym (tail-at_field f.0 x xs apart) ∙ absent in
    by (put-at_field q f xs rest) apart (nat_lt f.1.order x.1.order)
  where
    by : at_field q (put_in_order f xs) ≡ cond (bytes_eq q f.0) (Some f.1) (at_field q xs)
        → bytes_eq f.0 x.0 ≡ false → (b : Bool)
        → at_field q (cond b (f ∷ x ∷ xs) (x ∷ put_in_order f xs))
        ≡ cond (bytes_eq q f.0) (Some f.1) (at_field q (x ∷ xs))
    by rest apart true = refl
    by rest apart false = ap (cond (bytes_eq q x.0) (Some x.1)) rest
        ∙ cond_swap q x f apart (at_field q xs) (bytes_eq q x.0) (bytes_eq q f.0) refl refl

put-Behind : (n : ℕ) (f : Field) (fs : List Field) → n < f.1.order → Behind n fs
    → Behind n (put_in_order f fs)
put-Behind n f [] before behind = (before, tt)
put-Behind n f (x ∷ xs) before behind =
    by (put-Behind n f xs before behind.1) (nat_lt f.1.order x.1.order)
  where
    by : Behind n (put_in_order f xs) → (b : Bool)
        → Behind n (cond b (f ∷ x ∷ xs) (x ∷ put_in_order f xs))
    by rest true = (before, behind)
    by rest false = (behind.0, rest)

put-NotAt : (n : ℕ) (f : Field) (fs : List Field) → f.1.order ≢ n → NotAt n fs
    → NotAt n (put_in_order f fs)
put-NotAt n f [] other none = (other, tt)
put-NotAt n f (x ∷ xs) other none =
    by (put-NotAt n f xs other none.1) (nat_lt f.1.order x.1.order)
  where
    by : NotAt n (put_in_order f xs) → (b : Bool)
        → NotAt n (cond b (f ∷ x ∷ xs) (x ∷ put_in_order f xs))
    by rest true = (other, none)
    by rest false = (none.0, rest)

put-Rises : (f : Field) (fs : List Field) → at_field f.0 fs ≡ None → NotAt f.1.order fs → Rises fs
    → Rises (put_in_order f fs)
put-Rises f [] absent none rises = (refl, tt, tt)
put-Rises f (x ∷ xs) absent none rises =
    let apart = other_head f.0 x xs absent in
    let gone : at_field f.0 xs ≡ None = sym (tail-at_field f.0 x xs apart) ∙ absent in
    by (put-Rises f xs gone none.1 rises.2) apart gone (nat_lt f.1.order x.1.order) refl
  where
    back : bytes_eq f.0 x.0 ≡ false → bytes_eq x.0 f.0 ≡ false
    back apart = bytes_eq-other x.0 f.0 (λ keys.
        true≢false (sym (ap (λ k. bytes_eq k x.0) (sym keys) ∙ bytes_eq-same x.0) ∙ apart))

    by : Rises (put_in_order f xs) → bytes_eq f.0 x.0 ≡ false → at_field f.0 xs ≡ None → (b : Bool)
        → nat_lt f.1.order x.1.order ≡ b → Rises (cond b (f ∷ x ∷ xs) (x ∷ put_in_order f xs))
    by rest apart gone true e =
        let before : f.1.order < x.1.order = grind (arith, nat_tests) in
        (absent, (before, Behind-before f.1.order x.1.order xs (omega (arith, before)) rises.1), rises)
    by rest apart gone false e =
        let other = none.0 in
        let at_least : x.1.order ≤ f.1.order = grind (arith, nat_tests) in
        let before : x.1.order < f.1.order = omega (arith, at_least, other) in (
          put-at_field x.0 f xs gone
              ∙ ap (λ b. cond b (Some f.1) (at_field x.0 xs)) (back apart) ∙ rises.0,
          put-Behind x.1.order f xs before rises.1,
          rest,
        )

-- all in order
pub in_order-at_field : (q : List ℕ) (fs : List Field) → Apart fs
    → at_field q (in_order fs) ≡ at_field q fs
in_order-at_field q [] apart = refl
in_order-at_field q (f ∷ fs) apart =
    put-at_field q f (in_order fs) (in_order-at_field f.0 fs apart.2 ∙ apart.0)
    ∙ ap (cond (bytes_eq q f.0) (Some f.1)) (in_order-at_field q fs apart.2)

in_order-NotAt : (n : ℕ) (fs : List Field) → NotAt n fs → NotAt n (in_order fs)
in_order-NotAt n [] none = tt
in_order-NotAt n (f ∷ fs) none =
    put-NotAt n f (in_order fs) none.0 (in_order-NotAt n fs none.1)

pub in_order-Rises : (fs : List Field) → Apart fs → Rises (in_order fs)
in_order-Rises [] apart = tt
in_order-Rises (f ∷ fs) apart = put-Rises f (in_order fs)
    (in_order-at_field f.0 fs apart.2 ∙ apart.0) (in_order-NotAt f.1.order fs apart.1)
    (in_order-Rises fs apart.2)

length-put : (f : Field) (fs : List Field) → length (put_in_order f fs) ≡ suc (length fs)
length-put f [] = refl
length-put f (x ∷ xs) = by (length-put f xs) (nat_lt f.1.order x.1.order)
  where
    by : length (put_in_order f xs) ≡ suc (length xs) → (b : Bool)
        → length (cond b (f ∷ x ∷ xs) (x ∷ put_in_order f xs)) ≡ suc (suc (length xs))
    by rest true = refl
    by rest false = ap suc rest

pub length-in_order : (fs : List Field) → length (in_order fs) ≡ length fs
length-in_order [] = refl
length-in_order (f ∷ fs) = length-put f (in_order fs) ∙ ap suc (length-in_order fs)

-- lists of fields that differ, of which each place in the order has one, are apart
NotAt-from : (n : ℕ) (fs : List Field) → Differ fs
    → ((q : List ℕ) (v : Numbered) → at_field q fs ≡ Some v → v.order ≢ n) → NotAt n fs
NotAt-from n [] differ other = tt
NotAt-from n (f ∷ fs) differ other = (
  other f.0 f.1 (head-at_field f fs),
  NotAt-from n fs differ.1 (λ q v at. other q v (in_tail q f fs v differ.0 at)),
)

pub Apart-from : (fs : List Field) → Differ fs
    → ((q r : List ℕ) (v w : Numbered) → at_field q fs ≡ Some v → at_field r fs ≡ Some w
    → v.order ≡ w.order → q ≡ r) → Apart fs
Apart-from [] differ one = tt
Apart-from (f ∷ fs) differ one = (
  differ.0,
  NotAt-from f.1.order fs differ.1 (λ q v at same.
      let keys : q ≡ f.0 = one q f.0 v f.1 (in_tail q f fs v differ.0 at) (head-at_field f fs)
      same in
      let none : at_field q fs ≡ None = ap (λ k. at_field k fs) keys ∙ differ.0 in
      cc (none, at)),
  Apart-from fs differ.1 (λ q r v w at_q at_r same.
      one q r v w (in_tail q f fs v differ.0 at_q) (in_tail r f fs w differ.0 at_r) same),
)

-- keys that are distinct differ
none_of : (q : List ℕ) (fs : List Field) → AllByRecursion (λ y. bytes_eq q y ≡ false) (keys_of fs)
    → at_field q fs ≡ None
none_of q [] all = refl
none_of q (f ∷ fs) all = tail-at_field q f fs all.0 ∙ none_of q fs all.1

pub Differ-distinct : (fs : List Field) → IsDistinct bytes_eq (keys_of fs) → Differ fs
unfolding IsDistinct
Differ-distinct [] distinct = tt
Differ-distinct (f ∷ fs) distinct =
    (none_of f.0 fs distinct.0, Differ-distinct fs distinct.1)

-- rising fields with one more behind all of them
pub push-at_field : (q : List ℕ) (f : Field) (fs : List Field) → at_field f.0 fs ≡ None
    → at_field q (fs ++ f ∷ []) ≡ cond (bytes_eq q f.0) (Some f.1) (at_field q fs)
push-at_field q f [] absent = refl
push-at_field q f (x ∷ xs) absent =
    let apart = other_head f.0 x xs absent in
    let gone : at_field f.0 xs ≡ None = sym (tail-at_field f.0 x xs apart) ∙ absent in
    ap (cond (bytes_eq q x.0) (Some x.1)) (push-at_field q f xs gone)
    ∙ cond_swap q x f apart (at_field q xs) (bytes_eq q x.0) (bytes_eq q f.0) refl refl

push-Behind : (n : ℕ) (f : Field) (fs : List Field) → n < f.1.order → Behind n fs
    → Behind n (fs ++ f ∷ [])
push-Behind n f [] before behind = (before, tt)
push-Behind n f (x ∷ xs) before behind = (behind.0, push-Behind n f xs before behind.1)

push-Rises : (f : Field) (fs : List Field) → at_field f.0 fs ≡ None
    → ((q : List ℕ) (v : Numbered) → at_field q fs ≡ Some v → v.order < f.1.order) → Rises fs
    → Rises (fs ++ f ∷ [])
push-Rises f [] absent before rises = (refl, tt, tt)
push-Rises f (x ∷ xs) absent before rises =
    let apart = other_head f.0 x xs absent in
    let gone : at_field f.0 xs ≡ None = sym (tail-at_field f.0 x xs apart) ∙ absent in
    let back : bytes_eq x.0 f.0 ≡ false = bytes_eq-other x.0 f.0 (λ keys.
    true≢false (sym (ap (λ k. bytes_eq k x.0) (sym keys) ∙ bytes_eq-same x.0) ∙ apart)) in (
      push-at_field x.0 f xs gone
          ∙ ap (λ b. cond b (Some f.1) (at_field x.0 xs)) back ∙ rises.0,
      push-Behind x.1.order f xs (before x.0 x.1 (head-at_field x xs)) rises.1,
      push-Rises f xs gone (λ q v at. before q v (in_tail q x xs v rises.0 at)) rises.2,
    )

-- rising fields with another number at one of them
set-at_field : (q k : List ℕ) (w : Numbered) (fs : List Field) → IsSome (at_field k fs)
    → at_field q (set_value (bytes_eq k) fs w) ≡ with_key k (Some w) (λ r. at_field r fs) q
set-at_field q k w [] there = absurd (true≢false (sym there))
set-at_field q k w (f ∷ fs) there =
    by (set-at_field q k w fs) (bytes_eq k f.0) refl there
  where
    same : k ≡ f.0 → bytes_eq q f.0 ≡ bytes_eq k q
    same keys = both (bytes_eq k q) refl
      where
        both : (b : Bool) → bytes_eq k q ≡ b → bytes_eq q f.0 ≡ b
        both true e = let own : k ≡ q = same_bytes k q e in
            ap (bytes_eq q) (sym keys ∙ own) ∙ bytes_eq-same q
        both false e = bytes_eq-other q f.0 (λ own.
            true≢false (sym (ap (bytes_eq k) (own ∙ sym keys) ∙ bytes_eq-same k) ∙ e))

    other : bytes_eq k f.0 ≡ false → (a b : Bool) → bytes_eq q f.0 ≡ a → bytes_eq k q ≡ b
        → cond a (Some f.1) (cond b (Some w) (at_field q fs))
        ≡ cond b (Some w) (cond a (Some f.1) (at_field q fs))
    other apart true true ef ek = let keys : k ≡ f.0 = same_bytes k q ek ∙ same_bytes q f.0 ef in
        absurd (true≢false (sym (ap (bytes_eq k) (sym keys) ∙ bytes_eq-same k) ∙ apart))
    other apart true false ef ek = refl
    other apart false true ef ek = refl
    other apart false false ef ek = refl

    by : (IsSome (at_field k fs) → at_field q (set_value (bytes_eq k) fs w)
        ≡ with_key k (Some w) (λ r. at_field r fs) q) → (b : Bool) → bytes_eq k f.0 ≡ b
        → IsSome (cond b (Some f.1) (at_field k fs))
        → at_field q (cond b ((f.0, w) ∷ fs) (f ∷ set_value (bytes_eq k) fs w))
        ≡ with_key k (Some w) (λ r. at_field r (f ∷ fs)) q
    by rest true e there =
        let keys = same_bytes k f.0 e in
        ap (λ b. cond b (Some w) (at_field q fs)) (same keys) ∙ drop_head (bytes_eq k q) (same keys)
      where
        drop_head : (b : Bool) → bytes_eq q f.0 ≡ b
            → cond b (Some w) (at_field q fs) ≡ cond b (Some w) (at_field q (f ∷ fs))
        drop_head true e = refl
        drop_head false e = sym (tail-at_field q f fs e)
    by rest false e there =
        ap (cond (bytes_eq q f.0) (Some f.1)) (rest there)
        ∙ other e (bytes_eq q f.0) (bytes_eq k q) refl refl

set-Behind : (n : ℕ) (k : List ℕ) (w : Numbered) (fs : List Field) → n < w.order → Behind n fs
    → Behind n (set_value (bytes_eq k) fs w)
set-Behind n k w [] before behind = tt
set-Behind n k w (f ∷ fs) before behind =
    by (set-Behind n k w fs before behind.1) (bytes_eq k f.0)
  where
    by : Behind n (set_value (bytes_eq k) fs w) → (b : Bool)
        → Behind n (cond b ((f.0, w) ∷ fs) (f ∷ set_value (bytes_eq k) fs w))
    by rest true = (before, behind.1)
    by rest false = (behind.0, rest)

set-Rises : (k : List ℕ) (w own : Numbered) (fs : List Field) → at_field k fs ≡ Some own
    → w.order ≡ own.order → Rises fs → Rises (set_value (bytes_eq k) fs w)
set-Rises k w own [] at same rises = tt
set-Rises k w own (f ∷ fs) at same rises =
    by (λ there. set-Rises k w own fs there same rises.2) (bytes_eq k f.0) refl at
  where
    by : (at_field k fs ≡ Some own → Rises (set_value (bytes_eq k) fs w)) → (b : Bool)
        → bytes_eq k f.0 ≡ b → cond b (Some f.1) (at_field k fs) ≡ Some own
        → Rises (cond b ((f.0, w) ∷ fs) (f ∷ set_value (bytes_eq k) fs w))
    by rest true e here =
        let value : f.1 ≡ own = cc here in
        let order : f.1.order ≡ w.order = ap (λ (x : Numbered). x.order) value ∙ sym same in
        (rises.0, subst (λ n. Behind n fs) order rises.1, rises.2)
    by rest false e there =
        let before : f.1.order < w.order = subst (λ n. f.1.order < n) (sym same)
        (Behind-at_field f.1.order k fs own rises.1 there) in (
          set-at_field f.0 k w fs (ap is_some there)
              ∙ ap (λ b. cond b (Some w) (at_field f.0 fs)) e ∙ rises.0,
          set-Behind f.1.order k w fs before rises.1,
          rest there,
        )

-- rising fields without one of them
remove-at_field : (q k : List ℕ) (fs : List Field) → Differ fs
    → at_field q (remove_entry (bytes_eq k) fs) ≡ with_key k None (λ r. at_field r fs) q
remove-at_field q k [] differ = by (bytes_eq k q)
  where
    by : (b : Bool) → at_field q [] ≡ cond b None (at_field q [])
    by true = refl
    by false = refl
remove-at_field q k (f ∷ fs) differ =
    by (remove-at_field q k fs differ.1) (bytes_eq k f.0) refl
  where
    gone : k ≡ f.0 → (b : Bool) → bytes_eq k q ≡ b
        → at_field q fs ≡ cond b None (at_field q (f ∷ fs))
    gone keys true e = ap (λ r. at_field r fs) (sym (same_bytes k q e) ∙ keys) ∙ differ.0
    gone keys false e = sym (tail-at_field q f fs (bytes_eq-other q f.0 (λ own.
        true≢false (sym (ap (bytes_eq k) (own ∙ sym keys) ∙ bytes_eq-same k) ∙ e))))

    other : bytes_eq k f.0 ≡ false → (a b : Bool) → bytes_eq q f.0 ≡ a → bytes_eq k q ≡ b
        → cond a (Some f.1) (cond b None (at_field q fs))
        ≡ cond b None (cond a (Some f.1) (at_field q fs))
    other apart true true ef ek = let keys : k ≡ f.0 = same_bytes k q ek ∙ same_bytes q f.0 ef in
        absurd (true≢false (sym (ap (bytes_eq k) (sym keys) ∙ bytes_eq-same k) ∙ apart))
    other apart true false ef ek = refl
    other apart false true ef ek = refl
    other apart false false ef ek = refl

    by : at_field q (remove_entry (bytes_eq k) fs) ≡ with_key k None (λ r. at_field r fs) q
        → (b : Bool) → bytes_eq k f.0 ≡ b
        → at_field q (cond b fs (f ∷ remove_entry (bytes_eq k) fs))
        ≡ with_key k None (λ r. at_field r (f ∷ fs)) q
    by rest true e = gone (same_bytes k f.0 e) (bytes_eq k q) refl
    by rest false e = ap (cond (bytes_eq q f.0) (Some f.1)) rest
        ∙ other e (bytes_eq q f.0) (bytes_eq k q) refl refl

remove-Behind : (n : ℕ) (k : List ℕ) (fs : List Field) → Behind n fs
    → Behind n (remove_entry (bytes_eq k) fs)
remove-Behind n k [] behind = tt
remove-Behind n k (f ∷ fs) behind = by (remove-Behind n k fs behind.1) (bytes_eq k f.0)
  where
    by : Behind n (remove_entry (bytes_eq k) fs) → (b : Bool)
        → Behind n (cond b fs (f ∷ remove_entry (bytes_eq k) fs))
    by rest true = behind.1
    by rest false = (behind.0, rest)

Rises-Differ : (fs : List Field) → Rises fs → Differ fs
Rises-Differ [] rises = tt
Rises-Differ (f ∷ fs) rises = (rises.0, Rises-Differ fs rises.2)

remove-Rises : (k : List ℕ) (fs : List Field) → Rises fs → Rises (remove_entry (bytes_eq k) fs)
remove-Rises k [] rises = tt
remove-Rises k (f ∷ fs) rises = by (remove-Rises k fs rises.2) (bytes_eq k f.0)
  where
    none : (b : Bool) → bytes_eq k f.0 ≡ b → cond b None (at_field f.0 fs) ≡ None
    none true e = refl
    none false e = rises.0

    by : Rises (remove_entry (bytes_eq k) fs) → (b : Bool)
        → Rises (cond b fs (f ∷ remove_entry (bytes_eq k) fs))
    by rest true = rises.2
    by rest false = (
      remove-at_field f.0 k fs (Rises-Differ fs rises.2) ∙ none (bytes_eq k f.0) refl,
      remove-Behind f.1.order k fs rises.1,
      rest,
    )

-- no two fields have the same place in the order
abbrev pub One : (List ℕ → Option Numbered) → Type 0
One at = (q r : List ℕ) (v w : Numbered) → at q ≡ Some v → at r ≡ Some w → v.order ≡ w.order
    → q ≡ r

-- nor do they after a change at one
pub One-with_key : (at new : List ℕ → Option Numbered) (k : List ℕ) (own : Option Numbered)
    → One at → ((q : List ℕ) → new q ≡ with_key k own at q)
    → ((r : List ℕ) (v w : Numbered) → own ≡ Some v → at r ≡ Some w → v.order ≡ w.order → k ≡ r)
    → One new
One-with_key at new k own one sets fits q r v w at_q at_r same =
    by (bytes_eq k q) (bytes_eq k r) refl refl (sym (sets q) ∙ at_q) (sym (sets r) ∙ at_r)
  where
    by : (a b : Bool) → bytes_eq k q ≡ a → bytes_eq k r ≡ b → cond a own (at q) ≡ Some v
        → cond b own (at r) ≡ Some w → q ≡ r
    by true true eq er hq hr = sym (same_bytes k q eq) ∙ same_bytes k r er
    by true false eq er hq hr = sym (same_bytes k q eq) ∙ fits r v w hq hr same
    by false true eq er hq hr = sym (fits q w v hr hq (sym same)) ∙ same_bytes k r er
    by false false eq er hq hr = one q r v w hq hr same

-- the number of a field
value-pairs : (k : List ℕ) (fs : List Field)
    → field_value k (map pair_of fs) ≡ option_map (λ n. n.number) (at_field k fs)
value-pairs k [] = refl
value-pairs k (f ∷ fs) = by (value-pairs k fs) (bytes_eq k f.0)
  where
    by : field_value k (map pair_of fs) ≡ option_map (λ n. n.number) (at_field k fs) → (b : Bool)
        → cond b (Some f.1.number) (field_value k (map pair_of fs))
        ≡ option_map (λ n. n.number) (cond b (Some f.1) (at_field k fs))
    by rest true = refl
    by rest false = rest

pub field_value-pairs_of : (k : List ℕ) (fs : List Field) → Apart fs
    → field_value k (pairs_of fs) ≡ option_map (λ n. n.number) (at_field k fs)
field_value-pairs_of k fs apart =
    value-pairs k (in_order fs) ∙ ap (option_map (λ n. n.number)) (in_order-at_field k fs apart)

-- the changes, for the pairs
set-pairs : (k : List ℕ) (w : Numbered) (fs : List Field)
    → map pair_of (set_value (bytes_eq k) fs w)
    ≡ set_value (bytes_eq k) (map pair_of fs) w.number
set-pairs k w [] = refl
set-pairs k w (f ∷ fs) = by (set-pairs k w fs) (bytes_eq k f.0)
  where
    by : map pair_of (set_value (bytes_eq k) fs w)
        ≡ set_value (bytes_eq k) (map pair_of fs) w.number → (b : Bool)
        → map pair_of (cond b ((f.0, w) ∷ fs) (f ∷ set_value (bytes_eq k) fs w))
        ≡ cond b ((f.0, w.number) ∷ map pair_of fs)
        (pair_of f ∷ set_value (bytes_eq k) (map pair_of fs) w.number)
    by rest true = refl
    by rest false = ap (λ l. pair_of f ∷ l) rest

remove-pairs : (k : List ℕ) (fs : List Field)
    → map pair_of (remove_entry (bytes_eq k) fs) ≡ remove_entry (bytes_eq k) (map pair_of fs)
remove-pairs k [] = refl
remove-pairs k (f ∷ fs) = by (remove-pairs k fs) (bytes_eq k f.0)
  where
    by : map pair_of (remove_entry (bytes_eq k) fs) ≡ remove_entry (bytes_eq k) (map pair_of fs)
        → (b : Bool) → map pair_of (cond b fs (f ∷ remove_entry (bytes_eq k) fs))
        ≡ cond b (map pair_of fs) (pair_of f ∷ remove_entry (bytes_eq k) (map pair_of fs))
    by rest true = refl
    by rest false = ap (λ l. pair_of f ∷ l) rest

pub pairs_of-pushed : (k : List ℕ) (own : Numbered) (fs gs : List Field) → Apart fs → Apart gs
    → at_field k fs ≡ None
    → ((q : List ℕ) (v : Numbered) → at_field q fs ≡ Some v → v.order < own.order)
    → gs ≡ fs ++ (k, own) ∷ [] → pairs_of gs ≡ pairs_of fs ++ (k, own.number) ∷ []
pairs_of-pushed k own fs gs apart after absent before pushed =
    let gone : at_field k (in_order fs) ≡ None = in_order-at_field k fs apart ∙ absent in
    let new : in_order gs ≡ in_order fs ++ (k, own) ∷ [] =
    same_rising (in_order gs) (in_order fs ++ (k, own) ∷ []) (in_order-Rises gs after)
    (push-Rises (k, own) (in_order fs) gone
    (λ q v at. before q v (sym (in_order-at_field q fs apart) ∙ at)) (in_order-Rises fs apart))
    (λ q. in_order-at_field q gs after ∙ ap (at_field q) pushed
    ∙ push-at_field q (k, own) fs absent
    ∙ ap (cond (bytes_eq q k) (Some own)) (sym (in_order-at_field q fs apart))
    ∙ sym (push-at_field q (k, own) (in_order fs) gone)) in
    ap (map pair_of) new ∙ map-append pair_of (in_order fs) ((k, own) ∷ [])

pub pairs_of-written : (k : List ℕ) (own w : Numbered) (fs gs : List Field) → Apart fs → Apart gs
    → at_field k fs ≡ Some own → w.order ≡ own.order
    → ((q : List ℕ) → at_field q gs ≡ with_key k (Some w) (λ r. at_field r fs) q)
    → pairs_of gs ≡ set_value (bytes_eq k) (pairs_of fs) w.number
pairs_of-written k own w fs gs apart after at same sets =
    let there : at_field k (in_order fs) ≡ Some own = in_order-at_field k fs apart ∙ at in
    let new : in_order gs ≡ set_value (bytes_eq k) (in_order fs) w =
    same_rising (in_order gs) (set_value (bytes_eq k) (in_order fs) w) (in_order-Rises gs after)
    (set-Rises k w own (in_order fs) there same (in_order-Rises fs apart))
    (λ q. in_order-at_field q gs after ∙ sets q
    ∙ ap (cond (bytes_eq k q) (Some w)) (sym (in_order-at_field q fs apart))
    ∙ sym (set-at_field q k w (in_order fs) (ap is_some there))) in
    ap (map pair_of) new ∙ set-pairs k w (in_order fs)

pub pairs_of-removed : (k : List ℕ) (fs gs : List Field) → Apart fs → Apart gs
    → ((q : List ℕ) → at_field q gs ≡ with_key k None (λ r. at_field r fs) q)
    → pairs_of gs ≡ remove_entry (bytes_eq k) (pairs_of fs)
pairs_of-removed k fs gs apart after sets =
    let rises = in_order-Rises fs apart in
    let new : in_order gs ≡ remove_entry (bytes_eq k) (in_order fs) =
    same_rising (in_order gs) (remove_entry (bytes_eq k) (in_order fs)) (in_order-Rises gs after)
    (remove-Rises k (in_order fs) rises)
    (λ q. in_order-at_field q gs after ∙ sets q
    ∙ ap (cond (bytes_eq k q) None) (sym (in_order-at_field q fs apart))
    ∙ sym (remove-at_field q k (in_order fs) (Rises-Differ (in_order fs) rises))) in
    ap (map pair_of) new ∙ remove-pairs k (in_order fs)

-- all fields are at a place or behind it
abbrev AtLeast : ℕ → List Field → Type 0
AtLeast n [] = Unit {0}
AtLeast n (f ∷ fs) = (n ≤ f.1.order) × AtLeast n fs

AtLeast-from : (n : ℕ) (fs : List Field)
    → ((k : ℕ) (d : Field) → k < length fs → n ≤ (get_or fs k d).1.order) → AtLeast n fs
AtLeast-from n [] each = tt
AtLeast-from n (f ∷ fs) each =
    (each 0 f (omega arith), AtLeast-from n fs (λ k d within. each (suc k) d (omega (arith, within))))

Behind-from : (n : ℕ) (fs : List Field) → AtLeast n fs → NotAt n fs → Behind n fs
Behind-from n [] least none = tt
Behind-from n (f ∷ fs) least none =
    let at_least = least.0 in let other = none.0 in
    (omega (arith, at_least, other), Behind-from n fs least.1 none.1)

Rises-sorted : (fs : List Field) → Apart fs
    → ((i j : ℕ) (d : Field) → i ≤ j → j < length fs
    → (get_or fs i d).1.order ≤ (get_or fs j d).1.order) → Rises fs
Rises-sorted [] apart sorted = tt
Rises-sorted (f ∷ fs) apart sorted = (
  apart.0,
  Behind-from f.1.order fs (AtLeast-from f.1.order fs (λ k d within.
      sorted 0 (suc k) d (omega arith) (omega (arith, within)))) apart.1,
  Rises-sorted fs apart.2 (λ i j d le within.
      sorted (suc i) (suc j) d (omega (arith, le)) (omega (arith, within))),
)

-- the fields in another order, sorted
pub pairs_of-sorted : (fs gs : List Field) → Apart fs → Apart gs
    → ((q : List ℕ) → at_field q gs ≡ at_field q fs)
    → ((i j : ℕ) (d : Field) → i ≤ j → j < length gs
    → (get_or gs i d).1.order ≤ (get_or gs j d).1.order)
    → map pair_of gs ≡ pairs_of fs
pairs_of-sorted fs gs apart after same sorted =
    ap (map pair_of) (same_rising gs (in_order fs) (Rises-sorted gs after sorted)
    (in_order-Rises fs apart) (λ q. same q ∙ sym (in_order-at_field q fs apart)))

-- the fields of a map whose fields differ and have places of their own
pub Apart-unique : (fs : List Field) → IsDistinct bytes_eq (keys_of fs)
    → One (λ q. at_field q fs) → Apart fs
Apart-unique fs unique one = Apart-from fs (Differ-distinct fs unique) one
