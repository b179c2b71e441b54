-- Laws of tables: what stands at a key after `put`.
use Rattle.std.proofs.Common.{◌≡◌, ◌≢◌, ℕ, Bool, true, false, cond, List, Option, None, refl, sym, ap, subst, ◌∙◌, true≢false}
use Rattle.std.specs.Str.{bytes_eq}
use Rattle.std.proofs.lemmas.Slice.Eq.{bytes_eq-Decides}
use Rattle.lr_keys.specs.Table.{with_key}

-- bytes are equal to themselves
pub bytes_eq-same : (key : List ℕ) → bytes_eq key key ≡ true
bytes_eq-same key = (bytes_eq-Decides key key).1 refl

-- and to no others
pub same_bytes : (key q : List ℕ) → bytes_eq key q ≡ true → key ≡ q
same_bytes key q e = (bytes_eq-Decides key q).0 e

pub bytes_eq-other : (key q : List ℕ) → key ≢ q → bytes_eq key q ≡ false
bytes_eq-other key q apart = by (bytes_eq key q) refl
  where
    by : (b : Bool) → bytes_eq key q ≡ b → b ≡ false
    by true e = absurd (apart (same_bytes key q e))
    by false e = refl

-- either way round
pub bytes_eq-sym : (key q : List ℕ) → bytes_eq key q ≡ bytes_eq q key
bytes_eq-sym key q = by (bytes_eq q key) refl
  where
    by : (b : Bool) → bytes_eq q key ≡ b → bytes_eq key q ≡ b
    by true e = ap (bytes_eq key) (same_bytes q key e) ∙ bytes_eq-same key
    by false e = bytes_eq-other key q (λ same.
        true≢false (sym (ap (bytes_eq q) same ∙ bytes_eq-same q) ∙ e))

module _ {X : Type 0} (key : List ℕ) (value : Option X) (table : List ℕ → Option X) where
  -- what was put at the key stands there
  pub with_key-same : with_key key value table key ≡ value
  with_key-same = ap (λ b. cond b value (table key)) (bytes_eq-same key)

  -- other keys keep what they have
  pub with_key-other : (q : List ℕ) → key ≢ q → with_key key value table q ≡ table q
  with_key-other q apart = ap (λ b. cond b value (table q)) (bytes_eq-other key q apart)

  -- the last of two at one key stands
  pub with_key-with_key : (before : Option X)
      → with_key key value (with_key key before table) ≡ with_key key value table
  with_key-with_key before = λ i q. by (bytes_eq key q) q i
    where
      by : (b : Bool) (q : List ℕ) → cond b value (cond b before (table q)) ≡ cond b value (table q)
      by true q = refl
      by false q = refl

-- what stands there already
pub with_key-own : {X : Type 0} (key : List ℕ) (table : List ℕ → Option X)
    → with_key key (table key) table ≡ table
with_key-own {X} key table = λ i q. by q (bytes_eq key q) refl i
  where
    by : (q : List ℕ) (b : Bool) → bytes_eq key q ≡ b → cond b (table key) (table q) ≡ table q
    by q true e = ap table (same_bytes key q e)
    by q false e = refl

pub with_key-absent : {X : Type 0} (key : List ℕ) (table : List ℕ → Option X) → table key ≡ None
    → with_key key None table ≡ table
with_key-absent key table absent = ap (λ o. with_key key o table) (sym absent)
    ∙ with_key-own key table

-- a fact of each key after a change at one key
pub at_each-with_key : {X : Type 0} (P : List ℕ → Option X → Type 0) (f g : List ℕ
    → Option X) (key : List ℕ) (w : Option X) → ((q : List ℕ) → g q ≡ with_key key w f q) → P key w
    → ((q : List ℕ) → P q (f q)) → (q : List ℕ) → P q (g q)
at_each-with_key {X} P f g key w sets here there q =
    subst (P q) (sym (sets q)) (by (bytes_eq key q) refl)
  where
    by : (b : Bool) → bytes_eq key q ≡ b → P q (cond b w (f q))
    by true e = subst (λ k. P k w) (same_bytes key q e) here
    by false e = there q
