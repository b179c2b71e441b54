-- Laws of what a step leaves as it was, for the crates above.
use Rattle.std.proofs.Common.{◌≡◌, ◌≢◌, ◌<◌, ℕ, Bool, true, false, ◌||◌, List, [], ◌∷◌, ◌++◌, Option, Some, None, if◌then◌else◌, refl, ap, sym, ◌∙◌, true≢false, arith}
use Rattle.std.specs.List.{list_any}
use Rattle.std.specs.Option.{ForSome}
use Rattle.std.specs.Str.{bytes_eq}
use Rattle.std.proofs.lemmas.Bool.Decides.{nat_tests}
use Rattle.std.proofs.lemmas.List.Folds.{list_any-append}
use Rattle.lr_keys.specs.KeySpace.{KeyEntry, Keys, ChangesOnly, OthersAreLive, entry_at, is_ahead, live_entry, live_entries}
use Rattle.lr_keys.specs.Table.{with_key}
use Rattle.lr_keys.proofs.TableLaws.{bytes_eq-same, bytes_eq-other, with_key-other}

-- what is live stays live at the same moment
pub live_entry-live_entry : (moment : ℕ) (entry : Option KeyEntry)
    → live_entry moment (live_entry moment entry) ≡ live_entry moment entry
live_entry-live_entry moment None = refl
live_entry-live_entry moment (Some e) = by (is_ahead moment e.expiry) refl
  where
    by : (b : Bool) → is_ahead moment e.expiry ≡ b
        → live_entry moment (if b then Some e else None) ≡ (if b then Some e else None)
    by true ahead = ap (λ (b : Bool). if b then Some e else None) ahead
    by false gone = refl

-- a key whose expiry lies ahead is all there
pub live_entry-ahead : (moment : ℕ) (entry : KeyEntry)
    → ForSome entry.expiry (λ expiry. moment < expiry)
    → live_entry moment (Some entry) ≡ Some entry
live_entry-ahead moment entry ahead = ap (λ (b : Bool). if b then Some entry else None) is
  where
    by : (expiry : Option ℕ) → ForSome expiry (λ e. moment < e) → is_ahead moment expiry ≡ true
    by None ahead = refl
    by (Some expiry) ahead =
        let before : moment < expiry = ahead expiry refl in
        grind (arith, before, nat_tests)

    is : is_ahead moment entry.expiry ≡ true
    is = by entry.expiry ahead

-- a key that isn't in a list is none of its keys
pub list_any-head : (q key : List ℕ) (list : List (List ℕ))
    → list_any (bytes_eq q) (key ∷ list) ≡ false → key ≢ q
list_any-head q key list apart same =
    let found : bytes_eq q key ≡ true = ap (bytes_eq q) same ∙ bytes_eq-same q in
    absurd (true≢false (sym (ap (λ (b : Bool). b || list_any (bytes_eq q) list) found) ∙ apart))

pub list_any-tail : (q key : List ℕ) (list : List (List ℕ))
    → list_any (bytes_eq q) (key ∷ list) ≡ false → list_any (bytes_eq q) list ≡ false
list_any-tail q key list apart = right (bytes_eq q key) apart
  where
    right : (b : Bool) → (b || list_any (bytes_eq q) list) ≡ false
        → list_any (bytes_eq q) list ≡ false
    right true h = absurd (true≢false h)
    right false h = h

-- what isn't in two lists together is in neither
pub list_any-parts : (q : List ℕ) (first second : List (List ℕ))
    → list_any (bytes_eq q) (first ++ second) ≡ false
    → (list_any (bytes_eq q) first ≡ false) × (list_any (bytes_eq q) second ≡ false)
list_any-parts q first second apart =
    both (list_any (bytes_eq q) first) (list_any (bytes_eq q) second)
    (sym (list_any-append (bytes_eq q) first second) ∙ apart)
  where
    both : (a b : Bool) → (a || b) ≡ false → (a ≡ false) × (b ≡ false)
    both true b h = absurd (true≢false h)
    both false b h = (refl, h)

module _ (old new : Keys) where
  -- where each key holds what is live of it, so do those outside any list
  pub OthersAreLive-live : (list : List (List ℕ))
      → entry_at new ≡ live_entries new.moment (entry_at old) → OthersAreLive list old new
  OthersAreLive-live list entries = λ q apart. ap (λ (f : List ℕ → Option KeyEntry). f q) entries

  -- what was written at one key, once the moment went on
  pub OthersAreLive-with_key : (key : List ℕ) (entry : Option KeyEntry) (moment : ℕ)
      → entry_at new ≡ with_key key entry (live_entries moment (entry_at old))
      → new.moment ≡ moment → OthersAreLive (key ∷ []) old new
  OthersAreLive-with_key key entry moment entries now = λ q apart.
      ap (λ (f : List ℕ → Option KeyEntry). f q) entries
      ∙ with_key-other key entry (live_entries moment (entry_at old)) q
      (list_any-head q key [] apart)
      ∙ ap (λ m. live_entry m (entry_at old q)) (sym now)

  -- the same for a list that has those keys and more
  pub OthersAreLive-longer : (list longer : List (List ℕ))
      → ((q : List ℕ) → list_any (bytes_eq q) longer ≡ false → list_any (bytes_eq q) list ≡ false)
      → OthersAreLive list old new → OthersAreLive longer old new
  OthersAreLive-longer list longer among others = λ q apart. others q (among q apart)

  pub OthersAreLive-cons : (key : List ℕ) (list : List (List ℕ)) → OthersAreLive list old new
      → OthersAreLive (key ∷ list) old new
  OthersAreLive-cons key list others = λ q apart. others q (list_any-tail q key list apart)

  pub OthersAreLive-before : (list more : List (List ℕ)) → OthersAreLive list old new
      → OthersAreLive (list ++ more) old new
  OthersAreLive-before list more others = λ q apart. others q (list_any-parts q list more apart).0

  pub OthersAreLive-behind : (more list : List (List ℕ)) → OthersAreLive list old new
      → OthersAreLive (more ++ list) old new
  OthersAreLive-behind more list others = λ q apart. others q (list_any-parts q more list apart).1

-- two steps at one moment
pub OthersAreLive-then : (old middle new : Keys) (first second : List (List ℕ))
    → new.moment ≡ middle.moment
    → OthersAreLive first old middle → OthersAreLive second middle new
    → OthersAreLive (first ++ second) old new
OthersAreLive-then old middle new first second now before behind = λ q apart.
    let parts = list_any-parts q first second apart in
    let left : entry_at middle q ≡ live_entry new.moment (entry_at old q) =
    before q parts.0 ∙ ap (λ m. live_entry m (entry_at old q)) (sym now) in
    behind q parts.1 ∙ ap (live_entry new.moment) left
    ∙ live_entry-live_entry new.moment (entry_at old q)

-- a step, and then what is written at one key at its moment
pub OthersAreLive-then_with_key : (old middle new : Keys) (list : List (List ℕ)) (key : List ℕ)
    (entry : Option KeyEntry) → new.moment ≡ middle.moment
    → OthersAreLive list old middle → entry_at new ≡ with_key key entry (entry_at middle)
    → OthersAreLive (key ∷ list) old new
OthersAreLive-then_with_key old middle new list key entry now before entries = λ q apart.
    ap (λ (f : List ℕ → Option KeyEntry). f q) entries
    ∙ with_key-other key entry (entry_at middle) q (list_any-head q key list apart)
    ∙ before q (list_any-tail q key list apart)
    ∙ ap (λ m. live_entry m (entry_at old q)) (sym now)

-- what one key of equal tables has
pub at_key : (f g : List ℕ → Option KeyEntry) → f ≡ g → (key : List ℕ) → f key ≡ g key
at_key f g same key = ap (λ (t : List ℕ → Option KeyEntry). t key) same

-- A step at some keys, once the moment has come: from the keys before both to those after both.
module _ (old middle new : Keys) (moment : ℕ) (passed : middle.moment ≡ moment)
    (left : entry_at middle ≡ live_entries moment (entry_at old))
    (now : new.moment ≡ middle.moment) where
  -- a key that stayed as it was holds what is live of it
  pub live_stays : (q : List ℕ) → entry_at new q ≡ entry_at middle q
      → entry_at new q ≡ live_entry new.moment (entry_at old q)
  live_stays q same =
      same ∙ at_key (entry_at middle) (live_entries moment (entry_at old)) left q
      ∙ ap (λ m. live_entry m (entry_at old q)) (sym (now ∙ passed))

  -- all other keys hold what is live of them
  pub others_are_live : (key : List ℕ) → ChangesOnly key middle new
      → OthersAreLive (key ∷ []) old new
  others_are_live key others = λ q apart.
      live_stays q (others q (bytes_eq-other key q (list_any-head q key [] apart)))
