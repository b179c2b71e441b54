-- For which numbers the keys of a part stand: laws for the crates above.
use Rattle.std.proofs.Common.{◌≡◌, ◌≤◌, ℕ, Bool, true, false, List, Option, Some, None, if◌then◌else◌, refl, ap, subst, ◌∙◌}
use Rattle.std.specs.Str.{bytes_eq}
use Rattle.lr_names.specs.Key.{key_text}
use Rattle.lr_names.specs.Name.{IsName}
use Rattle.lr_names.specs.declared.part.Part.{Part}
use Rattle.lr_names.proofs.KeyLaws.{keys_differ}
use Rattle.lr_keys.specs.KeySpace.{Keys, ChangesOnly, entry_at, live_entry, live_entries}
use Rattle.lr_keys.proofs.FrameLaws.{at_key, live_stays}
use Rattle.lr_keys.proofs.TableLaws.{same_bytes}
use Rattle.lr_model.specs.Table.{put}
use Rattle.lr_counter.specs.Numbers.{IsNumberAt, NumbersStand, number_entry_of}

-- a number never expires
pub live_entry-number : (moment : ℕ) (number : Option ℕ)
    → live_entry moment (number_entry_of number) ≡ number_entry_of number
live_entry-number moment None = refl
live_entry-number moment (Some n) = refl

-- A step at one key, once the moment has come: the keys of the part's other names hold what is live
-- of them.
pub other_names_are_live : (old middle new : Keys) (moment : ℕ) → middle.moment ≡ moment
    → entry_at middle ≡ live_entries moment (entry_at old) → new.moment ≡ middle.moment
    → (part : Part) (name : List ℕ) → ChangesOnly (key_text part name) middle new
    → (q : List ℕ) → bytes_eq name q ≡ false
    → entry_at new (key_text part q) ≡ live_entry new.moment (entry_at old (key_text part q))
other_names_are_live old middle new moment passed left now part name others q other =
    live_stays old middle new moment passed left now (key_text part q)
    (others (key_text part q) (keys_differ part part name q (λ _. other)))

module _ (part : Part) (most : ℕ) where
  -- where there is no key there is no number
  pub no_numbers_stand : (keys : Keys) → entry_at keys ≡ (λ _. None)
      → NumbersStand part most keys (λ name. None)
  no_numbers_stand keys none = record {
    at_keys = λ name named. at_key (entry_at keys) (λ _. None) none (key_text part name);
    bounds = λ name number at. absurd (cc at);
  }

  module _ (old : Keys) (numbers : List ℕ → Option ℕ) (stand : NumbersStand part most old numbers) where
    -- what is at a key later
    live_at : (moment : ℕ) (name : List ℕ) → IsName name
        → live_entry moment (entry_at old (key_text part name)) ≡ number_entry_of (numbers name)
    live_at moment name named =
        ap (live_entry moment) (stand.at_keys name named) ∙ live_entry-number moment (numbers name)

    -- the number at a moment, by what is left of the keys then
    pub number_at : (moment : ℕ) (name : List ℕ) → IsName name
        → IsNumberAt most (live_entry moment (entry_at old (key_text part name))) (numbers name)
    number_at moment name named = record {
      stands = live_at moment name named;
      within = λ n at. stand.bounds name n at;
    }

    -- where nothing changes but the memory that is prepared
    pub numbers_stand_settled : (new : Keys) → entry_at new ≡ entry_at old
        → NumbersStand part most new numbers
    numbers_stand_settled new entries = record {
      at_keys = λ name named.
          at_key (entry_at new) (entry_at old) entries (key_text part name)
          ∙ stand.at_keys name named;
      bounds = stand.bounds;
    }

    -- As time goes on, what is left of the keys stands for the same numbers.
    pub numbers_stand_later : (new : Keys)
        → ((name : List ℕ) → IsName name
        → entry_at new (key_text part name) ≡ live_entry new.moment (entry_at old (key_text part name)))
        → NumbersStand part most new numbers
    numbers_stand_later new entries = record {
      at_keys = λ name named. entries name named ∙ live_at new.moment name named;
      bounds = stand.bounds;
    }

  -- Objects of a table that are seen as numbers: where one key holds another number, and all others
  -- what is live of theirs, the keys stand for the table with that object.
  module _ {X : Type 0} (view : X → Option ℕ) (old new : Keys) (table : List ℕ → X)
      (stand : NumbersStand part most old (λ q. view (table q))) where
    pub numbers_stand_with : (name : List ℕ) (object : X)
        → IsNumberAt most (entry_at new (key_text part name)) (view object)
        → ((q : List ℕ) → IsName q → bytes_eq name q ≡ false
        → entry_at new (key_text part q) ≡ live_entry new.moment (entry_at old (key_text part q)))
        → NumbersStand part most new (λ q. view (put bytes_eq table name object q))
    numbers_stand_with name object here others = record {
      at_keys = λ q named. by q named (bytes_eq name q) refl;
      bounds = λ q n at. bound q n (bytes_eq name q) at;
    }
      where
        by : (q : List ℕ) → IsName q → (b : Bool) → bytes_eq name q ≡ b → entry_at new (key_text part q)
            ≡ number_entry_of (view (if b then object else table q))
        by q named true same =
            subst (λ n. entry_at new (key_text part n) ≡ number_entry_of (view object))
            (same_bytes name q same) here.stands
        by q named false other =
            others q named other ∙ live_at old (λ n. view (table n)) stand new.moment q named

        bound : (q : List ℕ) (n : ℕ) (b : Bool) → view (if b then object else table q) ≡ Some n
            → n ≤ most
        bound q n true at = here.within n at
        bound q n false at = stand.bounds q n at
