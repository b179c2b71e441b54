-- For which expirable permits keys stand: laws for the crates above.
use Rattle.std.proofs.Common.{◌≡◌, ℕ, Bool, true, false, List, Option, None, if◌then◌else◌, refl, ap, subst, ◌∙◌, arith}
use Rattle.std.specs.List.{IsDistinct}
use Rattle.std.specs.Str.{bytes_eq}
use Rattle.lr_names.specs.Key.{key_text}
use Rattle.lr_names.specs.Name.{IsName}
use Rattle.lr_names.specs.declared.part.Part.TheVariants as parts
use Rattle.lr_names.proofs.KeyLaws.{keys_differ}
use Rattle.lr_keys.specs.KeySpace.{KeyEntry, Keys, entry_at, live_entry}
use Rattle.lr_keys.proofs.TableLaws.{same_bytes}
use Rattle.lr_model.specs.Answer.{Objects, no_objects}
use Rattle.lr_model.specs.Permits.{Permits}
use Rattle.lr_model.specs.Table.{put}
use Rattle.lr_expirable.specs.Stands.{ArePermitsAt, PermitsStand}
use Rattle.lr_expirable.proofs.RunLemmas.{at-later}

-- where there is no key there are no permits
pub no_keys_stand : (keys : Keys) → entry_at keys ≡ (λ _. None) → PermitsStand keys no_objects
unfolding IsDistinct
no_keys_stand keys none = record {
  each = λ name named. record {
    number_at = record { stands = absent (key_text parts.Permits name); within = λ n is. absurd (cc is) };
    some = λ n is. absurd (cc is);
    leases_at = record {
      stands = absent (key_text parts.PermitLeases name);
      are = record { ids = tt; distinct = tt; early = tt; few = omega arith };
    };
    enough = omega arith;
  };
}
  where
    absent : (key : List ℕ) → entry_at keys key ≡ None
    absent key = ap (λ (f : List ℕ → Option KeyEntry). f key) none

-- what is left of the keys later stands for the same permits
pub permits_stand_later : (old new : Keys) (objects : Objects) → PermitsStand old objects
    → ((name : List ℕ) → IsName name
    → entry_at new (key_text parts.Permits name)
    ≡ live_entry new.moment (entry_at old (key_text parts.Permits name)))
    → ((name : List ℕ) → IsName name
    → entry_at new (key_text parts.PermitLeases name)
    ≡ live_entry new.moment (entry_at old (key_text parts.PermitLeases name)))
    → PermitsStand new objects
permits_stand_later old new objects stand numbers leases = record {
  each = λ name named.
      at-later old new new.moment (key_text parts.Permits name) (key_text parts.PermitLeases name)
      (objects.permits name) (numbers name named) (leases name named) (stand.each name named);
}

-- memory that is given up changes nothing
pub permits_stand_settled : (old new : Keys) (objects : Objects) → PermitsStand old objects
    → entry_at new ≡ entry_at old → PermitsStand new objects
permits_stand_settled old new objects stand same = record {
  each = λ name named.
      let at = stand.each name named in
      record {
        number_at = record {
          stands = there (key_text parts.Permits name) ∙ at.number_at.stands;
          within = at.number_at.within;
        };
        some = at.some;
        leases_at = record {
          stands = there (key_text parts.PermitLeases name) ∙ at.leases_at.stands;
          are = at.leases_at.are;
        };
        enough = at.enough;
      };
}
  where
    there : (key : List ℕ) → entry_at new key ≡ entry_at old key
    there key = ap (λ (f : List ℕ → Option KeyEntry). f key) same

-- a step on the keys of one name
pub permits_stand_with : (old new : Keys) (moment : ℕ) (objects : Objects)
    → PermitsStand old objects → (name : List ℕ) (permits : Permits)
    → ArePermitsAt new (key_text parts.Permits name) (key_text parts.PermitLeases name) permits
    → ((key : List ℕ) → bytes_eq (key_text parts.Permits name) key ≡ false
    → bytes_eq (key_text parts.PermitLeases name) key ≡ false
    → entry_at new key ≡ live_entry moment (entry_at old key))
    → PermitsStand new (record objects { permits = put bytes_eq objects.permits name permits })
permits_stand_with old new moment objects stand name permits at others = record {
  each = λ q named. by q named (bytes_eq name q) refl;
}
  where
    by : (q : List ℕ) → IsName q → (here : Bool) → bytes_eq name q ≡ here
        → ArePermitsAt new (key_text parts.Permits q) (key_text parts.PermitLeases q)
        (if here then permits else objects.permits q)
    by q named true same =
        subst (λ n. ArePermitsAt new (key_text parts.Permits n) (key_text parts.PermitLeases n)
        permits) (same_bytes name q same) at
    by q named false other =
        at-later old new moment (key_text parts.Permits q) (key_text parts.PermitLeases q)
        (objects.permits q)
        (others (key_text parts.Permits q) (keys_differ parts.Permits parts.Permits name q (λ e. other))
        (keys_differ parts.PermitLeases parts.Permits name q (λ e. absurd (cc e))))
        (others (key_text parts.PermitLeases q)
        (keys_differ parts.Permits parts.PermitLeases name q (λ e. absurd (cc e)))
        (keys_differ parts.PermitLeases parts.PermitLeases name q (λ e. other)))
        (stand.each q named)
