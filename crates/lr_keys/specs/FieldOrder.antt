-- The order of making among the fields of a hash, by a number of each field (this project's own).
use Rattle.std.specs.Prelude.{◌≡◌, ◌<◌, ◌-◌, ◌^◌, ℕ, List, [], ◌∷◌, Some, map, min, nat_lt, if◌then◌else◌}
use Rattle.std.specs.Option.{ForSome}
use Rattle.std.specs.Str.{bytes_eq}
use Rattle.indexmap.specs.IndexMap.{get, spare, IsUnique}
use Rattle.lr_keys.specs.declared.field_map.FieldMap.TheInside.{Inside}
use Rattle.lr_keys.specs.declared.field_map.Numbered.{Numbered}
use Rattle.lr_keys.specs.FieldMap.{FieldTable, Pairs}
pub use Rattle.lr_keys.specs.PairOf.{Field, pair_of}

-- fields in order with one more
abbrev pub put_in_order : Field → List Field → List Field
put_in_order new [] = new ∷ []
put_in_order new (f ∷ fs) =
    if nat_lt new.1.order f.1.order then new ∷ f ∷ fs else f ∷ put_in_order new fs

-- the fields in order of making
abbrev pub in_order : List Field → List Field
in_order [] = []
in_order (f ∷ fs) = put_in_order f (in_order fs)

-- the fields with their numbers, in order of making
abbrev pub pairs_of : List Field → Pairs
pairs_of fields = map pair_of (in_order fields)

-- what the fields of a field map stand for
abbrev pub field_table : Inside → FieldTable
field_table s = record {
  pairs = pairs_of s.fields.entries;
  room = min (spare s.fields) (2 ^ 64 - 1 - s.next);
}

-- no two fields are the same or have the same place in the order, and the next place is behind all
pub record AreOrdered (s : Inside) : Type 0 where
  pub unique : IsUnique bytes_eq s.fields
  pub behind : (q : List ℕ) → ForSome (get bytes_eq s.fields q) (λ f. f.order < s.next)
  pub apart : (q r : List ℕ) (f g : Numbered) → get bytes_eq s.fields q ≡ Some f
      → get bytes_eq s.fields r ≡ Some g → f.order ≡ g.order → q ≡ r
