-- What a contract sees of a field map, after each change of its fields.
use Rattle.std.proofs.Common.{◌≡◌, ◌<◌, ℕ, List, [], ◌∷◌, ◌++◌, cond, map, Option, Some, None, IsSome, is_some, refl, ap, sym, subst, ◌∙◌, arith}
use Rattle.std.specs.List.{IsDistinct}
use Rattle.std.specs.Map.{keys_of, remove_entry, set_value}
use Rattle.std.specs.Option.{option_map}
use Rattle.std.specs.Str.{bytes_eq}
use Rattle.std.specs.Cmp.Lexicographic.{nat_list_eq_equiv}
use Rattle.std.specs.List.Sorted.{IsNonDecreasingBy, IsPermutation}
use Rattle.std.proofs.lemmas.List.Sorted.{IsPermutation-map}
use Rattle.indexmap.proofs.MapLemmas.{distinct_permutation, lookup_permutation}
use Rattle.indexmap.specs.IndexMap.{insert_entry}
use Rattle.lr_keys.specs.declared.field_map.FieldMap.TheInside.{Inside}
use Rattle.lr_keys.specs.declared.field_map.Numbered.{Numbered}
use Rattle.lr_keys.specs.FieldMap.{FieldTable, field_value, with_field, without_field}
use Rattle.lr_keys.specs.FieldOrder.{AreOrdered, Field, field_table, pair_of, pairs_of}
use Rattle.lr_keys.specs.Table.{with_key}
use Rattle.lr_keys.proofs.FieldMapLemmas.{with_field-last, with_field-there}
use Rattle.lr_keys.proofs.OrderLemmas.{Apart, Apart-unique, One-with_key, at_field, field_value-pairs_of, pairs_of-pushed, pairs_of-removed, pairs_of-sorted, pairs_of-written, push-at_field}
use Rattle.lr_keys.proofs.TableLaws.{bytes_eq-sym}

-- an option of which something is shown
pub none_shown : {X Y : Type 0} (f : X → Y) (o : Option X) → option_map f o ≡ None → o ≡ None
none_shown f None e = refl
none_shown f (Some x) e = absurd (cc e)

pub is_some-shown : {X Y : Type 0} (f : X → Y) (o : Option X) → is_some (option_map f o) ≡ is_some o
is_some-shown f None = refl
is_some-shown f (Some x) = refl

module _ (s : Inside) (table : FieldTable) (kept : AreOrdered s) (view : field_table s ≡ table) where
  apart : Apart s.fields.entries
  apart = Apart-unique s.fields.entries kept.unique kept.apart

  pairs : pairs_of s.fields.entries ≡ table.pairs
  pairs = ap (λ t. t.pairs) view

  -- what is seen of a field
  pub shown : (k : List ℕ) → field_value k table.pairs
      ≡ option_map (λ n. n.number) (at_field k s.fields.entries)
  shown k = ap (field_value k) (sym pairs) ∙ field_value-pairs_of k s.fields.entries apart

  module _ (k : List ℕ) (gs : List Field) (unique : IsDistinct bytes_eq (keys_of gs)) where
    -- a new field behind all
    pub pushed : (own : Numbered) → field_value k table.pairs ≡ None → own.order ≡ s.next
        → gs ≡ insert_entry bytes_eq s.fields.entries k own
        → pairs_of gs ≡ with_field k own.number table.pairs
    pushed own new last inserts =
        let absent : at_field k s.fields.entries ≡ None =
        none_shown (λ n. n.number) (at_field k s.fields.entries) (sym (shown k) ∙ new) in
        let pushes : gs ≡ s.fields.entries ++ (k, own) ∷ [] =
        inserts ∙ with_field-last k own s.fields.entries absent in
        let before = λ (q : List ℕ) (v : Numbered) (at : at_field q s.fields.entries ≡ Some v).
        subst (λ n. v.order < n) (sym last) (kept.behind q v at) in
        let after = Apart-unique gs unique (One-with_key (λ q. at_field q s.fields.entries)
        (λ q. at_field q gs) k (Some own) kept.apart
        (λ q. ap (at_field q) pushes ∙ push-at_field q (k, own) s.fields.entries absent
        ∙ ap (λ b. cond b (Some own) (at_field q s.fields.entries)) (bytes_eq-sym q k))
        (λ r v w is at same.
        let own_is : own ≡ v = cc is in
        let less : w.order < own.order = before r w at in
        let order : own.order ≡ w.order = ap (λ (x : Numbered). x.order) own_is ∙ same in
        absurd (omega (arith, less, order)))) in
        pairs_of-pushed k own s.fields.entries gs apart after absent before pushes
        ∙ ap (λ ps. ps ++ (k, own.number) ∷ []) pairs
        ∙ sym (with_field-last k own.number table.pairs new)

    -- another number at a field
    pub written : (own w : Numbered) → at_field k s.fields.entries ≡ Some own
        → w.order ≡ own.order
        → ((q : List ℕ) → at_field q gs
        ≡ with_key k (Some w) (λ r. at_field r s.fields.entries) q)
        → pairs_of gs ≡ with_field k w.number table.pairs
    written own w at same sets =
        let after = Apart-unique gs unique (One-with_key (λ q. at_field q s.fields.entries)
        (λ q. at_field q gs) k (Some w) kept.apart sets (λ r v x is there order.
        let w_is : w ≡ v = cc is in
        kept.apart k r own x at there (sym same ∙ ap (λ (y : Numbered). y.order) w_is ∙ order))) in
        let there : IsSome (field_value k table.pairs) =
        ap is_some (shown k ∙ ap (option_map (λ n. n.number)) at) in
        pairs_of-written k own w s.fields.entries gs apart after at same sets
        ∙ ap (λ ps. set_value (bytes_eq k) ps w.number) pairs
        ∙ sym (with_field-there k w.number table.pairs there)

    -- a field less
    pub removed : ((q : List ℕ) → at_field q gs
        ≡ with_key k None (λ r. at_field r s.fields.entries) q)
        → pairs_of gs ≡ without_field k table.pairs
    removed sets =
        let after = Apart-unique gs unique (One-with_key (λ q. at_field q s.fields.entries)
        (λ q. at_field q gs) k None kept.apart sets (λ r v w is. absurd (cc is))) in
        pairs_of-removed k s.fields.entries gs apart after sets
        ∙ ap (remove_entry (bytes_eq k)) pairs

  -- all fields, put in order
  pub sorted : (gs : List Field) → IsPermutation s.fields.entries gs
      → IsNonDecreasingBy (λ f. f.1.order) gs → map pair_of gs ≡ table.pairs
  sorted gs moves rises =
      let unique = distinct_permutation nat_list_eq_equiv (keys_of s.fields.entries) (keys_of gs)
      (IsPermutation-map (λ f. f.0) s.fields.entries gs moves) kept.unique in
      let finds = λ (q : List ℕ). lookup_permutation nat_list_eq_equiv s.fields.entries gs moves
      unique (bytes_eq q) (nat_list_eq_equiv.congr q) in
      let after = Apart-unique gs unique (λ q r v w at_q at_r same.
      kept.apart q r v w (sym (finds q) ∙ at_q) (sym (finds r) ∙ at_r) same) in
      pairs_of-sorted s.fields.entries gs apart after finds rises ∙ pairs
