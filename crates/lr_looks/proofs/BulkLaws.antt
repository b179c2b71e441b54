-- Laws of lists of bulk strings.
use Rattle.std.proofs.Common.{◌≡◌, ℕ, ◌+◌, ◌<◌, List, [], ◌∷◌, ◌++◌, length, take, get_or, ℤ, refl, ap, ◌∙◌}
use Rattle.std.proofs.lemmas.List.{map-append, take_more}
use Rattle.std.specs.Fmt.{signed_decimal}
use Rattle.lr_keys.specs.FieldMap.{Pairs}
use Rattle.lr_resp.specs.declared.frame.Frame.TheVariants.{Bulk}
use Rattle.lr_looks.specs.Bulks.{bulk_list}
use Rattle.lr_looks.specs.Looks.{pair_texts}

bulk_list-append : (xs ys : List (List ℕ)) → bulk_list (xs ++ ys) ≡ bulk_list xs ++ bulk_list ys
bulk_list-append xs ys = map-append (λ text. Bulk text) xs ys

-- one field more is two
pair_texts-append : (ps qs : Pairs) → pair_texts (ps ++ qs) ≡ pair_texts ps ++ pair_texts qs
pair_texts-append [] qs = refl
pair_texts-append (p ∷ ps) qs =
    ap (λ (ts : List (List ℕ)). p.0 ∷ signed_decimal p.1 ∷ ts) (pair_texts-append ps qs)

pub pair_bulks-more : (pairs : Pairs) (i : ℕ) (d : List ℕ × ℤ) → i < length pairs
    → bulk_list (pair_texts (take (i + 1) pairs))
    ≡ bulk_list (pair_texts (take i pairs))
    ++ Bulk (get_or pairs i d).0 ∷ Bulk (signed_decimal (get_or pairs i d).1) ∷ []
pair_bulks-more pairs i d within =
    let before = take i pairs in
    let next = get_or pairs i d in
    ap (λ ps. bulk_list (pair_texts ps)) (take_more pairs i d within)
    ∙ ap bulk_list (pair_texts-append before (next ∷ []))
    ∙ bulk_list-append (pair_texts before) (next.0 ∷ signed_decimal next.1 ∷ [])
