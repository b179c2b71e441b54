-- What encoding an array owes.
use Rattle.std.proofs.Common.{◌≡◌, ℕ, zero, suc, ◌+◌, ◌≤◌, ◌<◌, List, [], ◌∷◌, ◌++◌, length, take, map, get_or, decimal, arith, refl, sym, ap, ◌∙◌, length-append}
use Rattle.std.specs.List.{concat}
use Rattle.std.proofs.lemmas.List.{append-nil, append_assoc}
use Rattle.lr_resp.specs.declared.frame.Frame.{Frame}
use Rattle.lr_resp.specs.declared.frame.Frame.TheVariants as frames
use Rattle.lr_resp.specs.Spelling.{spelling, line_end}

item_within : (fs : List Frame) (i : ℕ) (d : Frame) → i < length fs
    → length (spelling (get_or fs i d)) ≤ length (concat (map spelling fs))
item_within [] i d h = absurd (omega arith)
item_within (f ∷ fs) zero d h = omega (arith, length-append (spelling f) (concat (map spelling fs)))
item_within (f ∷ fs) (suc i) d h =
    omega (
      arith,
      item_within fs i d (omega arith),
      length-append (spelling f)
          (concat (map spelling fs)),
    )

-- an item has fewer bytes than its array
pub item_smaller : (frame item : Frame) (items : List (List ℕ)) (fs : List Frame) (i : ℕ)
    → frame ≡ frames.Array items → map spelling fs ≡ items
    → i < length fs → item ≡ get_or fs i item → length (spelling item) < length (spelling frame)
item_smaller frame item items fs i is same within here =
    let e : length (spelling frame) ≡ length (spelling (frames.Array (map spelling fs))) =
    ap (λ (f : Frame). length (spelling f)) is
    ∙ ap (λ (l : List (List ℕ)). length (spelling (frames.Array l))) (sym same) in
    let f : length (spelling item) ≡ length (spelling (get_or fs i item)) =
    ap (λ (x : Frame). length (spelling x)) here in
    let size =
    length-append (decimal (length (map spelling fs))) (line_end ++ concat (map spelling fs)) in
    omega (arith, item_within fs i item within, e, f, size)

-- one more item
concat_take : (fs : List Frame) (i : ℕ) (d : Frame) → i < length fs
    → concat (map spelling (take (suc i) fs))
    ≡ concat (map spelling (take i fs)) ++ spelling (get_or fs i d)
concat_take [] i d h = absurd (omega arith)
concat_take (f ∷ fs) zero d h = append-nil (spelling f)
concat_take (f ∷ fs) (suc i) d h =
    ap (λ (l : List ℕ). spelling f ++ l) (concat_take fs i d (omega arith))
    ∙ sym (append_assoc (spelling f) (concat (map spelling (take i fs)))
    (spelling (get_or fs i d)))

kept_front : (a x new : List ℕ) → take (length (a ++ x)) new ≡ a ++ x → take (length a) new ≡ a
kept_front [] x new h = refl
kept_front (y ∷ a) x [] h = absurd cc
kept_front (y ∷ a) x (z ∷ new) h =
    let e : z ≡ y = cc in
    let r : take (length (a ++ x)) new ≡ a ++ x = cc in
    let k = kept_front a x new r in
    cc

pub kept : (a x b new : List ℕ) → b ≡ a ++ x → take (length b) new ≡ b → take (length a) new ≡ a
kept a x b new e h = kept_front a x new (ap (λ (l : List ℕ). take (length l) new) (sym e) ∙ h ∙ e)

pub item_more : (fs : List Frame) (i : ℕ) (item : Frame) (first out new : List ℕ) → i < length fs
    → item ≡ get_or fs i item → out ≡ first ++ concat (map spelling (take i fs))
    → new ≡ out ++ spelling item
    → new ≡ first ++ concat (map spelling (take (i + 1) fs))
item_more fs i item first out new within here before is =
    let n : suc i ≡ i + 1 = omega arith in
    is ∙ ap (λ (l : List ℕ). l ++ spelling item) before
    ∙ append_assoc first (concat (map spelling (take i fs))) (spelling item)
    ∙ ap (λ (f : Frame). first ++ (concat (map spelling (take i fs)) ++ spelling f)) here
    ∙ ap (λ (l : List ℕ). first ++ l) (sym (concat_take fs i item within))
    ∙ ap (λ (m : ℕ). first ++ concat (map spelling (take m fs))) n
