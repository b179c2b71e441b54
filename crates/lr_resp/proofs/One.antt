-- No bytes begin with two frames.
use Rattle.std.proofs.Common.{◌≡◌, ◌≢◌, ℕ, zero, suc, ◌+◌, ◌%◌, ◌<◌, ◌^◌, ◌==◌, Bool, true, not, ◌&&◌, List, [], ◌∷◌, ◌++◌, length, drop, decimal, IsTrue, arith, refl, sym, ap, true≢false, ◌∙◌, ℤ, pos, negsuc}
use Rattle.std.specs.List.{concat, list_all, AllByRecursion}
use Rattle.std.specs.Fmt.{signed_decimal}
use Rattle.std.specs.Int.RustNames.{FitsSigned}
use Rattle.std.specs.Int.{w64}
use Rattle.std.proofs.lemmas.List.{append_assoc}
use Rattle.std.proofs.lemmas.List.Folds.{list_all-append}
use Rattle.std.proofs.lemmas.Bool.{eqb-false, and_parts, and_from, not-true, not_from_false, ne_eqb}
use Rattle.std.proofs.lemmas.Fmt.{decimal_by_steps, decimal_injective}
use Rattle.lr_resp.specs.declared.frame.Frame.{Frame}
use Rattle.lr_resp.specs.declared.frame.Frame.TheVariants.{Simple, Fault, Number, Bulk, Null, NullArray, Array}
use Rattle.lr_resp.specs.Limits.{item_limit, depth_limit, written_item_limit}
use Rattle.lr_resp.specs.Spelling.{spelling, line_end}
use Rattle.lr_resp.specs.Grammar.{Fits, is_line_byte}
use Rattle.lr_resp.specs.Laws.{WrittenIsOne, ReadIsOne}

abbrev IsClean : List ℕ → Type 0
IsClean text = IsTrue (list_all is_line_byte text)

no_cr : (b : ℕ) (text : List ℕ) → IsClean (b ∷ text) → b ≢ 13
no_cr b text clean =
    let parts = and_parts (is_line_byte b) (list_all is_line_byte text) clean in
    let ends = and_parts (not (b == 13)) (not (b == 10)) parts.0 in
    eqb-false b 13 (not-true (b == 13) ends.0)

-- a line of text ends at its first CR
pub line_parts : (text others x y : List ℕ) → IsClean text → IsClean others
    → text ++ (line_end ++ x) ≡ others ++ (line_end ++ y) → (text ≡ others) × (x ≡ y)
line_parts [] [] x y a b same = (refl, cc)
line_parts [] (o ∷ os) x y a b same =
    let e : o ≡ 13 = cc in
    absurd (no_cr o os b e)
line_parts (t ∷ ts) [] x y a b same =
    let e : t ≡ 13 = cc in
    absurd (no_cr t ts a e)
line_parts (t ∷ ts) (o ∷ os) x y a b same =
    let one : t ≡ o = cc in
    let more : ts ++ (line_end ++ x) ≡ os ++ (line_end ++ y) = cc in
    let clean = (and_parts (is_line_byte t) (list_all is_line_byte ts) a).1 in
    let pure = (and_parts (is_line_byte o) (list_all is_line_byte os) b).1 in
    let rest = line_parts ts os x y clean pure more in
    (ap (λ (c : ℕ). c ∷ ts) one ∙ ap (λ (l : List ℕ). o ∷ l) rest.0, rest.1)

digit_clean : (d : ℕ) → is_line_byte (48 + d) ≡ true
digit_clean d =
    let cr : 48 + d ≢ 13 = λ e. omega arith in
    let lf : 48 + d ≢ 10 = λ e. omega arith in
    and_from _ _ (not_from_false _ (ne_eqb (48 + d) 13 cr))
    (not_from_false _ (ne_eqb (48 + d) 10 lf))

-- what is so of each digit is so of all digits of a number
decimal_all : (p : ℕ → Bool) → ((d : ℕ) → p (48 + d) ≡ true) → (n : ℕ) → n < 2 ^ 64
    → list_all p (decimal n) ≡ true
decimal_all p each n small =
    decimal_by_steps (λ (k : ℕ) (ds : List ℕ). list_all p ds ≡ true)
    (λ d digit. and_from _ _ (each d) refl)
    (λ k ds large all. list_all-append p ds ((48 + k % 10) ∷ [])
    ∙ and_from _ _ all (and_from _ _ (each (k % 10)) refl))
    n small

pub decimal_clean : (n : ℕ) → n < 2 ^ 64 → IsClean (decimal n)
decimal_clean n small = decimal_all is_line_byte digit_clean n small

-- a number without a minus doesn't begin with one
no_minus : (n : ℕ) (ds : List ℕ) → n < 2 ^ 64 → decimal n ≢ 45 ∷ ds
no_minus n ds small is =
    let p : ℕ → Bool = λ b. not (b == 45) in
    let each : (d : ℕ) → p (48 + d) ≡ true = λ d.
    let other : 48 + d ≢ 45 = λ e. omega arith in
    not_from_false _ (ne_eqb (48 + d) 45 other) in
    let all : p 45 && list_all p ds ≡ true =
    ap (list_all p) (sym is) ∙ decimal_all p each n small in
    absurd (true≢false (sym all))

signed_clean : (z : ℤ) → FitsSigned w64 z → IsClean (signed_decimal z)
signed_clean (pos n) fits = let small = fits.sfits in decimal_clean n (omega arith)
signed_clean (negsuc n) fits =
    let small = fits.sfits in decimal_clean (suc n) (omega arith)

pub signed_same : (y z : ℤ) → FitsSigned w64 y → FitsSigned w64 z
    → signed_decimal y ≡ signed_decimal z → y ≡ z
signed_same (pos m) (pos n) a b is =
    let small = a.sfits in
    let tiny = b.sfits in
    ap pos (decimal_injective m n (omega arith) (omega arith) is)
signed_same (pos m) (negsuc n) a b is =
    let small = a.sfits in absurd (no_minus m _ (omega arith) is)
signed_same (negsuc m) (pos n) a b is =
    let small = b.sfits in absurd (no_minus n _ (omega arith) (sym is))
signed_same (negsuc m) (negsuc n) a b is =
    let small = a.sfits in
    let tiny = b.sfits in
    let digits : decimal (suc m) ≡ decimal (suc n) = ap (drop 1) is in
    let e = decimal_injective (suc m) (suc n) (omega arith) (omega arith) digits in
    let f : m ≡ n = omega arith in
    ap negsuc f

-- A frame is a mark, the first line behind it, and what follows that line's end.

mark : Frame → ℕ
mark (Simple text) = 43
mark (Fault text) = 45
mark (Number n) = 58
mark (Bulk text) = 36
mark Null = 36
mark NullArray = 42
mark (Array items) = 42

head : Frame → List ℕ
head (Simple text) = text
head (Fault text) = text
head (Number n) = signed_decimal n
head (Bulk text) = decimal (length text)
head Null = 45 ∷ 49 ∷ []
head NullArray = 45 ∷ 49 ∷ []
head (Array items) = decimal (length items)

body : Frame → List ℕ
body (Simple text) = []
body (Fault text) = []
body (Number n) = []
body (Bulk text) = text ++ line_end
body Null = []
body NullArray = []
body (Array items) = concat items

parts_of : (frame : Frame) (x : List ℕ)
    → spelling frame ++ x ≡ mark frame ∷ (head frame ++ (line_end ++ (body frame ++ x)))
unfolding mark head body
parts_of (Simple text) x = ap (λ (l : List ℕ). 43 ∷ l) (append_assoc text line_end x)
parts_of (Fault text) x = ap (λ (l : List ℕ). 45 ∷ l) (append_assoc text line_end x)
parts_of (Number n) x =
    ap (λ (l : List ℕ). 58 ∷ l) (append_assoc (signed_decimal n) line_end x)
parts_of (Bulk text) x =
    ap (λ (l : List ℕ). 36 ∷ l)
    (append_assoc (decimal (length text)) (line_end ++ (text ++ line_end)) x)
parts_of Null x = refl
parts_of NullArray x = refl
parts_of (Array items) x =
    ap (λ (l : List ℕ). 42 ∷ l)
    (append_assoc (decimal (length items)) (line_end ++ concat items) x)

-- the bytes of a bulk string, by its length
text_one : (text other x y : List ℕ) → length text ≡ length other
    → (text ++ line_end) ++ x ≡ (other ++ line_end) ++ y → (text ≡ other) × (x ≡ y)
text_one [] [] x y size same = (refl, cc)
text_one [] (v ∷ vs) x y size same = absurd (omega (arith, size))
text_one (u ∷ us) [] x y size same = absurd (omega (arith, size))
text_one (u ∷ us) (v ∷ vs) x y size same =
    let first : u ≡ v = cc in
    let behind : (us ++ line_end) ++ x ≡ (vs ++ line_end) ++ y = cc in
    let more = text_one us vs x y (omega (arith, size)) behind in
    (ap (λ (c : ℕ). c ∷ us) first ∙ ap (λ (l : List ℕ). v ∷ l) more.0, more.1)

-- a length isn't the `-1` of a null
no_null : (n : ℕ) → n < 2 ^ 64 → decimal n ≢ 45 ∷ 49 ∷ []
no_null n below is = no_minus n (49 ∷ []) below is

module _ (most : ℕ) (small : most < 2 ^ 64) where
  head_clean : (depth : ℕ) (frame : Frame) → Fits most depth frame → IsClean (head frame)
  unfolding head
  head_clean depth (Simple text) fits = fits.1
  head_clean depth (Fault text) fits = fits.1
  head_clean depth (Number n) fits = signed_clean n fits
  head_clean depth (Bulk text) fits = decimal_clean (length text) (omega (arith, fits))
  head_clean depth Null fits = refl
  head_clean depth NullArray fits = refl
  head_clean zero (Array items) fits = absurd fits
  head_clean (suc depth) (Array items) fits =
      decimal_clean (length items) (omega (arith, fits.0, small))

  -- no bytes begin with two frames of this depth
  abbrev IsOne : ℕ → Type 0
  IsOne depth = (f g : Frame) (x y : List ℕ) → Fits most depth f → Fits most depth g
      → spelling f ++ x ≡ spelling g ++ y → (f ≡ g) × (x ≡ y)

  abbrev AreInside : ℕ → List (List ℕ) → Type 0
  AreInside depth items = AllByRecursion
      (λ bytes. (frame : Frame) × Fits most depth frame × (bytes ≡ spelling frame)) items

  items_one : (depth : ℕ) (xs ys : List (List ℕ)) (x y : List ℕ) → IsOne depth
      → length xs ≡ length ys → AreInside depth xs → AreInside depth ys
      → concat xs ++ x ≡ concat ys ++ y → (xs ≡ ys) × (x ≡ y)
  items_one depth [] [] x y one size a b same = (refl, same)
  items_one depth [] (v ∷ vs) x y one size a b same = absurd (omega (arith, size))
  items_one depth (u ∷ us) [] x y one size a b same = absurd (omega (arith, size))
  items_one depth (u ∷ us) (v ∷ vs) x y one size a b same =
      let f = a.0.0 in
      let g = b.0.0 in
      let alike : spelling f ++ (concat us ++ x) ≡ spelling g ++ (concat vs ++ y) =
      ap (λ (l : List ℕ). l ++ (concat us ++ x)) (sym a.0.2)
      ∙ sym (append_assoc u (concat us) x) ∙ same ∙ append_assoc v (concat vs) y
      ∙ ap (λ (l : List ℕ). l ++ (concat vs ++ y)) b.0.2 in
      let first = one f g (concat us ++ x) (concat vs ++ y) a.0.1 b.0.1 alike in
      let more = items_one depth us vs x y one (omega (arith, size)) a.1 b.1 first.1 in
      let u_is_v : u ≡ v = a.0.2 ∙ ap spelling first.0 ∙ sym b.0.2 in
      (ap (λ (l : List ℕ). l ∷ us) u_is_v ∙ ap (λ (l : List (List ℕ)). v ∷ l) more.0, more.1)

  -- where the frames inside are one
  abbrev Inner : ℕ → Type 0
  Inner zero = Unit {0}
  Inner (suc depth) = IsOne depth

  arrays_one : (depth : ℕ) (items others : List (List ℕ)) (x y : List ℕ) → Inner depth
      → Fits most depth (Array items) → Fits most depth (Array others)
      → decimal (length items) ≡ decimal (length others)
      → concat items ++ x ≡ concat others ++ y → (Array items ≡ Array others) × (x ≡ y)
  arrays_one zero items others x y inner a b heads bodies = absurd a
  arrays_one (suc depth) items others x y inner a b heads bodies =
      let size = decimal_injective (length items) (length others) (omega (arith, a.0, small))
      (omega (arith, b.0, small)) heads in
      let same = items_one depth items others x y inner size a.1 b.1 bodies in
      (ap Array same.0, same.1)

  no_array : (depth : ℕ) (items : List (List ℕ)) → Fits most depth (Array items)
      → decimal (length items) ≢ 45 ∷ 49 ∷ []
  no_array zero items fits is = absurd fits
  no_array (suc depth) items fits is =
      no_null (length items) (omega (arith, fits.0, small)) is

  one_of : (depth : ℕ) (f g : Frame) (x y : List ℕ) → Inner depth → Fits most depth f
      → Fits most depth g → mark f ≡ mark g → head f ≡ head g → body f ++ x ≡ body g ++ y
      → (f ≡ g) × (x ≡ y)
  unfolding mark head body
  one_of depth (Simple text) (Simple other) x y inner a b marks heads bodies =
      (ap Simple heads, bodies)
  one_of depth (Simple text) _ x y inner a b marks heads bodies = absurd (omega (arith, marks))
  one_of depth (Fault text) (Fault other) x y inner a b marks heads bodies =
      (ap Fault heads, bodies)
  one_of depth (Fault text) _ x y inner a b marks heads bodies = absurd (omega (arith, marks))
  one_of depth (Number m) (Number n) x y inner a b marks heads bodies =
      (ap Number (signed_same m n a b heads), bodies)
  one_of depth (Number m) _ x y inner a b marks heads bodies = absurd (omega (arith, marks))
  one_of depth (Bulk text) (Bulk other) x y inner a b marks heads bodies =
      let size = decimal_injective (length text) (length other) (omega (arith, a))
      (omega (arith, b)) heads in
      let same = text_one text other x y size bodies in
      (ap Bulk same.0, same.1)
  one_of depth (Bulk text) Null x y inner a b marks heads bodies =
      absurd (no_null (length text) (omega (arith, a)) heads)
  one_of depth (Bulk text) _ x y inner a b marks heads bodies = absurd (omega (arith, marks))
  one_of depth Null Null x y inner a b marks heads bodies = (refl, bodies)
  one_of depth Null (Bulk other) x y inner a b marks heads bodies =
      absurd (no_null (length other) (omega (arith, b)) (sym heads))
  one_of depth Null _ x y inner a b marks heads bodies = absurd (omega (arith, marks))
  one_of depth NullArray NullArray x y inner a b marks heads bodies = (refl, bodies)
  one_of depth NullArray (Array others) x y inner a b marks heads bodies =
      absurd (no_array depth others b (sym heads))
  one_of depth NullArray _ x y inner a b marks heads bodies = absurd (omega (arith, marks))
  one_of depth (Array items) (Array others) x y inner a b marks heads bodies =
      arrays_one depth items others x y inner a b heads bodies
  one_of depth (Array items) NullArray x y inner a b marks heads bodies =
      absurd (no_array depth items a heads)
  one_of depth (Array items) _ x y inner a b marks heads bodies = absurd (omega (arith, marks))

  one_by : (depth : ℕ) → Inner depth → IsOne depth
  one_by depth inner f g x y a b same =
      let parts : mark f ∷ (head f ++ (line_end ++ (body f ++ x)))
      ≡ mark g ∷ (head g ++ (line_end ++ (body g ++ y))) =
      sym (parts_of f x) ∙ same ∙ parts_of g y in
      let marks : mark f ≡ mark g = cc parts in
      let lines : head f ++ (line_end ++ (body f ++ x)) ≡ head g ++ (line_end ++ (body g ++ y)) =
      cc parts in
      let line = line_parts (head f) (head g) (body f ++ x) (body g ++ y)
      (head_clean depth f a) (head_clean depth g b) lines in
      one_of depth f g x y inner a b marks line.0 line.1

  pub one_frame : (depth : ℕ) → IsOne depth
  one_frame zero = one_by zero tt
  one_frame (suc depth) = one_by (suc depth) (one_frame depth)

pub read_is_one : ReadIsOne
read_is_one frame other more rest a b same =
    one_frame item_limit (omega arith) depth_limit frame other more rest a b same

pub written_is_one : WrittenIsOne
written_is_one bytes others more rest frame other a b same =
    one_frame written_item_limit (omega arith) depth_limit frame other more rest a.0 b.0
    (ap (λ (l : List ℕ). l ++ more) (sym a.1) ∙ same
    ∙ ap (λ (l : List ℕ). l ++ rest) b.1)
