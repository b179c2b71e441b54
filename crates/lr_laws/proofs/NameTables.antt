-- Tables by names: what stands at a name after something was put at another, or at the same.
use Rattle.std.proofs.Common.{◌≡◌, ℕ, List, Bool, true, false, if◌then◌else◌, refl, sym, ap, subst}
use Rattle.std.specs.Str.{bytes_eq}
use Rattle.std.proofs.lemmas.Bool.{cond_both}
use Rattle.std.proofs.lemmas.Bool.Decides.{same_from_decides, Decides-like}
use Rattle.std.proofs.lemmas.Slice.Eq.{bytes_eq-Decides}
use Rattle.lr_model.specs.Table.{put}

pub bytes_eq-sym : (a b : List ℕ) → bytes_eq a b ≡ bytes_eq b a
bytes_eq-sym a b =
    same_from_decides (bytes_eq a b) (bytes_eq b a) (bytes_eq-Decides a b)
    (Decides-like (bytes_eq b a) sym sym (bytes_eq-Decides b a))

-- what stood at a name and is put back there changes nothing
pub put_back : {X : Type 0} (table : List ℕ → X) (key name : List ℕ)
    → put bytes_eq table key (table key) name ≡ table name
put_back table key name =
    cond_both (bytes_eq key name) (table key) (table name) (λ x. x ≡ table name)
    (λ here. ap table ((bytes_eq-Decides key name).0 here)) (λ there. refl)

-- what is so of the table after something was put at a key, by whether the name is the key
pub put_at : {X : Type 0} (P : Bool → X → Type 0) (table : List ℕ → X) (key name : List ℕ) (x : X)
    → (bytes_eq name key ≡ true → P true x) → (bytes_eq name key ≡ false → P false (table name))
    → P (bytes_eq name key) (put bytes_eq table key x name)
put_at P table key name x here there =
    subst (λ b. P (bytes_eq name key) (if b then x else table name)) (bytes_eq-sym name key)
    (by_test (bytes_eq name key) refl)
  where
    by_test : (same : Bool) → bytes_eq name key ≡ same
        → P same (if same then x else table name)
    by_test true e = here e
    by_test false e = there e
