-- The root of a tree has the least of all.
use Rattle.std.proofs.Common.{◌≡◌, ◌<◌, ◌≤◌, ◌+◌, ◌*◌, ◌/◌, ◌-◌, ℕ, zero, suc, List, length, slice_index, drop, take, ◌++◌, ◌∷◌, [], get_or, replicate, sym, ◌∙◌, append_assoc, arith}
use Rattle.std.proofs.Math.ListN.{set}
use Rattle.std.proofs.lemmas.List.{set-append_right, take_more, length-take}
use Rattle.std.proofs.lemmas.Grind.{common_steps}
use Rattle.lr_expiry.specs.Tree.{IsTree}

-- a node has at most what its child has
pub parent_least : (n k : ℕ) (t : List ℕ) → IsTree n t → 2 ≤ k → k < 2 * n → slice_index t (k / 2) ≤ slice_index t k
parent_least n k t h low high =
    let at = h.node (k / 2) (omega arith) (omega arith) (omega arith) in
    grind (arith, at)

-- the root has at most what a node has
pub root_least_by : (fuel n k : ℕ) (t : List ℕ) → IsTree n t → k ≤ fuel → 1 ≤ k → k < 2 * n → slice_index t 1 ≤ slice_index t k
root_least_by zero n k t h f low high = absurd (omega arith)
root_least_by (suc fuel) n zero t h f low high = absurd (omega arith)
root_least_by (suc fuel) n (suc zero) t h f low high = omega arith
root_least_by (suc fuel) n (suc (suc j)) t h f low high =
    let up = root_least_by fuel n (suc (suc j) / 2) t h (omega arith) (omega arith) (omega arith) in
    let step = parent_least n (suc (suc j)) t h (omega arith) high in
    omega arith

pub root_least : (n place : ℕ) (t : List ℕ) → IsTree n t → place < n → slice_index t 1 ≤ slice_index (drop n t) place
root_least n place t h within =
    let at = root_least_by (n + place) n (n + place) t h (omega arith) (omega arith) (omega arith) in
    grind (arith, common_steps, at)

-- a copy of the first items, one item on
pub copied_more : (xs : List ℕ) (place rest : ℕ) (never : ℕ) → place < length xs
    → set (take place xs ++ replicate (suc rest) never) place (get_or xs place 0) ≡ take (place + 1) xs ++ replicate rest never
copied_more xs place rest never within =
    let e = set-append_right (take place xs) (replicate (suc rest) never) place place (get_or xs place 0) (simp length-take (omega arith)) (omega arith) in
    let z : place - place ≡ 0 = omega arith in
    let f = rw z at e in
    let g : (take place xs ++ get_or xs place 0 ∷ []) ++ replicate rest never ≡ take place xs ++ get_or xs place 0 ∷ replicate rest never = append_assoc (take place xs) _ _ in
    rw (take_more xs place 0 within) (f ∙ sym g)
