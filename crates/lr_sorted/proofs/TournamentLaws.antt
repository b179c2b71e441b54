-- Laws of tournaments: nobody wins against the winner of the final, and a node is mended by who wins
-- of the two below it.
use Rattle.std.proofs.Common.{◌≡◌, ◌≢◌, ◌⊎◌, inl, inr, ◌+◌, ◌-◌, ◌*◌, ◌/◌, ◌<◌, ◌≤◌, ℕ, zero, suc, Bool, true, false, cond, List, length, Option, Some, None, nat_lt, max, get_or, refl, sym, ap, ◌∙◌, subst, true≢false, arith}
use Rattle.std.specs.Prelude.{slice_get, slice_index, ◌==◌}
use Rattle.std.proofs.Math.ListN.{set}
use Rattle.std.proofs.lemmas.List.{get_or-set_other, get_or-set_same, length-set}
use Rattle.std.proofs.lemmas.Bool.Decides.{nat_tests}
use Rattle.lr_sorted.specs.Members.{Scored, Members}
use Rattle.lr_sorted.specs.Tournament.{wins, winner, won_at, IsNode, halved, IsOver, IsSeated, IsRightFrom, IsTournament, IsRightBut}
use Rattle.lr_sorted.proofs.OrderLaws.{before-itself, before-asym, not_before-trans}

-- nobody wins against himself
pub wins-itself : (last : Bool) (o : Option Scored) → wins last o o ≡ false
wins-itself last None = refl
wins-itself true (Some x) = before-itself x
wins-itself false (Some x) = before-itself x

-- of two one at most wins
pub wins-asym : (last : Bool) (a b : Option Scored) → wins last a b ≡ true → wins last b a ≡ false
wins-asym last None None e = refl
wins-asym last None (Some y) e = absurd (true≢false (sym e))
wins-asym last (Some x) None e = refl
wins-asym true (Some x) (Some y) e = before-asym y x e
wins-asym false (Some x) (Some y) e = before-asym x y e

-- not to win is an order
pub loses-trans : (last : Bool) (a b c : Option Scored) → wins last a b ≡ false → wins last b c ≡ false
    → wins last a c ≡ false
loses-trans last None b None e f = refl
loses-trans last None b (Some z) e f = refl
loses-trans last (Some x) None c e f = absurd (true≢false e)
loses-trans last (Some x) (Some y) None e f = absurd (true≢false f)
loses-trans true (Some x) (Some y) (Some z) e f = not_before-trans z y x f e
loses-trans false (Some x) (Some y) (Some z) e f = not_before-trans x y z e f

-- neither of two wins against the winner
winner-first : (last : Bool) (entries : Members) (one other : ℕ)
    → wins last (slice_get entries one) (slice_get entries (winner last entries one other)) ≡ false
winner-first last entries one other = by (wins last (slice_get entries other) (slice_get entries one)) refl
  where
    by : (b : Bool) → wins last (slice_get entries other) (slice_get entries one) ≡ b
        → wins last (slice_get entries one) (slice_get entries (cond b other one)) ≡ false
    by true e = wins-asym last (slice_get entries other) (slice_get entries one) e
    by false e = wins-itself last (slice_get entries one)

winner-second : (last : Bool) (entries : Members) (one other : ℕ)
    → wins last (slice_get entries other) (slice_get entries (winner last entries one other)) ≡ false
winner-second last entries one other = by (wins last (slice_get entries other) (slice_get entries one)) refl
  where
    by : (b : Bool) → wins last (slice_get entries other) (slice_get entries one) ≡ b
        → wins last (slice_get entries other) (slice_get entries (cond b other one)) ≡ false
    by true e = wins-itself last (slice_get entries other)
    by false e = e

-- the winner is one of the two
pub winner-either : (P : ℕ → Type 0) (last : Bool) (entries : Members) (one other : ℕ) → P one → P other
    → P (winner last entries one other)
winner-either P last entries one other p q = by (wins last (slice_get entries other) (slice_get entries one))
  where
    by : (b : Bool) → P (cond b other one)
    by true = q
    by false = p

-- who has won at a node, and at a place
pub won_at-node : (nodes : List ℕ) (node : ℕ) → node < length nodes → won_at nodes node ≡ slice_index nodes node
won_at-node nodes node within = by (nat_lt node (length nodes)) refl
  where
    by : (b : Bool) → nat_lt node (length nodes) ≡ b
        → cond b (slice_index nodes node) (node - length nodes) ≡ slice_index nodes node
    by true e = refl
    by false e = absurd (let h : length nodes ≤ node = grind (arith, nat_tests) in omega arith)

pub won_at-place : (nodes : List ℕ) (node : ℕ) → length nodes ≤ node → won_at nodes node ≡ node - length nodes
won_at-place nodes node past = by (nat_lt node (length nodes)) refl
  where
    by : (b : Bool) → nat_lt node (length nodes) ≡ b
        → cond b (slice_index nodes node) (node - length nodes) ≡ node - length nodes
    by true e = absurd (let h : node < length nodes = grind (arith, nat_tests) in omega arith)
    by false e = refl

lt_cases : (a b : ℕ) → (a < b) ⊎ (b ≤ a)
lt_cases a b = grind arith

-- the way up, one step on
pub halved-suc : (times node : ℕ) → halved (suc times) node ≡ halved times node / 2
halved-suc zero node = refl
halved-suc (suc times) node = halved-suc times (node / 2)

-- a way up over a node goes on above it
pub over-up : (node lower : ℕ) → IsOver node lower → IsOver (node / 2) lower
over-up node lower h = (suc h.0, halved-suc h.0 lower ∙ ap (λ n. n / 2) h.1)

-- who has won at a node, or stands there, is a place below it
pub won_at-within : (low : ℕ) (nodes : List ℕ) (node : ℕ) → IsSeated low nodes → low ≤ node
    → node < 2 * length nodes → won_at nodes node < length nodes
won_at-within low nodes node h from within = by (lt_cases node (length nodes))
  where
    by : (node < length nodes) ⊎ (length nodes ≤ node) → won_at nodes node < length nodes
    by (inl e) = rw (won_at-node nodes node e) (h.within node from e)
    by (inr e) = rw (won_at-place nodes node e) (omega arith)

pub won_at-below : (low : ℕ) (nodes : List ℕ) (node : ℕ) → IsSeated low nodes → low ≤ node
    → IsOver node (length nodes + won_at nodes node)
won_at-below low nodes node h from = by (lt_cases node (length nodes))
  where
    by : (node < length nodes) ⊎ (length nodes ≤ node) → IsOver node (length nodes + won_at nodes node)
    by (inl e) = rw (won_at-node nodes node e) (h.below node from e)
    by (inr e) = rw (won_at-place nodes node e) (0, omega arith)

-- nobody wins against the winner of the final
final-by : (fuel : ℕ) (last : Bool) (entries : Members) (nodes : List ℕ) (node : ℕ)
    → IsTournament last entries nodes → node ≤ fuel → 1 ≤ node → node < 2 * length nodes
    → wins last (slice_get entries (won_at nodes node)) (slice_get entries (won_at nodes 1)) ≡ false
final-by zero last entries nodes node h f low high = absurd (omega arith)
final-by (suc fuel) last entries nodes zero h f low high = absurd (omega arith)
final-by (suc fuel) last entries nodes (suc zero) h f low high = wins-itself last (slice_get entries (won_at nodes 1))
final-by (suc fuel) last entries nodes (suc (suc j)) h f low high =
    let up : 1 ≤ suc (suc j) / 2 = omega arith in
    let in_nodes : suc (suc j) / 2 < length nodes = omega arith in
    loses-trans last
    (slice_get entries (won_at nodes (suc (suc j))))
    (slice_get entries (won_at nodes (suc (suc j) / 2)))
    (slice_get entries (won_at nodes 1))
    (rw (won_at-node nodes (suc (suc j) / 2) in_nodes, h.node (suc (suc j) / 2) up in_nodes)
    (child (suc (suc j)) (suc (suc j) / 2) (halves (suc (suc j)))))
    (final-by fuel last entries nodes (suc (suc j) / 2) h (omega arith) up (omega arith))
  where
    halves : (n : ℕ) → (n ≡ 2 * (n / 2)) ⊎ (n ≡ 2 * (n / 2) + 1)
    halves n = grind arith

    child : (n m : ℕ) → (n ≡ 2 * m) ⊎ (n ≡ 2 * m + 1)
        → wins last (slice_get entries (won_at nodes n))
        (slice_get entries (winner last entries (won_at nodes (2 * m)) (won_at nodes (2 * m + 1)))) ≡ false
    child n m (inl e) =
        rw e (winner-first last entries (won_at nodes (2 * m)) (won_at nodes (2 * m + 1)))
    child n m (inr e) =
        rw e (winner-second last entries (won_at nodes (2 * m)) (won_at nodes (2 * m + 1)))

pub final-wins : (last : Bool) (entries : Members) (nodes : List ℕ) (place : ℕ)
    → IsTournament last entries nodes → place < length nodes
    → wins last (slice_get entries place) (slice_get entries (won_at nodes 1)) ≡ false
final-wins last entries nodes place h within =
    let e : won_at nodes (length nodes + place) ≡ place = won_at-place nodes (length nodes + place) (omega arith) ∙ omega arith in
    subst (λ (p : ℕ). wins last (slice_get entries p) (slice_get entries (won_at nodes 1)) ≡ false) e
    (final-by (length nodes + place) last entries nodes (length nodes + place) h (omega arith) (omega arith) (omega arith))

-- the winner of the two below a node is a place below it
winner-within : (low : ℕ) (last : Bool) (entries : Members) (nodes : List ℕ) (node : ℕ) → IsSeated low nodes
    → low ≤ 2 * node → node < length nodes
    → winner last entries (won_at nodes (2 * node)) (won_at nodes (2 * node + 1)) < length nodes
winner-within low last entries nodes node h from within =
    winner-either (λ p. p < length nodes) last entries (won_at nodes (2 * node)) (won_at nodes (2 * node + 1))
    (won_at-within low nodes (2 * node) h from (omega arith))
    (won_at-within low nodes (2 * node + 1) h (omega arith) (omega arith))

winner-below : (low : ℕ) (last : Bool) (entries : Members) (nodes : List ℕ) (node : ℕ) → IsSeated low nodes
    → low ≤ 2 * node
    → IsOver node (length nodes + winner last entries (won_at nodes (2 * node)) (won_at nodes (2 * node + 1)))
winner-below low last entries nodes node h from =
    winner-either (λ p. IsOver node (length nodes + p)) last entries (won_at nodes (2 * node)) (won_at nodes (2 * node + 1))
    (up (2 * node) (won_at nodes (2 * node)) (omega arith) (won_at-below low nodes (2 * node) h from))
    (up (2 * node + 1) (won_at nodes (2 * node + 1)) (omega arith) (won_at-below low nodes (2 * node + 1) h (omega arith)))
  where
    up : (n p : ℕ) → n / 2 ≡ node → IsOver n (length nodes + p) → IsOver node (length nodes + p)
    up n p e o = subst (λ (k : ℕ). IsOver k (length nodes + p)) e (over-up n (length nodes + p) o)

-- a write of a node leaves who has won elsewhere
won_at-set : (nodes : List ℕ) (node w k : ℕ) → k ≢ node → won_at (set nodes node w) k ≡ won_at nodes k
won_at-set nodes node w k apart =
    rw length-set (ap (λ x. cond (nat_lt k (length nodes)) x (k - length nodes)) (get_or-set_other nodes node k w 0 apart))

is-node-set : (last : Bool) (entries : Members) (nodes : List ℕ) (node w k : ℕ) → k ≢ node → 2 * k ≢ node
    → 2 * k + 1 ≢ node → IsNode last entries nodes k → IsNode last entries (set nodes node w) k
is-node-set last entries nodes node w k here left right h =
    get_or-set_other nodes node k w 0 here ∙ h
    ∙ sym (λ i. winner last entries (won_at-set nodes node w (2 * k) left i) (won_at-set nodes node w (2 * k + 1) right i))

is-node-new : (last : Bool) (entries : Members) (nodes : List ℕ) (node w : ℕ) → 1 ≤ node → node < length nodes
    → w ≡ winner last entries (won_at nodes (2 * node)) (won_at nodes (2 * node + 1))
    → IsNode last entries (set nodes node w) node
is-node-new last entries nodes node w low within is =
    get_or-set_same nodes node w 0 within ∙ is
    ∙ sym (λ i. winner last entries (won_at-set nodes node w (2 * node) (omega arith) i) (won_at-set nodes node w (2 * node + 1) (omega arith) i))

eq_cases : (a b : ℕ) → (a ≡ b) ⊎ (a ≢ b)
eq_cases a b = grind arith

-- a node whose winner is one of the two below it is seated
seated-set : (low from : ℕ) (last : Bool) (entries : Members) (nodes : List ℕ) (node w : ℕ) → IsSeated low nodes
    → from ≤ low → low ≤ from + 1 → (from ≡ low) ⊎ (from ≡ node) → low ≤ 2 * node → node < length nodes
    → w ≡ winner last entries (won_at nodes (2 * node)) (won_at nodes (2 * node + 1))
    → IsSeated from (set nodes node w)
seated-set low from last entries nodes node w h f g one l within is = record {
  within = λ k a b. within_at k a (subst (λ (n : ℕ). k < n) (length-set nodes node w) b) (eq_cases k node);
  below = λ k a b. below_at k a (subst (λ (n : ℕ). k < n) (length-set nodes node w) b) (eq_cases k node);
}
  where
    old : (k : ℕ) → from ≤ k → k ≢ node → (from ≡ low) ⊎ (from ≡ node) → low ≤ k
    old k a apart (inl e) = omega arith
    old k a apart (inr e) = omega arith

    within_at : (k : ℕ) → from ≤ k → k < length nodes → (k ≡ node) ⊎ (k ≢ node)
        → get_or (set nodes node w) k 0 < length (set nodes node w)
    within_at k a b (inl e) =
        rw (length-set nodes node w, e, get_or-set_same nodes node w 0 within, is) (winner-within low last entries nodes node h l within)
    within_at k a b (inr e) =
        rw (length-set nodes node w, get_or-set_other nodes node k w 0 e) (h.within k (old k a e one) b)

    below_at : (k : ℕ) → from ≤ k → k < length nodes → (k ≡ node) ⊎ (k ≢ node)
        → IsOver k (length (set nodes node w) + get_or (set nodes node w) k 0)
    below_at k a b (inl e) =
        rw (length-set nodes node w, e, get_or-set_same nodes node w 0 within, is) (winner-below low last entries nodes node h l)
    below_at k a b (inr e) =
        rw (length-set nodes node w, get_or-set_other nodes node k w 0 e) (h.below k (old k a e one) b)

-- the nodes are made right from the last one down
pub built : (node w : ℕ) (last : Bool) (entries : Members) (nodes : List ℕ)
    → IsRightFrom (node + 1) last entries nodes → 1 ≤ node → node < length nodes
    → w ≡ winner last entries (won_at nodes (2 * node)) (won_at nodes (2 * node + 1))
    → IsRightFrom node last entries (set nodes node w)
built node w last entries nodes h low within is = record {
  seated = seated-set (node + 1) node last entries nodes node w h.seated (omega arith) (omega arith) (inr refl) (omega arith) within is;
  node = λ k a b. at k a (subst (λ (n : ℕ). k < n) (length-set nodes node w) b) (eq_cases k node);
}
  where
    at : (k : ℕ) → node ≤ k → k < length nodes → (k ≡ node) ⊎ (k ≢ node) → IsNode last entries (set nodes node w) k
    at k a b (inl e) = rw e (is-node-new last entries nodes node w low within is)
    at k a b (inr e) = is-node-set last entries nodes node w k e (omega arith) (omega arith) (h.node k (omega arith) b)

-- one of two ways up goes on to a node, or stays
abbrev pub IsStep : ℕ → ℕ → ℕ → Type 0
IsStep one node next = ((next ≡ node) × (one / 2 ≡ node)) ⊎ (next ≡ one)

-- a node is mended on the way up
pub mended : (one other node next_one next_other w : ℕ) (last : Bool) (entries : Members) (nodes : List ℕ)
    → IsRightBut one other last entries nodes → 1 ≤ node → node < length nodes
    → w ≡ winner last entries (won_at nodes (2 * node)) (won_at nodes (2 * node + 1))
    → IsStep one node next_one → IsStep other node next_other → (next_one ≡ node) ⊎ (next_other ≡ node)
    → IsRightBut next_one next_other last entries (set nodes node w)
mended one other node next_one next_other w last entries nodes h low within is step_one step_other here = record {
  seated = seated-set 1 1 last entries nodes node w h.seated (omega arith) (omega arith) (inl refl) (omega arith) within is;
  node = λ k a b clear_one clear_other. at k a (subst (λ (n : ℕ). k < n) (length-set nodes node w) b) clear_one clear_other (eq_cases k node);
}
  where
    clear : (k from next : ℕ) → k ≢ node → IsStep from node next → (IsOver k (next / 2) → ⊥) → IsOver k (from / 2) → ⊥
    clear k from next apart (inl e) off over =
        by over.0 (subst (λ (n : ℕ). halved over.0 n ≡ k) e.1 over.1)
      where
        by : (times : ℕ) → halved times node ≡ k → ⊥
        by zero g = apart (sym g)
        by (suc times) g = off (times, subst (λ (n : ℕ). halved times (n / 2) ≡ k) (sym e.0) g)
    clear k from next apart (inr e) off over = off (subst (λ (n : ℕ). IsOver k (n / 2)) (sym e) over)

    not_parent : (k n : ℕ) → n / 2 ≡ k → (next_one ≡ node) ⊎ (next_other ≡ node) → (IsOver k (next_one / 2) → ⊥)
        → (IsOver k (next_other / 2) → ⊥) → n ≢ node
    not_parent k n half (inl e) one_off other_off f =
        one_off (0, ap (λ m. m / 2) (e ∙ sym f) ∙ half)
    not_parent k n half (inr e) one_off other_off f =
        other_off (0, ap (λ m. m / 2) (e ∙ sym f) ∙ half)

    at : (k : ℕ) → 1 ≤ k → k < length nodes → (IsOver k (next_one / 2) → ⊥) → (IsOver k (next_other / 2) → ⊥)
        → (k ≡ node) ⊎ (k ≢ node) → IsNode last entries (set nodes node w) k
    at k a b one_off other_off (inl e) = rw e (is-node-new last entries nodes node w low within is)
    at k a b one_off other_off (inr e) =
        is-node-set last entries nodes node w k e
        (not_parent k (2 * k) (omega arith) here one_off other_off)
        (not_parent k (2 * k + 1) (omega arith) here one_off other_off)
        (h.node k a b (clear k one next_one e step_one one_off) (clear k other next_other e step_other other_off))

halved-none : (times : ℕ) → halved times 0 ≡ 0
halved-none zero = refl
halved-none (suc times) = halved-none times

-- once the final is mended all are right
pub all_mended : (last : Bool) (entries : Members) (nodes : List ℕ) → IsRightBut 1 1 last entries nodes
    → IsTournament last entries nodes
all_mended last entries nodes h = record {
  seated = h.seated;
  node = λ k a b. h.node k a b (off k a) (off k a);
}
  where
    off : (k : ℕ) → 1 ≤ k → IsOver k (1 / 2) → ⊥
    off k a over = let e = sym (halved-none over.0) ∙ over.1 in omega arith

-- after a change at two places the nodes above them aren't right
pub changed : (last : Bool) (old new : Members) (nodes : List ℕ) (p q : ℕ) → IsTournament last old nodes
    → p < length nodes → q < length nodes
    → ((k : ℕ) → k ≢ p → k ≢ q → slice_get new k ≡ slice_get old k)
    → IsRightBut (length nodes + p) (length nodes + q) last new nodes
changed last old new nodes p q h p_in q_in same = record {
  seated = h.seated;
  node = λ k a b p_off q_off.
      h.node k a b
      ∙ sym (λ i. cond (wins last (child k (2 * k + 1) a (omega arith) (omega arith) p_off q_off i) (child k (2 * k) a (omega arith) (omega arith) p_off q_off i))
      (won_at nodes (2 * k + 1)) (won_at nodes (2 * k)));
}
  where
    apart : (k n place : ℕ) → 1 ≤ n → n / 2 ≡ k → (IsOver k ((length nodes + place) / 2) → ⊥) → won_at nodes n ≢ place
    apart k n place a half off e =
        let over = won_at-below 1 nodes n h.seated a in
        off (
          over.0,
          subst (λ (w : ℕ). halved over.0 ((length nodes + w) / 2) ≡ k) e
              (halved-suc over.0 (length nodes + won_at nodes n) ∙ ap (λ m. m / 2) over.1 ∙ half),
        )

    child : (k n : ℕ) → 1 ≤ k → 1 ≤ n → n / 2 ≡ k → (IsOver k ((length nodes + p) / 2) → ⊥)
        → (IsOver k ((length nodes + q) / 2) → ⊥) → slice_get new (won_at nodes n) ≡ slice_get old (won_at nodes n)
    child k n a low half p_off q_off =
        same (won_at nodes n) (apart k n p low half p_off) (apart k n q low half q_off)

-- the way at the highest node goes up from it
pub step-is : (way highest next : ℕ) → next ≡ cond (way == highest) (highest / 2) way
    → IsStep way (highest / 2) next
step-is way highest next e = by (way == highest) refl e
  where
    by : (b : Bool) → (way == highest) ≡ b → next ≡ cond b (highest / 2) way → IsStep way (highest / 2) next
    by true same e =
        let is : way ≡ highest = grind (arith, nat_tests) in
        inl (e, ap (λ n. n / 2) is)
    by false apart e = inr e

-- one of the two ways is at the highest node
pub steps-to : (one other highest next_one next_other : ℕ) → highest ≡ max one other
    → next_one ≡ cond (one == highest) (highest / 2) one
    → next_other ≡ cond (other == highest) (highest / 2) other
    → (next_one ≡ highest / 2) ⊎ (next_other ≡ highest / 2)
steps-to one other highest next_one next_other top e f = by (cases one other highest top)
  where
    cases : (one other highest : ℕ) → highest ≡ max one other → (one ≡ highest) ⊎ (other ≡ highest)
    cases one other highest top = grind arith

    eqb-same : (n : ℕ) → (n == n) ≡ true
    eqb-same n = grind (arith, nat_tests)

    by : (one ≡ highest) ⊎ (other ≡ highest) → (next_one ≡ highest / 2) ⊎ (next_other ≡ highest / 2)
    by (inl g) = inl (e ∙ ap (λ b. cond b (highest / 2) one) (ap (λ n. n == highest) g ∙ eqb-same highest))
    by (inr g) = inr (f ∙ ap (λ b. cond b (highest / 2) other) (ap (λ n. n == highest) g ∙ eqb-same highest))

-- a way stays above 0, and goes down in number
pub step-low : (way highest next : ℕ) → 2 ≤ highest → 1 ≤ way → next ≡ cond (way == highest) (highest / 2) way → 1 ≤ next
step-low way highest next high low e = by (way == highest) e
  where
    by : (b : Bool) → next ≡ cond b (highest / 2) way → 1 ≤ next
    by true e = omega arith
    by false e = omega arith

pub step-le : (way highest next : ℕ) → next ≡ cond (way == highest) (highest / 2) way → next ≤ way
step-le way highest next e = by (way == highest) refl e
  where
    by : (b : Bool) → (way == highest) ≡ b → next ≡ cond b (highest / 2) way → next ≤ way
    by true same e = let is : way ≡ highest = grind (arith, nat_tests) in omega arith
    by false apart e = omega arith

step-less : (way highest next : ℕ) → 2 ≤ highest → way ≡ highest → next ≡ cond (way == highest) (highest / 2) way → next < way
step-less way highest next high is e = by (way == highest) refl e
  where
    by : (b : Bool) → (way == highest) ≡ b → next ≡ cond b (highest / 2) way → next < way
    by true same e = omega arith
    by false apart e = absurd (grind (arith, nat_tests))

pub steps-fall : (one other highest next_one next_other : ℕ) → highest ≡ max one other → 2 ≤ highest
    → next_one ≡ cond (one == highest) (highest / 2) one
    → next_other ≡ cond (other == highest) (highest / 2) other
    → next_one + next_other < one + other
steps-fall one other highest next_one next_other top high e f = by (cases one other highest top)
  where
    cases : (one other highest : ℕ) → highest ≡ max one other → (one ≡ highest) ⊎ (other ≡ highest)
    cases one other highest top = grind arith

    by : (one ≡ highest) ⊎ (other ≡ highest) → next_one + next_other < one + other
    by (inl g) =
        let less = step-less one highest next_one high g e in
        let le = step-le other highest next_other f in
        omega arith
    by (inr g) =
        let less = step-less other highest next_other high g f in
        let le = step-le one highest next_one e in
        omega arith

-- the winner of the two below a node is a place
pub winner-place : (low : ℕ) (last : Bool) (entries : Members) (nodes : List ℕ) (node won : ℕ) → IsSeated low nodes
    → low ≤ 2 * node → node < length nodes
    → won ≡ winner last entries (won_at nodes (2 * node)) (won_at nodes (2 * node + 1)) → won < length nodes
winner-place low last entries nodes node won h from within is =
    rw is (winner-within low last entries nodes node h from within)

-- no node is right from the last one on
pub none-right : (low : ℕ) (last : Bool) (entries : Members) (nodes : List ℕ) → length nodes ≤ low
    → IsRightFrom low last entries nodes
none-right low last entries nodes past = record {
  seated = record {
    within = λ k a b. absurd (omega arith);
    below = λ k a b. absurd (omega arith);
  };
  node = λ k a b. absurd (omega arith);
}
