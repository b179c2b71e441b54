-- Several bytes of a bulk string at once.
use Rattle.std.proofs.Common.{◌≡◌, ℕ, zero, suc, ◌+◌, ◌-◌, ◌≤◌, ◌<◌, List, [], ◌∷◌, ◌++◌, length, take, drop, decimal, arith, refl, sym, ap, subst, ◌∙◌, length-append}
use Rattle.std.proofs.lemmas.List.{length-take-le, append_assoc}
use Rattle.lr_resp.specs.declared.phase.Phase.{Phase}
use Rattle.lr_resp.specs.declared.phase.Phase.TheVariants.{Body}
use Rattle.lr_resp.specs.Limits.{bulk_limit, frame_limit}
use Rattle.lr_resp.specs.Spelling.{line_end}
use Rattle.lr_resp.specs.Opened.{Opened}
use Rattle.lr_resp.specs.Sound.{PhaseIsSound}
use Rattle.lr_resp.specs.Scan.{State, at}
use Rattle.lr_resp.specs.Spelled.{spelled, arrays_bytes}
use Rattle.lr_resp.specs.Steps.{BodyTaken}
use Rattle.lr_resp.specs.Stream.{IsReached, read, run}
use Rattle.lr_resp.proofs.Complete.{body_leads}
use Rattle.lr_resp.proofs.Reached.{StandsIn}

pub record After (n k : ℕ) (s new : State) (taken : List ℕ) : Type 0 where
  pub reached : IsReached (n + k) new
  pub spells : spelled new ≡ spelled s ++ taken

body_text : (arrays : List Opened) (left k : ℕ) (text taken : List ℕ) → k ≤ left → length taken ≡ k
    → spelled (at arrays (Body (left - k)) (text ++ taken))
    ≡ spelled (at arrays (Body left) text) ++ taken
unfolding spelled
body_text arrays left k text taken within size =
    let e : left - k + length (text ++ taken) ≡ left + length text =
    omega (arith, length-append text taken) in
    ap (λ (m : ℕ). arrays_bytes arrays ++ (36 ∷ decimal m ++ (line_end ++ (text ++ taken)))) e
    ∙ ap (λ (l : List ℕ). arrays_bytes arrays ++ l)
    (sym (append_assoc (36 ∷ decimal (left + length text)) (line_end ++ text) taken))
    ∙ sym (append_assoc (arrays_bytes arrays)
    (36 ∷ decimal (left + length text) ++ (line_end ++ text)) taken)

body_at : (phase : Phase) (n k : ℕ) (s new : State) (taken : List ℕ) → s.phase ≡ phase
    → IsReached n s → BodyTaken phase k taken s new → 0 < k → n + k ≤ frame_limit → length taken ≡ k
    → After n k s new taken
body_at (Body left) n k s new taken is reached body some bound size =
    let good =
    subst (λ (p : Phase). PhaseIsSound reached.good.depth p s.text) is reached.good.phase in
    let from : State = at s.arrays (Body left) s.text in
    let to : State = at s.arrays (Body (left - k)) (s.text ++ taken) in
    let same : s ≡ from = ap (λ (p : Phase). at s.arrays p s.text) is in
    let spells : spelled to ≡ spelled s ++ taken =
    body_text s.arrays left k s.text taken body.0 size
    ∙ ap (λ (x : State). spelled x ++ taken) (sym same) in
    let fits : left - k + length (s.text ++ taken) ≤ bulk_limit =
    omega (arith, length-append s.text taken, good, body.0) in
    let leads = body_leads s.arrays left (left - k) s.text taken (omega (arith, body.0)) in
    let counted : length (spelled to) ≡ length (spelled s) + length taken = ap length spells
    ∙ length-append (spelled s) taken in
    let at : IsReached (n + k) to = record {
      good = record { depth = reached.good.depth; arrays = reached.good.arrays; phase = fits };
      counted = omega (arith, reached.counted);
      bound = bound;
      reach = λ rest. ap (λ (l : List ℕ). read (l ++ rest)) spells
          ∙ ap read (append_assoc (spelled s) taken rest) ∙ reached.reach (taken ++ rest)
          ∙ ap (λ (x : State). run frame_limit n x (taken ++ rest)) same
          ∙ leads.runs frame_limit n rest (omega arith)
          ∙ ap (λ (m : ℕ). run frame_limit (n + m) to rest) size;
    } in
    record {
      reached = subst (λ (x : State). IsReached (n + k) x) (sym body.1) at;
      spells =
          ap spelled body.1 ∙ spells;
    }
body_at _ n k s new taken is reached body some bound size = absurd (omega arith)

pub body_reached : (n k : ℕ) (s new : State) (taken : List ℕ) → IsReached n s
    → BodyTaken s.phase k taken s new → 0 < k → n + k ≤ frame_limit → length taken ≡ k
    → After n k s new taken
body_reached n k s new taken reached body some bound size =
    body_at s.phase n k s new taken refl reached body some bound size

front_rest : (n r : ℕ) (ys : List ℕ) → n ≤ length (take r ys) → take n (take r ys) ++ drop n ys ≡ ys
front_rest zero r ys h = refl
front_rest (suc n) zero ys h = absurd (omega arith)
front_rest (suc n) (suc r) [] h = refl
front_rest (suc n) (suc r) (y ∷ ys) h = ap (λ (l : List ℕ). y ∷ l) (front_rest n r ys (omega arith))

pub body_here : (n k : ℕ) (s new : State) (ahead part : List ℕ) (room : ℕ) (unread : List ℕ)
    → StandsIn n s ahead unread → part ≡ take room ahead → k ≤ length part
    → BodyTaken s.phase k (take k part) s new → 0 < k → n + k ≤ frame_limit
    → StandsIn (n + k) new (drop k ahead) unread
body_here n k s new ahead part room unread stands is within body some bound =
    let size = length-take-le k part within in
    let after = body_reached n k s new (take k part) stands.reached body some bound size in
    record {
      reached = after.reached;
      all = ap (λ (l : List ℕ). l ++ drop k ahead) after.spells
          ∙ append_assoc (spelled s) (take k part) (drop k ahead)
          ∙ ap (λ (l : List ℕ). spelled s ++ (take k l ++ drop k ahead)) is
          ∙ ap (λ (l : List ℕ). spelled s ++ l)
          (front_rest k room ahead (omega (arith, within, ap length is)))
          ∙ stands.all;
    }
