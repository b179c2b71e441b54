-- Each step keeps what the rule says of the views.
use Rattle.std.proofs.Common.{◌≡◌, ◌≢◌, ℕ, ◌<◌, Bool, true, false, cond, List, [], ◌++◌, set, refl, sym, ap, ◌∙◌, subst, ⊎_elim, arith, append_assoc, get_or}
use Rattle.std.specs.List.{All}
use Rattle.std.proofs.lemmas.List.{append-nil}
use Rattle.std.proofs.lemmas.List.Elements.{All-append}
use Rattle.std.proofs.lemmas.Bool.{true≢false}
use mathlib.Core.Option.{some, some-injective}
use lib.ListN.{get_elem?}
use Rattle.atomic_table.proofs.Lists.{at_set}
use Rattle.lr_model.specs.declared.entry.Entry.{Entry}
use Rattle.lr_turnstile.specs.declared.view.View.{View}
use Rattle.lr_turnstile.specs.Views.{entries_by, IsAlone, IsSame}
use Rattle.lr_turnstile.specs.Rule.{outside, Fits, Knows, Roster}
use Rattle.lr_turnstile.proofs.Lists.{entries_by-append, By, by_none, at_here, total-set, total_zero}

-- the history has just those entries of a pass that the pass knows
pub all_own : (history : List Entry) (view : View) → Fits history view
    → entries_by view.caller history ≡ view.mine
all_own history view f = ap (λ l. entries_by view.caller l) f.begins
    ∙ (entries_by-append view.caller view.seen f.later
    ∙ ((λ i. f.own i ++ f.none_later i) ∙ append-nil view.mine))

-- One seat saw all, and added some entries of its own.
module _ (history added : List Entry) (made out : ℕ) (joined : List (ℕ × List Entry))
    (views : List View) (seat : ℕ) (v w : View) (r : Roster history made out joined views)
    (at : get_elem? views seat ≡ some v) (live : v.is_spent ≡ false) (same : IsSame v w)
    (by : By v.caller added) (saw : w.seen ≡ history ++ added) (its : w.mine ≡ v.mine ++ added)
  where
    own_now : Fits (history ++ added) w
    own_now = let f = (r.each seat v at).fits live in record {
      later = [];
      begins = sym saw ∙ sym (append-nil w.seen);
      own = (λ i. entries_by (same.caller i) (saw i))
          ∙ (entries_by-append v.caller history added
          ∙ ((λ i. all_own history v f i ++ by.own i) ∙ sym its));
      none_later = refl;
    }

    other_caller : (j : ℕ) (u : View) → j ≢ seat → get_elem? views j ≡ some u
        → u.is_spent ≡ false → u.caller ≢ v.caller
    other_caller j u n e alive c = n (r.apart j seat u v e at alive live c)

    others_now : (j : ℕ) (u : View) → j ≢ seat → get_elem? views j ≡ some u
        → Knows history made out joined j u → Knows (history ++ added) made out joined j u
    others_now j u n e k = record {
      fits = λ alive. let f = k.fits alive in record {
        later = f.later ++ added;
        begins = ap (λ zs. zs ++ added) f.begins ∙ append_assoc u.seen f.later added;
        own = f.own;
        none_later = entries_by-append u.caller f.later added
            ∙ (λ i. f.none_later i ++ by.others u.caller (other_caller j u n e alive) i);
      };
      number = k.number;
      first = k.first;
      not_joined = k.not_joined;
    }

    this_now : Knows (history ++ added) made out joined seat w
    this_now = let k = r.each seat v at in record {
      fits = λ _. own_now;
      number = λ _. subst (λ c. c < made) (sym same.caller) (k.number live);
      first = λ is. let f = k.first (sym same.first ∙ is) in
          (f.0, same.made ∙ f.1, same.out ∙ f.2, same.joined ∙ f.3, same.spent ∙ f.4);
      not_joined = λ _ i d below c. k.not_joined live i d below (sym same.caller ∙ c);
    }

    each_now : (j : ℕ) (u : View) → get_elem? (set views seat w) j ≡ some u
        → Knows (history ++ added) made out joined j u
    each_now j u e = ⊎_elim
        (λ (t : (j ≡ seat) × (w ≡ u)). subst
        (λ (z : ℕ × View). Knows (history ++ added) made out joined z.0 z.1)
        (λ i. (sym t.0 i, t.1 i)) this_now)
        (λ (t : (j ≢ seat) × (get_elem? views j ≡ some u)).
        others_now j u t.0 t.1 (r.each j u t.1))
        (at_set views seat j w u e)

    -- the view that stood there before
    was : (j : ℕ) (u : View) → get_elem? (set views seat w) j ≡ some u
        → (x : View) × (get_elem? views j ≡ some x) × (u.caller ≡ x.caller)
        × (u.is_spent ≡ x.is_spent)
    was j u e = ⊎_elim
        (λ (t : (j ≡ seat) × (w ≡ u)). (
          v,
          subst (λ z. get_elem? views z ≡ some v) (sym t.0) at,
          ap (λ z. z.caller) (sym t.1) ∙ same.caller,
          ap (λ z. z.is_spent) (sym t.1) ∙ same.spent,
        ))
        (λ (t : (j ≢ seat) × (get_elem? views j ≡ some u)). (u, t.1, refl, refl))
        (at_set views seat j w u e)

    ended_now : All (λ (p : ℕ × List Entry).
        (entries_by p.0 (history ++ added) ≡ p.1) × (p.0 < made)) joined
    ended_now k d below =
        let p : ℕ × List Entry = get_or joined k d in
        let h = r.ended k d below in (
          entries_by-append p.0 history added
              ∙ ((λ i. h.0 i ++ by.others p.0 (λ c. (r.each seat v at).not_joined live k d below (sym c)) i)
              ∙ append-nil p.1),
          h.1,
        )

    pub roster_moved : Roster (history ++ added) made out joined (set views seat w)
    roster_moved = record {
      each = each_now;
      apart = λ i j u x e f alive live' c.
          let a = was i u e in
          let b = was j x f in
          r.apart i j a.0 b.0 a.1 b.1 (sym a.3 ∙ alive) (sym b.3 ∙ live') (sym a.2 ∙ (c ∙ b.2));
      known = All-append (λ (e : Entry). e.caller < made) history added r.known
          (λ k d below. subst (λ c. c < made) (sym (by.each k d below))
          ((r.each seat v at).number live));
      ended = ended_now;
      counted = r.counted;
      front = (seat, w, at_here views seat v w at, same.spent ∙ live, saw);
      outs =
          let t = total-set outside views seat v w at in
          let o : outside w ≡ outside v =
          λ i. cond (same.first i) 0 (cond (same.spent i) 0 1) in
          let z = r.outs in omega arith;
    }

-- a step that adds no entry
pub roster_saw : (history : List Entry) (made out : ℕ) (joined : List (ℕ × List Entry))
    (views : List View) (seat : ℕ) (v w : View) → Roster history made out joined views
    → get_elem? views seat ≡ some v → v.is_spent ≡ false → IsSame v w → w.seen ≡ history
    → w.mine ≡ v.mine → Roster history made out joined (set views seat w)
roster_saw history made out joined views seat v w r at live same saw its =
    subst (λ l. Roster l made out joined (set views seat w)) (append-nil history)
    (roster_moved history [] made out joined views seat v w r at live same
    (by_none v.caller) (saw ∙ sym (append-nil history)) (its ∙ sym (append-nil v.mine)))

-- a pass that counts for nothing and isn't spent is the first one
first_if : (a b : Bool) (n : ℕ) → n ≡ cond a 0 (cond b 0 1) → n ≡ 0 → b ≡ false → a ≡ true
first_if true b n is z e = refl
first_if false true n is z e = absurd (true≢false e)
first_if false false n is z e = absurd (omega arith)

-- where the first pass has no other out, it is the only one
pub only_one : (history : List Entry) (made out : ℕ) (joined : List (ℕ × List Entry))
    (views : List View) (seat : ℕ) (v : View) → Roster history made out joined views
    → get_elem? views seat ≡ some v → IsAlone v
    → (j : ℕ) (u : View) → get_elem? views j ≡ some u → u.is_spent ≡ false → u ≡ v
only_one history made out joined views seat v r at alone j u e alive =
    let f = (r.each seat v at).first alone.first in
    let z = total_zero outside views j u (r.outs ∙ (sym f.2 ∙ alone.none_out)) e in
    let g = (r.each j u e).first (first_if u.is_first u.is_spent (outside u) refl z alive) in
    some-injective u v
    (sym e ∙ ((λ i. get_elem? views (g.0 i)) ∙ ((λ i. get_elem? views (sym f.0 i)) ∙ at)))
