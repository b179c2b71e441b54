-- Splitting a pass off keeps the rule.
use Rattle.std.proofs.Common.{◌≡◌, ◌≢◌, ◌⊎◌, ℕ, ◌+◌, ◌<◌, true, false, List, [], ◌∷◌, ◌++◌, length, set, refl, sym, ap, ◌∙◌, subst, inl, inr, ⊎_elim, arith}
use Rattle.std.proofs.lemmas.Bool.{true≢false}
use mathlib.Core.Logic.{dite}
use mathlib.Core.Option.{some, some-injective}
use native.Mathlib.Decide.{ℕ_discrete}
use lib.ListN.{get_elem?}
use Rattle.atomic_table.specs.Table.{Splits}
use Rattle.atomic_table.proofs.Lists.{at_set, set_else, at_longer}
use Rattle.lr_model.specs.declared.entry.Entry.{Entry}
use Rattle.lr_turnstile.specs.declared.view.View.{View}
use Rattle.lr_turnstile.specs.Views.{entries_by, after_split, split_off}
use Rattle.lr_turnstile.specs.Rule.{IsGate, IsFreeGate, IsTakenGate, outside, Knows, Roster}
use Rattle.lr_turnstile.proofs.Lists.{entries_by-append, none_known, nil_left, nil_right, at_end, at_here, total-set, total-append}
use Rattle.lr_turnstile.proofs.Turning.{free_stays, taken_stays, free_more, taken_more}

-- The first pass makes another.
module _ (history : List Entry) (made out : ℕ) (joined : List (ℕ × List Entry))
    (views : List View) (seat : ℕ) (v : View) (r : Roster history made out joined views)
    (at : get_elem? views seat ≡ some v) (first : v.is_first ≡ true) where
  abbrev this : View
  this = after_split v

  abbrev other : View
  other = split_off v

  abbrev changed : List View
  changed = set views seat this

  abbrev after : List View
  after = changed ++ other ∷ []

  firsts : (seat ≡ 0) × (v.made ≡ made) × (v.out ≡ out) × (v.joined ≡ joined)
      × (v.is_spent ≡ false)
  firsts = (r.each seat v at).first first

  abbrev KnowsNow : ℕ → View → Type 0
  KnowsNow = Knows history (made + 1) (out + 1) joined

  knows_this : KnowsNow seat this
  knows_this = let k = r.each seat v at in record {
    fits = λ live. let h = k.fits live in
        record { later = h.later; begins = h.begins; own = h.own; none_later = h.none_later };
    number = λ live. let h = k.number live in omega arith;
    first = λ _. (firsts.0, ap (λ n. n + 1) firsts.1, ap (λ n. n + 1) firsts.2, firsts.3, firsts.4);
    not_joined = k.not_joined;
  }

  knows_other : (j : ℕ) → KnowsNow j other
  knows_other j =
      let h = (r.each seat v at).fits firsts.4 in
      let e = firsts.1 in
      let none : entries_by v.made history ≡ [] =
      subst (λ m. entries_by m history ≡ []) (sym e) (none_known made history r.known) in
      let parts : entries_by v.made v.seen ++ entries_by v.made h.later ≡ [] =
      sym (entries_by-append v.made v.seen h.later)
      ∙ (ap (λ l. entries_by v.made l) (sym h.begins) ∙ none) in
      let theirs : List Entry = entries_by v.made h.later in
      let ours : List Entry = entries_by v.made v.seen in record {
        fits = λ _. record {
          later = h.later;
          begins = h.begins;
          own = nil_left ours theirs parts;
          none_later = nil_right ours theirs parts;
        };
        number = λ _. omega arith;
        first = λ off. absurd (true≢false (sym off));
        not_joined = λ _ k d below same. let b = (r.ended k d below).1 in omega arith;
      }

  knows_old : (j : ℕ) (u : View) → j ≢ seat → get_elem? views j ≡ some u → KnowsNow j u
  knows_old j u n e = let k = r.each j u e in record {
    fits = k.fits;
    number = λ live. let h = k.number live in omega arith;
    first = λ is. absurd (n ((k.first is).0 ∙ sym firsts.0));
    not_joined = k.not_joined;
  }

  each_after : (j : ℕ) (u : View) → get_elem? after j ≡ some u → KnowsNow j u
  each_after j u e = ⊎_elim
      (λ (t : (j < length changed) × (get_elem? changed j ≡ some u)). ⊎_elim
      (λ (a : (j ≡ seat) × (this ≡ u)). subst (λ (z : ℕ × View). KnowsNow z.0 z.1)
      (λ i. (sym a.0 i, a.1 i)) knows_this)
      (λ (a : (j ≢ seat) × (get_elem? views j ≡ some u)). knows_old j u a.0 a.1)
      (at_set views seat j this u t.1))
      (λ (t : (j ≡ length changed) × (other ≡ u)). subst (KnowsNow j) t.1 (knows_other j))
      (at_end changed other u j e)

  -- a view stood there before with the same number, or is the new one
  abbrev IsOld : ℕ → View → Type 0
  IsOld j u = (x : View) × (get_elem? views j ≡ some x) × (u.caller ≡ x.caller)
      × (u.is_spent ≡ x.is_spent)

  abbrev IsNew : ℕ → View → Type 0
  IsNew j u = (j ≡ length changed) × (u.caller ≡ made)

  was : (j : ℕ) (u : View) → get_elem? after j ≡ some u → IsOld j u ⊎ IsNew j u
  was j u e = ⊎_elim
      (λ (t : (j < length changed) × (get_elem? changed j ≡ some u)). ⊎_elim
      (λ (a : (j ≡ seat) × (this ≡ u)). inl (
        v,
        subst (λ z. get_elem? views z ≡ some v) (sym a.0) at,
        ap (λ z. z.caller) (sym a.1),
        ap (λ z. z.is_spent) (sym a.1),
      ))
      (λ (a : (j ≢ seat) × (get_elem? views j ≡ some u)). inl (u, a.1, refl, refl))
      (at_set views seat j this u t.1))
      (λ (t : (j ≡ length changed) × (other ≡ u)).
      inr (t.0, ap (λ z. z.caller) (sym t.1) ∙ firsts.1))
      (at_end changed other u j e)

  below : (j : ℕ) (u : View) → IsOld j u → u.is_spent ≡ false → u.caller < made
  below j u o live =
      subst (λ n. n < made) (sym o.2) ((r.each j o.0 o.1).number (sym o.3 ∙ live))

  pub roster_split : Roster history (made + 1) (out + 1) joined after
  roster_split = record {
    each = each_after;
    apart = λ i j u x e e' live live' same. ⊎_elim
        (λ (a : IsOld i u). ⊎_elim
        (λ (b : IsOld j x). r.apart i j a.0 b.0 a.1 b.1 (sym a.3 ∙ live) (sym b.3 ∙ live')
        (sym a.2 ∙ (same ∙ b.2)))
        (λ (b : IsNew j x).
        let l = below i u a live in let c = b.1 in absurd (omega arith))
        (was j x e'))
        (λ (a : IsNew i u). ⊎_elim
        (λ (b : IsOld j x).
        let l = below j x b live' in let c = a.1 in absurd (omega arith))
        (λ (b : IsNew j x). a.0 ∙ sym b.0)
        (was j x e'))
        (was i u e);
    known = λ k d within. let h = r.known k d within in omega arith;
    ended = λ k d within. let h = r.ended k d within in let l = h.1 in (h.0, omega arith);
    counted = let c = r.counted in omega arith;
    front = let w = r.front in dite (ℕ_discrete w.0 seat)
        (λ here.
        let is : w.1 ≡ v = some-injective w.1 v
        (sym w.2 ∙ ((λ i. get_elem? views (here i)) ∙ at)) in (
          seat,
          this,
          at_longer changed (other ∷ []) seat this (at_here views seat v this at),
          firsts.4,
          ap (λ z. z.seen) (sym is) ∙ w.4,
        ))
        (λ away. (
          w.0,
          w.1,
          at_longer changed (other ∷ []) w.0 w.1 (set_else views seat w.0 this away ∙ w.2),
          w.3,
          w.4,
        ));
    outs =
        let a = total-append outside changed other in
        let b = total-set outside views seat v this at in
        let c = r.outs in omega arith;
  }

module _ {V : Type 0} (stands : V → ℕ → List Entry → Type 0) where
  pub split_goes : (seat : ℕ) (v : View) → v.is_first ≡ true
      → Splits (IsGate stands) seat v (after_split v) (split_off v)
  split_goes seat v first s g at =
      let vs : List View = set s.views seat (after_split v) in record {
        history = g.history;
        made = g.made + 1;
        out = g.out + 1;
        joined = g.joined;
        roster = roster_split g.history g.made g.out g.joined s.views seat v g.roster at first;
        turn = ⊎_elim
            (λ (f : IsFreeGate stands g.history s.words s.homes s.views). inl
            (free_more stands g.history s.words s.homes vs (split_off v)
            (free_stays stands g.history s.words s.homes s.views seat v (after_split v) f
            at refl) refl))
            (λ (h : IsTakenGate stands g.history s.words s.homes s.views). inr
            (taken_more stands g.history s.words s.homes vs (split_off v)
            (taken_stays stands g.history s.words s.homes s.views seat v (after_split v) h
            at refl refl (λ all. all)) refl))
            g.turn;
      }
