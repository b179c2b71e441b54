-- The rule when a gate is new, and what is known when it is taken down.
use Rattle.std.proofs.Common.{◌≡◌, ℕ, zero, suc, ◌+◌, ◌<◌, false, List, [], ◌∷◌, length, refl, sym, ap, ◌∙◌, subst, inl, arith}
use Rattle.std.specs.List.{All}
use mathlib.Core.Option.{some, some-injective, some-ne-none}
use lib.ListN.{get_elem?}
use Rattle.atomic_table.specs.Table.{opening, Final, Seen}
use Rattle.lr_model.specs.declared.entry.Entry.{Entry}
use Rattle.lr_turnstile.specs.declared.home.Home.{Home}
use Rattle.lr_turnstile.specs.declared.view.View.{View}
use Rattle.lr_turnstile.specs.Views.{entries_by, first_view, HasOwn, IsAlone}
use Rattle.lr_turnstile.specs.Rule.{IsGate, Roster, Knows, occupied}
use Rattle.lr_turnstile.proofs.Moves.{even_if, alone_free, free_if, owns}

-- The start.

only : (j : ℕ) (v : View) → get_elem? (first_view ∷ []) j ≡ some v → (j ≡ 0) × (first_view ≡ v)
only zero v e = (refl, some-injective first_view v e)
only (suc j) v e = absurd (some-ne-none v (sym e))

knows_nothing : Knows [] 1 0 [] 0 first_view
knows_nothing = record {
  fits = λ _. record { later = []; begins = refl; own = refl; none_later = refl };
  number = λ _. omega arith;
  first = λ _. (refl, refl, refl, refl, refl);
  not_joined = λ _ k d below. absurd (omega arith);
}

first_roster : Roster [] 1 0 [] (first_view ∷ [])
first_roster = record {
  each = λ j v e. let o = only j v e in
      subst (λ (z : ℕ × View). Knows [] 1 0 [] z.0 z.1) (λ i. (sym o.0 i, o.1 i)) knows_nothing;
  apart = λ i j u x e f _ _ _. (only i u e).0 ∙ sym (only j x f).0;
  known = λ k d below. absurd (omega arith);
  ended = λ k d below. absurd (omega arith);
  counted = refl;
  front = (0, first_view, refl, refl, refl);
  outs = refl;
}

module _ {V : Type 0} (stands : V → ℕ → List Entry → Type 0) where
  pub opens : (x : V) (homes : List (Home V)) → stands x 0 [] → homes ≡ occupied x ∷ []
      → IsGate stands (opening (0 ∷ []) homes first_view)
  opens x homes it is =
      subst (λ (hs : List (Home V)). IsGate stands (opening (0 ∷ []) hs first_view)) (sym is)
      (record {
        history = [];
        made = 1;
        out = 0;
        joined = [];
        roster = first_roster;
        turn = inl (record {
          word = refl;
          value = x;
          home = refl;
          it_stands = it;
          nobody = λ j v e. ap (λ z. z.has_turn) (sym (only j v e).1);
        });
      })

  -- The end.

  -- the value, and what the first pass knows of the history
  pub record Closes (homes : List (Home V)) (v : View) : Type 0 where
    pub value : V
    pub at : get_elem? homes 0 ≡ some (occupied value)
    pub it_stands : stands value 0 v.seen
    pub counted : v.made ≡ length v.joined + 1
    pub made : All (λ entry. entry.caller < v.made) v.seen
    pub own : HasOwn v
    pub joined : All (λ other. entries_by other.0 v.seen ≡ other.1) v.joined

  pub closes : (seat : ℕ) (v : View) (words : List ℕ) (homes : List (Home V)) → IsAlone v
      → v.has_turn ≡ false → Final (Seen (IsGate stands) seat v) words homes → Closes homes v
  closes seat v words homes alone off t =
      let s = t.0 in
      let g = t.1.0 in
      let at = t.1.1 in
      let a = alone_free stands s g seat v at alone off in
      let f = free_if stands s g (even_if (length g.history) _ a.0) in
      let k = (g.roster.each seat v at).first alone.first in
      let ends : All (λ (other : ℕ × List Entry). entries_by other.0 g.history ≡ other.1) g.joined =
      λ i d below. (g.roster.ended i d below).0 in record {
        value = f.value;
        at = t.4 0 (occupied f.value) (ap (λ hs. get_elem? hs 0) f.home);
        it_stands = subst (λ l. stands f.value 0 l) (sym a.1) f.it_stands;
        counted =
            let c = g.roster.counted in
            let made = k.1 in
            let out = k.2 in
            let none = alone.none_out in
            let joined = ap length k.3 in omega arith;
        made = subst (λ (z : ℕ × List Entry). All (λ (e : Entry). e.caller < z.0) z.1)
            (λ i. (sym k.1 i, sym a.1 i)) g.roster.known;
        own = ap (λ l. entries_by v.caller l) a.1 ∙ owns stands s g seat v at k.4;
        joined = subst (λ (z : List Entry × List (ℕ × List Entry)).
            All (λ (other : ℕ × List Entry). entries_by other.0 z.0 ≡ other.1) z.1)
            (λ i. (sym a.1 i, sym k.3 i)) ends;
      }
