-- Joining a pass keeps the rule.
use Rattle.std.proofs.Common.{◌≡◌, ◌≢◌, ◌⊎◌, ℕ, ◌-◌, ◌<◌, ◌≤◌, Bool, true, false, cond, List, [], ◌∷◌, ◌++◌, length, set, refl, sym, ap, ◌∙◌, subst, inl, inr, ⊎_elim, arith, ltb, length-append}
use Rattle.std.specs.List.{All}
use Rattle.std.proofs.lemmas.List.{append-nil}
use Rattle.std.proofs.lemmas.List.Elements.{All-append}
use Rattle.std.proofs.lemmas.Bool.{true≢false, ltb-true, lt-ltb}
use mathlib.Core.Logic.{dite}
use mathlib.Core.Option.{some, some-injective}
use native.Mathlib.Decide.{ℕ_discrete}
use lib.ListN.{get_elem?}
use Rattle.atomic_table.specs.Table.{State, Joins}
use Rattle.atomic_table.proofs.Lists.{at_set, set_else}
use Rattle.lr_model.specs.declared.entry.Entry.{Entry}
use Rattle.lr_turnstile.specs.declared.home.Home.{Home}
use Rattle.lr_turnstile.specs.declared.view.View.{View}
use Rattle.lr_turnstile.specs.Views.{entries_by, longer, after_join, spent_view}
use Rattle.lr_turnstile.specs.Rule.{IsGate, IsFreeGate, IsTakenGate, total, outside, Fits, Knows, Roster}
use Rattle.lr_turnstile.proofs.Lists.{entries_by-append, all_one, nil_left, nil_right, at_here, total-set, begins_longer, whole}
use Rattle.lr_turnstile.proofs.Rosters.{all_own}
use Rattle.lr_turnstile.proofs.Turning.{free_stays}

-- what is so of both of two lists is so of the longer one
longer_is : (xs ys : List Entry) (P : List Entry → Type 0) → (length xs < length ys → P ys)
    → (length ys ≤ length xs → P xs) → P (longer xs ys)
longer_is xs ys P right left = by_case (ltb (length xs) (length ys)) refl
  where
    by_case : (b : Bool) → ltb (length xs) (length ys) ≡ b → P (cond b ys xs)
    by_case true is = right (ltb-true (length xs) (length ys) is)
    by_case false is =
        left (at_most (λ h. true≢false (sym (lt-ltb (length xs) (length ys) h) ∙ is)))
      where
        at_most : (length xs < length ys → ⊥) → length ys ≤ length xs
        at_most n = omega arith

-- The first pass takes another in.
module _ (history : List Entry) (made out : ℕ) (joined : List (ℕ × List Entry))
    (views : List View) (seat other : ℕ) (v u : View)
    (r : Roster history made out joined views)
    (at : get_elem? views seat ≡ some v) (first : v.is_first ≡ true)
    (two : other ≢ seat) (its : get_elem? views other ≡ some u) (live : u.is_spent ≡ false)
    (not_first : u.is_first ≡ false) where
  abbrev both : View
  both = after_join v u

  abbrev all_joined : List (ℕ × List Entry)
  all_joined = joined ++ (u.caller, u.mine) ∷ []

  abbrev halfway : List View
  halfway = set views seat both

  abbrev joined_views : List View
  joined_views = set halfway other spent_view

  firsts : (seat ≡ 0) × (v.made ≡ made) × (v.out ≡ out) × (v.joined ≡ joined)
      × (v.is_spent ≡ false)
  firsts = (r.each seat v at).first first

  ours : Fits history v
  ours = (r.each seat v at).fits firsts.4

  theirs : Fits history u
  theirs = (r.each other u its).fits live

  abbrev KnowsNow : ℕ → View → Type 0
  KnowsNow = Knows history made (out - 1) all_joined

  -- no other seat has the number of one that was joined
  not_among : (j : ℕ) (x : View) → j ≢ other → get_elem? views j ≡ some x → x.is_spent ≡ false
      → All (λ (p : ℕ × List Entry). x.caller ≢ p.0) all_joined
  not_among j x n e alive = All-append (λ (p : ℕ × List Entry). x.caller ≢ p.0) joined
      ((u.caller, u.mine) ∷ [])
      ((r.each j x e).not_joined alive)
      (all_one (λ (p : ℕ × List Entry). x.caller ≢ p.0) (u.caller, u.mine)
      (λ same. n (r.apart j other x u e its alive live same)))

  fits_both : Fits history both
  fits_both = longer_is v.seen u.seen
      (λ seen. Fits history (record v { seen = seen; out = v.out - 1; joined = v.joined ++ (u.caller, u.mine) ∷ [] }))
      (λ less.
      let b = begins_longer v.seen ours.later u.seen theirs.later
      (sym ours.begins ∙ theirs.begins) (omega arith) in
      let mid : List Entry = entries_by v.caller b.0 in
      let end : List Entry = entries_by v.caller theirs.later in
      let parts : mid ++ end ≡ [] =
      sym (entries_by-append v.caller b.0 theirs.later)
      ∙ (ap (λ l. entries_by v.caller l) (sym b.2) ∙ ours.none_later) in record {
        later = theirs.later;
        begins = theirs.begins;
        own = ap (λ l. entries_by v.caller l) b.1 ∙ (entries_by-append v.caller v.seen b.0
            ∙ ((λ i. ours.own i ++ nil_left mid end parts i) ∙ append-nil v.mine));
        none_later = nil_right mid end parts;
      })
      (λ _. record {
        later = ours.later;
        begins = ours.begins;
        own = ours.own;
        none_later = ours.none_later;
      })

  knows_both : KnowsNow seat both
  knows_both = record {
    fits = λ _. fits_both;
    number = (r.each seat v at).number;
    first = λ _. (
      firsts.0,
      firsts.1,
      ap (λ n. n - 1) firsts.2,
      ap (λ l. l ++ (u.caller, u.mine) ∷ []) firsts.3,
      firsts.4,
    );
    not_joined = λ alive. not_among seat v (λ same. two (sym same)) at alive;
  }

  knows_spent : (j : ℕ) → KnowsNow j spent_view
  knows_spent j = record {
    fits = λ off. absurd (true≢false off);
    number = λ off. absurd (true≢false off);
    first = λ off. absurd (true≢false (sym off));
    not_joined = λ off. absurd (true≢false off);
  }

  knows_rest : (j : ℕ) (x : View) → j ≢ seat → j ≢ other → get_elem? views j ≡ some x
      → KnowsNow j x
  knows_rest j x n m e = let k = r.each j x e in record {
    fits = k.fits;
    number = k.number;
    first = λ is. absurd (n ((k.first is).0 ∙ sym firsts.0));
    not_joined = λ alive. not_among j x m e alive;
  }

  -- each view after it is the spent one, the first pass's, or one of before
  abbrev Which : ℕ → View → Type 0
  Which j x = ((j ≡ other) × (spent_view ≡ x))
      ⊎ (((j ≡ seat) × (both ≡ x)) ⊎ ((j ≢ seat) × (j ≢ other) × (get_elem? views j ≡ some x)))

  which : (j : ℕ) (x : View) → get_elem? joined_views j ≡ some x → Which j x
  which j x e = ⊎_elim
      (λ (t : (j ≡ other) × (spent_view ≡ x)). inl t)
      (λ (t : (j ≢ other) × (get_elem? halfway j ≡ some x)). inr (⊎_elim
      (λ (a : (j ≡ seat) × (both ≡ x)). inl a)
      (λ (a : (j ≢ seat) × (get_elem? views j ≡ some x)). inr (a.0, t.0, a.1))
      (at_set views seat j both x t.1)))
      (at_set halfway other j spent_view x e)

  each_now : (j : ℕ) (x : View) → Which j x → KnowsNow j x
  each_now j x (inl t) = subst (KnowsNow j) t.1 (knows_spent j)
  each_now j x (inr (inl t)) =
      subst (λ (z : ℕ × View). KnowsNow z.0 z.1) (λ i. (sym t.0 i, t.1 i)) knows_both
  each_now j x (inr (inr t)) = knows_rest j x t.0 t.1 t.2

  -- the view of before, of one that isn't spent
  abbrev Before : ℕ → View → Type 0
  Before j x = (y : View) × (get_elem? views j ≡ some y) × (x.caller ≡ y.caller)
      × (x.is_spent ≡ y.is_spent)

  before : (j : ℕ) (x : View) → Which j x → x.is_spent ≡ false → Before j x
  before j x (inl t) alive = absurd (true≢false (ap (λ z. z.is_spent) t.1 ∙ alive))
  before j x (inr (inl t)) alive = (
    v,
    subst (λ z. get_elem? views z ≡ some v) (sym t.0) at,
    ap (λ z. z.caller) (sym t.1),
    ap (λ z. z.is_spent) (sym t.1),
  )
  before j x (inr (inr t)) alive = (x, t.2, refl, refl)

  both_at : get_elem? joined_views seat ≡ some both
  both_at = set_else halfway other seat spent_view (λ same. two (sym same))
      ∙ at_here views seat v both at

  u_halfway : get_elem? halfway other ≡ some u
  u_halfway = set_else views seat other both two ∙ its

  -- where the first pass or the other had seen all, the first pass now has

  saw_ours : v.seen ≡ history → both.seen ≡ history
  saw_ours all = longer_is v.seen u.seen (λ seen. seen ≡ history)
      (λ less.
      let a = ap length theirs.begins in
      let b = length-append u.seen theirs.later in
      let c = ap length all in absurd (omega arith))
      (λ _. all)

  saw_theirs : u.seen ≡ history → both.seen ≡ history
  saw_theirs all = longer_is v.seen u.seen (λ seen. seen ≡ history)
      (λ _. all)
      (λ le. (whole v.seen ours.later history ours.begins
      (let c = ap length all in omega arith)).0)

  one_out : outside u ≡ 1
  one_out = λ i. cond (not_first i) 0 (cond (live i) 0 1)

  outs_now : (total outside joined_views ≡ out - 1) × (1 ≤ out)
  outs_now =
      let a = total-set outside views seat v both at in
      let b = total-set outside halfway other u spent_view u_halfway in
      let one = one_out in
      let c = r.outs in (omega arith, omega arith)

  ended_now : All (λ (p : ℕ × List Entry).
      (entries_by p.0 history ≡ p.1) × (p.0 < made)) all_joined
  ended_now = All-append
      (λ (p : ℕ × List Entry). (entries_by p.0 history ≡ p.1) × (p.0 < made)) joined
      ((u.caller, u.mine) ∷ []) r.ended
      (all_one (λ (p : ℕ × List Entry). (entries_by p.0 history ≡ p.1) × (p.0 < made))
      (u.caller, u.mine) (all_own history u theirs, (r.each other u its).number live))

  pub roster_joined : Roster history made (out - 1) all_joined joined_views
  roster_joined = record {
    each = λ j x e. each_now j x (which j x e);
    apart = λ i j x y e f alive alive' same.
        let a = before i x (which i x e) alive in
        let b = before j y (which j y f) alive' in
        r.apart i j a.0 b.0 a.1 b.1 (sym a.3 ∙ alive) (sym b.3 ∙ alive')
        (sym a.2 ∙ (same ∙ b.2));
    known = r.known;
    ended = ended_now;
    counted =
        let c = r.counted in
        let one = outs_now.1 in
        let l = length-append joined ((u.caller, u.mine) ∷ []) in omega arith;
    front = let w = r.front in dite (ℕ_discrete w.0 seat)
        (λ here. (
          seat,
          both,
          both_at,
          firsts.4,
          saw_ours (ap (λ z. z.seen) (some-injective v w.1
              (sym at ∙ ((λ i. get_elem? views (sym here i)) ∙ w.2))) ∙ w.4),
        ))
        (λ away. dite (ℕ_discrete w.0 other)
        (λ here. (
          seat,
          both,
          both_at,
          firsts.4,
          saw_theirs (ap (λ z. z.seen) (some-injective u w.1
              (sym its ∙ ((λ i. get_elem? views (sym here i)) ∙ w.2))) ∙ w.4),
        ))
        (λ apart. (
          w.0,
          w.1,
          set_else halfway other w.0 spent_view apart
              ∙ (set_else views seat w.0 both away ∙ w.2),
          w.3,
          w.4,
        )));
    outs = outs_now.0;
  }

module _ {V : Type 0} (stands : V → ℕ → List Entry → Type 0) where
  taken_kept : (s : State (Home V) View) (history : List Entry)
      (seat other : ℕ) (v u : View)
      → v.has_turn ≡ false → u.has_turn ≡ false
      → IsTakenGate stands history s.words s.homes s.views → get_elem? s.views seat ≡ some v
      → other ≢ seat → get_elem? s.views other ≡ some u
      → IsTakenGate stands history s.words s.homes
      (set (set s.views seat (after_join v u)) other spent_view)
  taken_kept s history seat other v u off off' h at two its =
      let halfway : List View = set s.views seat (after_join v u) in record {
        word = h.word;
        home = h.home;
        holder = h.holder;
        its_view = h.its_view;
        sits = set_else halfway other h.holder spent_view (λ same. on other u off' same its)
            ∙ (set_else s.views seat h.holder (after_join v u) (λ same. on seat v off same at)
            ∙ h.sits);
        has_it = h.has_it;
        alive = h.alive;
        saw_all = h.saw_all;
        alone = λ j x e it. ⊎_elim
            (λ (t : (j ≡ other) × (spent_view ≡ x)).
            absurd (true≢false (sym it ∙ ap (λ z. z.has_turn) (sym t.1))))
            (λ (t : (j ≢ other) × (get_elem? halfway j ≡ some x)). ⊎_elim
            (λ (a : (j ≡ seat) × (after_join v u ≡ x)). absurd
            (true≢false (sym it ∙ (ap (λ z. z.has_turn) (sym a.1) ∙ off))))
            (λ (a : (j ≢ seat) × (get_elem? s.views j ≡ some x)). h.alone j x a.1 it)
            (at_set s.views seat j (after_join v u) x t.1))
            (at_set halfway other j spent_view x e);
      }
    where
      on : (k : ℕ) (x : View) → x.has_turn ≡ false → h.holder ≡ k
          → get_elem? s.views k ≡ some x → ⊥
      on k x off same e = true≢false (sym h.has_it ∙ (ap (λ z. z.has_turn)
          (some-injective h.its_view x
          (sym h.sits ∙ ((λ i. get_elem? s.views (same i)) ∙ e))) ∙ off))

  pub join_goes : (seat : ℕ) (v : View) (other : ℕ) (u : View) → v.is_first ≡ true
      → v.has_turn ≡ false → u.is_first ≡ false → u.is_spent ≡ false → u.has_turn ≡ false
      → Joins (IsGate stands) seat v other u (after_join v u) spent_view
  join_goes seat v other u first off not_first live off' s g at two there =
      let both : View = after_join v u in
      let vs : List View = set s.views seat both in
      let its : get_elem? s.views other ≡ some u = ⊎_elim
      (λ (t : (other ≡ seat) × (both ≡ u)). absurd (two t.0))
      (λ (t : (other ≢ seat) × (get_elem? s.views other ≡ some u)). t.1)
      (at_set s.views seat other both u there) in record {
        history = g.history;
        made = g.made;
        out = g.out - 1;
        joined = g.joined ++ (u.caller, u.mine) ∷ [];
        roster = roster_joined g.history g.made g.out g.joined s.views seat other v u g.roster at
            first two its live not_first;
        turn = ⊎_elim
            (λ (f : IsFreeGate stands g.history s.words s.homes s.views). inl
            (free_stays stands g.history s.words s.homes vs other u spent_view
            (free_stays stands g.history s.words s.homes s.views seat v both f at refl)
            there (sym off')))
            (λ (h : IsTakenGate stands g.history s.words s.homes s.views). inr
            (taken_kept s g.history seat other v u off off' h at two its))
            g.turn;
      }
