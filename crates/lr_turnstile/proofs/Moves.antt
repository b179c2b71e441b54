-- What the table asks of each kind of step of one pass: that it keeps the rule, and tells what it
-- says.
use Rattle.std.proofs.Common.{◌≡◌, ℕ, ◌+◌, ◌-◌, ◌*◌, ◌/◌, ◌%◌, ◌^◌, ◌<◌, ◌==◌, true, false, List, [], ◌∷◌, ◌++◌, length, set, refl, sym, ap, ◌∙◌, subst, inl, inr, ⊎_elim, arith, eq-eqb, ne_eqb, length-append}
use Rattle.std.specs.Prelude.{slice_index}
use Rattle.std.proofs.lemmas.Bool.{true≢false}
use mathlib.Core.Logic.{dite}
use mathlib.Core.Option.{some, none}
use native.Mathlib.Decide.{ℕ_discrete}
use lib.ListN.{get_elem?}
use prog.Atomic.{either}
use Rattle.atomic_table.specs.Table.{State, Me, step, keeps, takes, gives, stepped, Allows, rest}
use Rattle.lr_model.specs.declared.entry.Entry.{Entry}
use Rattle.lr_turnstile.specs.declared.home.Home.{Home}
use Rattle.lr_turnstile.specs.declared.view.View.{View}
use Rattle.lr_turnstile.specs.Views.{entries_by, Grew, IsAlone, IsSame, looked, took, left_with, left_same}
use Rattle.lr_turnstile.specs.Rule.{IsGate, IsFreeGate, IsTakenGate, occupied}
use Rattle.lr_turnstile.specs.Steps.{HasLooked, LookTells, TakeTells, LeaveWithTells, LeaveSameTells}
use Rattle.lr_turnstile.proofs.Lists.{by_one, entries_by-append}
use Rattle.lr_turnstile.proofs.Rosters.{all_own, roster_moved, roster_saw, only_one}
use Rattle.lr_turnstile.proofs.Turning.{free_again, taken_again, free_stays, taken_stays, free_taken, holder_saw_all, taken_left}

-- The word.

-- it stays where a step leaves it
unmoved : (words : List ℕ) (n : ℕ) → words ≡ n ∷ [] → set words 0 (slice_index words 0) ≡ n ∷ []
unmoved words n e = subst (λ ws. set ws 0 (slice_index ws 0) ≡ n ∷ []) (sym e) refl

word_is : (words : List ℕ) (n : ℕ) → words ≡ n ∷ [] → slice_index words 0 ≡ n
word_is words n e = ap (λ ws. slice_index ws 0) e

half_even : (l n : ℕ) → n ≡ 2 * l → l ≡ n / 2
half_even l n e = omega arith

pub even_if : (l n : ℕ) → n ≡ 2 * l → n % 2 ≡ 0
even_if l n e = omega arith

half_odd : (l n : ℕ) → n ≡ 2 * l + 1 → l ≡ n / 2
half_odd l n e = omega arith

-- What passes that step know.

same_looked : (v : View) (seen : List Entry) (n : ℕ) → IsSame v (looked v seen n)
same_looked v seen n =
    record { caller = refl; first = refl; spent = refl; made = refl; out = refl; joined = refl }

same_took : (v : View) (seen : List Entry) (n : ℕ) → IsSame v (took v seen n)
same_took v seen n =
    record { caller = refl; first = refl; spent = refl; made = refl; out = refl; joined = refl }

same_left_with : (e : Entry) (v : View) → IsSame v (left_with e v)
same_left_with e v =
    record { caller = refl; first = refl; spent = refl; made = refl; out = refl; joined = refl }

same_left : (v : View) → IsSame v (left_same v)
same_left v =
    record { caller = refl; first = refl; spent = refl; made = refl; out = refl; joined = refl }

module _ {V : Type 0} (stands : V → ℕ → List Entry → Type 0) where
  abbrev pub Rule : State (Home V) View → Type 0
  Rule = IsGate stands

  abbrev IsFreeIn : State (Home V) View → List Entry → Type 0
  IsFreeIn s history = IsFreeGate stands history s.words s.homes s.views

  abbrev IsTakenIn : State (Home V) View → List Entry → Type 0
  IsTakenIn s history = IsTakenGate stands history s.words s.homes s.views

  -- Where the rule holds.

  -- the history is half as long as the word says, rounded down
  half : (s : State (Home V) View) (g : Rule s) → length g.history ≡ slice_index s.words 0 / 2
  half s g =
      let n : ℕ = slice_index s.words 0 in
      let l : ℕ = length g.history in ⊎_elim
      (λ (f : IsFreeIn s g.history). half_even l n (word_is s.words (2 * l) f.word))
      (λ (h : IsTakenIn s g.history). half_odd l n (word_is s.words (2 * l + 1) h.word))
      g.turn

  grew : (s : State (Home V) View) (g : Rule s) (seat : ℕ) (v : View)
      → get_elem? s.views seat ≡ some v → v.is_spent ≡ false → Grew v g.history
  grew s g seat v at live =
      let f = (g.roster.each seat v at).fits live in
      record { later = f.later; begins = f.begins; none_own = f.none_later }

  pub owns : (s : State (Home V) View) (g : Rule s) (seat : ℕ) (v : View)
      → get_elem? s.views seat ≡ some v → v.is_spent ≡ false
      → entries_by v.caller g.history ≡ v.mine
  owns s g seat v at live = all_own g.history v ((g.roster.each seat v at).fits live)

  has_looked : (s : State (Home V) View) (g : Rule s) (seat : ℕ) (v : View)
      → get_elem? s.views seat ≡ some v → v.is_spent ≡ false
      → HasLooked v (slice_index s.words 0) (looked v g.history (slice_index s.words 0))
  has_looked s g seat v at live = record {
    view = refl;
    grew = grew s g seat v at live;
    half = half s g;
    own = owns s g seat v at live;
  }

  -- an even word shows that the gate is free
  pub free_if : (s : State (Home V) View) (g : Rule s) → slice_index s.words 0 % 2 ≡ 0
      → IsFreeIn s g.history
  free_if s g even = ⊎_elim
      (λ (f : IsFreeIn s g.history). f)
      (λ (h : IsTakenIn s g.history).
      let e = word_is s.words (2 * length g.history + 1) h.word in absurd (omega arith))
      g.turn

  -- a pass with the turn shows that it is taken
  taken_if : (s : State (Home V) View) (g : Rule s) (seat : ℕ) (v : View)
      → get_elem? s.views seat ≡ some v → v.has_turn ≡ true → IsTakenIn s g.history
  taken_if s g seat v at has = ⊎_elim
      (λ (f : IsFreeIn s g.history). absurd (true≢false (sym has ∙ f.nobody seat v at)))
      (λ (h : IsTakenIn s g.history). h)
      g.turn

  -- a pass that is alone and doesn't have the turn shows that it is free, and has seen all
  pub alone_free : (s : State (Home V) View) (g : Rule s) (seat : ℕ) (v : View)
      → get_elem? s.views seat ≡ some v → IsAlone v → v.has_turn ≡ false
      → (slice_index s.words 0 ≡ 2 * length g.history) × (v.seen ≡ g.history)
  alone_free s g seat v at alone off =
      let one = only_one g.history g.made g.out g.joined s.views seat v g.roster at alone in
      let front = g.roster.front in
      let is = one front.0 front.1 front.2 front.3 in (
        ⊎_elim
            (λ (f : IsFreeIn s g.history). word_is s.words (2 * length g.history) f.word)
            (λ (h : IsTakenIn s g.history). absurd (true≢false (sym h.has_it
            ∙ (ap (λ z. z.has_turn) (one h.holder h.its_view h.sits h.alive) ∙ off))))
            g.turn,
        ap (λ z. z.seen) (sym is) ∙ front.4,
      )

  -- The load.

  -- the rule after a step by which a seat saw all, and which left the word
  glanced : (s : State (Home V) View) (g : Rule s) (seat : ℕ) (v w : View)
      (slots : List (ℕ × Home V)) → get_elem? s.views seat ≡ some v → v.is_spent ≡ false
      → IsSame v w → w.has_turn ≡ v.has_turn → w.seen ≡ g.history → w.mine ≡ v.mine
      → Rule (stepped s 0 (slice_index s.words 0) seat slots w keeps)
  glanced s g seat v w slots at live same turn saw mine = record {
    history = g.history;
    made = g.made;
    out = g.out;
    joined = g.joined;
    roster = roster_saw g.history g.made g.out g.joined s.views seat v w g.roster at live same saw
        mine;
    turn = ⊎_elim
        (λ (f : IsFreeIn s g.history).
        let t = free_stays stands g.history s.words s.homes s.views seat v w f at turn in
        inl (free_again stands g.history s.words
        (set s.words 0 (slice_index s.words 0)) s.homes s.homes (set s.views seat w) t
        (unmoved s.words (2 * length g.history) f.word) t.home))
        (λ (h : IsTakenIn s g.history).
        let t = taken_stays stands g.history s.words s.homes s.views seat v w h at turn
        same.spent (λ _. saw) in
        inr (taken_again stands g.history s.words
        (set s.words 0 (slice_index s.words 0)) s.homes s.homes (set s.views seat w) t
        (unmoved s.words (2 * length g.history + 1) h.word) t.home))
        g.turn;
  }

  pub look_goes : (slots seat : ℕ) (me : Me (Home V) View) → me.0.is_spent ≡ false
      → Allows Rule slots seat me 0 (λ n. n) (LookTells (step slots 0 0 0 none) me)
  look_goes slots seat me live s g wide at small =
      let n : ℕ = slice_index s.words 0 in
      let v : View = me.0 in
      let w : View = looked v g.history n in (
        w,
        keeps,
        tt,
        glanced s g seat v w me.1 at live (same_looked v g.history n) refl refl refl,
        record {
          slots = refl;
          looked = has_looked s g seat v at live;
          alone = λ alone off.
              even_if (length g.history) n (alone_free s g seat v at alone off).0;
        },
      )

  -- The exchange.

  -- the rule after an exchange that took the turn, where the word was even
  turned : (s : State (Home V) View) (g : Rule s) (seat : ℕ) (v w : View)
      (slots : List (ℕ × Home V)) (f : IsFreeIn s g.history) (new : ℕ)
      → get_elem? s.views seat ≡ some v → v.is_spent ≡ false → IsSame v w → w.has_turn ≡ true
      → w.seen ≡ g.history → w.mine ≡ v.mine → new ≡ slice_index s.words 0 + 1
      → Rule (stepped s 0 new seat slots w (takes 0 (occupied f.value)))
  turned s g seat v w slots f new at live same has saw mine is =
      let t = free_taken stands g.history s.words s.homes s.views seat v w f at has
      (same.spent ∙ live) saw in
      let word : new ≡ 2 * length g.history + 1 =
      is ∙ ap (λ n. n + 1) (word_is s.words (2 * length g.history) f.word) in
      record {
        history = g.history;
        made = g.made;
        out = g.out;
        joined = g.joined;
        roster = roster_saw g.history g.made g.out g.joined s.views seat v w g.roster at live same
            saw mine;
        turn = inr (taken_again stands g.history ((2 * length g.history + 1) ∷ [])
            (set s.words 0 new) (none ∷ []) (set s.homes 0 none) (set s.views seat w) t
            (subst (λ ws. set ws 0 new ≡ new ∷ []) (sym f.word) refl ∙ ap (λ n. n ∷ []) word)
            (subst (λ hs. set hs 0 none ≡ none ∷ []) (sym f.home) refl));
      }

  pub take_goes : (slots seat : ℕ) (me : Me (Home V) View) (old new : ℕ)
      → me.0.is_spent ≡ false → old % 2 ≡ 0 → new ≡ old + 1
      → Allows Rule slots seat me 0 (λ n. either (n == old) new n)
      (TakeTells stands (step slots 0 old new none) me)
  take_goes slots seat me old new live even up s g wide at small =
      let n : ℕ = slice_index s.words 0 in
      let v : View = me.0 in
      let alone : IsAlone v → v.has_turn ≡ false → n ≡ 2 * length v.seen =
      λ a off. let t = alone_free s g seat v at a off in
      t.0 ∙ ap (λ (l : List Entry). 2 * length l) (sym t.1) in
      dite (ℕ_discrete n old)
      (λ hit.
      let f = free_if s g (ap (λ k. k % 2) hit ∙ even) in
      let w : View = took v g.history n in (
        w,
        takes 0 (occupied f.value),
        subst (λ hs. get_elem? hs 0 ≡ some (some (occupied f.value))) (sym f.home) refl,
        subst (λ b. Rule (stepped s 0 (either b new n) seat me.1 w
            (takes 0 (occupied f.value)))) (sym (eq-eqb n old hit))
            (turned s g seat v w me.1 f new at live (same_took v g.history n) refl refl refl
            (up ∙ ap (λ k. k + 1) (sym hit))),
        record {
          taken = λ _. record {
            value = f.value;
            slot = refl;
            view = refl;
            grew = grew s g seat v at live;
            even = word_is s.words (2 * length g.history) f.word;
            it_stands = f.it_stands;
            own = owns s g seat v at live;
          };
          missed = λ miss. absurd (miss hit);
          alone = alone;
        },
      ))
      (λ miss.
      let w : View = looked v g.history n in (
        w,
        keeps,
        tt,
        subst (λ b. Rule (stepped s 0 (either b new n) seat me.1 w keeps))
            (sym (ne_eqb n old miss))
            (glanced s g seat v w me.1 at live (same_looked v g.history n) refl refl refl),
        record {
          taken = λ hit. absurd (miss hit);
          missed = λ _. (refl, has_looked s g seat v at live);
          alone = alone;
        },
      ))

  -- The addition and the subtraction.

  leave_with_goes : (slots seat : ℕ) (v : View) (e : Entry) (x : V) → v.is_spent ≡ false
      → v.has_turn ≡ true → e.caller ≡ v.caller → stands x 0 (v.seen ++ e ∷ [])
      → length v.seen + 1 < 2 ^ 63
      → Allows Rule slots seat (v, (0, occupied x) ∷ []) 0 (λ n. (n + 1) % 2 ^ 64)
      (LeaveWithTells e (step slots 0 1 0 none) (v, (0, occupied x) ∷ []))
  leave_with_goes slots seat v e x live has its it room s g wide at small =
      let h = taken_if s g seat v at has in
      let all : v.seen ≡ g.history =
      holder_saw_all stands g.history s.words s.homes s.views seat v h at has in
      let longer : List Entry = g.history ++ e ∷ [] in
      let w : View = left_with e v in
      let own : entries_by v.caller (v.seen ++ e ∷ []) ≡ v.mine ++ e ∷ [] =
      entries_by-append v.caller v.seen (e ∷ [])
      ∙ (λ i. (ap (λ l. entries_by v.caller l) all ∙ owns s g seat v at live) i
      ++ (by_one v.caller e its).own i) in
      let it' : stands x 0 longer = subst (λ l. stands x 0 (l ++ e ∷ [])) all it in
      let n : ℕ = slice_index s.words 0 in
      let short : length g.history + 1 < 2 ^ 63 =
      subst (λ (l : List Entry). length l + 1 < 2 ^ 63) all room in
      let is : n ≡ 2 * length g.history + 1 =
      word_is s.words (2 * length g.history + 1) h.word in
      let long : length longer ≡ length g.history + 1 = length-append g.history (e ∷ []) in
      let word : (n + 1) % 2 ^ 64 ≡ 2 * length longer = omega arith in (
        w,
        gives,
        tt,
        record {
          history = longer;
          made = g.made;
          out = g.out;
          joined = g.joined;
          roster = roster_moved g.history (e ∷ []) g.made g.out g.joined s.views seat v w g.roster
              at live (same_left_with e v) (by_one v.caller e its)
              (ap (λ (l : List Entry). l ++ e ∷ []) all) refl;
          turn = inl (taken_left stands g.history s.words s.homes s.views seat v w x longer
              (set s.words 0 ((n + 1) % 2 ^ 64)) (set s.homes 0 (some (occupied x))) h at has refl
              it'
              (subst (λ ws. set ws 0 ((n + 1) % 2 ^ 64) ≡ (n + 1) % 2 ^ 64 ∷ []) (sym h.word) refl
              ∙ ap (λ k. k ∷ []) word)
              (subst (λ hs. set hs 0 (some (occupied x)) ≡ some (occupied x) ∷ []) (sym h.home)
              refl));
        },
        record { slots = refl; view = refl; own = own },
      )

  leave_same_goes : (slots seat : ℕ) (v : View) (x : V) → v.is_spent ≡ false
      → v.has_turn ≡ true → stands x 0 v.seen
      → Allows Rule slots seat (v, (0, occupied x) ∷ []) 0 (λ n. (n + (2 ^ 64 - 1)) % 2 ^ 64)
      (LeaveSameTells (step slots 0 1 0 none) (v, (0, occupied x) ∷ []))
  leave_same_goes slots seat v x live has it s g wide at small =
      let h = taken_if s g seat v at has in
      let all : v.seen ≡ g.history =
      holder_saw_all stands g.history s.words s.homes s.views seat v h at has in
      let w : View = left_same v in
      let it' : stands x 0 g.history = subst (λ l. stands x 0 l) all it in
      let n : ℕ = slice_index s.words 0 in
      let is : n ≡ 2 * length g.history + 1 =
      word_is s.words (2 * length g.history + 1) h.word in
      let word : (n + (2 ^ 64 - 1)) % 2 ^ 64 ≡ 2 * length g.history = omega arith in (
        w,
        gives,
        tt,
        record {
          history = g.history;
          made = g.made;
          out = g.out;
          joined = g.joined;
          roster = roster_saw g.history g.made g.out g.joined s.views seat v w g.roster at live
              (same_left v) all refl;
          turn = inl (taken_left stands g.history s.words s.homes s.views seat v w x g.history
              (set s.words 0 ((n + (2 ^ 64 - 1)) % 2 ^ 64)) (set s.homes 0 (some (occupied x))) h at
              has refl it'
              (subst (λ ws. set ws 0 ((n + (2 ^ 64 - 1)) % 2 ^ 64)
              ≡ (n + (2 ^ 64 - 1)) % 2 ^ 64 ∷ []) (sym h.word) refl ∙ ap (λ k. k ∷ []) word)
              (subst (λ hs. set hs 0 (some (occupied x)) ≡ some (occupied x) ∷ []) (sym h.home)
              refl));
        },
        record { slots = refl; view = refl },
      )

  -- The same for a pass whose slots are known by an equation.

  pub leave_with_goes_at : (slots seat : ℕ) (me : Me (Home V) View) (e : Entry) (x : V)
      → me.1 ≡ (0, occupied x) ∷ [] → me.0.is_spent ≡ false → me.0.has_turn ≡ true
      → e.caller ≡ me.0.caller → stands x 0 (me.0.seen ++ e ∷ []) → length me.0.seen + 1 < 2 ^ 63
      → Allows Rule slots seat me 0 (λ n. (n + 1) % 2 ^ 64)
      (LeaveWithTells e (step slots 0 1 0 none) me)
  leave_with_goes_at slots seat me e x out live has its it room =
      subst (λ (c : List (ℕ × Home V)). Allows Rule slots seat (me.0, c) 0
      (λ n. (n + 1) % 2 ^ 64) (LeaveWithTells e (step slots 0 1 0 none) (me.0, c)))
      (sym out) (leave_with_goes slots seat me.0 e x live has its it room)

  pub leave_same_goes_at : (slots seat : ℕ) (me : Me (Home V) View) (v : View) (x : V)
      → me ≡ (v, (0, occupied x) ∷ []) → v.is_spent ≡ false → v.has_turn ≡ true
      → stands x 0 v.seen
      → Allows Rule slots seat me 0 (λ n. (n + (2 ^ 64 - 1)) % 2 ^ 64)
      (LeaveSameTells (step slots 0 1 0 none) me)
  leave_same_goes_at slots seat me v x is live has it =
      subst (λ (m : Me (Home V) View). Allows Rule slots seat m 0
      (λ n. (n + (2 ^ 64 - 1)) % 2 ^ 64) (LeaveSameTells (step slots 0 1 0 none) m))
      (sym is) (leave_same_goes slots seat v x live has it)

-- the slot that was taken last, and what is behind it
pub top : {S : Type 0} (xs : List (ℕ × S)) (a : ℕ × S) (ys : List (ℕ × S)) → xs ≡ a ∷ ys
    → xs ≡ a ∷ rest xs
top xs a ys e = e ∙ ap (λ zs. a ∷ rest zs) (sym e)
