-- Each step keeps what the rule says of the word, the value and the turn.
use Rattle.std.proofs.Common.{◌≡◌, ◌≢◌, ℕ, ◌+◌, ◌*◌, ◌<◌, Bool, true, false, List, [], ◌∷◌, ◌++◌, length, set, refl, sym, ap, ◌∙◌, ⊎_elim}
use Rattle.std.proofs.lemmas.Bool.{true≢false}
use mathlib.Core.Logic.{dite}
use mathlib.Core.Option as maybe
use mathlib.Core.Option.{some, none, some-injective}
use native.Mathlib.Decide.{ℕ_discrete}
use lib.ListN.{get_elem?}
use Rattle.atomic_table.proofs.Lists.{at_set, set_else, at_longer}
use Rattle.lr_model.specs.declared.entry.Entry.{Entry}
use Rattle.lr_turnstile.specs.declared.home.Home.{Home}
use Rattle.lr_turnstile.specs.declared.view.View.{View}
use Rattle.lr_turnstile.specs.Rule.{IsFreeGate, IsTakenGate, occupied}
use Rattle.lr_turnstile.proofs.Lists.{at_end, at_here}

-- The same gate, where its word and its place are known by equations.
module _ {V : Type 0} (stands : V → ℕ → List Entry → Type 0) (history : List Entry)
    (words words' : List ℕ) (homes homes' : List (maybe.Option (Home V))) (views : List View) where
  pub free_again : (f : IsFreeGate stands history words homes views)
      → words' ≡ 2 * length history ∷ [] → homes' ≡ some (occupied f.value) ∷ []
      → IsFreeGate stands history words' homes' views
  free_again f word home = record {
    word = word;
    value = f.value;
    home = home;
    it_stands = f.it_stands;
    nobody = f.nobody;
  }

  pub taken_again : IsTakenGate stands history words homes views
      → words' ≡ (2 * length history + 1) ∷ [] → homes' ≡ none ∷ []
      → IsTakenGate stands history words' homes' views
  taken_again h word home = record {
    word = word;
    home = home;
    holder = h.holder;
    its_view = h.its_view;
    sits = h.sits;
    has_it = h.has_it;
    alive = h.alive;
    saw_all = h.saw_all;
    alone = h.alone;
  }

module _ {V : Type 0} (stands : V → ℕ → List Entry → Type 0) (history : List Entry)
    (words : List ℕ) (homes : List (maybe.Option (Home V))) (views : List View) where
  abbrev IsFree : List View → Type 0
  IsFree vs = IsFreeGate stands history words homes vs

  abbrev IsTaken : List View → Type 0
  IsTaken vs = IsTakenGate stands history words homes vs

  -- A view changes, and who has the turn does not.

  pub free_stays : (seat : ℕ) (v w : View) → IsFree views → get_elem? views seat ≡ some v
      → w.has_turn ≡ v.has_turn → IsFree (set views seat w)
  free_stays seat v w f at same = record {
    word = f.word;
    value = f.value;
    home = f.home;
    it_stands = f.it_stands;
    nobody = λ j u e. ⊎_elim
        (λ (t : (j ≡ seat) × (w ≡ u)).
        ap (λ z. z.has_turn) (sym t.1) ∙ (same ∙ f.nobody seat v at))
        (λ (t : (j ≢ seat) × (get_elem? views j ≡ some u)). f.nobody j u t.1)
        (at_set views seat j w u e);
  }

  pub taken_stays : (seat : ℕ) (v w : View) → IsTaken views → get_elem? views seat ≡ some v
      → w.has_turn ≡ v.has_turn → w.is_spent ≡ v.is_spent
      → (v.seen ≡ history → w.seen ≡ history) → IsTaken (set views seat w)
  taken_stays seat v w h at turn spent saw = dite (ℕ_discrete h.holder seat)
      (λ here.
      let its : h.its_view ≡ v = some-injective h.its_view v
      (sym h.sits ∙ ((λ i. get_elem? views (here i)) ∙ at)) in record {
        word = h.word;
        home = h.home;
        holder = seat;
        its_view = w;
        sits = at_here views seat v w at;
        has_it = turn ∙ (ap (λ z. z.has_turn) (sym its) ∙ h.has_it);
        alive = spent ∙ (ap (λ z. z.is_spent) (sym its) ∙ h.alive);
        saw_all = saw (ap (λ z. z.seen) (sym its) ∙ h.saw_all);
        alone = λ j u e has. ⊎_elim
            (λ (t : (j ≡ seat) × (w ≡ u)). t.0)
            (λ (t : (j ≢ seat) × (get_elem? views j ≡ some u)).
            h.alone j u t.1 has ∙ here)
            (at_set views seat j w u e);
      })
      (λ away. record {
        word = h.word;
        home = h.home;
        holder = h.holder;
        its_view = h.its_view;
        sits = set_else views seat h.holder w away ∙ h.sits;
        has_it = h.has_it;
        alive = h.alive;
        saw_all = h.saw_all;
        alone = λ j u e has. ⊎_elim
            (λ (t : (j ≡ seat) × (w ≡ u)).
            t.0 ∙ h.alone seat v at (sym turn ∙ (ap (λ z. z.has_turn) t.1 ∙ has)))
            (λ (t : (j ≢ seat) × (get_elem? views j ≡ some u)). h.alone j u t.1 has)
            (at_set views seat j w u e);
      })

  -- A pass takes the turn.

  pub free_taken : (seat : ℕ) (v w : View) → IsFree views → get_elem? views seat ≡ some v
      → w.has_turn ≡ true → w.is_spent ≡ false → w.seen ≡ history
      → IsTakenGate stands history ((2 * length history + 1) ∷ []) (none ∷ []) (set views seat w)
  free_taken seat v w f at has live saw = record {
    word = refl;
    home = refl;
    holder = seat;
    its_view = w;
    sits = at_here views seat v w at;
    has_it = has;
    alive = live;
    saw_all = saw;
    alone = λ j u e it. ⊎_elim
        (λ (t : (j ≡ seat) × (w ≡ u)). t.0)
        (λ (t : (j ≢ seat) × (get_elem? views j ≡ some u)).
        absurd (true≢false (sym it ∙ f.nobody j u t.1)))
        (at_set views seat j w u e);
  }

  -- It gives the turn up.

  -- who has the turn has seen all
  pub holder_saw_all : (seat : ℕ) (v : View) → IsTaken views → get_elem? views seat ≡ some v
      → v.has_turn ≡ true → v.seen ≡ history
  holder_saw_all seat v h at has =
      let here = h.alone seat v at has in
      ap (λ z. z.seen) (some-injective v h.its_view
      (sym at ∙ ((λ i. get_elem? views (here i)) ∙ h.sits))) ∙ h.saw_all

  pub taken_left : (seat : ℕ) (v w : View) (value : V) (now : List Entry) (words' : List ℕ)
      (homes' : List (maybe.Option (Home V))) → IsTaken views
      → get_elem? views seat ≡ some v → v.has_turn ≡ true → w.has_turn ≡ false
      → stands value 0 now → words' ≡ 2 * length now ∷ [] → homes' ≡ some (occupied value) ∷ []
      → IsFreeGate stands now words' homes' (set views seat w)
  taken_left seat v w value now words' homes' h at had has it word home = record {
    word = word;
    value = value;
    home = home;
    it_stands = it;
    nobody = λ j u e. ⊎_elim
        (λ (t : (j ≡ seat) × (w ≡ u)). ap (λ z. z.has_turn) (sym t.1) ∙ has)
        (λ (t : (j ≢ seat) × (get_elem? views j ≡ some u)).
        off u.has_turn (λ on. t.0 (h.alone j u t.1 on ∙ sym (h.alone seat v at had))))
        (at_set views seat j w u e);
  }
    where
      off : (b : Bool) → (b ≡ true → ⊥) → b ≡ false
      off true n = absurd (n refl)
      off false n = refl

  -- A pass is added that doesn't have the turn.

  pub free_more : (u : View) → IsFree views → u.has_turn ≡ false → IsFree (views ++ u ∷ [])
  free_more u f has = record {
    word = f.word;
    value = f.value;
    home = f.home;
    it_stands = f.it_stands;
    nobody = λ j x e. ⊎_elim
        (λ (t : (j < length views) × (get_elem? views j ≡ some x)). f.nobody j x t.1)
        (λ (t : (j ≡ length views) × (u ≡ x)). ap (λ z. z.has_turn) (sym t.1) ∙ has)
        (at_end views u x j e);
  }

  pub taken_more : (u : View) → IsTaken views → u.has_turn ≡ false → IsTaken (views ++ u ∷ [])
  taken_more u h has = record {
    word = h.word;
    home = h.home;
    holder = h.holder;
    its_view = h.its_view;
    sits = at_longer views (u ∷ []) h.holder h.its_view h.sits;
    has_it = h.has_it;
    alive = h.alive;
    saw_all = h.saw_all;
    alone = λ j x e it. ⊎_elim
        (λ (t : (j < length views) × (get_elem? views j ≡ some x)). h.alone j x t.1 it)
        (λ (t : (j ≡ length views) × (u ≡ x)).
        absurd (true≢false (sym it ∙ (ap (λ z. z.has_turn) (sym t.1) ∙ has))))
        (at_end views u x j e);
  }
