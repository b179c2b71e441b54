-- What a table of subscribers lists.
use Rattle.std.proofs.Common.{◌≡◌, ℕ, Bool, true, false, cond, List, [], ◌∷◌, Option, Some, None, if◌then◌else◌, refl, ap, sym, ◌∙◌}
use Rattle.std.specs.Map.{lookup}
use Rattle.lr_names.specs.Channel.{ChannelOf}
use Rattle.lr_names.specs.contracts.channel.ChannelPartialEq.TheImpl.{ghosts}
use Rattle.lr_model.specs.Board.{same_channel}
use Rattle.lr_pubsub.specs.declared.connection_set.ConnectionSet.{ConnectionSet}
use Rattle.lr_pubsub.specs.ConnectionSet.{has_number}
use Rattle.lr_pubsub.specs.Subscribers.{listeners}
use Rattle.lr_model.proofs.SameChannel.{derived_same, same_is, same_symm}

-- the numbers in a set that a look-up found
abbrev pub found : Option ConnectionSet → ℕ → Bool
found (Some numbers) = has_number numbers
found None = λ _. false

pub listeners_get : (channel : ChannelOf) (rows : List (ChannelOf × ConnectionSet))
    → listeners channel rows ≡ found (lookup (ghosts.eq channel) rows)
listeners_get channel [] = refl
listeners_get channel (row ∷ rows) =
    ap (λ b. if b then has_number row.1 else listeners channel rows)
    (sym (derived_same channel row.0))
    ∙ by (ghosts.eq channel row.0) (listeners_get channel rows)
  where
    by : (b : Bool) → listeners channel rows ≡ found (lookup (ghosts.eq channel) rows)
        → (if b then has_number row.1 else listeners channel rows)
        ≡ found (cond b (Some row.1) (lookup (ghosts.eq channel) rows))
    by true rest = refl
    by false rest = rest

-- what is listed after a change at one channel
pub listeners_set : (key : ChannelOf) (value : Option ConnectionSet)
    (old new : List (ChannelOf × ConnectionSet))
    → ((q : ChannelOf) → lookup (ghosts.eq q) new
    ≡ cond (ghosts.eq key q) value (lookup (ghosts.eq q) old))
    → (q : ChannelOf) → listeners q new
    ≡ (if same_channel q key then found value else listeners q old)
listeners_set key value old new sets q =
    listeners_get q new ∙ ap found (sets q) ∙ by (ghosts.eq key q)
    ∙ ap (λ b. if b then found value else listeners q old) (derived_same key q ∙ same_symm key q)
  where
    by : (b : Bool) → found (cond b value (lookup (ghosts.eq q) old))
        ≡ (if b then found value else listeners q old)
    by true = refl
    by false = sym (listeners_get q old)

-- a change of what is listed for one channel
abbrev pub changed : ((ℕ → Bool) → ℕ → Bool) → ChannelOf → List (ChannelOf × ConnectionSet)
    → ChannelOf → ℕ → Bool
changed change key old q = if same_channel q key then change (listeners q old) else listeners q old

pub listeners_change : (change : (ℕ → Bool) → ℕ → Bool) (key : ChannelOf)
    (value : Option ConnectionSet)
    → (old new : List (ChannelOf × ConnectionSet))
    → ((q : ChannelOf) → lookup (ghosts.eq q) new
    ≡ cond (ghosts.eq key q) value (lookup (ghosts.eq q) old))
    → found value ≡ change (listeners key old)
    → (q : ChannelOf) → listeners q new ≡ changed change key old q
listeners_change change key value old new sets is q = listeners_set key value old new sets q
    ∙ by (same_channel q key) refl
  where
    by : (b : Bool) → same_channel q key ≡ b
        → (if b then found value else listeners q old)
        ≡ (if b then change (listeners q old) else listeners q old)
    by true e = is ∙ ap (λ c. change (listeners c old)) (sym (same_is q key e))
    by false e = refl

-- a change that leaves what is listed for the channel
pub listeners_keep : (change : (ℕ → Bool) → ℕ → Bool) (key : ChannelOf)
    (old : List (ChannelOf × ConnectionSet))
    → listeners key old ≡ change (listeners key old) → (q : ChannelOf) → listeners q old
    ≡ changed change key old q
listeners_keep change key old keeps q = by (same_channel q key) refl
  where
    by : (b : Bool) → same_channel q key ≡ b
        → listeners q old ≡ (if b then change (listeners q old) else listeners q old)
    by true e =
        ap (λ c. listeners c old) (same_is q key e) ∙ keeps
        ∙ ap (λ c. change (listeners c old)) (sym (same_is q key e))
    by false e = refl

-- the last of two changes stands
pub put_put : (key : ChannelOf) (first last : Option ConnectionSet)
    (old middle new : List (ChannelOf × ConnectionSet))
    → ((q : ChannelOf) → lookup (ghosts.eq q) middle
    ≡ cond (ghosts.eq key q) first (lookup (ghosts.eq q) old))
    → ((q : ChannelOf) → lookup (ghosts.eq q) new
    ≡ cond (ghosts.eq key q) last (lookup (ghosts.eq q) middle))
    → (q : ChannelOf) → lookup (ghosts.eq q) new
    ≡ cond (ghosts.eq key q) last (lookup (ghosts.eq q) old)
put_put key first last old middle new one two q = two q ∙ ap (cond (ghosts.eq key q) last) (one q)
    ∙ by (ghosts.eq key q)
  where
    by : (b : Bool) → cond b last (cond b first (lookup (ghosts.eq q) old))
        ≡ cond b last (lookup (ghosts.eq q) old)
    by true = refl
    by false = refl

-- a change of a channel that nobody has had
pub changed-nobody : (change : (ℕ → Bool) → ℕ → Bool) (key : ChannelOf)
    (old : List (ChannelOf × ConnectionSet))
    → listeners key old ≡ (λ _. false)
    → (q : ChannelOf) → (if same_channel q key then change (λ _. false) else listeners q old)
    ≡ changed change key old q
changed-nobody change key old nobody q = by (same_channel q key) refl
  where
    by : (b : Bool) → same_channel q key ≡ b
        → (if b then change (λ _. false) else listeners q old)
        ≡ (if b then change (listeners q old) else listeners q old)
    by true e = ap change (sym nobody) ∙ ap (λ c. change (listeners c old)) (sym (same_is q key e))
    by false e = refl
