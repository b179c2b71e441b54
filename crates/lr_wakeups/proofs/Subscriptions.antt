-- Whether a connection has a channel, after an order was executed.
use Rattle.std.proofs.Common.{◌≡◌, List, [], ◌∷◌, ◌++◌, Bool, true, false, not, ◌||◌, refl, ap, sym, ◌∙◌, if◌then◌else◌, filter, cond}
use Rattle.std.specs.List.{list_any}
use Rattle.std.proofs.lemmas.List.Folds.{list_any-append}
use Rattle.lr_names.specs.Channel.{ChannelOf}
use Rattle.lr_model.specs.Board.{same_channel, Connection, has_channel, connection_after_subscribe, connection_after_unsubscribe}
use Rattle.lr_model.proofs.SameChannel.{same_is, same_self}

or_false : (b : Bool) → (b || (false || false)) ≡ b
or_false true = refl
or_false false = refl

or_true : (b : Bool) → (b || (true || false)) ≡ true
or_true true = refl
or_true false = refl

module _ (channel : ChannelOf) (connection : Connection) where
  -- the channels with it, where it may be there already
  abbrev channels_after : Bool → List ChannelOf
  channels_after has = if has then connection.channels else connection.channels ++ channel ∷ []

  pub has_after_subscribe : has_channel channel (connection_after_subscribe channel connection) ≡ true
  has_after_subscribe = by (has_channel channel connection) refl
    where
      by : (has : Bool) → has_channel channel connection ≡ has
          → list_any (same_channel channel) (channels_after has) ≡ true
      by true e = e
      by false e =
          list_any-append (same_channel channel) connection.channels (channel ∷ [])
          ∙ ap (λ b. list_any (same_channel channel) connection.channels || (b || false))
          (same_self channel)
          ∙ or_true (list_any (same_channel channel) connection.channels)

pub has_elsewhere_after_subscribe : (q channel : ChannelOf) (connection : Connection)
    → same_channel q channel ≡ false
    → has_channel q (connection_after_subscribe channel connection) ≡ has_channel q connection
has_elsewhere_after_subscribe q channel connection other = by (has_channel channel connection)
  where
    by : (has : Bool)
        → list_any (same_channel q) (channels_after channel connection has)
        ≡ list_any (same_channel q) connection.channels
    by true = refl
    by false =
        list_any-append (same_channel q) connection.channels (channel ∷ [])
        ∙ ap (λ b. list_any (same_channel q) connection.channels || (b || false)) other
        ∙ or_false (list_any (same_channel q) connection.channels)

-- those that are left
abbrev others : ChannelOf → List ChannelOf → List ChannelOf
others channel channels = filter (λ other. not (same_channel channel other)) channels

none_left : (channel : ChannelOf) (channels : List ChannelOf)
    → list_any (same_channel channel) (others channel channels) ≡ false
none_left channel [] = refl
none_left channel (c ∷ cs) = by (same_channel channel c) refl (none_left channel cs)
  where
    by : (same : Bool) → same_channel channel c ≡ same
        → list_any (same_channel channel) (others channel cs) ≡ false
        → list_any (same_channel channel) (cond (not same) (c ∷ others channel cs) (others channel cs))
        ≡ false
    by true e rest = rest
    by false e rest =
        ap (λ b. b || list_any (same_channel channel) (others channel cs)) e ∙ rest

others_left : (q channel : ChannelOf) (channels : List ChannelOf) → same_channel q channel ≡ false
    → list_any (same_channel q) (others channel channels) ≡ list_any (same_channel q) channels
others_left q channel [] other = refl
others_left q channel (c ∷ cs) other =
    by (same_channel channel c) refl (others_left q channel cs other)
  where
    by : (same : Bool) → same_channel channel c ≡ same
        → list_any (same_channel q) (others channel cs) ≡ list_any (same_channel q) cs
        → list_any (same_channel q) (cond (not same) (c ∷ others channel cs) (others channel cs))
        ≡ (same_channel q c || list_any (same_channel q) cs)
    by true e rest =
        rest
        ∙ ap (λ b. b || list_any (same_channel q) cs)
        (sym (ap (same_channel q) (sym (same_is channel c e)) ∙ other))
    by false e rest = ap (λ b. same_channel q c || b) rest

pub has_after_unsubscribe : (channel : ChannelOf) (connection : Connection)
    → has_channel channel (connection_after_unsubscribe channel connection) ≡ false
has_after_unsubscribe channel connection = none_left channel connection.channels

pub has_elsewhere_after_unsubscribe : (q channel : ChannelOf) (connection : Connection)
    → same_channel q channel ≡ false
    → has_channel q (connection_after_unsubscribe channel connection) ≡ has_channel q connection
has_elsewhere_after_unsubscribe q channel connection other =
    others_left q channel connection.channels other
