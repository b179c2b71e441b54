-- Lists of channels in the arguments of SUBSCRIBE and UNSUBSCRIBE.
use Rattle.std.specs.Prelude.{◌≡◌, ℕ, List, map}
use Rattle.std.specs.List.{AllByRecursion}
use Rattle.lr_names.specs.Channel.{ChannelOf, IsChannel, channel_text}

-- these words are the texts of these channels, in order
abbrev pub AreTextsOf : List ChannelOf → List (List ℕ) → Type 0
AreTextsOf channels words =
    (words ≡ map channel_text channels) × AllByRecursion IsChannel channels

-- each of these words is the text of a channel
abbrev pub IsChannelText : List ℕ → Type 0
IsChannelText word = (channel : ChannelOf) × IsChannel channel × (word ≡ channel_text channel)

abbrev pub AreChannelTexts : List (List ℕ) → Type 0
AreChannelTexts words = AllByRecursion IsChannelText words
