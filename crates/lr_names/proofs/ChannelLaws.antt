-- Texts of channels are one to one: a name has no colon, so each part is found again.
use Rattle.std.proofs.Common.{◌≡◌, ℕ, List, ◌∷◌, ◌++◌, drop, Option, None, Some, is_some, true, true≢false, IsTrue, codes, refl, sym, ap, ◌∙◌, append_assoc, append-nil}
use Rattle.std.specs.Option.{ForSome}
use Rattle.lr_text.specs.Words.{lacks}
use Rattle.lr_text.proofs.WordLaws.{cut-injective}
use Rattle.lr_names.specs.Name.{IsName}
use Rattle.lr_names.specs.Owner.{ThreadOfClient, IsOwner, owner_text}
use Rattle.lr_names.specs.Channel.{ChannelOf, IsChannel, is_fair, kind_word, owner_part, channel_text}
use Rattle.lr_names.specs.declared.kind.Kind.{Kind}
use Rattle.lr_names.specs.declared.kind.Kind.TheVariants.{Fair}
use Rattle.lr_names.proofs.NameLaws.{name-lacks}
use Rattle.lr_names.proofs.KindLaws.{kind_word-lacks, kind_word-injective}
use Rattle.lr_names.proofs.OwnerLaws.{owner_text-injective}

-- behind the tag of a channel stand the word of its kind, a colon and the rest
pub channel_text-cut : (channel : ChannelOf) (word object : List ℕ) → IsTrue (lacks 58 word)
    → codes "ch:" ++ (word ++ 58 ∷ object) ≡ channel_text channel
    → (word ≡ kind_word channel.kind) × (object ≡ channel.name ++ owner_part channel.owner)
channel_text-cut channel word object in_word same =
    let kind = kind_word channel.kind in
    let whole = ap (drop 3) same ∙ append_assoc kind (58 ∷ channel.name) (owner_part channel.owner) in
    cut-injective 58 word kind object (channel.name ++ owner_part channel.owner) in_word (kind_word-lacks channel.kind) whole

some_of : (o : Option ThreadOfClient) → is_some o ≡ true → (x : ThreadOfClient) × (o ≡ Some x)
some_of None h = absurd (true≢false (sym h))
some_of (Some x) h = (x, refl)

-- and for a fair lock the rest is the name, a colon and the owner
pub fair-cut : (channel : ChannelOf) (name owner : List ℕ) → IsChannel channel → channel.kind ≡ Fair → IsTrue (lacks 58 name)
    → name ++ 58 ∷ owner ≡ channel.name ++ owner_part channel.owner
    → (name ≡ channel.name) × ((o : ThreadOfClient) × IsOwner o × (owner ≡ owner_text o))
fair-cut channel name owner h fair in_name same =
    let found = some_of channel.owner (h.fair ∙ ap is_fair fair) in
    let parts = cut-injective 58 name channel.name owner (owner_text found.0) in_name (name-lacks 58 channel.name refl h.name) (same ∙ ap (λ o. channel.name ++ owner_part o) found.1) in
    (parts.0, (found.0, h.owner found.0 found.1, parts.1))

objects : (m n : List ℕ) (o p : Option ThreadOfClient) → IsName m → IsName n → ForSome o IsOwner → ForSome p IsOwner → is_some o ≡ is_some p
    → m ++ owner_part o ≡ n ++ owner_part p → (m ≡ n) × (o ≡ p)
objects m n None None in_m in_n known_o known_p alike same = (sym (append-nil m) ∙ same ∙ append-nil n, refl)
objects m n None (Some y) in_m in_n known_o known_p alike same = absurd (true≢false (sym alike))
objects m n (Some x) None in_m in_n known_o known_p alike same = absurd (true≢false alike)
objects m n (Some x) (Some y) in_m in_n known_o known_p alike same =
    let parts = cut-injective 58 m n (owner_text x) (owner_text y) (name-lacks 58 m refl in_m) (name-lacks 58 n refl in_n) same in
    (parts.0, ap Some (owner_text-injective x y (known_o x refl) (known_p y refl) parts.1))

-- two channels with one text are one
pub channel_text-injective : (a b : ChannelOf) → IsChannel a → IsChannel b → channel_text a ≡ channel_text b → a ≡ b
channel_text-injective a b in_a in_b same =
    let open_a = append_assoc (kind_word a.kind) (58 ∷ a.name) (owner_part a.owner) in
    let cut = channel_text-cut b (kind_word a.kind) (a.name ++ owner_part a.owner) (kind_word-lacks a.kind) (ap (λ (l : List ℕ). codes "ch:" ++ l) (sym open_a) ∙ same) in
    let kind = kind_word-injective a.kind b.kind cut.0 in
    let rest = objects a.name b.name a.owner b.owner in_a.name in_b.name in_a.owner in_b.owner (in_a.fair ∙ ap is_fair kind ∙ sym in_b.fair) cut.1 in
    ap (λ (k : Kind). record { kind = k; name = a.name; owner = a.owner }) kind
    ∙ ap (λ (n : List ℕ). record { kind = b.kind; name = n; owner = a.owner }) rest.0
    ∙ ap (λ (o : Option ThreadOfClient). record { kind = b.kind; name = b.name; owner = o }) rest.1
