-- What calls put into the value of a key and take from it, for all kinds alike (this project's own).
use Rattle.std.specs.Prelude.{ℕ, List, [], ◌∷◌, Option}
use Rattle.lr_keys.specs.declared.addition.Addition.{Addition}
use Rattle.lr_keys.specs.declared.addition.Addition.TheVariants.{Field, Item, Member, Number as NewNumber}
use Rattle.lr_keys.specs.declared.value_kind.ValueKind.{ValueKind}
use Rattle.lr_keys.specs.declared.value_kind.ValueKind.TheVariants.{Hash, List as ListKind, Zset, Counter}
use Rattle.lr_keys.specs.Content.{Content, Fields, Items, Members, Number, content_with_field, content_with_item, content_with_member, content_without_field, content_without_item, content_without_member}
use Rattle.lr_keys.specs.KeySpace.{KeyEntry, entry_changed, entry_reduced}

-- the kind of value that takes it
abbrev pub kind_added : Addition → ValueKind
kind_added (Field _ _) = Hash
kind_added (Item _) = ListKind
kind_added (Member _ _) = Zset
kind_added (NewNumber _) = Counter

-- the member, which for a counter is empty
abbrev pub member_added : Addition → List ℕ
member_added (Field field _) = field
member_added (Item item) = item
member_added (Member member _) = member
member_added (NewNumber _) = []

-- the value that a new key gets
abbrev pub content_made : Addition → Content
content_made (Field field number) = Fields ((field, number) ∷ [])
content_made (Item item) = Items (item ∷ [])
content_made (Member member score) = Members ((member, score) ∷ [])
content_made (NewNumber number) = Number number

-- what the value of a key becomes
abbrev pub content_with : Addition → Content → Content
content_with (Field field number) = content_with_field field number
content_with (Item item) = content_with_item item
content_with (Member member score) = content_with_member member score
content_with (NewNumber number) = λ _. Number number

-- the entry with what is added
abbrev pub entry_with : Addition → Option KeyEntry → KeyEntry
entry_with addition = entry_changed (content_made addition) (content_with addition)

-- the value without this member of this kind
abbrev pub content_without : ValueKind → List ℕ → Content → Content
content_without Hash field = content_without_field field
content_without ListKind item = content_without_item item
content_without Zset member = content_without_member member
content_without Counter _ = λ content. content

-- the entry without this member of this kind
abbrev pub entry_without : ValueKind → List ℕ → Option KeyEntry → Option KeyEntry
entry_without kind member = entry_reduced (content_without kind member)
