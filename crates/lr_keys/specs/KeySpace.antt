-- Keys with a value and an expiry or none, and what each call does to them, as the Redis command
-- pages say.
pub use Rattle.lr_keys.specs.Content.{Content, Fields, Items, Members, Number, kind_in, hash_in, list_in, zset_in, counter_in, member_count, is_empty, content_with_field, content_with_item, content_with_member, content_without_field, content_without_item, content_without_member}
use Rattle.std.specs.Prelude.{◌≡◌, ◌+◌, ◌-◌, ◌≤◌, ◌<◌, ℕ, Bool, true, false, nat_lt, ◌&&◌, List, [], ◌∷◌, length, Option, Some, None, is_some, Result, Ok, Err, IsOk, ℤ, pos, negsuc, if◌then◌else◌}
use Rattle.std.specs.Option.{ok_or, option_and_then, ForSome}
use Rattle.std.specs.Str.{bytes_eq}
use Rattle.std.specs.List.{list_any}
use Rattle.std.specs.Map.{lookup}
use Rattle.lr_limits.specs.Limits.{member_limit, last_moment, longest_lease}
use Rattle.lr_lists.specs.Items.{times}
use Rattle.lr_sorted.specs.Members.{Members as Scores, score_of}
use Rattle.lr_keys.specs.declared.fault.KeyFault.{KeyFault}
use Rattle.lr_keys.specs.declared.fault.KeyFault.TheVariants.{Overflow, TooMany, NoMemory}
use Rattle.lr_keys.specs.declared.value_kind.ValueKind.{ValueKind}
use Rattle.lr_keys.specs.declared.value_kind.ValueKind.TheVariants.{Hash, List as ListKind, Zset, Counter}
use Rattle.lr_keys.specs.FieldMap.{Pairs, field_value, sum_of}
use Rattle.lr_keys.specs.Table.{with_key, without_key_if}

-- a key's value, and the moment from which on the key is gone, if any
pub record KeyEntry : Type 0 where
  pub value : Content
  pub expiry : Option ℕ

-- the kind and the member that memory was taken for
pub record Plan : Type 0 where
  pub kind : ValueKind
  pub member : List ℕ

-- a key space: the moment, the keys, and the keys for which memory was taken
pub record Keys : Type 0 where
  pub moment : ℕ
  pub entries : List (List ℕ × KeyEntry)
  pub plans : List (List ℕ × Plan)

-- what is at a key
unfoldable pub entry_at : Keys → List ℕ → Option KeyEntry
entry_at keys key = lookup (bytes_eq key) keys.entries

-- the expiry of a key, if it is there and has one (Redis command page PEXPIRETIME)
abbrev pub expiry_at : Keys → List ℕ → Option ℕ
expiry_at keys key = option_and_then (λ e. e.expiry) (entry_at keys key)

-- what memory was taken for at a key
unfoldable pub plan_at : Keys → List ℕ → Option Plan
plan_at keys key = lookup (bytes_eq key) keys.plans

-- memory was taken for this member of the key, as a key of this kind, and wasn't used yet
abbrev pub IsPrepared : Keys → List ℕ → ValueKind → List ℕ → Type 0
IsPrepared keys key kind member = plan_at keys key ≡ Some (record { kind = kind; member = member })

-- an entry of a key that is there at the moment: its expiry lies ahead, by a lease at most, and it
-- has a member at least, and no more than a key may have
pub record IsLive (moment : ℕ) (entry : KeyEntry) : Type 0 where
  pub ahead : ForSome entry.expiry (λ expiry. moment < expiry)
  pub near : ForSome entry.expiry (λ expiry. expiry ≤ last_moment + longest_lease)
  pub some : 0 < member_count entry.value
  pub few : member_count entry.value ≤ member_limit

-- each key is there at the moment, and the moment is one that a clock shows
pub record AreLive (keys : Keys) : Type 0 where
  pub moment : keys.moment ≤ last_moment
  pub live : (key : List ℕ) → ForSome (entry_at keys key) (IsLive keys.moment)

-- the call answers so, but where it would succeed it may find no memory
abbrev pub Answers : {T U : Type 0} → (T → U) → Result T KeyFault → Result U KeyFault → Type 0
Answers show (Ok v) answer = answer ≡ Ok (show v)
Answers show (Err NoMemory) answer = IsOk answer
Answers show (Err fault) answer = answer ≡ Err fault

-- the kind of the key's value, if the key is there
abbrev pub kind_at : Option KeyEntry → Option ValueKind
kind_at None = None
kind_at (Some e) = Some (kind_in e.value)

-- the fields of the key's hash: an absent key is an empty hash (Redis command page HGETALL)
abbrev pub hash_at : Option KeyEntry → Result Pairs KeyFault
hash_at None = Ok []
hash_at (Some e) = hash_in e.value

-- the number of the key's counter, if the key is there (Redis command page GET)
abbrev pub counter_at : Option KeyEntry → Result (Option ℤ) KeyFault
counter_at None = Ok None
counter_at (Some e) = counter_in e.value

-- the items of the key's list: an absent key is an empty list (Redis command page LRANGE)
abbrev pub list_at : Option KeyEntry → Result (List (List ℕ)) KeyFault
list_at None = Ok []
list_at (Some e) = list_in e.value

-- the members of the key's sorted set: an absent key is an empty one (Redis command page ZRANGE)
abbrev pub zset_at : Option KeyEntry → Result Scores KeyFault
zset_at None = Ok []
zset_at (Some e) = zset_in e.value

-- how many members the key has
abbrev pub count_at : Option KeyEntry → ℕ
count_at None = 0
count_at (Some e) = member_count e.value

-- what a look sees of a value of the right kind
abbrev pub seen : {T U : Type 0} → (T → U) → Result T KeyFault → Result U KeyFault
seen look (Ok value) = Ok (look value)
seen look (Err fault) = Err fault

-- the number of a field of the key's hash, if the field is there (Redis command page HGET)
abbrev pub field_at : List ℕ → Option KeyEntry → Result (Option ℤ) KeyFault
field_at field entry = seen (field_value field) (hash_at entry)

-- the score of a member of the key's sorted set, if the member is there (Redis command page ZSCORE)
abbrev pub score_at : List ℕ → Option KeyEntry → Result (Option ℕ) KeyFault
score_at member entry = seen (score_of member) (zset_at entry)

-- how many items of the key's list are equal to this one (Redis command page LREM)
abbrev pub times_at : List ℕ → Option KeyEntry → Result ℕ KeyFault
times_at item entry = seen (times item) (list_at entry)

-- whether the number is there
abbrev pub is_there : {T : Type 0} → Result (Option T) KeyFault → Bool
is_there (Ok number) = is_some number
is_there (Err _) = false

-- whether the key is a hash that has the field
abbrev pub has_field : Keys → List ℕ → List ℕ → Bool
has_field keys key field = is_there (field_at field (entry_at keys key))

-- whether the key is a sorted set that has the member
abbrev pub has_member : Keys → List ℕ → List ℕ → Bool
has_member keys key member = is_there (score_at member (entry_at keys key))

-- whether the key is a counter
abbrev pub has_counter : Keys → List ℕ → Bool
has_counter keys key = is_there (counter_at (entry_at keys key))

-- whether the number was there, as a removal says (Redis command pages HDEL and ZREM)
abbrev pub found_in : {T : Type 0} → Result (Option T) KeyFault → Result Bool KeyFault
found_in number = seen is_some number

-- what an increment makes of a number: a number that isn't there counts as 0, and may be refused
-- for want of room (Redis command pages HINCRBY and INCRBY; the limit is this project's own)
abbrev pub number_after_increment : ℤ → Bool → Option ℤ → Result ℤ KeyFault
number_after_increment by has_room (Some number) = ok_or (sum_of number by) Overflow
number_after_increment by has_room None = if has_room then Ok by else Err TooMany

-- what it makes of a field of a hash, which takes as many fields as a key may have members
abbrev pub field_after_increment : List ℕ → ℤ → Result Pairs KeyFault → Result ℤ KeyFault
field_after_increment field by (Ok pairs) =
    number_after_increment by (nat_lt (length pairs) member_limit) (field_value field pairs)
field_after_increment field by (Err fault) = Err fault

-- and of a counter
abbrev pub counter_after_increment : ℤ → Result (Option ℤ) KeyFault → Result ℤ KeyFault
counter_after_increment by (Ok number) = number_after_increment by true number
counter_after_increment by (Err fault) = Err fault

-- how long a list is once an item is put behind its last: it takes as many items as a key may have
-- members (Redis command page RPUSH)
abbrev pub length_after_push : Result (List (List ℕ)) KeyFault → Result ℕ KeyFault
length_after_push (Ok items) =
    if nat_lt (length items) member_limit then Ok (length items + 1) else Err TooMany
length_after_push (Err fault) = Err fault

-- whether a member that gets a score is new: a new one may be refused for want of room
abbrev pub is_new_score : Bool → Option ℕ → Result Bool KeyFault
is_new_score has_room (Some score) = Ok false
is_new_score has_room None = if has_room then Ok true else Err TooMany

-- whether a member of a sorted set is new, which takes as many as a key may have members (Redis
-- command page ZADD)
abbrev pub is_new_member : List ℕ → Result Scores KeyFault → Result Bool KeyFault
is_new_member member (Ok members) =
    is_new_score (nat_lt (length members) member_limit) (score_of member members)
is_new_member member (Err fault) = Err fault

-- the entry after a change: an absent key is made with this value and no expiry, and else the value
-- changes so and the expiry stays
abbrev pub entry_changed : Content → (Content → Content) → Option KeyEntry → KeyEntry
entry_changed made change None = record { value = made; expiry = None }
entry_changed made change (Some e) = record e { value = change e.value }

-- the entry with this number for the field (Redis command page HINCRBY)
abbrev pub entry_with_field : List ℕ → ℤ → Option KeyEntry → KeyEntry
entry_with_field field number =
    entry_changed (Fields ((field, number) ∷ [])) (content_with_field field number)

-- the entry with the item last (Redis command page RPUSH)
abbrev pub entry_with_item : List ℕ → Option KeyEntry → KeyEntry
entry_with_item item = entry_changed (Items (item ∷ [])) (content_with_item item)

-- the entry with this score for the member (Redis command page ZADD)
abbrev pub entry_with_member : List ℕ → ℕ → Option KeyEntry → KeyEntry
entry_with_member member score =
    entry_changed (Members ((member, score) ∷ [])) (content_with_member member score)

-- the entry with this number of the counter (Redis command page INCRBY)
abbrev pub entry_with_number : ℤ → Option KeyEntry → KeyEntry
entry_with_number number = entry_changed (Number number) (λ _. Number number)

-- the entry with this value, which is none where the value has no members
abbrev pub entry_with_value : Content → Option ℕ → Option KeyEntry
entry_with_value value expiry =
    if is_empty value then None else Some (record { value = value; expiry = expiry })

-- the entry after a removal: a key whose last member goes is removed
abbrev pub entry_reduced : (Content → Content) → Option KeyEntry → Option KeyEntry
entry_reduced change None = None
entry_reduced change (Some e) = entry_with_value (change e.value) e.expiry

-- the entry without the field (Redis command page HDEL)
abbrev pub entry_without_field : List ℕ → Option KeyEntry → Option KeyEntry
entry_without_field field = entry_reduced (content_without_field field)

-- the entry without the items that are equal to this one (Redis command page LREM)
abbrev pub entry_without_item : List ℕ → Option KeyEntry → Option KeyEntry
entry_without_item item = entry_reduced (content_without_item item)

-- the entry without the member (Redis command page ZREM)
abbrev pub entry_without_member : List ℕ → Option KeyEntry → Option KeyEntry
entry_without_member member = entry_reduced (content_without_member member)

-- the entry with this expiry (Redis command page PEXPIREAT)
abbrev pub entry_with_expiry : ℕ → Option KeyEntry → Option KeyEntry
entry_with_expiry expiry None = None
entry_with_expiry expiry (Some e) = Some (record e { expiry = Some expiry })

-- at the key stands what the change makes of what stood there, and at the others what stood there
abbrev pub ChangesEntry : Keys → Keys → List ℕ → (Option KeyEntry → Option KeyEntry) → Type 0
ChangesEntry old new key change =
    entry_at new ≡ with_key key (change (entry_at old key)) (entry_at old)

-- the field has this number afterwards, and nothing else of the keys is changed
abbrev pub WritesField : Keys → Keys → List ℕ → List ℕ → ℤ → Type 0
WritesField old new key field number =
    ChangesEntry old new key (λ e. Some (entry_with_field field number e))

-- the item is last in the list afterwards, and nothing else of the keys is changed
abbrev pub WritesItem : Keys → Keys → List ℕ → List ℕ → Type 0
WritesItem old new key item = ChangesEntry old new key (λ e. Some (entry_with_item item e))

-- the member has this score afterwards, and nothing else of the keys is changed
abbrev pub WritesMember : Keys → Keys → List ℕ → List ℕ → ℕ → Type 0
WritesMember old new key member score =
    ChangesEntry old new key (λ e. Some (entry_with_member member score e))

-- the counter has this number afterwards, and nothing else of the keys is changed
abbrev pub WritesNumber : Keys → Keys → List ℕ → ℤ → Type 0
WritesNumber old new key number = ChangesEntry old new key (λ e. Some (entry_with_number number e))

-- the milliseconds from the moment to an expiry, and -1 for none
abbrev pub time_to : ℕ → Option ℕ → ℤ
time_to moment (Some expiry) = pos (expiry - moment)
time_to moment None = negsuc 0

-- the milliseconds left of the key: -2 where it is absent, -1 where it has no expiry (Redis command
-- page PTTL)
abbrev pub time_left : ℕ → Option KeyEntry → ℤ
time_left moment (Some e) = time_to moment e.expiry
time_left moment None = negsuc 1

-- whether a key with this expiry is there at the moment: one whose expiry is at most the moment is
-- gone (Redis command page EXPIRE)
abbrev pub is_ahead : ℕ → Option ℕ → Bool
is_ahead moment (Some expiry) = nat_lt moment expiry
is_ahead moment None = true

-- what is left of a key at the moment
abbrev pub live_entry : ℕ → Option KeyEntry → Option KeyEntry
live_entry moment (Some e) = if is_ahead moment e.expiry then Some e else None
live_entry moment None = None

-- the keys that are there at the moment
abbrev pub live_entries : ℕ → (List ℕ → Option KeyEntry) → List ℕ → Option KeyEntry
live_entries moment entries key = live_entry moment (entries key)

-- of the keys no other than this one changes (this project's own)
abbrev pub ChangesOnly : List ℕ → Keys → Keys → Type 0
ChangesOnly key old new = (q : List ℕ) → bytes_eq key q ≡ false → entry_at new q ≡ entry_at old q

-- The moment and the keys are as they were. What memory is prepared for may be another.
pub record StaysSame (old new : Keys) : Type 0 where
  pub moment : new.moment ≡ old.moment
  pub entries : entry_at new ≡ entry_at old

-- every key that isn't in the list holds what is live of it at the new moment (this project's own)
abbrev pub OthersAreLive : List (List ℕ) → Keys → Keys → Type 0
OthersAreLive list old new = (key : List ℕ) → list_any (bytes_eq key) list ≡ false
    → entry_at new key ≡ live_entry new.moment (entry_at old key)

-- whether two kinds are the same
abbrev pub is_same_kind : ValueKind → ValueKind → Bool
is_same_kind Hash Hash = true
is_same_kind ListKind ListKind = true
is_same_kind Zset Zset = true
is_same_kind Counter Counter = true
is_same_kind _ _ = false

-- whether memory was taken for this kind and this member
abbrev pub is_plan_for : ValueKind → List ℕ → Option Plan → Bool
is_plan_for kind member (Some plan) = is_same_kind kind plan.kind && bytes_eq member plan.member
is_plan_for kind member None = false

-- whether memory was taken for this member of the key, as a key of this kind
abbrev pub has_plan : Keys → List ℕ → ValueKind → List ℕ → Bool
has_plan keys key kind member = is_plan_for kind member (plan_at keys key)

-- memory is taken for this member of the key, in place of what was taken for the key before
abbrev pub TakesPlan : Keys → Keys → List ℕ → ValueKind → List ℕ → Type 0
TakesPlan old new key kind member =
    plan_at new ≡ with_key key (Some (record { kind = kind; member = member })) (plan_at old)

-- what is prepared once the key has the member: what was prepared for it is used up, if it wasn't
-- there
abbrev pub plans_after : Bool → List ℕ → ValueKind → List ℕ → (List ℕ → Option Plan)
    → List ℕ → Option Plan
plans_after was_there key kind member plans =
    if was_there then plans else without_key_if (is_plan_for kind member (plans key)) key plans

-- the key has the member now: what was prepared for it is used up, if it wasn't there
abbrev pub UsesPlan : Keys → Keys → Bool → List ℕ → ValueKind → List ℕ → Type 0
UsesPlan old new was_there key kind member =
    plan_at new ≡ plans_after was_there key kind member (plan_at old)
