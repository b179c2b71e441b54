-- What the looks at the keys answer.
use Rattle.std.specs.Prelude.{ℕ, ℤ, List, [], ◌∷◌, length, map, max, Option, Some, None, is_some, Result, Ok, Err, codes}
use Rattle.std.specs.Fmt.{signed_decimal}
use Rattle.lr_commands.specs.declared.look.Look.{Look}
use Rattle.lr_commands.specs.declared.look.Look.TheVariants.{Exists, «Type» as TypeOf, TimeLeft, Get, HashGet, HashExists, HashGetAll, ListLength, SortedCount, ListRange, SortedRange, SortedScore}
use Rattle.lr_keys.specs.declared.fault.KeyFault.{KeyFault}
use Rattle.lr_keys.specs.declared.value_kind.ValueKind.{ValueKind}
use Rattle.lr_keys.specs.declared.value_kind.ValueKind.TheVariants.{Hash, List as ListKind, Zset, Counter}
use Rattle.lr_keys.specs.FieldMap.{Pairs, field_value}
use Rattle.lr_keys.specs.KeySpace.{KeyEntry, Keys, kind_at, counter_at, hash_at, list_at, zset_at, time_left, seen}
use Rattle.lr_lists.specs.Places.{range_of}
use Rattle.lr_sorted.specs.Members.{Members, score_of}
use Rattle.lr_resp.specs.declared.frame.Frame.{Frame}
use Rattle.lr_resp.specs.declared.frame.Frame.TheVariants.{Simple, Fault, Number}
use Rattle.lr_looks.specs.Bulks.{bulks_frame, signed_frame, decimal_frame, count_frame, flag_frame}
use Rattle.lr_looks.specs.Seen.{if_brief, seen_entry}

-- the answer where the key holds another kind of value (Redis command pages, as HGET)
abbrev pub wrong_kind : Frame
wrong_kind = Fault (codes "WRONGTYPE Operation against a key holding the wrong kind of value")

-- what is shown of a value of the right kind
abbrev pub shown : {T : Type 0} → (T → Frame) → Result T KeyFault → Frame
shown show (Ok value) = show value
shown show (Err fault) = wrong_kind

-- the name of a kind (Redis command page TYPE)
abbrev pub kind_name : Option ValueKind → List ℕ
kind_name None = codes "none"
kind_name (Some Counter) = codes "string"
kind_name (Some Hash) = codes "hash"
kind_name (Some ListKind) = codes "list"
kind_name (Some Zset) = codes "zset"

-- each field, followed by its number in decimal (Redis command page HGETALL)
abbrev pub pair_texts : Pairs → List (List ℕ)
pair_texts [] = []
pair_texts (pair ∷ pairs) = pair.0 ∷ signed_decimal pair.1 ∷ pair_texts pairs

-- the members without their scores (Redis command page ZRANGE)
abbrev pub member_names : Members → List (List ℕ)
member_names members = map (λ m. m.0) members

-- the number of a field of a hash, if it is there
abbrev pub number_of : List ℕ → Result Pairs KeyFault → Result (Option ℤ) KeyFault
number_of field hash = seen (λ pairs. if_brief field (field_value field pairs)) hash

-- the score of a member of a sorted set, if it is there
abbrev pub score_in : List ℕ → Result Members KeyFault → Result (Option ℕ) KeyFault
score_in member zset = seen (λ members. if_brief member (score_of member members)) zset

-- the key that is looked at
abbrev pub key_of : Look → List ℕ
key_of (Exists key) = key
key_of (TypeOf key) = key
key_of (TimeLeft key) = key
key_of (Get key) = key
key_of (HashGet key _) = key
key_of (HashExists key _) = key
key_of (HashGetAll key) = key
key_of (ListLength key) = key
key_of (SortedCount key) = key
key_of (ListRange key _ _) = key
key_of (SortedRange key _ _) = key
key_of (SortedScore key _) = key

-- what a look answers from what stands at its key at a moment (Redis command pages EXISTS, TYPE,
-- PTTL, GET, HGET, HEXISTS, HGETALL, LLEN, ZCARD, LRANGE, ZRANGE and ZSCORE)
abbrev pub entry_frame : ℕ → Look → Option KeyEntry → Frame
entry_frame moment (Exists _) e = flag_frame (is_some e)
entry_frame moment (TypeOf _) e = Simple (kind_name (kind_at e))
entry_frame moment (TimeLeft _) e = Number (time_left moment e)
entry_frame moment (Get _) e = shown signed_frame (counter_at e)
entry_frame moment (HashGet _ field) e = shown signed_frame (number_of field (hash_at e))
entry_frame moment (HashExists _ field) e =
    shown (λ number. flag_frame (is_some number)) (number_of field (hash_at e))
entry_frame moment (HashGetAll _) e = shown (λ pairs. bulks_frame (pair_texts pairs)) (hash_at e)
entry_frame moment (ListLength _) e = shown count_frame (seen length (list_at e))
entry_frame moment (SortedCount _) e = shown count_frame (seen length (zset_at e))
entry_frame moment (ListRange _ start stop) e =
    shown bulks_frame (seen (range_of start stop) (list_at e))
entry_frame moment (SortedRange _ start stop) e =
    shown (λ members. bulks_frame (member_names members)) (seen (range_of start stop) (zset_at e))
entry_frame moment (SortedScore _ member) e = shown decimal_frame (score_in member (zset_at e))

-- what a look at the keys answers, at the later one of their moment and this
abbrev pub look_frame : Keys → ℕ → Look → Frame
look_frame keys moment look =
    let later = max keys.moment moment in
    entry_frame later look (seen_entry keys later (key_of look))
