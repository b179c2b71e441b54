-- The members of a sorted set with their scores, in order (Redis data type "sorted sets").
use Rattle.std.specs.Prelude.{ℕ, List, [], ◌∷◌, Bool, true, not, ◌&&◌, Option, if◌then◌else◌}
use Rattle.std.specs.Str.{bytes_eq}
use Rattle.std.specs.Map.{lookup, remove_entry}
use Rattle.std.specs.List.{list_all}
use Rattle.std.specs.Ordering.{nat_cmp, is_lt}
use Rattle.std.specs.Cmp.Lexicographic.{slice_cmp}

-- a member's bytes and its score
abbrev pub Scored : Type 0
Scored = List ℕ × ℕ

-- members with their scores
abbrev pub Members : Type 0
Members = List Scored

-- the members in order, and how many more fit without memory
pub record MemberTable : Type 0 where
  pub members : Members
  pub room : ℕ

-- whether a member comes before another: by score, and by bytes where scores are equal. A score
-- followed by bytes compares so as a list (Redis command pages ZADD and ZRANGE)
abbrev pub comes_before : Scored → Scored → Bool
comes_before one other = is_lt (slice_cmp nat_cmp (one.1 ∷ one.0) (other.1 ∷ other.0))

-- whether each member comes before the later ones, and has other bytes
abbrev pub is_in_order : Members → Bool
is_in_order [] = true
is_in_order (m ∷ ms) =
    list_all (λ later. comes_before m later && not (bytes_eq m.0 later.0)) ms && is_in_order ms

-- the score of a member, if it is there (Redis command page ZSCORE)
abbrev pub score_of : List ℕ → Members → Option ℕ
score_of member members = lookup (bytes_eq member) members

-- the members without this one (Redis command page ZREM)
abbrev pub without_member : List ℕ → Members → Members
without_member member members = remove_entry (bytes_eq member) members

-- the members with one more, put before the first that it comes before
abbrev pub inserted : Scored → Members → Members
inserted new [] = new ∷ []
inserted new (m ∷ ms) = if comes_before new m then new ∷ m ∷ ms else m ∷ inserted new ms

-- the members with this score for the member, whether it was there or not (Redis command page ZADD)
abbrev pub with_score : List ℕ → ℕ → Members → Members
with_score member score members = inserted (member, score) (without_member member members)
