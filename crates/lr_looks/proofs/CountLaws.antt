-- How many members a key has is a number of 63 bits.
use Rattle.std.proofs.Common.{ℕ, ◌<◌, ◌≤◌, ◌^◌, List, length, Option, Some, None, IfOk, refl, arith}
use Rattle.std.specs.Option.{ForSome}
use Rattle.lr_limits.specs.Limits.{member_limit}
use Rattle.lr_keys.specs.KeySpace.{AreLive, Content, Fields, Items, KeyEntry, Keys, IsLive, Members, Number, entry_at, list_at, list_in, member_count, seen, zset_at, zset_in}

few_items : (value : Content) → member_count value ≤ member_limit
    → IfOk (seen length (list_in value)) (λ n. n < 2 ^ 63)
few_items (Items items) few = omega arith
few_items (Fields _) few = tt
few_items (Members _) few = tt
few_items (Number _) few = tt

few_members : (value : Content) → member_count value ≤ member_limit
    → IfOk (seen length (zset_in value)) (λ n. n < 2 ^ 63)
few_members (Members members) few = omega arith
few_members (Fields _) few = tt
few_members (Items _) few = tt
few_members (Number _) few = tt

small_list : (moment : ℕ) (entry : Option KeyEntry) → ForSome entry (IsLive moment)
    → IfOk (seen length (list_at entry)) (λ n. n < 2 ^ 63)
small_list moment None live = omega arith
small_list moment (Some e) live = few_items e.value (live e refl).few

small_zset : (moment : ℕ) (entry : Option KeyEntry) → ForSome entry (IsLive moment)
    → IfOk (seen length (zset_at entry)) (λ n. n < 2 ^ 63)
small_zset moment None live = omega arith
small_zset moment (Some e) live = few_members e.value (live e refl).few

pub llen-small : (keys : Keys) (key : List ℕ) → AreLive keys
    → IfOk (seen length (list_at (entry_at keys key))) (λ n. n < 2 ^ 63)
llen-small keys key live = small_list keys.moment (entry_at keys key) (live.live key)

pub zcard-small : (keys : Keys) (key : List ℕ) → AreLive keys
    → IfOk (seen length (zset_at (entry_at keys key))) (λ n. n < 2 ^ 63)
zcard-small keys key live = small_zset keys.moment (entry_at keys key) (live.live key)
