-- Moments and leases, in milliseconds. A key of Redis is gone from the millisecond of its expiry
-- on.
use Rattle.std.specs.Prelude.{ℕ, max, min, nat_lt, nat_le, Bool, ◌&&◌}
use Rattle.lr_limits.specs.Limits.{last_moment, longest_lease}

-- The moment after a clock shows this. Time never falls, and a later reading than the last moment
-- counts as that.
abbrev pub later : ℕ → ℕ → ℕ
later now reading = max now (min reading last_moment)

-- what has this deadline is live while the deadline is above the moment
abbrev pub is_live : ℕ → ℕ → Bool
is_live deadline moment = nat_lt moment deadline

-- leases are from 1 to 86,400,000,000 milliseconds: a thousand days
abbrev pub is_lease : ℕ → Bool
is_lease millis = nat_le 1 millis && nat_le millis longest_lease
