-- Numbers of permits and counts, within this project's own limit.
use Rattle.std.specs.Prelude.{ℕ, ◌≤◌}
use Rattle.lr_limits.specs.Limits.{amount_limit}

-- what a call may ask for at once
abbrev pub IsAmount : ℕ → Type 0
IsAmount number = (1 ≤ number) × (number ≤ amount_limit)
