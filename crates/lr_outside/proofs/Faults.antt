-- What the calls say of a count of faults.
use Rattle.std.proofs.Common.{◌≡◌, Bool, true, false, ℕ, ◌-◌, ◌^◌, ◌<◌, ◌≤◌, refl, sym, subst, arith}
use Rattle.lr_outside.specs.Turns.{CountsFaults, Rose}

-- a count never falls
pub CountsFaults-later : (before now : ℕ) (failed : Bool) → CountsFaults before now failed
    → before ≤ now
CountsFaults-later before now true counts = counts.0
CountsFaults-later before now false counts = omega arith

-- it rose in a call that failed
pub CountsFaults-rose : (before now : ℕ) → CountsFaults before now true → Rose before now
CountsFaults-rose before now counts = let is = counts.1 in omega arith

-- where it did not rise, no call failed
pub CountsFaults-not_failed : (before now : ℕ) (failed : Bool) → CountsFaults before now failed
    → (Rose before now → ⊥) → failed ≡ false
CountsFaults-not_failed before now true counts same =
    absurd (same (CountsFaults-rose before now counts))
CountsFaults-not_failed before now false counts same = refl

-- and it is as it was
pub CountsFaults-same : (before now : ℕ) (failed : Bool) → CountsFaults before now failed
    → (Rose before now → ⊥) → now ≡ before
CountsFaults-same before now true counts same = absurd (same (CountsFaults-rose before now counts))
CountsFaults-same before now false counts same = counts

-- a call behind calls that left it as it was
pub CountsFaults-after : (before mid now : ℕ) (failed : Bool) → mid ≡ before
    → CountsFaults mid now failed
    → CountsFaults before now failed
CountsFaults-after before mid now failed same counts =
    let Counts : ℕ → Type 0 = λ n. CountsFaults n now failed in subst Counts same counts

-- calls that leave it as it is behind one that counted
pub CountsFaults-before : (before mid now : ℕ) (failed : Bool) → CountsFaults before mid failed
    → now ≡ mid
    → CountsFaults before now failed
CountsFaults-before before mid now failed counts same =
    let Counts : ℕ → Type 0 = λ n. CountsFaults before n failed in subst Counts (sym same) counts

-- what rose once has risen, whatever is counted before and behind it
pub Rose-from : (before mid now : ℕ) → before ≤ mid → Rose mid now → Rose before now
Rose-from before mid now later rose = omega arith

pub Rose-on : (before mid now : ℕ) → Rose before mid → mid ≤ now → Rose before now
Rose-on before mid now rose later = omega arith

-- a count that stayed as it was did not rise, below its last value
pub Rose-not : (before now : ℕ) → before < 2 ^ 64 - 1 → now ≡ before → Rose before now → ⊥
Rose-not before now below same rose = omega arith
