-- Either side of a result.
use Rattle.std.proofs.Common.{◌≡◌, Bool, true, false, Result, Ok, Err, OnOk, OnErr, Option, None, Some, IfNone, IfSome, refl}
use Rattle.std.specs.Bool.{OnFalse}

pub by_result : {T E A B C : Type 0} (r : Result T E) → OnOk r A → OnErr r B → (A → C) → (B → C) → C
by_result (Ok x) a b f g = f a
by_result (Err e) a b f g = g b

-- either side of an option
pub when_none : {A X : Type 0} (o : Option A) → (o ≡ None → X) → IfNone o X
when_none None f = f refl
when_none (Some x) f = tt

pub when_some : {A : Type 0} (o : Option A) (P : A → Type 0) → ((x : A) → o ≡ Some x → P x) → IfSome o P
when_some None P f = tt
when_some (Some x) P f = f x refl

pub at_none : {A X : Type 0} (o : Option A) → o ≡ None → IfNone o X → X
at_none None e h = h
at_none (Some x) e h = cc

-- a fact for a test that was false
pub at_false : {X : Type 0} (b : Bool) → b ≡ false → OnFalse b X → X
at_false false e h = h
at_false true e h = cc
