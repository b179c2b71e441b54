-- Histories that grow by an entry.
use Rattle.std.proofs.Common.{◌≡◌, ℕ, List, [], ◌∷◌, ◌++◌, Bool, true, false, if◌then◌else◌, ◌==◌, refl, ap}
use Rattle.lr_model.specs.declared.entry.Entry.{Entry}
use Rattle.lr_model.specs.History.{State, step, after, MayFollow, IsLegal, Deed, deeds_of, deeds_by}

pub after-push : (state : State) (entries : List Entry) (entry : Entry) → after state (entries ++ entry ∷ []) ≡ step (after state entries) entry
after-push state [] entry = refl
after-push state (e ∷ entries) entry = after-push (step state e) entries entry

pub IsLegal-push : (state : State) (entries : List Entry) (entry : Entry) → IsLegal state entries → MayFollow (after state entries) entry → IsLegal state (entries ++ entry ∷ [])
IsLegal-push state [] entry legal may = (may, tt)
IsLegal-push state (e ∷ entries) entry legal may = (legal.0, IsLegal-push (step state e) entries entry legal.1 may)

pub deeds_of-push : (entries : List Entry) (entry : Entry) → deeds_of (entries ++ entry ∷ []) ≡ deeds_of entries ++ record { caller = entry.caller; conn = entry.conn; act = entry.act } ∷ []
deeds_of-push [] entry = refl
deeds_of-push (e ∷ entries) entry = ap (λ (l : List Deed). record { caller = e.caller; conn = e.conn; act = e.act } ∷ l) (deeds_of-push entries entry)

pub deeds_by-append : (caller : ℕ) (xs ys : List Deed) → deeds_by caller (xs ++ ys) ≡ deeds_by caller xs ++ deeds_by caller ys
deeds_by-append caller [] ys = refl
deeds_by-append caller (x ∷ xs) ys = by_case (x.caller == caller) (deeds_by-append caller xs ys)
  where
    by_case : (b : Bool) → deeds_by caller (xs ++ ys) ≡ deeds_by caller xs ++ deeds_by caller ys
        → (if b then x ∷ deeds_by caller (xs ++ ys) else deeds_by caller (xs ++ ys)) ≡ (if b then x ∷ deeds_by caller xs else deeds_by caller xs) ++ deeds_by caller ys
    by_case true h = ap (λ (l : List Deed). x ∷ l) h
    by_case false h = h
