-- What stays of read-write locks where a function of another kind runs.
use Rattle.std.proofs.Common.{◌≡◌, ℕ, List, [], ◌∷◌, sym, subst}
use Rattle.lr_names.specs.Key.{key_text}
use Rattle.lr_names.specs.declared.kind.Kind.TheVariants.{Rw}
use Rattle.lr_names.specs.declared.part.Part.TheVariants as parts
use Rattle.lr_keys.specs.KeySpace.{Keys}
use Rattle.lr_model.specs.ReadWrite.{ReadWriteLock}
use Rattle.lr_model.specs.Answer.{Objects}
use Rattle.lr_rw.specs.Stands.{ReadWriteLocksStand}
use Rattle.lr_rw.proofs.StandsLaws.{read_write_locks_stand_later}
use Rattle.lr_server.proofs.KindLaws.{first_among, second_among}
use Rattle.lr_server.proofs.KindsLater.{KindGoesOn}

-- the keys still stand for the same ones
pub stay : (old new : Keys) (objects objects2 : Objects) → KindGoesOn Rw old new
    → objects2.read_write_locks ≡ objects.read_write_locks
    → ReadWriteLocksStand old objects → ReadWriteLocksStand new objects2
stay old new objects objects2 goes_on same stands =
    let at : Objects → (List ℕ → ReadWriteLock) → Objects =
    λ o locks. record o { read_write_locks = locks } in
    let later : ReadWriteLocksStand new objects =
    read_write_locks_stand_later old new objects stands
    (λ name named. let key = key_text parts.Rw name in
    goes_on.live name key named (first_among key (key_text parts.RwDeadlines name ∷ [])))
    (λ name named. let key = key_text parts.RwDeadlines name in
    goes_on.live name key named (second_among (key_text parts.Rw name) key [])) in
    let stand : ReadWriteLocksStand new (at objects objects2.read_write_locks) =
    subst (λ (locks : List ℕ → ReadWriteLock). ReadWriteLocksStand new (at objects locks))
    (sym same) later in
    record { locks = stand.locks }
