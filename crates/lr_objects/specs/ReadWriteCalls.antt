-- The functions of the read-write lock, after that of the Redisson guide, and their calls. Their
-- words are this project's own.
use Rattle.std.specs.Prelude.{ℕ, codes}
use Rattle.lr_names.specs.Owner.{ThreadOfClient, IsOwner}
use Rattle.lr_objects.specs.declared.access.Access.TheVariants as accesses
use Rattle.lr_objects.specs.declared.read_write.ReadWriteFunction.{ReadWriteFunction}
use Rattle.lr_objects.specs.declared.read_write.ReadWriteFunction.TheVariants.{Read, Write, UnlockRead, UnlockWrite, Renew}
use Rattle.lr_objects.specs.declared.read_write.ReadWriteCall.{ReadWriteCall}
use Rattle.lr_objects.specs.declared.read_write.ReadWriteCall.TheVariants as calls
use Rattle.lr_objects.specs.declared.form.Arguments.TheVariants.{Lease}
use Rattle.lr_objects.specs.declared.form.Begins.TheVariants.{Never, AtOnce, MayWait}
use Rattle.lr_objects.specs.Form.{FormOf}

-- a request may begin with all but a renewal, and taking the lock may wait
abbrev pub read_write_form : ReadWriteFunction → FormOf
read_write_form Read = record { word = codes "rw_read"; arguments = Lease; begins = MayWait }
read_write_form Write = record { word = codes "rw_write"; arguments = Lease; begins = MayWait }
read_write_form UnlockRead =
    record { word = codes "rw_unlock_read"; arguments = Lease; begins = AtOnce }
read_write_form UnlockWrite =
    record { word = codes "rw_unlock_write"; arguments = Lease; begins = AtOnce }
read_write_form Renew = record { word = codes "rw_renew"; arguments = Lease; begins = Never }

-- The call of a function, with the owner and the lease in their places. What a renewal is of isn't
-- told by the function: no request begins with one, and here it is of the hold to read.
abbrev pub read_write_call_of : ReadWriteFunction → ThreadOfClient → ℕ → ReadWriteCall
read_write_call_of Read owner lease = calls.Take accesses.Read owner lease
read_write_call_of Write owner lease = calls.Take accesses.Write owner lease
read_write_call_of UnlockRead owner rest = calls.Unlock accesses.Read owner rest
read_write_call_of UnlockWrite owner rest = calls.Unlock accesses.Write owner rest
read_write_call_of Renew owner lease = calls.Renew accesses.Read owner lease

-- a call as the program makes it: its owner is one
abbrev pub IsReadWriteCall : ReadWriteCall → Type 0
IsReadWriteCall (calls.Take access owner lease) = IsOwner owner
IsReadWriteCall (calls.Unlock access owner rest) = IsOwner owner
IsReadWriteCall (calls.Renew access owner lease) = IsOwner owner
