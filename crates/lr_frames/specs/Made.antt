-- The call that is made of a function, the name of an object, and what the function is given.
use Rattle.std.specs.Prelude.{ℕ, List}
use Rattle.lr_objects.specs.declared.kinds.Function.{Function}
use Rattle.lr_objects.specs.declared.kinds.Function.TheVariants as functions
use Rattle.lr_objects.specs.declared.kinds.Call.TheVariants as calls
use Rattle.lr_objects.specs.declared.op.Op.{Op}
use Rattle.lr_objects.specs.declared.read_write.ReadWriteCall.TheVariants as read_write
use Rattle.lr_objects.specs.declared.read_write.ReadWriteFunction.TheVariants as read_writes
use Rattle.lr_objects.specs.declared.want.Lease.TheVariants.{For}
use Rattle.lr_objects.specs.Op.{call_on}
use Rattle.lr_objects.specs.Want.{op_of}
use Rattle.lr_frames.specs.declared.given.Given.{Given}

-- the renewal of a hold of a read-write lock: a want doesn't say of which
abbrev pub made_renewal : List ℕ → Given → Op
made_renewal name given =
    call_on name (calls.ReadWrite (read_write.Renew given.access given.owner given.lease))

-- the call that a want is
abbrev pub made_wanted : Function → List ℕ → Given → Op
made_wanted function name given =
    op_of
    (record {
      function = function;
      name = name;
      lease = For given.lease;
      number = given.number;
      id = given.id;
    })
    given.owner given.lease given.queue

abbrev pub made_op : Function → List ℕ → Given → Op
made_op (functions.ReadWrite read_writes.Renew) name given = made_renewal name given
made_op function name given = made_wanted function name given
