-- What a function is given in an FCALL behind the name of the object: this project's own.
use Rattle.std.specs.Prelude.{ℕ}
use Rattle.lr_objects.specs.declared.form.Arguments.{Arguments}
use Rattle.lr_objects.specs.declared.form.Arguments.TheVariants as arguments
use Rattle.lr_objects.specs.declared.kinds.Function.{Function}
use Rattle.lr_objects.specs.declared.kinds.Function.TheVariants as functions
use Rattle.lr_objects.specs.declared.fair.FairFunction.TheVariants as fair
use Rattle.lr_objects.specs.declared.fair.FairFunction.{FairFunction}
use Rattle.lr_objects.specs.declared.read_write.ReadWriteFunction.{ReadWriteFunction}
use Rattle.lr_objects.specs.declared.read_write.ReadWriteFunction.TheVariants as read_write
use Rattle.lr_objects.specs.Function.{arguments_of}
use Rattle.lr_frames.specs.declared.shape.Shape.{Shape}
use Rattle.lr_frames.specs.declared.shape.Shape.TheVariants.{Nothing, Owner, OwnerLease, OwnerLeaseQueue, OwnerModeLease, Number, Id, IdLease}

-- a function that is given a lease has an owner too, who stands before it
abbrev pub plain_shape : Arguments → Shape
plain_shape arguments.Lease = OwnerLease
plain_shape arguments.Number = Number
plain_shape arguments.Nothing = Nothing
plain_shape arguments.Id = Id
plain_shape arguments.IdAndLease = IdLease

abbrev pub fair_shape : FairFunction → Shape
fair_shape fair.Try = OwnerLeaseQueue
fair_shape fair.Unlock = OwnerLease
fair_shape fair.Leave = Owner
fair_shape fair.Renew = OwnerLease

abbrev pub read_write_shape : ReadWriteFunction → Shape
read_write_shape read_write.Read = OwnerLease
read_write_shape read_write.Write = OwnerLease
read_write_shape read_write.UnlockRead = OwnerLease
read_write_shape read_write.UnlockWrite = OwnerLease
read_write_shape read_write.Renew = OwnerModeLease

-- what a function is given; three are given more than a schedule writes
abbrev pub shape_of : Function → Shape
shape_of (functions.Fair function) = fair_shape function
shape_of (functions.ReadWrite function) = read_write_shape function
shape_of function = plain_shape (arguments_of function)

-- how many words this is
abbrev pub shape_len : Shape → ℕ
shape_len Nothing = 0
shape_len Owner = 1
shape_len OwnerLease = 2
shape_len OwnerLeaseQueue = 3
shape_len OwnerModeLease = 3
shape_len Number = 1
shape_len Id = 1
shape_len IdLease = 2
