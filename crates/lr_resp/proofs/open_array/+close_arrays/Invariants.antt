use Rattle.std.proofs.Common.{vec_len}
use Rattle.lr_resp.proofs.open_array.+close_arrays.Given as goal

abbrev pub decreases-close_arrays : goal.decreases-close_arrays
decreases-close_arrays l = vec_len l.arrays.now
