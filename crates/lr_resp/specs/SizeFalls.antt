-- Each item of an array has fewer bytes than the array.
use Rattle.std.specs.Prelude.{◌≤◌, List, [], ◌∷◌, ◌++◌, length, map, decimal}
use Rattle.std.specs.List.{concat}
use Rattle.std.proofs.Common.{arith, length-append}
use denote.Param.Weighed.{most}
use Rattle.lr_resp.specs.declared.frame.Frame.{Frame}
use Rattle.lr_resp.specs.declared.frame.Frame.TheVariants.{Simple, Fault, Number, Bulk, Null, NullArray, Array}
use Rattle.lr_resp.specs.declared.frame.Frames.TheDeep.{deep-Frame}
use Rattle.lr_resp.specs.Spelling.{spelling, line_end}
use Rattle.lr_resp.specs.Size.{total}

pub deep_below : (f : Frame) → deep-Frame f ≤ length (spelling f)
deep_below (Simple text) = omega arith
deep_below (Fault text) = omega arith
deep_below (Number n) = omega arith
deep_below (Bulk text) = omega arith
deep_below Null = omega arith
deep_below NullArray = omega arith
deep_below (Array items) =
    omega (arith, length-append (decimal (length items)) (line_end ++ concat items))

pub most_below : (fs : List Frame) → most deep-Frame fs ≤ total (map spelling fs)
most_below [] = omega arith
most_below (f ∷ fs) =
    omega (
      arith,
      deep_below f,
      most_below fs,
      length-append (spelling f)
          (concat (map spelling fs)),
    )
