-- What the words of a drill tell.
use Rattle.std.proofs.Common.{◌≡◌, ℕ, List, arith}
use Rattle.std.proofs.lemmas.Fmt.{decimal_injective}
use Rattle.std.specs.Prelude.{decimal}
use Rattle.lr_program.specs.Commands.{IsDrillOf}

-- the words tell from which number events are drawn, and how many there are
pub same_drill : (words : List (List ℕ)) (number events other more : ℕ)
    → IsDrillOf words number events → IsDrillOf words other more
    → (number ≡ other) × (events ≡ more)
same_drill words number events other more is same =
    let text = is.text in
    let again = same.text in
    let spelled : decimal number ≡ decimal other = cc in
    let counted : decimal events ≡ decimal more = cc in (
      decimal_injective number other is.fits same.fits spelled,
      decimal_injective events more (omega arith) (omega arith) counted,
    )
