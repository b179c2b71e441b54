-- What the words of a race tell.
use Rattle.std.proofs.Common.{◌≡◌, ℕ, List, arith}
use Rattle.std.proofs.lemmas.Fmt.{decimal_injective}
use Rattle.std.specs.Prelude.{decimal}
use Rattle.lr_program.specs.Commands.{IsRaceOf}

-- the words tell how many threads there are, and how many calls each makes
pub same_race : (words : List (List ℕ)) (threads calls others more : ℕ)
    → IsRaceOf words threads calls → IsRaceOf words others more
    → (threads ≡ others) × (calls ≡ more)
same_race words threads calls others more is same =
    let text = is.text in
    let again = same.text in
    let spelled : decimal threads ≡ decimal others = cc in
    let counted : decimal calls ≡ decimal more = cc in (
      decimal_injective threads others (omega arith) (omega arith) spelled,
      decimal_injective calls more (omega arith) (omega arith) counted,
    )
