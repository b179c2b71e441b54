-- The words of the kinds of a hold that is watched.
use Rattle.std.proofs.Common.{◌≡◌, List, ℕ, IsTrue, Some, unwrap_or, refl, ap}
use Rattle.lr_text.specs.Words.{lacks}
use Rattle.lr_text.specs.WordTable.{with_word}
use Rattle.lr_text.proofs.WordTableLaws.{IsWordTable}
use Rattle.lr_waiting.specs.declared.watch.WatchKind.{WatchKind}
use Rattle.lr_waiting.specs.declared.watch.WatchKind.TheVariants.{Lock}
use Rattle.lr_machine.specs.EventText.{watch_word}
use Rattle.lr_schedule.specs.declared.kind.TheConstants.{WATCH_KINDS}

-- a kind is found by its word, which has no space
abbrev HasWord : WatchKind → Type 0
HasWord kind =
    (with_word watch_word WATCH_KINDS (watch_word kind) ≡ Some kind)
    × IsTrue (lacks 32 (watch_word kind))

-- each kind has one: by computing
has_word : (kind : WatchKind) → HasWord kind
has_word Lock = (refl, refl)
has_word _ = (refl, refl)

pub IsWordTable-watch_word : IsWordTable watch_word WATCH_KINDS
IsWordTable-watch_word kind = (has_word kind).0

pub watch_word-lacks : (kind : WatchKind) → IsTrue (lacks 32 (watch_word kind))
watch_word-lacks kind = (has_word kind).1

-- the kind of a word
pub kind_with : List ℕ → WatchKind
kind_with word = unwrap_or (with_word watch_word WATCH_KINDS word) Lock

pub kind_with-watch_word : (kind : WatchKind) → kind_with (watch_word kind) ≡ kind
unfolding kind_with
kind_with-watch_word kind = ap (λ o. unwrap_or o Lock) (IsWordTable-watch_word kind)
