-- A line of a transcript in two parts: this project's own. The first has a bound on its length.
use Rattle.std.specs.Prelude.{◌≡◌, ℕ, List, [], ◌++◌, length, take}
use Rattle.lr_objects.specs.Reply.{reply_text}
use Rattle.lr_machine.specs.declared.shown.Shown.{Shown}
use Rattle.lr_machine.specs.declared.shown.Shown.TheVariants as shows
use Rattle.lr_machine.specs.Transcript.{post_text, cut_text, standings_text, shown_text}

-- what is shown but for a list of clients or of threads
abbrev pub short_text : Shown → List ℕ
short_text (shows.Replied r) = reply_text r.reply ++ post_text r.post
short_text (shows.Standings standings) = []
short_text s = shown_text s

-- that list, of any length
abbrev pub tail_text : Shown → List ℕ
tail_text (shows.Replied r) = cut_text r.cut
tail_text (shows.Standings standings) = standings_text standings
tail_text _ = []

-- nothing was taken off a text's end
abbrev pub BeginsWith : List ℕ → List ℕ → Type 0
BeginsWith old new = take (length old) new ≡ old
