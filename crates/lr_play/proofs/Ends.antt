-- The ends of a run, one by one.
use Rattle.std.proofs.Common.{◌≡◌, ◌⊎◌, inl, inr, ℕ, ◌<◌, ◌≤◌, List, [], ◌∷◌, length, get_or, refl, sym, ap, subst, arith}
use Rattle.lr_outside.specs.Lines.{lines_of}
use Rattle.lr_outside.specs.Turns.{CountsFaults, Rose}
use Rattle.lr_outside.proofs.Faults.{CountsFaults-rose}
use Rattle.lr_outside.specs.declared.status.Status.{Status}
use Rattle.lr_outside.specs.declared.status.Status.TheVariants.{Done, Usage, ReadFault, WriteFault, BadLine, NoMemory, TooMany, Wrong, Closed}
use Rattle.lr_machine.specs.declared.event.Event.{Event}
use Rattle.lr_machine.specs.declared.schedule_line.ScheduleLine.{ScheduleLine}
use Rattle.lr_machine.specs.declared.schedule_line.ScheduleLine.TheVariants as kinds
use Rattle.lr_machine.specs.Transcript.{AreLinesOf, IsLine, bad_line, too_many_line}
use Rattle.lr_schedule.proofs.EventLaws.{one_kind}
use Rattle.lr_play.specs.Ends.{StoppedAt, EndsSo, IsEndOfRun, IsEndOfPlay, is_read_fault, is_write_fault}
use Rattle.lr_play.proofs.Events.{AreLinesOf-at}

-- an end of a run is one of the program
pub end_of_play : (status : Status) → IsEndOfRun status → IsEndOfPlay status
end_of_play Usage end = tt
end_of_play _ end = end

-- the only one of one word
pub one_word : (words : List (List ℕ)) (w : List ℕ) → 1 ≤ length words → length words < 2 → w ≡ get_or words 0 w → words ≡ w ∷ []
one_word [] w some few is = absurd (omega arith)
one_word (x ∷ []) w some few is = ap (λ (l : List ℕ). l ∷ []) (sym is)
one_word (x ∷ y ∷ words) w some few is = absurd (omega arith)

-- two words that are the only one are one
pub only_word : (words : List (List ℕ)) (w v : List ℕ) → words ≡ w ∷ [] → words ≡ v ∷ [] → w ≡ v
only_word words w v is same = cc

-- where all lines are events none is refused
not_stopped : (number : ℕ) (kind : ScheduleLine) (refusal all before held : List ℕ) (events : List Event) → ((event : Event) → kind ≡ kinds.Event event → ⊥) → AreLinesOf 1 (lines_of all) events
    → StoppedAt number kind refusal all before held → ⊥
not_stopped number kind refusal all before held events other are stop =
    let h = AreLinesOf-at 1 stop.earlier stop.line stop.later events (subst (λ ls. AreLinesOf 1 ls events) stop.lines are) in
    other h.0 (one_kind number stop.line kind (kinds.Event h.0) stop.here (subst (λ n. IsLine n stop.line (kinds.Event h.0)) (sym stop.place) h.1))

-- a schedule of events runs through unless a count rises or memory runs out
pub completes : (status : Status) (all rest before held : List ℕ) (events : List Event) (read read' write write' : ℕ) → EndsSo status all rest before held
    → CountsFaults read read' (is_read_fault status) → CountsFaults write write' (is_write_fault status) → AreLinesOf 1 (lines_of all) events
    → (Rose read read' → ⊥) → (Rose write write' → ⊥) → (status ≡ Done) ⊎ (status ≡ NoMemory)
completes Done all rest before held events read read' write write' ends reads writes are no_read no_write = inl refl
completes NoMemory all rest before held events read read' write write' ends reads writes are no_read no_write = inr refl
completes ReadFault all rest before held events read read' write write' ends reads writes are no_read no_write = absurd (no_read (CountsFaults-rose read read' reads))
completes WriteFault all rest before held events read read' write write' ends reads writes are no_read no_write = absurd (no_write (CountsFaults-rose write write' writes))
completes (BadLine n) all rest before held events read read' write write' ends reads writes are no_read no_write =
    absurd (not_stopped n kinds.Bad (bad_line n) all before held events (λ event e. cc) are ends)
completes (TooMany n) all rest before held events read read' write write' ends reads writes are no_read no_write =
    absurd (not_stopped n kinds.TooMany (too_many_line n) all before held events (λ event e. cc) are ends)
completes Usage all rest before held events read read' write write' ends reads writes are no_read no_write = absurd ends
completes (Wrong n) all rest before held events read read' write write' ends reads writes are no_read no_write = absurd ends
completes Closed all rest before held events read read' write write' ends reads writes are no_read no_write = absurd ends
