use Rattle.std.proofs.Common.{◌≡◌, ℕ, ◌+◌, Bool, if◌then◌else◌, ap, ◌∙◌}
use Rattle.lr_world.specs.World.{world_of}
use Rattle.lr_drill.specs.Drill.{Drilled, event_drawn, next_drilled}
use Rattle.lr_drill.specs.Drilling.{drilled_of}
use Rattle.lr_drill.proofs.Drilling.{counted, drilled-next, drilled_with}
use Rattle.lr_drill.proofs.drilled.Drill.go_on.Goals.{then-not-applies, else-not-applies}
use Rattle.lr_drill.proofs.drilled.Drill.go_on.Goals as goal

module _ (c : goal.Joined-shown) where
  abbrev old : Drilled
  old = drilled_of c.args.self.now

  -- the drill after an event, by how many have not applied then
  goes_on : (not_applied : ℕ) → not_applied ≡ counted old.not_applied c.in_ok-shown.shown
      → drilled_with c.next_number-self.result (world_of c.apply.new.self) not_applied
      ≡ next_drilled old
  goes_on not_applied counts =
      let is : c.event_drawn-event.result
      ≡ event_drawn c.next_number-self.result old.world.moment =
      c.event_drawn-event.ensures.event
      ∙ ap (event_drawn c.next_number-self.result) c.moment.ensures.value in
      drilled-next old c.next_number-self.result c.event_drawn-event.result
      c.in_ok-shown.shown (world_of c.apply.new.self) not_applied c.next_number-self.ensures is
      c.in_ok-shown.ensures.shown c.in_ok-shown.ensures.next counts

  -- one more where the event didn't apply
  abbrev count_by : Bool → ℕ
  count_by applies = if applies then old.not_applied else old.not_applied + 1

pub returns-clause-next : goal.returns-clause-next
returns-clause-next c = elim c.if-not-applies.branch [
  | then-not-applies w ↦
      ap drilled_of w.self-is
      ∙ goes_on c (c.args.self.now.not_applied + 1) (ap (count_by c) w.if-not-applies.ensures)
  | else-not-applies w ↦
      ap drilled_of w.self-is
      ∙ goes_on c c.args.self.now.not_applied (ap (count_by c) w.if-not-applies.ensures)
]
