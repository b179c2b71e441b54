use Rattle.std.proofs.Common.{◌≡◌, ℕ, ◌+◌, List, refl, subst, sym}
use Rattle.lr_machine.specs.declared.schedule_line.ScheduleLine.TheVariants as kinds
use Rattle.lr_machine.specs.Transcript.{IsLine}
use Rattle.lr_machine.specs.World.{World, next}
use Rattle.lr_world.specs.World.{world_of}
use Rattle.lr_play.specs.Progress.{IsAt, Told}
use Rattle.lr_play.proofs.Lines.{on, at_end, at_fault, at_line, at_long}
use Rattle.lr_play.proofs.Long.{long_is_bad}
use Rattle.lr_play.proofs.Results.{when_none, when_some, at_none, at_false}
use Rattle.lr_play.proofs.run.take_line.Goals as goal

pub returns-in-Event-clause-goes_on : goal.returns-in-Event-clause-goes_on
returns-in-Event-clause-goes_on g c =
    let left = g.S.Source.left in
    let held = g.K.Sink.held in
    let world : World = world_of c.args.world.now in
    let number : ℕ = c.args.number in
    let turn = at_false c.args.reader.now.stuck c.requires.free c.in-Line.ensures.turn in
    let is : IsLine number c.in-Line.line (kinds.Event c.in-Event.event) = subst (λ (l : List ℕ). IsLine number l (kinds.Event c.in-Event.event)) c.as_slice.ensures.value c.in-Event.ensures in
    when_none c.show.result (λ e all before at.
    let told = subst (Told world number (kinds.Event c.in-Event.event) (held c.args.sink.now) (held c.show.new.sink)) e c.show.ensures.told in
    let after : world_of c.show.new.world ≡ next world c.in-Event.event = at_none c.show.result e c.show.ensures.next in
    subst (λ w. IsAt c.next.new.self.kept (left c.next.new.source) (held c.show.new.sink) all before (number + 1) w) (sym after)
    (on c.args.reader.now.kept c.next.new.self.kept all before (left c.args.source.now) (left c.next.new.source) (held c.args.sink.now) (held c.show.new.sink) number world at
    c.in-Line.line (kinds.Event c.in-Event.event) turn is told))

pub returns-in-Event-clause-ends : goal.returns-in-Event-clause-ends
returns-in-Event-clause-ends g c =
    let left = g.S.Source.left in
    let held = g.K.Sink.held in
    let world : World = world_of c.args.world.now in
    let number : ℕ = c.args.number in
    let turn = at_false c.args.reader.now.stuck c.requires.free c.in-Line.ensures.turn in
    let is : IsLine number c.in-Line.line (kinds.Event c.in-Event.event) = subst (λ (l : List ℕ). IsLine number l (kinds.Event c.in-Event.event)) c.as_slice.ensures.value c.in-Event.ensures in
    when_some c.show.result _ (λ status e all before at.
    at_line c.args.reader.now.kept c.next.new.self.kept all before (left c.args.source.now) (left c.next.new.source) (held c.args.sink.now) (held c.show.new.sink) number world at
    c.in-Line.line (kinds.Event c.in-Event.event) status turn is (subst (Told world number (kinds.Event c.in-Event.event) (held c.args.sink.now) (held c.show.new.sink)) e c.show.ensures.told))

pub returns-in-Bad-clause-ends : goal.returns-in-Bad-clause-ends
returns-in-Bad-clause-ends g c = λ all before at.
    let world : World = world_of c.args.world.now in
    let turn = at_false c.args.reader.now.stuck c.requires.free c.in-Line.ensures.turn in
    let is : IsLine c.args.number c.in-Line.line kinds.Bad = subst (λ (l : List ℕ). IsLine c.args.number l kinds.Bad) c.as_slice.ensures.value c.in-Bad.ensures in
    at_line c.args.reader.now.kept c.next.new.self.kept all before (g.S.Source.left c.args.source.now) (g.S.Source.left c.next.new.source) (g.K.Sink.held c.args.sink.now) (g.K.Sink.held c.refuse_bad.new.sink) c.args.number world at
    c.in-Line.line kinds.Bad c.refuse_bad.result turn is (c.refuse_bad.ensures.told world)

pub returns-in-TooMany-clause-ends : goal.returns-in-TooMany-clause-ends
returns-in-TooMany-clause-ends g c = λ all before at.
    let world : World = world_of c.args.world.now in
    let turn = at_false c.args.reader.now.stuck c.requires.free c.in-Line.ensures.turn in
    let is : IsLine c.args.number c.in-Line.line kinds.TooMany = subst (λ (l : List ℕ). IsLine c.args.number l kinds.TooMany) c.as_slice.ensures.value c.in-TooMany.ensures in
    at_line c.args.reader.now.kept c.next.new.self.kept all before (g.S.Source.left c.args.source.now) (g.S.Source.left c.next.new.source) (g.K.Sink.held c.args.sink.now) (g.K.Sink.held c.refuse_too_many.new.sink) c.args.number world at
    c.in-Line.line kinds.TooMany c.refuse_too_many.result turn is (c.refuse_too_many.ensures.told world)

pub returns-in-End-clause-ends : goal.returns-in-End-clause-ends
returns-in-End-clause-ends g c = λ all before at.
    at_end c.args.reader.now.kept c.next.new.self.kept all before (g.S.Source.left c.args.source.now) (g.S.Source.left c.next.new.source) (g.K.Sink.held c.args.sink.now) (g.K.Sink.held c.args.sink.now) c.args.number (world_of c.args.world.now) at
    (at_false c.args.reader.now.stuck c.requires.free c.in-End.ensures.turn) refl

pub returns-in-TooLong-clause-ends : goal.returns-in-TooLong-clause-ends
returns-in-TooLong-clause-ends g c = λ all before at.
    let world : World = world_of c.args.world.now in
    at_long c.args.reader.now.kept c.next.new.self.kept all before (g.S.Source.left c.args.source.now) (g.S.Source.left c.next.new.source) (g.K.Sink.held c.args.sink.now) (g.K.Sink.held c.refuse_bad-in-TooLong.new.sink) c.args.number world at
    c.refuse_bad-in-TooLong.result (at_false c.args.reader.now.stuck c.requires.free c.in-TooLong.ensures.turn) (long_is_bad c.args.number) (c.refuse_bad-in-TooLong.ensures.told world)

pub returns-in-Fault-clause-ends : goal.returns-in-Fault-clause-ends
returns-in-Fault-clause-ends g c = λ all before at.
    at_fault c.args.reader.now.kept c.next.new.self.kept all before (g.S.Source.left c.args.source.now) (g.S.Source.left c.next.new.source) (g.K.Sink.held c.args.sink.now) (g.K.Sink.held c.args.sink.now) c.args.number (world_of c.args.world.now) at
    (at_false c.args.reader.now.stuck c.requires.free c.in-Fault.ensures.turn) refl c.in-Fault.ensures.fault.1
