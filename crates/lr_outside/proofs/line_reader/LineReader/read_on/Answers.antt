use Rattle.std.proofs.Common.{◌≡◌, ℕ, List, ap, ◌∙◌, subst}
use Rattle.std.specs.Io.KnownBytes.{Keeps}
use Rattle.std.proofs.KnownBytes.{Keeps-trans}
use Rattle.lr_outside.specs.Reading.{Reading}
use Rattle.lr_outside.specs.Window.{kept_bytes}
use Rattle.lr_outside.specs.Lines.{IsTurn, ahead}
use Rattle.lr_outside.specs.KeptTurns.{IsLastTurn}
use Rattle.lr_outside.proofs.Turns.{WhereKnown-after, kept_turn, last_turn, ahead-grown}
use Rattle.lr_outside.proofs.line_reader.LineReader.read_on.Goals as goal

pub returns-in-Some-clause-turn : goal.returns-in-Some-clause-turn
returns-in-Some-clause-turn g c =
    let left = g.S.Source.left in
    let at = c.loop-self in
    let mid : Reading = record { kept = kept_bytes c.fill.new.self; stuck = c.self.inside.is_stuck } in
    let grown : Keeps (ahead (kept_bytes c.self.inside.window) (left at.source)) (ahead mid.kept (left c.fill.new.source)) = ahead-grown _ _ _ _ c.in-Got.ensures.bytes in
    let is : kept_bytes c.self.inside.window ≡ at.self.kept = ap (λ (r : Reading). r.kept) c.self.view_is in
    let before = rw is at grown in
    WhereKnown-after (λ before after. IsTurn before after c.in-Some.turn) _ _ _ (Keeps-trans _ _ _ at.invariant.same before) (kept_turn mid c.take_kept.new.self (left c.fill.new.source) c.in-Some.turn c.in-Some.ensures)

pub returns-in-End-clause-turn : goal.returns-in-End-clause-turn
returns-in-End-clause-turn g c =
    let left = g.S.Source.left in
    let at = c.loop-self in
    let mid : Reading = record { kept = kept_bytes c.fill.new.self; stuck = c.self.inside.is_stuck } in
    let with_kept : List ℕ → Reading = λ k. record { kept = k; stuck = c.self.inside.is_stuck } in
    let is : mid ≡ at.self = ap with_kept c.in-End.ensures.bytes.0 ∙ c.self.view_is in
    let Last : Reading → Type 0 = λ r. IsLastTurn r c.take_last.new.self c.take_last.result in
    let undecided = at.invariant.undecided in
    let last = last_turn at.self c.take_last.new.self (left at.source) (left c.fill.new.source) c.take_last.result undecided c.in-End.ensures.bytes.1 c.in-End.ensures.bytes.2 (subst Last is c.take_last.ensures) in
    WhereKnown-after (λ before after. IsTurn before after c.take_last.result) _ _ _ at.invariant.same last
