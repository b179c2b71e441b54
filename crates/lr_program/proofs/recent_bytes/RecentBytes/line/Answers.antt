-- the piece that is found is the line
use Rattle.std.proofs.Common.{◌≡◌, ◌∙◌, ◌<◌, ℕ, ◌-◌, List, ap, inr, arith, slice_get}
use Rattle.std.specs.Prelude.{Some}
use Rattle.std.specs.Option.{option_copied}
use Rattle.lr_program.specs.Recent.{Recent, pieces_of}
use Rattle.lr_program.proofs.RecentLaws.{IsRecentOf-line, found_in, past_end}
use Rattle.lr_program.proofs.recent_bytes.RecentBytes.line.Goals as goal

-- what was found, in the words of the value
found : (c : goal.After-piece_at) → option_copied c.piece_at.result
    ≡ slice_get (pieces_of c.args.self.now.bytes) (c.args.number - c.args.self.now.passed)
found c =
    let old = c.args.self.now in
    let place = c.args.number - c.self.inside.passed in
    let passed : c.self.inside.passed ≡ old.passed = ap (λ (r : Recent). r.passed) c.self.view_is in
    c.piece_at.ensures ∙ ap (λ (l : List ℕ). slice_get (pieces_of l) place) c.kept.ensures.bytes
    ∙ ap (λ n. slice_get (pieces_of old.bytes) (c.args.number - n)) passed

pub returns-clause-right : goal.returns-clause-right
returns-clause-right c text is =
    let old = c.args.self.now in
    let number = c.args.number in
    let passed : c.self.inside.passed ≡ old.passed = ap (λ (r : Recent). r.passed) c.self.view_is in
    let later : old.passed < number = omega arith in
    let Is : List ℕ → Type 0 = λ line. slice_get (pieces_of text) (number - 1) ≡ Some line in
    found_in c.piece_at.result _ Is (found c)
    (λ line here. IsRecentOf-line text old number line is later (omega arith) here)

pub returns-clause-none : goal.returns-clause-none
returns-clause-none c none =
    let old = c.args.self.now in
    let place = c.args.number - old.passed in
    inr (past_end c.piece_at.result (pieces_of old.bytes) place (found c) none)
