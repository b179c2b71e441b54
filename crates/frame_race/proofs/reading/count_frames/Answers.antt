use Rattle.std.proofs.Common.{◌≡◌, ◌+◌, ◌++◌, ◌∙◌, List, ℕ, [], drop, arith, ap, sym, refl, subst}
use Rattle.std.proofs.lemmas.List.{take-append-drop}
use Rattle.lr_resp.specs.Scan.{start}
use Rattle.lr_resp.specs.Spelled.{spelled}
use Rattle.lr_resp.specs.Stream.{Stream, Reading, Part, Whole, Broken, begun, read}
use Rattle.lr_resp.specs.Turns.{IsOver}
use Rattle.lr_resp.proofs.Reached.{is_empty, part_here, reached_start, spelled_start}
use Rattle.frame_race.specs.Counted.{BeginsWith}
use Rattle.frame_race.proofs.Counts.{counts_at_most, none_yet, fed_more, at_end}
use Rattle.frame_race.proofs.reading.count_frames.Goals as goal

abbrev whole_bit : Reading → ℕ
whole_bit (Whole frame rest) = 1
whole_bit Part = 0
whole_bit (Broken place cause) = 0

nothing : read [] ≡ Part
nothing =
    let all : spelled start ++ [] ≡ [] = ap (λ (l : List ℕ). l ++ []) spelled_start in
    part_here 0 start [] [] (record { reached = reached_start; all = all }) refl

nothing_yet : IsOver begun
nothing_yet frame rest e =
    let f : Part ≡ Whole frame rest = sym nothing ∙ e in
    omega (arith, ap whole_bit f)

pub loop-rest-init : goal.loop-rest-init
loop-rest-init c =
    let P : Stream → Type 0 = λ s. BeginsWith 0 c.args.stream.now (s.unread ++ c.args.stream.now) in
    record {
      begins = subst P (sym c.new-decoder.ensures) (none_yet c.args.stream.now);
      over = subst IsOver (sym c.new-decoder.ensures) nothing_yet;
    }

-- after the next piece
begins : (c : goal.In_ok-count)
    → BeginsWith (c.loop-rest.count + c.in_ok-count.field-0) c.args.stream.now
    (c.take_frames.new.decoder.unread ++ c.split_at.result.1.now)
begins c =
    let rest = c.loop-rest.rest.now in
    let parts = sym (take-append-drop c.min.result rest)
    ∙ ap (λ (l : List ℕ). l ++ drop c.min.result rest) (sym c.split_at.ensures.front)
    ∙ ap (λ (l : List ℕ). c.split_at.result.0.now ++ l) (sym c.split_at.ensures.back) in
    fed_more c.loop-rest.count c.in_ok-count.field-0 c.args.stream.now
    c.loop-rest.decoder.unread rest c.split_at.result.0.now
    c.split_at.result.1.now c.feed.new.self.unread c.take_frames.new.decoder.unread
    c.loop-rest.invariant.begins parts c.in_ok-feed.ensures.unread c.in_ok-count.ensures.frames

pub overflow_add-count : goal.overflow_add-count
overflow_add-count c =
    omega (
      arith,
      counts_at_most (c.loop-rest.count + c.in_ok-count.field-0) c.args.stream.now
          (c.take_frames.new.decoder.unread ++ c.split_at.result.1.now) (begins c),
    )

pub loop-rest-preserved : goal.loop-rest-preserved
loop-rest-preserved c = record { begins = begins c; over = c.in_ok-count.ensures.over }

pub returns : goal.returns
returns c =
    let none =
    is_empty c.is_empty.result c.loop-rest.rest.now c.is_empty.ensures c.loop-rest-test.false in (
      c.loop-rest.decoder.unread,
      at_end c.loop-rest.count c.args.stream.now c.loop-rest.decoder.unread c.loop-rest.rest.now
          c.loop-rest.invariant.begins none,
      c.loop-rest.invariant.over,
    )
