use Rattle.std.proofs.Common.{◌≡◌, ◌++◌, ◌+◌, ◌-◌, ◌%◌, ◌^◌, ◌∙◌, ◌≤◌, length, drop, take, List, ℕ, arith, ap, subst, sym, refl}
use Rattle.std.proofs.lemmas.List.{length-take-le}
use Rattle.lr_resp.specs.declared.decoder.Decoded.{Decoded}
use Rattle.lr_resp.specs.Limits.{frame_limit}
use Rattle.lr_resp.specs.Spelled.{spelled}
use Rattle.lr_resp.specs.Scan.{State}
use Rattle.lr_resp.specs.Stream.{IsReached, Whole}
use Rattle.lr_resp.specs.Next.{NextIs}
use Rattle.lr_resp.proofs.Bulk.{body_here}
use Rattle.lr_resp.proofs.Reached.{stands-named, reached_start, spelled_start, stream_is, not_empty, is_empty, stands_at, long_here, part_here, fails_here, ends_here, goes_here, size_here, on_of, whole_of, broken_of}
use Rattle.lr_resp.proofs.decoder.Decoder.next.Goals as goal

pub returns-then-self-eq-FRAME_BYTES-clause-ok : goal.returns-then-self-eq-FRAME_BYTES-clause-ok
returns-then-self-eq-FRAME_BYTES-clause-ok c =
    let i = c.loop-self.self-inside in
    let inv = c.loop-self.invariant in
    let some =
    not_empty c.is_empty.result i.unread.items c.is_empty.ensures c.loop-self-test.true in
    let stands = stands_at i.place.size i.scanner i.scanner _ 0 i.unread.items i.unread.items
    c.args.self.now.unread refl refl some refl inv.stands in
    let found =
    long_here i.place.size i.scanner _ (drop 1 i.unread.items) c.args.self.now.unread stands
    c.if-self-eq-FRAME_BYTES.true in
    let P : Decoded → Type 0 = λ decoded. NextIs decoded c.args.self.now
    (record { past = i.place.start; unread = spelled i.scanner ++ i.unread.items }) in
    subst P (sym c.fault.ensures) (
      i.place.size,
      found,
      ap (λ (p : ℕ). (p + i.place.size) % 2 ^ 64) inv.past,
      stream_is c.args.self.now i.place.start _ inv.past inv.stands.all,
    )

pub loop-self-preserved-then-taken-gt0 : goal.loop-self-preserved-then-taken-gt0
loop-self-preserved-then-taken-gt0 c =
    let i = c.loop-self.self-inside in
    let inv = c.loop-self.invariant in
    let k = c.in_ok-taken.taken in
    let room = c.room-room.result in
    let part = take room c.as_slice.result.now in
    let is : part ≡ take room i.unread.items = ap (take room) c.as_slice.ensures in
    let within : k ≤ length part = c.in_ok-taken.ensures.count in
    let bound : i.place.size + k ≤ frame_limit =
    omega (
      arith,
      within,
      length-take-le room c.as_slice.result.now,
      c.room-room.ensures.within,
      c.room-room.ensures.ahead,
      c.len.ensures.value,
      ap length c.as_slice.ensures,
    ) in
    let stands = body_here i.place.size k i.scanner c.take_body.new.self i.unread.items part room
    c.args.self.now.unread inv.stands is within c.in_ok-taken.ensures.some c.if-taken-gt0.true
    bound in
    record {
      stands = stands-named (i.place.size + k) c.take.new.self.size c.take_body.new.self _ _
          c.args.self.now.unread c.take.ensures.size c.advance.ensures.items stands;
      past = c.take.ensures.start ∙ inv.past;
    }

pub loop-self-preserved : goal.loop-self-preserved
loop-self-preserved c =
    let i = c.loop-self.self-inside in
    let inv = c.loop-self.invariant in
    let same : c.take_body.new.self ≡ i.scanner = c.in_ok-taken.ensures.none (omega arith) in
    let some =
    not_empty c.is_empty.result i.unread.items c.is_empty.ensures c.loop-self-test.true in
    let on = on_of _ _ _ _ c.in-GoesOn.is c.in_ok-step.ensures.ok in
    let stands = stands_at i.place.size i.scanner c.take_body.new.self _ 0 i.unread.items
    c.as_slice-in-loop-self.result.now c.args.self.now.unread same
    c.as_slice-in-loop-self.ensures some refl inv.stands in
    let goes = goes_here i.place.size c.take_body.new.self c.step.new.self _ (drop 1 i.unread.items)
    c.args.self.now.unread stands c.if-self-eq-FRAME_BYTES.false on in
    record {
      stands = stands-named (i.place.size + 1) c.take-in-GoesOn.new.self.size c.step.new.self _ _
          c.args.self.now.unread c.take-in-GoesOn.ensures.size c.advance-in-GoesOn.ensures.items
          goes;
      past = c.take-in-GoesOn.ensures.start ∙ inv.past;
    }

pub invariant_of-self-in-Whole : goal.invariant_of-self-in-Whole
invariant_of-self-in-Whole c =
    let whole = whole_of _ _ _ _ c.in-Whole.frame c.in-Whole.is c.in_ok-step.ensures.ok in
    subst (λ (n : ℕ). IsReached n c.step.new.self) (sym c.end_frame.ensures.size)
    (subst (λ (s : State). IsReached 0 s) (sym whole.1) reached_start)

pub returns-in-Whole-clause-ok : goal.returns-in-Whole-clause-ok
returns-in-Whole-clause-ok c =
    let i = c.loop-self.self-inside in
    let inv = c.loop-self.invariant in
    let same : c.take_body.new.self ≡ i.scanner = c.in_ok-taken.ensures.none (omega arith) in
    let some =
    not_empty c.is_empty.result i.unread.items c.is_empty.ensures c.loop-self-test.true in
    let whole = whole_of _ _ _ _ c.in-Whole.frame c.in-Whole.is c.in_ok-step.ensures.ok in
    let rest = drop 1 i.unread.items in
    let unread = c.args.self.now.unread in
    let stands = stands_at i.place.size i.scanner c.take_body.new.self _ 0 i.unread.items
    c.as_slice-in-loop-self.result.now unread same c.as_slice-in-loop-self.ensures some refl
    inv.stands in
    let found = ends_here i.place.size c.take_body.new.self _ rest unread c.in-Whole.frame stands
    c.if-self-eq-FRAME_BYTES.false whole.0 in
    let size = size_here i.place.size c.take_body.new.self _ rest unread stands in
    let left : spelled c.step.new.self ++ c.advance-in-Whole.new.self.items ≡ rest =
    ap (λ (s : State). spelled s ++ c.advance-in-Whole.new.self.items) whole.1
    ∙ ap (λ (l : List ℕ). l ++ c.advance-in-Whole.new.self.items) spelled_start
    ∙ c.advance-in-Whole.ensures.items in (
      found ∙ ap (Whole c.in-Whole.frame) (sym left),
      c.end_frame.ensures.start ∙ ap (λ (p : ℕ). (p + (i.place.size + 1)) % 2 ^ 64) inv.past
          ∙ ap (λ (k : ℕ). (c.args.self.now.past + k) % 2 ^ 64) (sym size)
          ∙ ap (λ (l : List ℕ). (c.args.self.now.past + (length unread - length l)) % 2 ^ 64)
          (sym left),
    )

pub returns-in-Broken-clause-ok : goal.returns-in-Broken-clause-ok
returns-in-Broken-clause-ok c =
    let i = c.loop-self.self-inside in
    let inv = c.loop-self.invariant in
    let same : c.take_body.new.self ≡ i.scanner = c.in_ok-taken.ensures.none (omega arith) in
    let some =
    not_empty c.is_empty.result i.unread.items c.is_empty.ensures c.loop-self-test.true in
    let broken = broken_of _ _ _ _ c.in-Broken.cause c.in-Broken.is c.in_ok-step.ensures.ok in
    let unread = c.args.self.now.unread in
    let stands = stands_at i.place.size i.scanner c.take_body.new.self _ 0 i.unread.items
    c.as_slice-in-loop-self.result.now unread same c.as_slice-in-loop-self.ensures some refl
    inv.stands in
    let found = fails_here i.place.size c.take_body.new.self _ (drop 1 i.unread.items) unread
    c.in-Broken.cause stands c.if-self-eq-FRAME_BYTES.false broken.0 in
    let all : spelled c.step.new.self ++ i.unread.items ≡ unread =
    ap (λ (s : State). spelled s ++ i.unread.items) (broken.1 ∙ same) ∙ inv.stands.all in
    let P : Decoded → Type 0 = λ decoded. NextIs decoded c.args.self.now
    (record { past = i.place.start; unread = spelled c.step.new.self ++ i.unread.items }) in
    subst P (sym c.fault-in-Broken.ensures) (
      i.place.size,
      found,
      ap (λ (p : ℕ). (p + i.place.size) % 2 ^ 64) inv.past,
      stream_is c.args.self.now i.place.start _ inv.past all,
    )

pub returns-clause-ok : goal.returns-clause-ok
returns-clause-ok c =
    let i = c.loop-self.self-inside in
    let inv = c.loop-self.invariant in
    let none =
    is_empty c.is_empty.result i.unread.items c.is_empty.ensures c.loop-self-test.false in (
      part_here i.place.size i.scanner i.unread.items c.args.self.now.unread inv.stands none,
      stream_is c.args.self.now i.place.start _ inv.past inv.stands.all,
    )
