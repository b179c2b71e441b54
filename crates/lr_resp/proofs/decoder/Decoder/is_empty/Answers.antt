use Rattle.std.proofs.Common.{arith, sym, ◌∙◌, ◌≡◌, ◌++◌, [], length, ap}
use Rattle.std.proofs.lemmas.Bool.{eqb-true}
use Rattle.std.proofs.lemmas.List.{length-append}
use Rattle.lr_resp.specs.Spelled.{spelled}
use Rattle.lr_resp.specs.Stream.{Stream}
use Rattle.lr_resp.proofs.decoder.Decoder.is_empty.Goals as goal

pub returns-else-self-eq0 : goal.returns-else-self-eq0
returns-else-self-eq0 c =
    let size = c.self.inside.place.size in
    let taken = spelled c.self.inside.scanner in
    let behind = c.self.inside.unread.items in
    let lengths : length (taken ++ behind) ≡ length c.args.self.now.unread =
    ap (λ (s : Stream). length s.unread) c.self.view_is in (
      λ zero. absurd (c.if-self-eq0.false (eqb-true size 0 zero)),
      λ none. absurd (c.if-self-eq0.false (
          let empty : length c.args.self.now.unread ≡ 0 = ap length none in
          omega (arith, c.self.invariant.counted, lengths, empty, length-append taken behind))),
    )
