use Rattle.std.proofs.Common.{◌≡◌, Some, sym, ap, ◌∙◌, true≢false}
use Rattle.std.specs.Result.{result_ok}
use Rattle.uuid.specs.Text.{parsed}
use Rattle.uuid.proofs.RoundTrips.{parse_gives}
use Rattle.lr_names.proofs.OwnerLaws.{parsed-id_text}
use Rattle.lr_names.proofs.id.read_id.Goals as goal

pub returns-in_err-id-clause-none : goal.returns-in_err-id-clause-none
returns-in_err-id-clause-none c = λ _ id h is.
    let parse = c.try_parse_ascii in
    let gives = parse_gives parse.result c.args.text.now id parse.ensures.ok parse.ensures.bytes (parsed-id_text id h ∙ ap parsed (sym is)) in
    let some : c.ok.result ≡ Some id = c.ok.ensures.value ∙ ap result_ok gives in
    let none = c.in_err-id.was in
    cc

pub returns-then-not-is_written-clause-none : goal.returns-then-not-is_written-clause-none
returns-then-not-is_written-clause-none c = λ _ id h is.
    let parse = c.try_parse_ascii in
    let gives = parse_gives parse.result c.args.text.now id parse.ensures.ok parse.ensures.bytes (parsed-id_text id h ∙ ap parsed (sym is)) in
    let some : c.ok.result ≡ Some id = c.ok.ensures.value ∙ ap result_ok gives in
    let was = c.in_ok-id.was in
    let same : c.in_ok-id.id ≡ id = cc in
    true≢false (sym (c.is_written.ensures.1 (rw same is)) ∙ c.if-not-is_written.true)
