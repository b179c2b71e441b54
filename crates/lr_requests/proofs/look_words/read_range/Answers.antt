use Rattle.std.proofs.Common.{◌≡◌, ℕ, ℤ, List, [], ◌∷◌, w64, to_z, of_z, sym, ap, ◌∙◌, rules}
use Rattle.std.specs.Fmt.{signed_decimal}
use Rattle.lr_frames.specs.Words.{word_at}
use Rattle.lr_requests.proofs.ListLaws.{list_of_three}
use Rattle.lr_requests.specs.Look.{range_look}
use Rattle.lr_requests.proofs.look_words.read_range.Goals as goal

pub returns-clause-look : goal.returns-clause-look
returns-clause-look c =
    let words = c.args.arguments.now in
    let start = c.in_ok-start in
    let stop = c.in_ok-stop in
    let first = sym c.word.ensures ∙ start.ensures.text in
    let last = sym c.word-2.ensures ∙ stop.ensures.text in
    let key = c.in_ok-key.ensures.text ∙ c.word-3.ensures in
    let begins : to_z w64 (of_z w64 start.start) ≡ start.start = search rules in
    let ends : to_z w64 (of_z w64 stop.stop) ≡ stop.stop = search rules in (
      word_at words 0,
      start.start,
      stop.stop,
      start.ensures.place,
      stop.ensures.place,
      list_of_three words c.requires
          ∙ ap (λ (w : List ℕ). word_at words 0 ∷ w ∷ word_at words 2 ∷ []) first
          ∙ ap (λ (w : List ℕ). word_at words 0 ∷ signed_decimal start.start ∷ w ∷ []) last,
      c.look.ensures
          ∙ ap (λ (z : ℤ). range_look c.args.command c.in_ok-key.key z (to_z w64 (of_z w64 stop.stop))) begins
          ∙ ap (λ (z : ℤ). range_look c.args.command c.in_ok-key.key start.start z) ends
          ∙ ap (λ (k : List ℕ). range_look c.args.command k start.start stop.stop) key,
    )
