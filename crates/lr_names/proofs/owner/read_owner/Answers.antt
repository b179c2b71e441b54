use Rattle.std.proofs.Common.{refl, sym, ◌∙◌, decimal}
use Rattle.lr_text.proofs.WordLaws.{cut-injective}
use Rattle.lr_names.specs.Owner.{id_text}
use Rattle.lr_names.proofs.OwnerLaws.{id_text-lacks}
use Rattle.lr_names.proofs.owner.read_owner.Goals as goal

pub returns-in_err-read_id-clause-bad : goal.returns-in_err-read_id-clause-bad
returns-in_err-read_id-clause-bad c = λ _ owner h is.
    let cut = c.in_ok-id in
    let parts = cut-injective 58 cut.id.now (id_text owner.client) cut.thread.now (decimal owner.thread) cut.ensures.first (id_text-lacks 58 owner.client refl) (sym cut.ensures.some ∙ is) in
    c.in_err-read_id.ensures.none refl owner.client h.client parts.0

pub returns-in_err-read_thread-clause-bad : goal.returns-in_err-read_thread-clause-bad
returns-in_err-read_thread-clause-bad c = λ _ owner h is.
    let cut = c.in_ok-id in
    let parts = cut-injective 58 cut.id.now (id_text owner.client) cut.thread.now (decimal owner.thread) cut.ensures.first (id_text-lacks 58 owner.client refl) (sym cut.ensures.some ∙ is) in
    c.in_err-read_thread.ensures.none refl owner.thread h.thread parts.1
