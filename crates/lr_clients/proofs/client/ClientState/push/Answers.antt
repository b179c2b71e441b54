use Rattle.std.proofs.Common.{◌≡◌, IfOk, ap, sym, ◌∙◌, subst}
use Rattle.lr_machine.specs.Shown.{shown_item}
use Rattle.lr_session.specs.declared.pushes.Pushed.{Pushed}
use Rattle.lr_session.specs.Pushed.{pushed_by}
use Rattle.lr_session.specs.Value.{session_of}
use Rattle.lr_clients.specs.Client.{ClientValue}
use Rattle.lr_clients.specs.Items.{AreFew, shown_pushed}
use Rattle.lr_clients.proofs.Steps.{few-pushed, shown-pushed}
use Rattle.lr_clients.proofs.client.ClientState.push.Goals as goal

pub shown_pushed-requires : goal.shown_pushed-requires
shown_pushed-requires c =
    let told : c.unwrap.result ≡ pushed_by c.args.item.now (session_of c.self.inside.session) =
    subst (λ r. IfOk r (λ (t : Pushed). t
    ≡ pushed_by c.args.item.now (session_of c.self.inside.session))) c.unwrap.ensures
    c.push.ensures.told in
    subst AreFew (sym told) (few-pushed c.args.item.now (session_of c.self.inside.session))

pub returns-clause-shown : goal.returns-clause-shown
returns-clause-shown c =
    let told : c.unwrap.result ≡ pushed_by c.args.item.now (session_of c.self.inside.session) =
    subst (λ r. IfOk r (λ (t : Pushed). t
    ≡ pushed_by c.args.item.now (session_of c.self.inside.session))) c.unwrap.ensures
    c.push.ensures.told in
    c.shown_pushed.ensures ∙ ap shown_pushed told
    ∙ shown-pushed c.args.item.now (session_of c.self.inside.session)
    ∙ ap (λ (v : ClientValue). shown_item (session_of v.session) c.args.item.now) c.self.view_is
