use Rattle.std.proofs.Common.{ℕ, List, ap, ◌∙◌}
use Rattle.lr_limits.specs.Limits.{watchdog_lease}
use Rattle.lr_waiting.specs.Session.{first_session}
use Rattle.lr_clients.proofs.client.ClientState.new.Goals as goal

pub returns : goal.returns
returns c =
    let session = c.new.ensures
    ∙ ap (λ (id : List ℕ). first_session id watchdog_lease) c.client_id.ensures in
    λ i. record {
      session = session i;
      replies = c.in_ok-new.ensures i;
      renewed = c.new-3.ensures i;
    }
