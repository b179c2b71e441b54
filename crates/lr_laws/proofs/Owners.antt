-- Owners that are alike are one.
use Rattle.std.proofs.Common.{◌≡◌, ◌==◌, Decides, ap}
use Rattle.std.specs.Str.{bytes_eq}
use Rattle.std.proofs.lemmas.Slice.Eq.{bytes_eq-Decides}
use Rattle.std.proofs.lemmas.Bool.Decides.{Decides-and, Decides-eqb, Decides-like}
use Rattle.lr_names.specs.Owner.{ThreadOfClient, same_owner}

pub same_owner-Decides : (a b : ThreadOfClient) → Decides (same_owner a b) (a ≡ b)
same_owner-Decides a b =
    Decides-like (same_owner a b)
    (λ parts. λ i. record { client = parts.0 i; thread = parts.1 i })
    (λ e. (ap (λ (o : ThreadOfClient). o.client) e, ap (λ (o : ThreadOfClient). o.thread) e))
    (Decides-and (bytes_eq a.client b.client) (a.thread == b.thread)
    (bytes_eq-Decides a.client b.client) (Decides-eqb a.thread b.thread))
