use Rattle.std.proofs.Common.{◌≡◌, ap, subst, ◌∙◌}
use Rattle.lr_keys.specs.KeySpace.{entry_at}
use Rattle.lr_expirable.specs.Leases.{members_entry}
use Rattle.lr_expirable.specs.Step.{IsFirstGone, live_members}
use Rattle.lr_expirable.proofs.ChangeLemmas.{has-live-still, live-left}
use Rattle.lr_expirable.proofs.expired.remove_expired.Goals as goal

pub expired-preserved : goal.expired-preserved
expired-preserved c =
    let key = c.args.key.now in
    let before = c.expired.invariant in
    record {
      live = λ members order stands.
          let has = before.live members order stands in
          let gone : IsFirstGone c.expired.keys.moment has.left c.in-Some.member =
          c.in-Some.ensures.some has.left has.stands in
          has-live-still (entry_at c.expired.keys key) (entry_at c.drop_first.new.keys key)
          c.args.keys.now.moment members c.in-Some.member has
          c.expired.keys.moment before.moment gone
          (c.drop_first.ensures.dropped gone.deadline gone.rest (has.stands
          ∙ ap members_entry gone.first));
      others = λ q apart. c.drop_first.ensures.others q apart ∙ before.others q apart;
      moment = c.drop_first.ensures.moment ∙ before.moment;
      prepared = c.drop_first.ensures.prepared ∙ before.prepared;
    }

pub returns-clause-live : goal.returns-clause-live
returns-clause-live c = λ leases at.
    let key = c.args.key.now in
    let at_end = c.expired.invariant in
    live-left (entry_at c.args.keys.now key) (entry_at c.expired.keys key) c.args.keys.now.moment
    leases at at_end.live (λ members stands order.
    subst (λ m. live_members m members ≡ members) at_end.moment
    (c.expired-in-expired.ensures.none c.in_default.is members stands order))
