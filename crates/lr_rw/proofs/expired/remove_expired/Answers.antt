use Rattle.std.proofs.Common.{sym, ap, ◌∙◌}
use Rattle.lr_model.specs.ReadWrite.{live_holds, without_hold}
use Rattle.lr_rw.specs.Step.{IsExpired}
use Rattle.lr_rw.proofs.EndLaws.{live-without}
use Rattle.lr_rw.proofs.expired.remove_expired.Goals as goal

pub expired-preserved : goal.expired-preserved
expired-preserved c =
    let lock = c.args.lock.now in
    let before = c.expired.invariant in
    record {
      live = λ holds at.
          let now = before.live holds at in
          let gone : IsExpired c.expired.keys.moment now.lock c.in-Some.member =
          c.in-Some.ensures.some now.lock now.at in
          record {
            lock = without_hold gone.hold.owner gone.hold.access now.lock;
            at =
                c.remove.ensures.removed now.lock gone.hold.owner gone.hold.access gone.hold now.at
                gone.owner gone.text gone.found;
            live_is =
                ap (λ m. live_holds m (without_hold gone.hold.owner gone.hold.access now.lock))
                (sym before.moment)
                ∙ live-without c.expired.keys.moment gone.hold.owner gone.hold.access gone.hold
                now.lock gone.found gone.gone
                ∙ ap (λ m. live_holds m now.lock) before.moment ∙ now.live_is;
          };
      others = λ q one two. c.remove.ensures.others q one two ∙ before.others q one two;
      moment = c.remove.ensures.moment ∙ before.moment;
      prepared = c.remove.ensures.prepared ∙ before.prepared;
    }
