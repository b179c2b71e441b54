use Rattle.std.proofs.Common.{sym, ap, ◌∙◌}
use Rattle.lr_model.specs.Fair.{live_places, without_place}
use Rattle.lr_fair.specs.Step.{IsStale}
use Rattle.lr_fair.proofs.StaleLaws.{live-without}
use Rattle.lr_fair.proofs.stale.remove_stale.Goals as goal

pub stale-preserved : goal.stale-preserved
stale-preserved c =
    let before = c.stale.invariant in
    record {
      live = λ queue at.
          let now = before.live queue at in
          let gone : IsStale c.stale.keys.moment now.queue c.in-Some.text =
          c.in-Some.ensures.some now.queue now.at in
          let owner = gone.place.owner in
          record {
            queue = without_place owner now.queue;
            at = c.remove.ensures.removed now.queue owner now.at gone.owner gone.text_is;
            live_is =
                ap (λ m. live_places m (without_place owner now.queue)) (sym before.moment)
                ∙ live-without c.stale.keys.moment owner gone.place now.queue now.at.are gone.found
                gone.gone
                ∙ ap (λ m. live_places m now.queue) before.moment ∙ now.live_is;
          };
      others = λ q one two. c.remove.ensures.others q one two ∙ before.others q one two;
      moment = c.remove.ensures.moment ∙ before.moment;
      prepared = c.remove.ensures.prepared ∙ before.prepared;
    }
