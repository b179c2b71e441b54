use Rattle.lr_keys.specs.declared.key_space.KeySpace.TheInside.{Inside}
use Rattle.lr_keys.proofs.SlotLemmas.{entry_at-empty, plan_at-empty}
use Rattle.lr_keys.proofs.key_space.KeySpace.new.Goals as goal

-- the fields of the new key space
abbrev made : goal.In_ok-with_capacity → Inside
made c = record {
  moment = 0;
  slots = c.new.result;
  expiries = c.new-2.result;
  spares = c.in_ok-with_capacity.field-0;
}

pub returns-clause-none : goal.returns-clause-none
returns-clause-none c = entry_at-empty (made c) c.new.ensures.empty

pub returns-clause-unprepared : goal.returns-clause-unprepared
returns-clause-unprepared c = plan_at-empty (made c) c.in_ok-with_capacity.ensures.empty
