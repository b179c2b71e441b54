-- What sets hold, and how contracts see them.
use Rattle.std.specs.Prelude.{◌≡◌, ◌-◌, ◌≤◌, true, false, length, min, vec_len, vec_capacity}
use Rattle.indexmap.specs.IndexMap.{index_map_len, spare}
use Rattle.lr_sorted.specs.declared.few.FewMembers.TheInside.{Inside as Few}
use Rattle.lr_sorted.specs.declared.many.ManyMembers.TheInside.{Inside as Many}
use Rattle.lr_sorted.specs.declared.limits.TheConstants.{FEW_MEMBERS, MOST_PLACES}
use Rattle.lr_sorted.specs.Members.{MemberTable, is_in_order}
use Rattle.lr_sorted.specs.Sorted.{sorted}
use Rattle.lr_sorted.specs.Tournament.{IsTournament}

-- a few members, and how many more fit
abbrev pub few_inside : Few → MemberTable
few_inside f = record {
  members = f.members.items;
  room = min (vec_capacity f.members - vec_len f.members) (FEW_MEMBERS - vec_len f.members);
}

-- they are few, and in order
pub record IsFew (f : Few) : Type 0 where
  pub order : is_in_order f.members.items ≡ true
  pub few : vec_len f.members ≤ FEW_MEMBERS

-- many members in order, and how many more fit
abbrev pub many_inside : Many → MemberTable
many_inside m = record {
  members = sorted m.scores.entries;
  room =
      let places = min (length m.least.items) (length m.greatest.items) in
      min (spare m.scores) (places - index_map_len m.scores);
}

-- the tournaments are of the members, and have places for all
pub record IsMany (m : Many) : Type 0 where
  pub least : IsTournament false m.scores.entries m.least.items
  pub greatest : IsTournament true m.scores.entries m.greatest.items
  pub least_room : index_map_len m.scores ≤ length m.least.items
  pub greatest_room : index_map_len m.scores ≤ length m.greatest.items
  pub least_some : 1 ≤ length m.least.items
  pub greatest_some : 1 ≤ length m.greatest.items
  pub least_few : length m.least.items ≤ MOST_PLACES
  pub greatest_few : length m.greatest.items ≤ MOST_PLACES
