-- How contracts see a set in either form.
use Rattle.lr_sorted.specs.declared.sorted_set.Form.{Form}
use Rattle.lr_sorted.specs.declared.sorted_set.Form.TheVariants.{Few, Many}
use Rattle.lr_sorted.specs.declared.sorted_set.SortedSet.TheInside.{Inside}
use Rattle.lr_sorted.specs.Members.{MemberTable}

-- what is in either form
abbrev pub form_table : Form → MemberTable
form_table (Few few) = few
form_table (Many many) = many.value

abbrev pub set_inside : Inside → MemberTable
set_inside s = form_table s.form
