use Rattle.std.proofs.Common.{ℕ, List, sym, ap, subst, arith}
use Rattle.std.specs.List.{IsDistinct}
use Rattle.std.specs.Str.{bytes_eq}
use Rattle.std.proofs.lemmas.Cmp.{nat_list_eq_equiv}
use Rattle.indexmap.specs.IndexMap.{with_value_at, index_map_len}
use Rattle.indexmap.proofs.CallerLemmas.{keys-with_value_at, index_map_len-with_value_at, updates-with_value_at}
use Rattle.lr_sorted.specs.Sorted.{IsPut}
use Rattle.lr_sorted.proofs.EntryLaws.{write-others, at-position}
use Rattle.lr_sorted.proofs.SortedLaws.{put-is}
use Rattle.lr_sorted.proofs.scores.put_score.Goals as goal

pub returns-clause-within : goal.returns-clause-within
returns-clause-within c =
    let long = ap index_map_len c.write_score.ensures in
    let same = index_map_len-with_value_at c.args.scores.now c.in-Some.place c.args.score in
    omega (arith, c.in-Some.ensures.within)

pub returns-clause-len : goal.returns-clause-len
returns-clause-len c =
    let long = ap index_map_len c.write_score.ensures in
    let same = index_map_len-with_value_at c.args.scores.now c.in-Some.place c.args.score in
    omega arith

pub returns-clause-put : goal.returns-clause-put
returns-clause-put c =
    let old = c.args.scores.now in
    let place = c.in-Some.place in
    let member = c.args.member.now in
    let score = c.args.score in
    let at = at-position member old.entries place (sym c.in-Some.ensures.index) in
    let unique = c.in-Some.ensures.unique in
    let updates = updates-with_value_at old place score nat_list_eq_equiv unique member at.0 at.1 in
    let distinct = subst (λ (ks : List (List ℕ)). IsDistinct bytes_eq ks) (sym (keys-with_value_at old place score)) unique in
    let put : IsPut member score place old.entries (with_value_at old place score).entries =
    put-is old.entries (with_value_at old place score).entries member score place unique distinct
    (λ q. updates.0 q) (λ j apart. write-others old.entries place j score apart) in
    rw c.write_score.ensures put
