use Rattle.std.proofs.Common.{◌≡◌, ◌++◌, [], ◌∷◌, length, Some, All, ap, ◌∙◌, arith}
use Rattle.std.proofs.lemmas.List.Elements.{All-push, All-pop, All-same}
use Rattle.lr_history.specs.Segments.{IsFull}
use Rattle.lr_history.proofs.SegmentLemmas.{entries_of-opened}
use Rattle.lr_history.proofs.history.History.append.Goals as goal

-- the segments that still stand ready are empty, and so is the one that is taken
are_empty : (c : goal.After-push_reserved)
    → All (λ segment. segment ≡ []) c.pop.new.self.items × (c.in-Some.next ≡ [])
are_empty c =
    let ready = c.self.inside.ready.items in
    let next = Some c.in-Some.next in
    All-pop (λ segment. segment ≡ []) ready c.pop.new.self.items next c.in-Some.ensures.items
    c.self.invariant.empty

-- the new last segment holds the entry alone
last_is_entry : (c : goal.After-push_reserved) → c.replace-full.new.dest ≡ c.args.entry ∷ []
last_is_entry c =
    c.replace-full.ensures.after
    ∙ c.push-2.ensures
    ∙ ap (λ segment. segment ++ c.args.entry ∷ []) (are_empty c).1

-- the one that was the last is now the last of the full ones
full_are : (c : goal.After-push_reserved)
    → c.push_reserved.new.self.items ≡ c.self.inside.full.items ++ c.self.inside.last ∷ []
full_are c =
    c.push_reserved.ensures.items
    ∙ ap (λ segment. c.self.inside.full.items ++ segment ∷ []) c.replace-full.ensures.value

pub invariant_of-self-2 : goal.invariant_of-self-2
invariant_of-self-2 c =
    let full = c.self.inside.full.items in
    let last = c.self.inside.last in
    let filled : length last ≡ 1024 = omega arith in
    record {
      filled = All-same IsFull _ _ (full_are c)
          (All-push IsFull full last c.self.invariant.filled filled);
      fits = omega (arith, ap length (last_is_entry c));
      empty = (are_empty c).0;
      room = omega (arith, c.in-Some.ensures.cases);
      bounded = omega (arith, c.in-Some.ensures.cases);
    }

pub returns-clause-entries : goal.returns-clause-entries
returns-clause-entries c =
    rw (last_is_entry c, full_are c, ← c.self.view_is)
    (entries_of-opened c.self.inside.full.items c.self.inside.last c.args.entry)
