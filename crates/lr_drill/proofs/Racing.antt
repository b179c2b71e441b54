-- What is known of the calls of a race's threads, and of the history that they made.
use Rattle.std.proofs.Common.{◌≡◌, ◌≢◌, ℕ, ◌+◌, ◌^◌, ◌<◌, ◌≤◌, ◌==◌, cond, Bool, true, false, if◌then◌else◌, List, [], ◌∷◌, ◌++◌, length, Option, Some, None, refl, sym, ap, ◌∙◌, subst, arith, get_or, length-append}
use Rattle.std.specs.Prelude.{Result, Ok, min, ◌↔◌, IsTrue}
use Rattle.std.specs.Bool.{OnTrue}
use Rattle.std.specs.List.{All}
use Rattle.std.proofs.Math.Nat.{le-max_right, min-eq_left}
use Rattle.std.proofs.Math.Seq.{get_or-append_seam}
use Rattle.std.proofs.lemmas.List.{get_or_append_left}
use Rattle.std.proofs.lemmas.List.Elements.{All-head, All-tail, All-cons}
use mathlib.Core.Logic.{dite}
use native.Mathlib.Decide.{ℕ_discrete}
use Rattle.lr_limits.specs.Limits.{last_moment}
use Rattle.lr_model.specs.declared.entry.Act.TheVariants as acts
use Rattle.lr_model.specs.declared.entry.Entry.{Entry}
use Rattle.lr_objects.specs.declared.op.Op.{Op}
use Rattle.lr_model.specs.History.{State, IsLegal, state_at_start}
use Rattle.lr_model.specs.Moment.{later}
use Rattle.lr_server.specs.declared.answered.Answer.{Answer}
use Rattle.lr_server.specs.declared.answered.Answer.TheVariants.{OnlySubscribed}
use Rattle.lr_server.specs.declared.answered.Answered.{Answered}
use Rattle.lr_server.specs.declared.fault.StepFault.{StepFault}
use Rattle.lr_server.specs.Server.{ServerValue, state_of, entry_of, is_only_subscribed, connection_of, told_by, result_in}
use Rattle.lr_turnstile.specs.declared.view.View.{View}
use Rattle.lr_turnstile.specs.Views.{entries_by, HasOwn}
use Rattle.lr_service.specs.Served.{server_at}
use Rattle.lr_service.specs.Calls.{HadTurn, IsServedTo}
use Rattle.lr_drill.specs.Race.{race_op, IsRaceCall, AreCallsFrom, AreCalls, IsByRacer, IsRace}
use Rattle.lr_drill.specs.Passes.{MadeCall}

-- One call.

-- what is answered to a call that isn't refused was made
made_if : (stopped : Bool) (entry : Entry) (answer : Answer) → answer ≢ OnlySubscribed
    → ((answer ≡ OnlySubscribed) ↔ IsTrue stopped)
    → (if stopped then None else Some entry) ≡ Some entry
made_if true entry answer told only = absurd (told (only.1 refl))
made_if false entry answer told only = refl

reached : (now reading : ℕ) → reading ≤ last_moment → reading ≤ later now reading
reached now reading small =
    subst (λ n. n ≤ later now reading) (min-eq_left small)
    (le-max_right now (min reading last_moment))

-- a call of a race that was answered was made
pub made_call : (before now : View) (number : ℕ) (answered : Answered) → number < 2 ^ 32
    → IsServedTo before number 0 (acts.Call (race_op before.caller number)) (Ok answered) now
    → answered.answer ≢ OnlySubscribed → MadeCall before number now
made_call before now number answered small served told =
    let server = server_at served.history in
    let act = acts.Call (race_op before.caller number) in
    let entry = entry_of server number before.caller 0 act in
    let made = made_if (is_only_subscribed act (connection_of server 0)) entry answered.answer told
    served.only_subscribed in
    let had = subst (λ (m : Option Entry). HadTurn before served.history m now) made served.ok in
    record {
      entry = entry;
      call = record {
        caller = refl;
        conn = refl;
        act = refl;
        in_time = reached (state_of server).moment number (omega arith);
      };
      mine = had.mine;
    }

-- the same for what the code has: its own thread, op and result
pub answer_made : (told : Bool) (before now : View) (thread number : ℕ) (op : Op)
    (result : Result Answered StepFault) (answered : Answered)
    → thread ≡ before.caller → op ≡ race_op thread number → number < 2 ^ 32
    → IsServedTo before number 0 (acts.Call op) result now → result ≡ Ok answered
    → (told ≡ true → answered.answer ≢ OnlySubscribed)
    → OnTrue told (MadeCall before number now)
answer_made false before now thread number op result answered is its small served ok tells = tt
answer_made true before now thread number op result answered is its small served ok tells =
    let op_is : op ≡ race_op before.caller number =
    its ∙ ap (λ t. race_op t number) is in
    let served_so = subst (λ r. IsServedTo before number 0 (acts.Call op) r now) ok served in
    made_call before now number answered small
    (subst (λ o. IsServedTo before number 0 (acts.Call o) (Ok answered) now) op_is served_so)
    (tells refl)

-- The calls of one thread.

calls_more : (thread number : ℕ) (entries : List Entry) (entry : Entry)
    → AreCallsFrom thread number entries → IsRaceCall thread (number + length entries) entry
    → AreCallsFrom thread number (entries ++ entry ∷ [])
calls_more thread number [] entry each call =
    let none : number + 0 ≡ number = omega arith in
    (subst (λ n. IsRaceCall thread n entry) none call, tt)
calls_more thread number (first ∷ entries) entry each call =
    let next : number + length (first ∷ entries) ≡ number + 1 + length entries = omega arith in (
      each.0,
      calls_more thread (number + 1) entries entry each.1
          (subst (λ n. IsRaceCall thread n entry) next call),
    )

pub made_more : (thread calls : ℕ) (entries : List Entry) (entry : Entry)
    → AreCalls thread calls entries → IsRaceCall thread calls entry
    → AreCalls thread (calls + 1) (entries ++ entry ∷ [])
made_more thread calls entries entry made call =
    let all = made.all in
    let here : calls ≡ 0 + length entries = omega arith in
    record {
      all = omega (arith, length-append entries (entry ∷ []));
      each = calls_more thread 0 entries entry made.each
          (subst (λ n. IsRaceCall thread n entry) here call);
    }

pub none_made : (thread : ℕ) → AreCalls thread 0 []
none_made thread = record { all = refl; each = tt }

pub next_made : (told : Bool) (before now : View) (thread number : ℕ) → told ≡ true
    → before.caller ≡ thread → AreCalls thread number before.mine
    → OnTrue told (MadeCall before number now) → AreCalls thread (number + 1) now.mine
next_made false before now thread number so is made call = absurd (cc)
next_made true before now thread number so is made call =
    subst (AreCalls thread (number + 1)) (sym call.mine)
    (made_more thread number before.mine call.entry made
    (subst (λ t. IsRaceCall t number call.entry) is call.call))

-- The threads that have ended.

-- the passes of the threads above `least` and up to `most` were joined: each has all its calls in
-- every history that has what was joined
abbrev pub HaveEnded : ℕ → ℕ → ℕ → List (ℕ × List Entry) → Type 0
HaveEnded calls least most joined =
    (history : List Entry)
    → All (λ (other : ℕ × List Entry). entries_by other.0 history ≡ other.1) joined
    → (thread : ℕ) → least < thread → thread ≤ most
    → AreCalls thread calls (entries_by thread history)

module _ {A : Type 0} (P : A → Type 0) where
  all_left : (xs ys : List A) → All P (xs ++ ys) → All P xs
  all_left xs ys all k d below =
      subst P (get_or_append_left xs ys d k below)
      (all k d (let more = length-append xs ys in omega arith))

  all_last : (xs : List A) (x : A) → All P (xs ++ x ∷ []) → P x
  all_last xs x all =
      subst P (get_or-append_seam xs x [] x)
      (all (length xs) x (let more = length-append xs (x ∷ []) in omega arith))

pub none_ended : (calls most : ℕ) (joined : List (ℕ × List Entry))
    → HaveEnded calls most most joined
none_ended calls most joined history all thread above below = absurd (omega arith)

pub one_ended : (calls least most : ℕ) (joined : List (ℕ × List Entry)) (ended : ℕ)
    (made : List Entry) → ended ≡ least + 1 → AreCalls (least + 1) calls made
    → HaveEnded calls (least + 1) most joined
    → HaveEnded calls least most (joined ++ (ended, made) ∷ [])
one_ended calls least most joined ended made is its rest history all thread above below =
    let is_kept : ℕ × List Entry → Type 0 =
    λ (other : ℕ × List Entry). entries_by other.0 history ≡ other.1 in
    let mine : entries_by ended history ≡ made = all_last is_kept joined (ended, made) all in
    let others = all_left is_kept joined ((ended, made) ∷ []) all in
    dite (ℕ_discrete thread (least + 1))
    (λ here. subst (λ n. AreCalls n calls (entries_by n history)) (sym here)
    (subst (λ n. AreCalls (least + 1) calls (entries_by n history)) is
    (subst (AreCalls (least + 1) calls) (sym mine) its)))
    (λ apart. rest history others thread (omega arith) below)

-- Who made the entries.

not_first : (entry : Entry) (entries : List Entry) → entries_by 0 (entry ∷ entries) ≡ []
    → (entry.caller ≢ 0) × (entries_by 0 entries ≡ [])
not_first entry entries = by (entry.caller == 0) refl
  where
    by : (is : Bool) → (entry.caller == 0) ≡ is
        → cond is (entry ∷ entries_by 0 entries) (entries_by 0 entries) ≡ []
        → (entry.caller ≢ 0) × (entries_by 0 entries ≡ [])
    by true e none = absurd (cc)
    by false e none = ((λ is. absurd (cc)), none)

-- where the first pass made none, and no others were made
pub by_racers : (threads : ℕ) (entries : List Entry) → entries_by 0 entries ≡ []
    → All (λ (e : Entry). e.caller < threads + 1) entries → All (IsByRacer threads) entries
by_racers threads [] none below = λ k d under. absurd (omega arith)
by_racers threads (entry ∷ entries) none below =
    let first = not_first entry entries none in
    let apart = first.0 in
    let under : entry.caller < threads + 1 =
    All-head (λ (e : Entry). e.caller < threads + 1) entry entries below in
    All-cons (IsByRacer threads) entry entries
    (record { first = omega arith; last = omega arith })
    (by_racers threads entries first.1
    (All-tail (λ (e : Entry). e.caller < threads + 1) entry entries below))

-- the history of a service whose threads have all ended
pub race_of : (threads calls : ℕ) (first : View) (server : ServerValue)
    → server ≡ server_at first.seen → IsLegal (state_at_start 0) first.seen
    → first.made ≡ threads + 1 → All (λ (e : Entry). e.caller < first.made) first.seen
    → HasOwn first → first.caller ≡ 0 → first.mine ≡ []
    → All (λ (other : ℕ × List Entry). entries_by other.0 first.seen ≡ other.1) first.joined
    → HaveEnded calls 0 threads first.joined → IsRace threads calls server.entries
race_of threads calls first server is legal made below own caller mine joined ended =
    let none : entries_by 0 first.seen ≡ [] =
    ap (λ c. entries_by c first.seen) (sym caller) ∙ (own ∙ mine) in
    let known : All (λ (e : Entry). e.caller < threads + 1) first.seen =
    subst (λ n. All (λ (e : Entry). e.caller < n) first.seen) made below in
    subst (λ (s : ServerValue). IsRace threads calls s.entries) (sym is)
    (record {
      legal = legal;
      callers = by_racers threads first.seen none known;
      each = λ thread above below. ended first.seen joined thread above below;
    })

module _ {A : Type 0} (P : ℕ → A → Type 0) where
  pub each_less : (xs ys : List A) (x : A) → ys ≡ xs ++ x ∷ []
      → ((i : ℕ) (d : A) → i < length ys → P i (get_or ys i d))
      → (i : ℕ) (d : A) → i < length xs → P i (get_or xs i d)
  each_less xs ys x is all i d below =
      subst (P i) (ap (λ zs. get_or zs i d) is ∙ get_or_append_left xs (x ∷ []) d i below)
      (all i d (subst (λ (zs : List A). i < length zs) (sym is)
      (omega (arith, length-append xs (x ∷ [])))))

  pub the_last : (xs ys : List A) (x : A) → ys ≡ xs ++ x ∷ []
      → ((i : ℕ) (d : A) → i < length ys → P i (get_or ys i d)) → P (length xs) x
  the_last xs ys x is all =
      subst (P (length xs))
      (ap (λ zs. get_or zs (length xs) x) is ∙ get_or-append_seam xs x [] x)
      (all (length xs) x (subst (λ (zs : List A). length xs < length zs) (sym is)
      (omega (arith, length-append xs (x ∷ [])))))
