-- Which connections a pass can use, and goes on to be able to use.
use Rattle.std.proofs.Common.{◌≡◌, ◌≢◌, ℕ, ◌==◌, Bool, true, false, if◌then◌else◌, Option, Some, None, is_some, inl, inr, refl, sym, ap, ◌∙◌, subst, ne_eqb}
use Rattle.std.proofs.lemmas.Bool.{false≢true}
use Rattle.std.specs.Prelude.{IsTrue}
use Rattle.std.specs.Option.{ForSome}
use Rattle.lr_model.specs.declared.entry.Act.{Act}
use Rattle.lr_model.specs.declared.entry.Act.TheVariants.{Call, Subscribe, Unsubscribe, Open, Close, Drain}
use Rattle.lr_model.specs.declared.entry.Entry.{Entry}
use Rattle.lr_model.specs.Board.{is_open}
use Rattle.lr_model.specs.History.{State, after, state_at_start}
use Rattle.lr_server.specs.Server.{ServerValue, connection_of}
use Rattle.lr_turnstile.specs.declared.view.View.{View}
use Rattle.lr_turnstile.specs.Views.{HasOwn}
use Rattle.lr_service.specs.Closes.{has_open, has_open_by}
use Rattle.lr_service.specs.Served.{server_at, IsServed}
use Rattle.lr_service.specs.Passes.{IsOwnConnection, CanUse, CanClose, KeepsConnections}
use Rattle.lr_service.specs.Calls.{entries_with}
use Rattle.lr_service.proofs.Openers.{own_opener, first_stays, has_open-push}

abbrev start : State
start = state_at_start 0

-- At a turn.

-- a pass is the opener of what is its own
pub own_is : (view : View) (server : ServerValue) (conn : ℕ) → HasOwn view
    → IsServed server view.seen → IsOwnConnection view conn
    → ((after start view.seen).board conn).opener ≡ Some view.caller
own_is view server conn known served own =
    own_opener start view.seen conn view.caller false served.legal served.closes
    (λ is. absurd (false≢true is)) (ap (λ l. has_open conn l) known ∙ own)

own_open : (view : View) (server : ServerValue) (conn : ℕ) → HasOwn view
    → IsServed server view.seen → IsOwnConnection view conn
    → IsTrue (is_open (connection_of server conn))
own_open view server conn known served own =
    subst (λ (s : ServerValue). IsTrue (is_open (connection_of s conn))) (sym served.is)
    (ap is_some (own_is view server conn known served own))

-- what it can use is open
pub usable_open : (view : View) (server : ServerValue) (conn : ℕ) → HasOwn view
    → IsServed server view.seen → CanUse view conn → IsTrue (is_open (connection_of server conn))
usable_open view server conn known served (inl zero) =
    let first = first_stays start view.seen served.legal served.closes refl in
    subst (λ (s : ServerValue). IsTrue (is_open (connection_of s conn))) (sym served.is)
    (subst (λ c. IsTrue (is_open (connection_of (server_at view.seen) c))) (sym zero)
    (ap is_some first))
usable_open view server conn known served (inr own) = own_open view server conn known served own

pub closable_open : (view : View) (server : ServerValue) (conn : ℕ) → HasOwn view
    → IsServed server view.seen → CanClose view conn
    → IsTrue (is_open (connection_of server conn))
closable_open view server conn known served can = own_open view server conn known served can.own

-- Later.

-- where a pass has made nothing, it can use what it could
pub still_usable : (u v : View) (conn : ℕ) → v.mine ≡ u.mine → CanUse u conn → CanUse v conn
still_usable u v conn same (inl zero) = inl zero
still_usable u v conn same (inr own) = inr (ap (λ l. has_open conn l) same ∙ own)

pub still_closable : (u v : View) (conn : ℕ) → v.mine ≡ u.mine → CanClose u conn
    → CanClose v conn
still_closable u v conn same can = record {
  own = ap (λ l. has_open conn l) same ∙ can.own;
  not_first = can.not_first;
}

-- an entry that isn't a close keeps what is open
by_other : (conn : ℕ) (entry : Entry) (act : Act) → act ≢ Close
    → has_open_by conn true entry act ≡ true
by_other conn entry Open n = by (entry.conn == conn)
  where
    by : (b : Bool) → (if b then true else true) ≡ true
    by true = refl
    by false = refl
by_other conn entry Close n = absurd (n refl)
by_other conn entry (Call op) n = refl
by_other conn entry (Subscribe channel) n = refl
by_other conn entry (Unsubscribe channel) n = refl
by_other conn entry (Drain most) n = refl

pub keeps_by : (before now : View) (made : Option Entry)
    → now.mine ≡ entries_with before.mine made → ForSome made (λ entry. entry.act ≢ Close)
    → KeepsConnections before now
keeps_by before now None is none conn own = ap (λ l. has_open conn l) is ∙ own
keeps_by before now (Some entry) is none conn own =
    ap (λ l. has_open conn l) is
    ∙ (has_open-push conn false before.mine entry
    ∙ (ap (λ b. has_open_by conn b entry entry.act) own
    ∙ by_other conn entry entry.act (none entry refl)))

-- a close keeps all others
pub keeps_others : (before now : View) (entry : Entry) (conn : ℕ) → entry.act ≡ Close
    → entry.conn ≡ conn → now.mine ≡ entries_with before.mine (Some entry)
    → (other : ℕ) → other ≢ conn → IsOwnConnection before other → IsOwnConnection now other
keeps_others before now entry conn close at is other apart own =
    ap (λ l. has_open other l) is
    ∙ (has_open-push other false before.mine entry
    ∙ (ap (λ (a : Act). has_open_by other (has_open other before.mine) entry a) close
    ∙ (ap (λ (b : Bool). if b then false else has_open other before.mine)
    (ne_eqb entry.conn other (λ same. apart (sym same ∙ at)))
    ∙ own)))
