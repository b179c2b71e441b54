-- Who has opened a connection stays the same, until the connection is closed.
use Rattle.std.proofs.Common.{◌≡◌, ◌≢◌, ℕ, ◌==◌, Bool, true, false, if◌then◌else◌, List, [], ◌∷◌, ◌++◌, cond, Option, Some, None, is_some, refl, sym, ap, ◌∙◌, eqb-true, eq-eqb, ne_eqb}
use Rattle.std.proofs.lemmas.Bool.{true≢false, false≢true}
use Rattle.lr_names.specs.declared.post.Post.{Post}
use Rattle.lr_names.specs.declared.post.Push.TheVariants.{Message}
use Rattle.lr_model.specs.declared.entry.Act.{Act}
use Rattle.lr_model.specs.declared.entry.Act.TheVariants.{Call, Subscribe, Unsubscribe, Open, Close, Drain}
use Rattle.lr_model.specs.declared.entry.Entry.{Entry}
use Rattle.lr_model.specs.Answer.{post_of}
use Rattle.lr_model.specs.Board.{Board, Connection, is_open, has_channel, has_room, with_item, dropped_connection, new_connection, closed_connection, connection_after_post, board_after_post, with_connection}
use Rattle.lr_model.specs.History.{State, step, after, board_by, IsAllowed, IsLegal}
use Rattle.lr_server.proofs.Serves.{least_is_free}
use Rattle.lr_turnstile.specs.Views.{entries_by}
use Rattle.lr_service.specs.Closes.{MayClose, ClosesOwn, has_open_by, has_open_after}

told_opener : (post : Post) (connection : Connection)
    → (connection_after_post post connection).opener ≡ connection.opener
told_opener post connection = by (has_channel post.channel connection) (has_room connection)
  where
    by : (has room : Bool) → (if has
        then (if room then with_item (Message post.channel post.wakes) connection
        else dropped_connection connection)
        else connection).opener ≡ connection.opener
    by true true = refl
    by true false = refl
    by false room = refl

posted_opener : (post : Option Post) (board : Board) (conn : ℕ)
    → (board_after_post post board conn).opener ≡ (board conn).opener
posted_opener None board conn = refl
posted_opener (Some post) board conn = told_opener post (board conn)

-- a change of a connection that keeps its opener
kept_opener : (board : Board) (at conn : ℕ) (connection : Connection)
    → connection.opener ≡ (board at).opener
    → (with_connection board at connection conn).opener ≡ (board conn).opener
kept_opener board at conn connection same = by (at == conn) refl
  where
    by : (b : Bool) → (at == conn) ≡ b
        → (if b then connection else board conn).opener ≡ (board conn).opener
    by true e = same ∙ ap (λ k. (board k).opener) (eqb-true at conn e)
    by false e = refl

-- all other connections stay as they were
others_kept : (board : Board) (at conn : ℕ) (connection : Connection) → at ≢ conn
    → with_connection board at connection conn ≡ board conn
others_kept board at conn connection apart =
    ap (λ b. if b then connection else board conn) (ne_eqb at conn apart)

-- a number that can be opened isn't that of an open connection
pub apart_if_free : (board : Board) (at conn caller : ℕ) → is_open (board at) ≡ false
    → (board conn).opener ≡ Some caller → at ≢ conn
apart_if_free board at conn caller free opened same = true≢false
    (sym (ap is_some opened) ∙ (ap (λ k. is_open (board k)) (sym same) ∙ free))

-- an entry keeps it, unless it closes the connection
pub step-opener : (state : State) (entry : Entry) (act : Act) (conn caller : ℕ)
    → IsAllowed state entry.conn act → (act ≡ Close → entry.conn ≢ conn)
    → (state.board conn).opener ≡ Some caller
    → (board_by state entry act conn).opener ≡ Some caller
step-opener state entry (Call op) conn caller may apart opened =
    posted_opener (post_of state.objects entry.moment op) state.board conn ∙ opened
step-opener state entry (Subscribe channel) conn caller may apart opened =
    kept_opener state.board entry.conn conn _ refl ∙ opened
step-opener state entry (Unsubscribe channel) conn caller may apart opened =
    kept_opener state.board entry.conn conn _ refl ∙ opened
step-opener state entry (Drain most) conn caller may apart opened =
    kept_opener state.board entry.conn conn _ refl ∙ opened
step-opener state entry Open conn caller may apart opened =
    let free = (least_is_free state.board entry.conn may.free).1 in
    ap (λ (c : Connection). c.opener) (others_kept state.board entry.conn conn _
    (apart_if_free state.board entry.conn conn caller free opened)) ∙ opened
step-opener state entry Close conn caller may apart opened =
    ap (λ (c : Connection). c.opener)
    (others_kept state.board entry.conn conn _ (apart refl)) ∙ opened

some_one : (a b : ℕ) → Some a ≡ Some b → a ≡ b
some_one a b e = cc

-- a close by another caller is of another connection
apart_from_own : (state : State) (entry : Entry) (act : Act) (conn caller : ℕ)
    → MayClose state entry act → (state.board conn).opener ≡ Some caller
    → entry.caller ≢ caller → act ≡ Close → entry.conn ≢ conn
apart_from_own state entry Close conn caller may opened other is same =
    other (some_one entry.caller caller
    (sym may.own ∙ (ap (λ k. (state.board k).opener) same ∙ opened)))
apart_from_own state entry (Call op) conn caller may opened other is same = absurd (cc)
apart_from_own state entry (Subscribe channel) conn caller may opened other is same = absurd (cc)
apart_from_own state entry (Unsubscribe channel) conn caller may opened other is same =
    absurd (cc)
apart_from_own state entry Open conn caller may opened other is same = absurd (cc)
apart_from_own state entry (Drain most) conn caller may opened other is same = absurd (cc)

apart_from_first : (state : State) (entry : Entry) (act : Act)
    → MayClose state entry act → act ≡ Close → entry.conn ≢ 0
apart_from_first state entry Close may is = may.not_first
apart_from_first state entry (Call op) may is = absurd (cc)
apart_from_first state entry (Subscribe channel) may is = absurd (cc)
apart_from_first state entry (Unsubscribe channel) may is = absurd (cc)
apart_from_first state entry Open may is = absurd (cc)
apart_from_first state entry (Drain most) may is = absurd (cc)

-- an entry of the caller's own opens it, closes it or keeps it
own_step : (state : State) (entry : Entry) (act : Act) (conn caller : ℕ) (before : Bool)
    → IsAllowed state entry.conn act → entry.caller ≡ caller
    → (before ≡ true → (state.board conn).opener ≡ Some caller)
    → has_open_by conn before entry act ≡ true
    → (board_by state entry act conn).opener ≡ Some caller
own_step state entry Open conn caller before may own had has = by (entry.conn == conn) has
  where
    by : (b : Bool) → (if b then true else before) ≡ true
        → (if b then new_connection entry.caller else state.board conn).opener ≡ Some caller
    by true is = ap Some own
    by false is = had is
own_step state entry Close conn caller before may own had has = by (entry.conn == conn) has
  where
    by : (b : Bool) → (if b then false else before) ≡ true
        → (if b then closed_connection else state.board conn).opener ≡ Some caller
    by true is = absurd (false≢true is)
    by false is = had is
own_step state entry (Call op) conn caller before may own had has =
    step-opener state entry (Call op) conn caller may (λ is. absurd (cc)) (had has)
own_step state entry (Subscribe channel) conn caller before may own had has =
    step-opener state entry (Subscribe channel) conn caller may (λ is. absurd (cc)) (had has)
own_step state entry (Unsubscribe channel) conn caller before may own had has =
    step-opener state entry (Unsubscribe channel) conn caller may (λ is. absurd (cc)) (had has)
own_step state entry (Drain most) conn caller before may own had has =
    step-opener state entry (Drain most) conn caller may (λ is. absurd (cc)) (had has)

-- a connection's opener is this caller
abbrev IsOpener : State → ℕ → ℕ → Type 0
IsOpener state conn caller = (state.board conn).opener ≡ Some caller

-- whoever has opened a connection, and not closed it since, is its opener
pub own_opener : (state : State) (entries : List Entry) (conn caller : ℕ) (before : Bool)
    → IsLegal state entries → ClosesOwn state entries
    → (before ≡ true → (state.board conn).opener ≡ Some caller)
    → has_open_after conn before (entries_by caller entries) ≡ true
    → ((after state entries).board conn).opener ≡ Some caller
own_opener state [] conn caller before legal closes had has = had has
own_opener state (entry ∷ entries) conn caller before legal closes had has =
    by (entry.caller == caller) refl
    (λ own is. own_opener (step state entry) entries conn caller
    (has_open_by conn before entry entry.act) legal.1 closes.1
    (own_step state entry entry.act conn caller before legal.0.allowed own had) is)
    (λ other is. own_opener (step state entry) entries conn caller before legal.1 closes.1
    (λ was. step-opener state entry entry.act conn caller legal.0.allowed
    (apart_from_own state entry entry.act conn caller closes.0 (had was) other)
    (had was)) is)
    has
  where
    by : (b : Bool) → (entry.caller == caller) ≡ b
        → (entry.caller ≡ caller → has_open_after conn (has_open_by conn before entry entry.act)
        (entries_by caller entries) ≡ true → IsOpener (after (step state entry) entries) conn caller)
        → (entry.caller ≢ caller
        → has_open_after conn before (entries_by caller entries) ≡ true → IsOpener (after (step state entry) entries) conn caller)
        → has_open_after conn before
        (cond b (entry ∷ entries_by caller entries) (entries_by caller entries)) ≡ true
        → IsOpener (after (step state entry) entries) conn caller
    by true e own other is = own (eqb-true entry.caller caller e) is
    by false e own other is =
        other (λ same. true≢false (sym (eq-eqb entry.caller caller same) ∙ e)) is

pub has_open-push : (conn : ℕ) (before : Bool) (entries : List Entry) (entry : Entry)
    → has_open_after conn before (entries ++ entry ∷ [])
    ≡ has_open_by conn (has_open_after conn before entries) entry entry.act
has_open-push conn before [] entry = refl
has_open-push conn before (x ∷ xs) entry =
    has_open-push conn (has_open_by conn before x x.act) xs entry

-- connection 0 stays open
pub first_stays : (state : State) (entries : List Entry) → IsLegal state entries
    → ClosesOwn state entries → (state.board 0).opener ≡ Some 0
    → ((after state entries).board 0).opener ≡ Some 0
first_stays state [] legal closes opened = opened
first_stays state (entry ∷ entries) legal closes opened =
    first_stays (step state entry) entries legal.1 closes.1
    (step-opener state entry entry.act 0 0 legal.0.allowed
    (apart_from_first state entry entry.act closes.0) opened)

-- Histories that go on.

pub IsLegal-right : (state : State) (xs ys : List Entry) → IsLegal state (xs ++ ys)
    → IsLegal (after state xs) ys
IsLegal-right state [] ys legal = legal
IsLegal-right state (x ∷ xs) ys legal = IsLegal-right (step state x) xs ys legal.1

pub ClosesOwn-push : (state : State) (entries : List Entry) (entry : Entry)
    → ClosesOwn state entries → MayClose (after state entries) entry entry.act
    → ClosesOwn state (entries ++ entry ∷ [])
ClosesOwn-push state [] entry closes may = (may, tt)
ClosesOwn-push state (x ∷ xs) entry closes may =
    (closes.0, ClosesOwn-push (step state x) xs entry closes.1 may)
