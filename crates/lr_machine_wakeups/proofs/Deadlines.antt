-- No live hold of a lock lasts beyond its peak: what each call leaves, and each history.
use Rattle.std.proofs.Common.{◌≡◌, ℕ, ◌≤◌, max, List, [], ◌∷◌, Bool, true, false, if◌then◌else◌, refl, sym, subst, arith}
use Rattle.std.proofs.lemmas.Slice.Eq.{bytes_eq-Decides}
use Rattle.lr_names.specs.declared.kind.Kind.{Kind}
use Rattle.lr_names.specs.declared.kind.Kind.TheVariants as kinds
use Rattle.lr_objects.specs.Op.{call_on}
use Rattle.lr_objects.specs.declared.op.Op.{Op}
use Rattle.lr_objects.specs.declared.kinds.Call.{Call}
use Rattle.lr_objects.specs.declared.kinds.Call.TheVariants as calls
use Rattle.lr_model.specs.declared.entry.Act.{Act}
use Rattle.lr_model.specs.declared.entry.Act.TheVariants.{Call as calling}
use Rattle.lr_model.specs.declared.entry.Entry.{Entry}
use Rattle.lr_model.specs.Answer.{Objects, reply_of, objects_after, post_of}
use Rattle.lr_model.specs.Fenced.{FencedLock, fenced_call}
use Rattle.lr_model.specs.History.{State, objects_by, step, after, IsLegal}
use Rattle.lr_model.specs.Mutex.{lock_call}
use Rattle.lr_waiting.specs.Peak.{live_until, is_about, tells, deadline_given, peak_by_call, peak_by_act, peak_after}
use Rattle.lr_machine.specs.World.{first_state}
use Rattle.lr_laws.proofs.NameTables.{put_at}
use Rattle.lr_model.specs.ReadWrite.{ReadWriteLock, live_holds, last_deadline, read_write_call}
use Rattle.lr_machine_wakeups.specs.Deadlines.{IsBelow}
use Rattle.lr_machine_wakeups.proofs.HoldDeadlines.{EndsBy, live-later, peak_given, lock_lease, lock_call-peak, fenced_lease, fenced_call-peak}
use Rattle.lr_machine_wakeups.proofs.ReadWriteDeadlines.{live-until, ends-while_live, read_write_lease, read_write_call-peak}

-- Calls.

-- the peak after a call that tells nobody
abbrev pub quiet_peak : Kind → List ℕ → State → ℕ → Op → ℕ → ℕ
quiet_peak kind name state moment op peak =
    if is_about kind name op
    then max peak (deadline_given moment op (reply_of state.objects moment op))
    else peak

pub quiet-more : (kind : Kind) (name : List ℕ) (state : State) (moment : ℕ) (op : Op) (peak : ℕ)
    → peak ≤ quiet_peak kind name state moment op peak
quiet-more kind name state moment op peak = by (is_about kind name op)
  where
    by : (about : Bool)
        → peak ≤ (if about
        then max peak (deadline_given moment op (reply_of state.objects moment op))
        else peak)
    by true = omega arith
    by false = omega arith

-- a call on objects of another kind
below-other : (kind : Kind) (name : List ℕ) (state : State) (moment : ℕ) (op : Op) (peak : ℕ)
    → IsBelow state.objects kind name moment peak
    → IsBelow state.objects kind name moment (quiet_peak kind name state moment op peak)
below-other kind name state moment op peak below later from =
    omega (arith, below later from, quiet-more kind name state moment op peak)

below-mutex : (name : List ℕ) (state : State) (moment : ℕ) (key : List ℕ) (call : Call)
    (peak : ℕ) → IsBelow state.objects kinds.Mutex name moment peak
    → IsBelow (objects_after state.objects moment (call_on key call)) kinds.Mutex name moment
    (quiet_peak kinds.Mutex name state moment (call_on key call) peak)
below-mutex name state moment key (calls.Lock call) peak below =
    put_at
    (λ same held. EndsBy (if same
    then peak_given peak moment (lock_lease call)
    (lock_call key moment call (state.objects.mutexes key)).reply
    else peak) moment held)
    state.objects.mutexes key name
    (lock_call key moment call (state.objects.mutexes key)).object
    (λ here.
    lock_call-peak peak moment key call (state.objects.mutexes key)
    (subst (λ n. EndsBy peak moment (state.objects.mutexes n))
    ((bytes_eq-Decides name key).0 here) below))
    (λ there. below)
below-mutex name state moment key call peak below =
    below-other kinds.Mutex name state moment (call_on key call) peak below

below-fenced : (name : List ℕ) (state : State) (moment : ℕ) (key : List ℕ) (call : Call)
    (peak : ℕ) → IsBelow state.objects kinds.Fenced name moment peak
    → IsBelow (objects_after state.objects moment (call_on key call)) kinds.Fenced name moment
    (quiet_peak kinds.Fenced name state moment (call_on key call) peak)
below-fenced name state moment key (calls.Fenced call) peak below =
    put_at
    (λ same (held : FencedLock). EndsBy (if same
    then peak_given peak moment (fenced_lease call)
    (fenced_call key moment call (state.objects.fenced_locks key)).reply
    else peak) moment held.held)
    state.objects.fenced_locks key name
    (fenced_call key moment call (state.objects.fenced_locks key)).object
    (λ here.
    fenced_call-peak peak moment key call (state.objects.fenced_locks key)
    (subst (λ n. EndsBy peak moment (state.objects.fenced_locks n).held)
    ((bytes_eq-Decides name key).0 here) below))
    (λ there. below)
below-fenced name state moment key call peak below =
    below-other kinds.Fenced name state moment (call_on key call) peak below

below-read_write : (name : List ℕ) (state : State) (moment : ℕ) (key : List ℕ) (call : Call)
    (peak : ℕ) → IsBelow state.objects kinds.Rw name moment peak
    → IsBelow (objects_after state.objects moment (call_on key call)) kinds.Rw name moment
    (quiet_peak kinds.Rw name state moment (call_on key call) peak)
below-read_write name state moment key (calls.ReadWrite call) peak below =
    put_at
    (λ same (held : ReadWriteLock). (later : ℕ) → moment ≤ later
    → last_deadline (live_holds later held) ≤ (if same
    then peak_given peak moment (read_write_lease call)
    (read_write_call key moment call (state.objects.read_write_locks key)).reply
    else peak))
    state.objects.read_write_locks key name
    (read_write_call key moment call (state.objects.read_write_locks key)).object
    (λ here later from.
    live-until
    (peak_given peak moment (read_write_lease call)
    (read_write_call key moment call (state.objects.read_write_locks key)).reply)
    moment later (read_write_call key moment call (state.objects.read_write_locks key)).object from
    (read_write_call-peak peak moment key call (state.objects.read_write_locks key)
    (ends-while_live peak moment (state.objects.read_write_locks key)
    (subst (λ n. last_deadline (live_holds moment (state.objects.read_write_locks n)) ≤ peak)
    ((bytes_eq-Decides name key).0 here) (below moment (omega arith))))))
    (λ there. below)
below-read_write name state moment key call peak below =
    below-other kinds.Rw name state moment (call_on key call) peak below

-- after a message the peak is what is left
below-left : (kind : Kind) (name : List ℕ) (objects : Objects)
    (moment : ℕ) → IsBelow objects kind name moment (live_until objects kind name moment)
below-left kinds.Mutex name objects moment later from =
    live-later moment later (objects.mutexes name) from
below-left kinds.Fenced name objects moment later from =
    live-later moment later (objects.fenced_locks name).held from
below-left kinds.Rw name objects moment later from =
    let lock = objects.read_write_locks name in
    let until = last_deadline (live_holds moment lock) in
    let enough : until ≤ until = omega arith in
    live-until until moment later lock from (ends-while_live until moment lock enough)
below-left _ name objects moment later from = omega arith

below-quiet : (kind : Kind) (name : List ℕ) (state : State)
    (moment : ℕ) (op : Op) (peak : ℕ) → IsBelow state.objects kind name moment peak
    → IsBelow (objects_after state.objects moment op) kind name moment
    (quiet_peak kind name state moment op peak)
below-quiet kinds.Mutex name state moment op peak below =
    below-mutex name state moment op.name op.call peak below
below-quiet kinds.Fenced name state moment op peak below =
    below-fenced name state moment op.name op.call peak below
below-quiet kinds.Rw name state moment op peak below =
    below-read_write name state moment op.name op.call peak below
below-quiet _ name state moment op peak below = λ later from. omega arith

below-call : (kind : Kind) (name : List ℕ) (state : State)
    (moment : ℕ) (op : Op) (peak : ℕ) → IsBelow state.objects kind name moment peak
    → IsBelow (objects_after state.objects moment op) kind name moment
    (peak_by_call kind name state moment op peak)
below-call kind name state moment op peak below =
    by (tells kind name (post_of state.objects moment op))
  where
    by : (told : Bool)
        → IsBelow (objects_after state.objects moment op) kind name moment
        (if told then live_until (objects_after state.objects moment op) kind name moment
        else quiet_peak kind name state moment op peak)
    by true = below-left kind name (objects_after state.objects moment op) moment
    by false = below-quiet kind name state moment op peak below

below-step : (kind : Kind) (name : List ℕ) (state : State)
    (entry : Entry) (act : Act) (peak : ℕ) → entry.act ≡ act → state.moment ≤ entry.moment
    → IsBelow state.objects kind name state.moment peak
    → IsBelow (step state entry).objects kind name entry.moment
    (peak_by_act kind name state entry.moment entry.act peak)
below-step kind name state entry act peak is le below =
    subst
    (λ a. IsBelow (objects_by state entry.moment a) kind name entry.moment
    (peak_by_act kind name state entry.moment a peak))
    (sym is) (by act)
  where
    sooner : IsBelow state.objects kind name entry.moment peak
    sooner later from = below later (omega (arith, from, le))

    by : (a : Act)
        → IsBelow (objects_by state entry.moment a) kind name entry.moment
        (peak_by_act kind name state entry.moment a peak)
    by (calling op) = below-call kind name state entry.moment op peak sooner
    by _ = sooner

-- Histories.

below-after : (kind : Kind) (name : List ℕ) (entries : List Entry)
    (state : State) (peak : ℕ) → IsLegal state entries
    → IsBelow state.objects kind name state.moment peak
    → IsBelow (after state entries).objects kind name (after state entries).moment
    (peak_after kind name state entries peak)
below-after kind name [] state peak legal below = below
below-after kind name (entry ∷ entries) state peak legal below =
    below-after kind name entries (step state entry)
    (peak_by_act kind name state entry.moment entry.act peak) legal.1
    (below-step kind name state entry entry.act peak refl legal.0.in_time below)

below-first : (kind : Kind) (name : List ℕ) → IsBelow first_state.objects kind name 0 0
below-first kinds.Mutex name later from = omega arith
below-first kinds.Fenced name later from = omega arith
below-first kinds.Rw name later from = omega arith
below-first _ name later from = omega arith

pub below-history : (entries : List Entry) (kind : Kind) (name : List ℕ)
    → IsLegal first_state entries
    → IsBelow (after first_state entries).objects kind name (after first_state entries).moment
    (peak_after kind name first_state entries 0)
below-history entries kind name legal =
    below-after kind name entries first_state 0 legal (below-first kind name)
