use Rattle.std.proofs.Common.{◌≡◌, ◌+◌, ℕ, List, Vec, Global, vec_len, vec_capacity, Some, None, length, refl, sym, ap, subst, ◌∙◌, arith}
use Rattle.lr_waiting.specs.declared.waiter.Ask.{Ask}
use Rattle.lr_waiting.specs.Session.{Session}
use Rattle.lr_session.specs.Value.{session_of}
use Rattle.lr_session.proofs.ThreadRequests.{none-at_zero, none-above}
use Rattle.lr_session.proofs.Joined.{AreTold, told-none, told-next, told-all}
use Rattle.lr_session.proofs.state.SessionState.wake_joined.Goals as goal
use Rattle.lr_session.proofs.state.SessionState.wake_joined.Goals.{in-Some, in_default}

pub loop-told-init : goal.loop-told-init
loop-told-init c =
    let first : Session = session_of c.args.self.now in
    let none = ap length c.requires.none in
    record {
      so = subst (λ (asks : List Ask). AreTold c.args.channel.now first 1 first asks)
          (sym c.requires.none)
          (told-none c.args.channel.now first
          (none-at_zero c.args.self.now.waiters c.check_requests.ensures.requests)
          c.check_requests.ensures.turn);
      few = omega (arith, none, c.args.asks.now.ok);
      capacity = refl;
    }

pub loop-told-preserved : goal.loop-told-preserved
loop-told-preserved c =
    let before : Session = session_of c.args.self.now in
    let next : Session = session_of c.wake_thread.new.self in
    let so = c.loop-told.invariant.so in
    let made = c.wake_thread.ensures in
    elim c.match-wake_thread.branch [
      | in-Some w ↦
          let asks = ap (λ (v : Vec Ask Global). v.items) w.asks-is
          ∙ w.push_reserved.ensures.items in
          let len = ap (λ (v : Vec Ask Global). vec_len v) w.asks-is in
          record {
            so = subst (AreTold c.args.channel.now before (c.loop-told.told + 1 + 1) next)
                (sym asks)
                (told-next c.args.channel.now before next (Some w.in-Some.ask) so made.session
                (sym w.in-Some.is ∙ made.ask));
            few = omega (arith, len, w.push_reserved.ensures.len, c.loop-told.invariant.few);
            capacity = ap (λ (v : Vec Ask Global). vec_capacity v) w.asks-is
                ∙ w.push_reserved.ensures.capacity ∙ c.loop-told.invariant.capacity;
          }
      | in_default w ↦
          let asks = ap (λ (v : Vec Ask Global). v.items) w.asks-is in
          let len = ap (λ (v : Vec Ask Global). vec_len v) w.asks-is in
          record {
            so = subst (AreTold c.args.channel.now before (c.loop-told.told + 1 + 1) next)
                (sym asks)
                (told-next c.args.channel.now before next None so made.session
                (sym w.in_default.is ∙ made.ask));
            few = omega (arith, len, c.loop-told.invariant.few);
            capacity = ap (λ (v : Vec Ask Global). vec_capacity v) w.asks-is
                ∙ c.loop-told.invariant.capacity;
          }
    ]

pub returns-clause-session : goal.returns-clause-session
returns-clause-session c =
    let all : c.loop-told.told ≡ 256 = omega arith in
    told-all c.args.channel.now (session_of c.args.self.now)
    (none-above c.args.self.now.waiters c.check_requests.ensures.requests)
    (subst (λ (n : ℕ). AreTold c.args.channel.now (session_of c.args.self.now) (n + 1)
    (session_of c.loop-told.self) c.loop-told.asks.items) all c.loop-told.invariant.so)
