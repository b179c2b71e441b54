use Rattle.std.proofs.Common.{◌≡◌, ℕ, Bool, ap, sym, ◌∙◌, subst, arith, false}
use Rattle.std.specs.List.{list_any}
use Rattle.lr_waiting.specs.Stand.{is_awake}
use Rattle.lr_clients.specs.Client.{client_of}
use Rattle.lr_clients.proofs.ThreadLists.{any-more, any-one, below-none, threads_below}
use Rattle.lr_clients.proofs.client.ClientState.has_awake.Goals as goal

abbrev test : (c : goal.Start) → ℕ → Bool
test c = is_awake c.args.channel.now (client_of c.args.self.now)

pub loop-thread-init : goal.loop-thread-init
loop-thread-init c = ap (list_any (test c)) below-none

pub loop-thread-preserved : goal.loop-thread-preserved
loop-thread-preserved c =
    any-more (is_awake c.args.channel.now (client_of c.args.self.now)) c.loop-thread.thread
    c.loop-thread.invariant (sym c.is_awake.ensures ∙ c.if-is_awake.false)

pub returns-then-is_awake : goal.returns-then-is_awake
returns-then-is_awake c =
    sym (any-one (is_awake c.args.channel.now (client_of c.args.self.now)) c.loop-thread.thread
    257 c.loop-thread-test.true (sym c.is_awake.ensures ∙ c.if-is_awake.true))

pub returns : goal.returns
returns c =
    let all : c.loop-thread.thread ≡ 257 = omega arith in
    sym (subst (λ (n : ℕ). list_any (is_awake c.args.channel.now (client_of c.args.self.now))
    (threads_below n) ≡ false) all c.loop-thread.invariant)
