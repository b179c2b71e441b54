use Rattle.std.proofs.Common.{◌≡◌, ℕ, Option, ap, sym, ◌∙◌, subst, arith}
use Rattle.lr_waiting.specs.Stand.{due_of, least_of, lesser}
use Rattle.lr_clients.specs.Client.{client_of}
use Rattle.lr_clients.proofs.ThreadLists.{below-none, least-more, threads_below}
use Rattle.lr_clients.proofs.client.ClientState.least_due.Goals as goal

pub loop-thread-init : goal.loop-thread-init
loop-thread-init c =
    sym (ap (least_of (due_of c.args.channel.now (client_of c.args.self.now))) below-none)

pub loop-thread-preserved : goal.loop-thread-preserved
loop-thread-preserved c =
    let due : ℕ → Option ℕ = due_of c.args.channel.now (client_of c.args.self.now) in
    c.lesser-least.ensures ∙ ap (lesser c.loop-thread.least) c.due_of.ensures
    ∙ ap (λ (least : Option ℕ). lesser least (due c.loop-thread.thread)) c.loop-thread.invariant
    ∙ sym (least-more due c.loop-thread.thread)

pub returns : goal.returns
returns c =
    let all : c.loop-thread.thread ≡ 257 = omega arith in
    subst (λ (n : ℕ). c.loop-thread.least
    ≡ least_of (due_of c.args.channel.now (client_of c.args.self.now)) (threads_below n)) all
    c.loop-thread.invariant
