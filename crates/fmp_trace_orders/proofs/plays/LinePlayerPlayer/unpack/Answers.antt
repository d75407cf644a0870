use Rattle.std.proofs.Common.{◌∙◌, ap, length}
use Rattle.fmp_kernel_order.specs.Queues.{Queues}
use Rattle.fmp_rules.specs.World.{World}
use Rattle.fmp_trace_orders.specs.Standing.{Standing, begun}
use Rattle.fmp_trace_orders.specs.Playing.{lines_from}
use Rattle.fmp_trace_orders.proofs.Keys.{key_numbers, key_processors, key_there}
use Rattle.fmp_trace_orders.proofs.plays.LinePlayerPlayer.unpack.Goals as goal

pub unpack-requires : goal.unpack-requires
unpack-requires c =
    let w = c.self.inside in
    let p = c.requires.0 in (
      p.machine,
      key_numbers c.args.tables.now w.config.now (lines_from w.text.now w.lines.now.starts.items) w.kernel w.start.now c.args.self.now.state
          c.halves-machine.result.0 c.halves-machine.result.1 c.args.key p (ap (λ (x : Standing). x.state) c.self.view_is) c.self.invariant.2
          c.halves-machine.ensures.upper c.halves-machine.ensures.lower c.requires.1,
    )

pub invariant_of-self : goal.invariant_of-self
invariant_of-self c =
    (c.self.invariant.0, ap (λ (v : World Queues). length v.processors) c.in_err-unpack.ensures.left ∙ c.self.invariant.1, c.self.invariant.2, c.self.invariant.3)

pub returns-in_err-unpack-clause-begins : goal.returns-in_err-unpack-clause-begins
returns-in_err-unpack-clause-begins c = ap (λ (x : Standing). begun x.state) c.self.view_is

pub invariant_of-self-2 : goal.invariant_of-self-2
invariant_of-self-2 c =
    let w = c.self.inside in
    let p = c.requires.0 in
    let numbers = key_numbers c.args.tables.now w.config.now (lines_from w.text.now w.lines.now.starts.items) w.kernel w.start.now c.args.self.now.state
    c.halves-machine.result.0 c.halves-machine.result.1 c.args.key p (ap (λ (x : Standing). x.state) c.self.view_is) c.self.invariant.2
    c.halves-machine.ensures.upper c.halves-machine.ensures.lower c.requires.1 in (
      c.self.invariant.0,
      key_processors c.args.tables.now w.start.now c.unpack.new.kernel p.machine c.halves-machine.result.0 c.halves-machine.result.1
          w.config.now.processors numbers (c.in_ok-unpack.ensures.is p.machine numbers) c.self.invariant.3,
      c.self.invariant.2,
      c.self.invariant.3,
    )

pub returns-clause-there : goal.returns-clause-there
returns-clause-there c = λ p is.
    let w = c.self.inside in
    let lines = lines_from w.text.now w.lines.now.starts.items in
    let view = ap (λ (x : Standing). x.state) c.self.view_is in
    let numbers = key_numbers c.args.tables.now w.config.now lines w.kernel w.start.now c.args.self.now.state c.halves-machine.result.0 c.halves-machine.result.1
    c.args.key p view c.self.invariant.2 c.halves-machine.ensures.upper c.halves-machine.ensures.lower is in
    key_there c.args.tables.now w.config.now lines w.kernel c.unpack.new.kernel c.args.self.now.state c.args.key p view is (c.in_ok-unpack.ensures.is p.machine numbers)

pub returns-clause-begins : goal.returns-clause-begins
returns-clause-begins c = ap (λ (x : Standing). begun x.state) c.self.view_is
