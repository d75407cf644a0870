use Rattle.std.proofs.Common.{◌∙◌, length, ap, sym}
use Rattle.fmp_kernel_order.specs.Queues.{Queues}
use Rattle.fmp_rules.specs.World.{World}
use Rattle.fmp_search_kernel.specs.Walked.{origin_of, Walked}
use Rattle.fmp_search_kernel.proofs.Said.{kernel_of, of_config}
use Rattle.fmp_search_kernel.proofs.space.WalkerSpace.unpack.Goals as goal

pub unpack-requires : goal.unpack-requires
unpack-requires c =
    let o = origin_of c.args.self.now.place in
    let p = c.requires.0 in
    let put = c.put_words-packed in (
      p.machine,
      kernel_of o p c.args.tables.now _ put.new.numbers put.result c.self.inside.start (c.tables.view_is ∙ put.ensures.same)
          (c.self.invariant.1 ∙ ap (λ (x : Walked). (origin_of x.place).machine) c.self.view_is) (put.ensures.are p c.requires.1),
    )

pub returns-in_err-unpack-clause-origin : goal.returns-in_err-unpack-clause-origin
returns-in_err-unpack-clause-origin c = ap (λ (x : Walked). origin_of x.place) c.self.view_is

pub invariant_of-self-2 : goal.invariant_of-self-2
invariant_of-self-2 c =
    let o = origin_of c.args.self.now.place in
    let p = c.requires.0 in
    let put = c.put_words-packed in
    let kernel =
    kernel_of o p c.args.tables.now _ put.new.numbers put.result c.self.inside.start (c.tables.view_is ∙ put.ensures.same)
    (c.self.invariant.1 ∙ ap (λ (x : Walked). (origin_of x.place).machine) c.self.view_is) (put.ensures.are p c.requires.1)
    in (
      ap (λ (k : World Queues). length k.processors) (c.in_ok-unpack.ensures.is p.machine kernel) ∙ sym kernel.shaped.alike.processors ∙ c.self.invariant.2,
      c.self.invariant.1,
      c.self.invariant.2,
      c.self.invariant.3,
    )

pub become_words-requires-clause-packable : goal.become_words-requires-clause-packable
become_words-requires-clause-packable c =
    let o = origin_of c.args.self.now.place in
    let p = c.requires.0 in
    let g = c.requires.1 in
    let put = c.put_words-packed in (
      p,
      put.result.counting,
      g.packable,
      of_config o c.args.tables.now c.args.key p g c.word_count-count.ensures.valid ∙ sym (ap (λ (x : Walked). x.place.config) c.self.view_is),
      (put.ensures.are p g).words,
    )

pub returns-clause-there : goal.returns-clause-there
returns-clause-there c = λ p g.
    let o = origin_of c.args.self.now.place in
    let put = c.put_words-packed in
    let said = put.ensures.are p g in
    let kernel =
    kernel_of o p c.args.tables.now _ put.new.numbers put.result c.self.inside.start (c.tables.view_is ∙ put.ensures.same)
    (c.self.invariant.1 ∙ ap (λ (x : Walked). (origin_of x.place).machine) c.self.view_is) said
    in
    c.become_words.ensures.place p put.result.counting g.packable (g.origin ∙ sym (ap (λ (x : Walked). origin_of x.place) c.self.view_is)) said.words
    ∙ ap (λ (k : World Queues). record p { machine = k }) (c.in_ok-unpack.ensures.is p.machine kernel)

pub returns-clause-origin : goal.returns-clause-origin
returns-clause-origin c =
    let p = c.requires.0 in
    let g = c.requires.1 in
    let put = c.put_words-packed in
    ap origin_of (c.become_words.ensures.place p put.result.counting g.packable (g.origin ∙ sym (ap (λ (x : Walked). origin_of x.place) c.self.view_is)) (put.ensures.are p g).words) ∙ g.origin
