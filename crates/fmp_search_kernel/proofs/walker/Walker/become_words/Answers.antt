use Rattle.std.proofs.Common.{◌∙◌, ap, sym}
use Rattle.fmp_search_orders.specs.Places.{Place}
use Rattle.fmp_search_kernel.specs.Walked.{origin_of, Walked}
use Rattle.fmp_search_kernel.proofs.Keyed.{same_at, words_become}
use Rattle.fmp_search_kernel.proofs.walker.Walker.become_words.Goals as goal

pub invariant_of-self : goal.invariant_of-self
invariant_of-self c =
    let s = c.self.inside in
    let valid = c.processors.ensures.valid in
    let p = c.requires.packable.0 in
    let packable = c.requires.packable.2 in
    let config = c.requires.packable.3 ∙ sym (ap (λ (x : Walked). x.place.config) c.self.view_is) in
    let roomy = c.self.invariant.3 in
    let become =
    words_become s.config.now p c.requires.packable.1 config valid.few_processors valid.few_tasks packable c.args.numbers.now s.tasks s.handlers s.taken s.idled _ _ _ _ c.from-processors.result
    c.requires.packable.4 (c.from-processors.ensures ∙ c.processors.ensures.value) roomy.tasks_sized roomy.handlers_sized roomy.taken_sized roomy.idled_sized c.fill.ensures c.fill-2.ensures c.fill-3.ensures
    c.fill-4.ensures
    in
    (c.self.invariant.0, c.self.invariant.1, c.self.invariant.2, rw (become.tasks_are, become.handlers_are, become.taken_are, become.idled_are, become.seen_is) packable.roomy)

pub returns-clause-place : goal.returns-clause-place
returns-clause-place c = λ p counting packable origin is.
    let s = c.self.inside in
    let valid = c.processors.ensures.valid in
    let config = ap (λ (x : Place). x.config) origin ∙ sym (ap (λ (x : Walked). x.place.config) c.self.view_is) in
    let roomy = c.self.invariant.3 in
    let become =
    words_become s.config.now p counting config valid.few_processors valid.few_tasks packable c.args.numbers.now s.tasks s.handlers s.taken s.idled _ _ _ _ c.from-processors.result is
    (c.from-processors.ensures ∙ c.processors.ensures.value) roomy.tasks_sized roomy.handlers_sized roomy.taken_sized roomy.idled_sized c.fill.ensures c.fill-2.ensures c.fill-3.ensures c.fill-4.ensures
    in
    same_at _ (origin_of p) s.kernel c.args.self.now.place.machine _ p.tasks _ p.handlers _ p.taken _ p.idled _ p.seen
    (ap (λ (x : Walked). origin_of x.place) c.self.view_is ∙ sym origin) (ap (λ (x : Walked). x.place.machine) c.self.view_is)
    become.tasks_are become.handlers_are become.taken_are become.idled_are become.seen_is
