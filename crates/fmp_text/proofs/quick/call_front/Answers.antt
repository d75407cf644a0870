use Rattle.std.proofs.Common.{ap, sym, ◌∙◌, ◌++◌}
use Rattle.fmp_text.proofs.Echoed.{bare_printed, call_printed}
use Rattle.fmp_text.proofs.Fronted.{bare_spelled, call_spelled}
use Rattle.fmp_text.proofs.quick.call_front.Goals as goal

pub returns-clause-front : goal.returns-clause-front
returns-clause-front c =
    call_spelled c.args.names.now _ c.in_ok-made.made c.args.text.now c.in_ok-rest.rest.now c.in_ok-inner.inner.now c.in_ok-made.end.now (c.in_ok-rest.ensures ∙ ap (λ t. t ++ c.in_ok-rest.rest.now) c.in_ok-known.ensures.text) c.in_ok-inner.ensures
    (sym c.in_ok-known.ensures.bare ∙ c.if-known.false) c.in_ok-made.ensures.made

pub returns-clause-printed : goal.returns-clause-printed
returns-clause-printed c = λ own.
    call_printed c.args.names.now _ c.in_ok-made.made c.args.text.now c.in_ok-rest.rest.now c.in_ok-inner.inner.now c.in_ok-made.end.now (c.in_ok-rest.ensures ∙ ap (λ t. t ++ c.in_ok-rest.rest.now) c.in_ok-known.ensures.text) c.in_ok-inner.ensures
    (sym c.in_ok-known.ensures.bare ∙ c.if-known.false) c.in_ok-made.ensures.made (c.in_ok-made.ensures.printed own)

pub returns-then-known-clause-front : goal.returns-then-known-clause-front
returns-then-known-clause-front c =
    bare_spelled c.args.names.now c.in_ok-known.known.now.call c.args.text.now c.in_ok-rest.rest.now (sym c.in_ok-known.ensures.bare ∙ c.if-known.true)
    (c.in_ok-rest.ensures ∙ ap (λ t. t ++ c.in_ok-rest.rest.now) c.in_ok-known.ensures.text)

pub returns-then-known-clause-printed : goal.returns-then-known-clause-printed
returns-then-known-clause-printed c = λ own.
    bare_printed c.args.names.now c.in_ok-known.known.now.call c.args.text.now c.in_ok-rest.rest.now (sym c.in_ok-known.ensures.bare ∙ c.if-known.true)
    (c.in_ok-rest.ensures ∙ ap (λ t. t ++ c.in_ok-rest.rest.now) c.in_ok-known.ensures.text)
