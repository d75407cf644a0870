use Rattle.std.proofs.Common.{◌≡◌, ◌∙◌, ap, sym, refl}
use Rattle.std.specs.Prelude.{Result, Ok, Err}
use Rattle.fmp_search_question.specs.declared.fault.QuestionFault.{QuestionFault}
use Rattle.fmp_search_question.specs.Lasting as spec
use Rattle.fmp_search_question.specs.Reading as reading
use Rattle.fmp_search_question.proofs.Waiting.{on_ok}
use Rattle.fmp_search_question.proofs.parts.Parts.add_to_draft.Goals as goal

some_draft : (p : spec.Parts) (r : Result reading.Draft QuestionFault) (d : spec.Parts) → spec.with_draft p r ≡ Ok d → (e : reading.Draft) × (r ≡ Ok e) × (d ≡ record p { draft = e })
some_draft p (Ok e) d is = (e, refl, let same : d ≡ record p { draft = e } = cc in same)
some_draft p (Err fault) d is = cc

pub returns-clause-added : goal.returns-clause-added
returns-clause-added c d is =
    let ok = some_draft c.args.self.now (reading.after_word c.args.names.now c.args.self.now.draft c.args.word.now) d is in
    let draft = ap (λ (p : spec.Parts). reading.after_word c.args.names.now p.draft c.args.word.now) c.self.view_is in
    on_ok c.add.result _ _
    (λ same.
    ap (λ (x : reading.Draft). record { lasting = c.self.inside.lasting.items; draft = x; stage = c.self.inside.stage }) same
    ∙ ap (λ (p : spec.Parts). record p { draft = ok.0 }) c.self.view_is
    ∙ sym ok.2)
    (c.add.ensures.added ok.0 (draft ∙ ok.1))
