-- What the words of a question lead to.
use Rattle.std.proofs.Common.{◌≡◌, ℕ, false, List, [], Option, Some}
use Rattle.fmp_names.specs.Names.{NameLists}
use Rattle.fmp_search_pattern.specs.declared.question.Step.{Step}
use Rattle.fmp_search_pattern.specs.Items.{Item}
use Rattle.fmp_search_question.specs.Reading.{Draft, after_word, nothing_read}
use Rattle.fmp_search_question.proofs.grammar.Led.{led_by}

abbrev pub led : NameLists → Draft → List (List ℕ) → Option Draft
led names d words = led_by (after_word names) d words

-- nothing was read of the item that begins
abbrev pub fresh : List Step → Option ℕ → Option (List (List Item)) → List (List Item) → List Item → Draft
fresh steps times moment parts items =
    record { steps = steps; times = times; moment = moment; parts = parts; items = items; negated = false; pattern = []; spot = nothing_read.spot }

-- what the words lead to is complete
abbrev pub Leads : NameLists → Draft → List (List ℕ) → (Draft → Option Draft) → Draft → Type 0
Leads names d words close f = (e : Draft) × (led names d words ≡ Some e) × (close e ≡ Some f)
