use Rattle.std.proofs.Common.{ℕ, List, ◌++◌, append_assoc, sym, ap, ◌∙◌}
use Rattle.std.specs.List.{flat_map}
use Rattle.std.proofs.lemmas.Grind.{flat_map-append}
use Rattle.fmp_time.specs.Words.{words_at, wait_places, handler_places, words_of}
use Rattle.fmp_time.proofs.timers.Timers.add_words.Goals as goal

pub returns-clause-added : goal.returns-clause-added
unfolding words_of
returns-clause-added c =
    let f = words_at c.args.self.now in
    let waits = wait_places c.args.self.now.waits in
    let before = c.args.words.now in
    c.in_ok-add_handlers.ensures ∙ ap (λ (ws : List ℕ). ws ++ flat_map f handler_places) c.in_ok-add_waits.ensures.added
    ∙ append_assoc before (flat_map f waits) (flat_map f handler_places) ∙ ap (λ (ws : List ℕ). before ++ ws) (sym (flat_map-append f waits handler_places))
