use Rattle.std.proofs.Common.{◌∙◌, ap, refl, sym}
use Rattle.std.specs.Option.{option_copied}
use Rattle.fmp_search_question.specs.Waiting.{listed_in, tasks_of}
use Rattle.fmp_search_question.proofs.Waiting.{named, no_more, on_ok, one_more}
use Rattle.fmp_search_question.proofs.parts.add_at.Goals as goal

pub returns-in-Some : goal.returns-in-Some
returns-in-Some c =
    let names = c.args.names.now in
    let is = sym (named names c.args.at) ∙ sym c.name.ensures ∙ ap option_copied c.in-Some.is in
    on_ok c.add_unless.result _ _ (one_more (listed_in (option_copied c.args.but)) (tasks_of names) c.args.at c.in-Some.name.now c.args.lasting.now.items c.add_unless.new.lasting.items is)
    c.add_unless.ensures

pub returns-in-None : goal.returns-in-None
returns-in-None c =
    let names = c.args.names.now in
    let is = sym (named names c.args.at) ∙ sym c.name.ensures ∙ ap option_copied c.in-None.is in
    no_more (listed_in (option_copied c.args.but)) (tasks_of names) c.args.at c.args.lasting.now.items c.args.lasting.now.items is refl
