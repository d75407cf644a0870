use Rattle.std.proofs.Common.{Some, None, refl, sym, ap, ◌∙◌}
use Rattle.std.specs.Prelude.{is_some}
use Rattle.std.proofs.lemmas.Bool.{eq-eqb}
use Rattle.fmp_time.proofs.Found.{place_entry, left_none, is_there}
use Rattle.fmp_time.proofs.differences.Differences.stands.Goals as goal

pub returns-in-Some-clause-yes : goal.returns-in-Some-clause-yes
returns-in-Some-clause-yes c = λ e.
    let i = c.in-Some._list in
    (i, place_entry c.self.inside.more c.self.inside.links c.args.self.now c.args.item (Some c.in-Some._list) c.self.view_is c.in-Some.ensures i ∙ eq-eqb i i refl)

pub returns-in-None-clause-no_list : goal.returns-in-None-clause-no_list
returns-in-None-clause-no_list c = λ e. place_entry c.self.inside.more c.self.inside.links c.args.self.now c.args.item None c.self.view_is c.in-None.ensures

pub returns-in-Some-clause-value : goal.returns-in-Some-clause-value
returns-in-Some-clause-value c =
    sym (is_there c.args.self.now c.args.item c.in-Some._list (place_entry c.self.inside.more c.self.inside.links c.args.self.now c.args.item (Some c.in-Some._list) c.self.view_is c.in-Some.ensures))

pub returns-in-None-clause-value : goal.returns-in-None-clause-value
returns-in-None-clause-value c =
    sym (ap is_some (left_none c.args.self.now c.args.item (place_entry c.self.inside.more c.self.inside.links c.args.self.now c.args.item None c.self.view_is c.in-None.ensures)))
