use Rattle.std.proofs.Common.{◌≡◌, ◌+◌, ap, sym, ◌∙◌, option_map, position}
use Rattle.std.specs.Str.{bytes_eq}
use Rattle.fmp_names.specs.Names.{number_of, names_of}
use Rattle.fmp_names.proofs.Listed.{position-map}
use Rattle.fmp_names.proofs.names.Names.number.Goals as goal
use Rattle.fmp_names.proofs.names.Names.number.Goals.{After-index_of}

-- the index in the set is the place in the list of names
found : (c : After-index_of) → c.index_of.result ≡ position (bytes_eq c.args.name.now) (names_of c.args.self.now c.args.kind)
found c = c.index_of.ensures.index ∙ sym (position-map (bytes_eq c.args.name.now) (λ v. v.items) c.list-list.result.now.items) ∙ ap (position (bytes_eq c.args.name.now)) c.list-list.ensures.names

pub returns-in_err-index-clause-value : goal.returns-in_err-index-clause-value
unfolding number_of
returns-in_err-index-clause-value c =
    c.from_residual.ensures ∙ ap (λ i. option_map (λ n. n + 1) i) (sym c.in_err-index.was ∙ found (goal.at.returns-in_err-index-clause-value c).After-index_of)

pub returns-clause-value : goal.returns-clause-value
unfolding number_of
returns-clause-value c =
    ap (λ i. option_map (λ n. n + 1) i) (sym c.in_ok-index.was ∙ found (goal.at.returns-clause-value c).After-index_of)
