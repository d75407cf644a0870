use Rattle.std.proofs.Common.{◌≡◌, ◌∙◌, false, ap, sym}
use Rattle.std.proofs.lemmas.List.{map_push}
use Rattle.std.specs.List.{list_any}
use Rattle.std.specs.Str.{bytes_eq}
use Rattle.fmp_names.specs.Names.{texts}
use Rattle.fmp_names.proofs.Listed.{list_any_map}
use Rattle.fmp_cli_notes.proofs.parts.put_new.Goals as goal

pub returns-in_ok-push : goal.returns-in_ok-push
returns-in_ok-push c =
    let text = c.args.text.items in
    let old = c.args.list.now.items in
    let none : list_any (bytes_eq text) (texts c.args.list.now) ≡ false =
    list_any_map (bytes_eq text) (λ v. v.items) old
    ∙ ap (λ xs. list_any (λ it. bytes_eq text it.items) xs) (sym c.deref.ensures.value)
    ∙ ap (λ t. list_any (λ it. bytes_eq t it.items) c.deref.result.now) (sym c.as_slice.ensures.value)
    ∙ sym c.is_among.ensures ∙ c.if-not-is_among.true in
    rw (c.in_ok-push.ensures.items, none) (map_push (λ v. v.items) old c.args.text)
