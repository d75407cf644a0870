-- The first kind that has a name.
use Rattle.std.proofs.Common.{◌≡◌, ◌∙◌, ℕ, ◌+◌, ◌<◌, true, List, length, get_or, drop, refl, ap, sym}
use Rattle.std.specs.Prelude.{Option, None, Some, is_some}
use Rattle.std.specs.Option.{option_or}
use Rattle.std.proofs.lemmas.List.{drop_more}
use Rattle.fmp_codes.specs.declared.kinds.ObjectKind.{ObjectKind}
use Rattle.fmp_names.specs.Names.{NameLists}
use Rattle.fmp_show_changes.specs.declared.life.things.Thing.{Thing}
use Rattle.fmp_show_changes.specs.Life.Things.{named_among, named_as}

found_first : (found rest : Option Thing) → is_some found ≡ true → option_or found rest ≡ found
found_first None rest some = absurd cc
found_first (Some x) rest some = refl

pub first_has : (lists : NameLists) (name : List ℕ) (ks : List ObjectKind) (i : ℕ) (d : ObjectKind) (found : Option Thing) → i < length ks
    → found ≡ named_as lists name (get_or ks i d) → is_some found ≡ true → named_among lists name (drop i ks) ≡ found
first_has lists name ks i d found lt is some =
    ap (named_among lists name) (drop_more ks i d lt)
    ∙ (ap (λ (f : Option Thing). option_or f (named_among lists name (drop (i + 1) ks))) (sym is) ∙ found_first found (named_among lists name (drop (i + 1) ks)) some)
