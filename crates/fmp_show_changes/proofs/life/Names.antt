-- One name more of a list.
use Rattle.std.proofs.Common.{◌≡◌, ◌∙◌, ℕ, ◌+◌, List, [], ◌∷◌, ◌++◌, map, refl, sym, ap, ap₂, append_assoc}
use Rattle.std.specs.Prelude.{Option, None, Some, Result, Ok, Err}
use Rattle.fmp_bytes.specs.Bytes.{cut_at, pieces_of}
use Rattle.fmp_bytes.proofs.Cutting.{pieces_left, pieces_of-cut}
use Rattle.fmp_names.specs.Names.{NameLists}
use Rattle.fmp_show_changes.specs.declared.life.things.Thing.{Thing}
use Rattle.std.proofs.lemmas.List.{map-append}
use Rattle.fmp_show_changes.specs.declared.life.life.Watched.{Watched}
use Rattle.fmp_show_changes.specs.Life.Lives.{Seen, unseen}
use Rattle.fmp_show_changes.specs.Life.Watches.{seen_of}
use Rattle.fmp_show_changes.specs.Life.Things.{before_others, thing_named, things_from}

-- the things so far, before those that are still to come
abbrev pub after_these : List Thing → Result (List Thing) ℕ → Result (List Thing) ℕ
after_these xs (Ok ys) = Ok (xs ++ ys)
after_these xs (Err i) = Err i

after_one : (xs : List Thing) (x : Thing) (i : ℕ) (r : Result (List Thing) ℕ) → after_these xs (before_others (Some x) i r) ≡ after_these (xs ++ x ∷ []) r
after_one xs x i (Ok ys) = ap Ok (sym (append_assoc xs (x ∷ []) ys))
after_one xs x i (Err j) = refl

module _ (lists : NameLists) (i : ℕ) (text : List ℕ) where
  cut_one : (found : Option Thing) → found ≡ thing_named lists (cut_at 44 text).0
      → things_from lists i (pieces_of 44 text) ≡ before_others found i (things_from lists (i + 1) (pieces_left 44 (cut_at 44 text).1))
  cut_one found is = ap (things_from lists i) (pieces_of-cut 44 text) ∙ ap (λ (f : Option Thing). before_others f i (things_from lists (i + 1) (pieces_left 44 (cut_at 44 text).1))) (sym is)

  -- the first name of what is left names this thing
  pub one_more : (xs : List Thing) (x : Thing) (all : Result (List Thing) ℕ) → Some x ≡ thing_named lists (cut_at 44 text).0
      → after_these xs (things_from lists i (pieces_of 44 text)) ≡ all
      → after_these (xs ++ x ∷ []) (things_from lists (i + 1) (pieces_left 44 (cut_at 44 text).1)) ≡ all
  one_more xs x all is before =
      sym (after_one xs x i (things_from lists (i + 1) (pieces_left 44 (cut_at 44 text).1))) ∙ (ap (after_these xs) (sym (cut_one (Some x) is)) ∙ before)

  -- or it names nothing
  pub none_there : (xs : List Thing) (all : Result (List Thing) ℕ) → None ≡ thing_named lists (cut_at 44 text).0
      → after_these xs (things_from lists i (pieces_of 44 text)) ≡ all → all ≡ Err i
  none_there xs all is before = sym before ∙ ap (after_these xs) (cut_one None is)

-- one thing more is watched, of which nothing was told yet
pub watch_more : (old new : List Watched) (x : Watched) (t : Thing) → new ≡ old ++ x ∷ [] → seen_of x ≡ unseen t → map seen_of old ≡ map unseen (map (λ (y : Watched). y.thing) old)
    → (map (λ (y : Watched). y.thing) new ≡ map (λ (y : Watched). y.thing) old ++ t ∷ []) × (map seen_of new ≡ map unseen (map (λ (y : Watched). y.thing) new))
watch_more old new x t is named before =
    let things : map (λ (y : Watched). y.thing) new ≡ map (λ (y : Watched). y.thing) old ++ t ∷ [] =
    ap (map (λ (y : Watched). y.thing)) is ∙ (map-append (λ (y : Watched). y.thing) old (x ∷ []) ∙ ap (λ (s : Seen). map (λ (y : Watched). y.thing) old ++ s.thing ∷ []) named) in
    let seen : map seen_of new ≡ map unseen (map (λ (y : Watched). y.thing) old ++ t ∷ []) =
    ap (map seen_of) is ∙ (map-append seen_of old (x ∷ []) ∙ (ap₂ (λ (ss : List Seen) (s : Seen). ss ++ s ∷ []) before named ∙ sym (map-append unseen (map (λ (y : Watched). y.thing) old) (t ∷ [])))) in
    (things, seen ∙ ap (map unseen) (sym things))
