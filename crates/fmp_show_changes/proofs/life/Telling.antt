-- What is told of one thing more.
use Rattle.std.proofs.Common.{◌≡◌, ◌∙◌, ℕ, ◌+◌, ◌<◌, List, [], ◌∷◌, ◌++◌, length, get_or, take, drop, set, map, ap, ap₂, sym, arith, append_assoc}
use Rattle.std.specs.List.{flat_map}
use Rattle.std.proofs.lemmas.List.{drop-set-lt, drop_more, get_or-drop, map-append, take_more, take_more_set}
use Rattle.std.proofs.lemmas.Grind.{drop_more_same}
use Rattle.fmp_out.specs.Putting.{Adds, Owes, Putting}
use Rattle.fmp_rules.specs.World.{World}
use Rattle.fmp_names.specs.Names.{NameLists}
use Rattle.fmp_show_changes.specs.declared.life.life.Watched.{Watched}
use Rattle.fmp_show_changes.specs.Life.Lives.{Seen, renewed, report_since}
use Rattle.fmp_show_changes.specs.Life.Watches.{seen_of}

module _ {Q : Type 0} (lists : NameLists) (w : World Q) (all first : List Watched) (i : ℕ) (d : Watched) (lt : i < length all) (lt_first : i < length first) where
  -- those that are left are as they were
  same_here : drop i all ≡ drop i first → get_or all i d ≡ get_or first i d
  same_here same =
      let here : i + 0 ≡ i = omega arith in
      ap (λ j. get_or all j d) (sym here) ∙ (sym (get_or-drop i all 0 d) ∙ (ap (λ (xs : List Watched). get_or xs 0 d) same ∙ (get_or-drop i first 0 d ∙ ap (λ j. get_or first j d) here)))

  pub rest_same : (x : Watched) → drop i all ≡ drop i first → drop (i + 1) (set all i x) ≡ drop (i + 1) first
  rest_same x same = drop-set-lt (i + 1) all i x (omega arith) ∙ drop_more_same all first i same

  pub one_reported : (text : List ℕ) (old out new : Putting) → drop i all ≡ drop i first → Adds (report_since lists w (seen_of (get_or all i d))) out new
      → Owes (flat_map (report_since lists w) (map seen_of (drop i first))) text old out
      → Owes (flat_map (report_since lists w) (map seen_of (drop (i + 1) first))) text old new
  one_reported text old out new same written before whole =
      let last = written whole in
      let front = before last.0 in
      let rest = flat_map (report_since lists w) (map seen_of (drop (i + 1) first)) in
      let line = report_since lists w (seen_of (get_or first i d)) in (
        front.0,
        ap (λ (bytes : List ℕ). bytes ++ rest) (last.1 ∙ ap (λ (x : Watched). out.bytes ++ report_since lists w (seen_of x)) (same_here same))
            ∙ (append_assoc out.bytes line rest
            ∙ (ap (λ (xs : List Watched). out.bytes ++ flat_map (report_since lists w) (map seen_of xs)) (sym (drop_more first i d lt_first)) ∙ front.1)),
      )

  pub one_seen : (x : Watched) → drop i all ≡ drop i first → seen_of x ≡ renewed lists w (seen_of (get_or all i d))
      → map seen_of (take i all) ≡ map (renewed lists w) (map seen_of (take i first))
      → map seen_of (take (i + 1) (set all i x)) ≡ map (renewed lists w) (map seen_of (take (i + 1) first))
  one_seen x same is before =
      let here : Seen = renewed lists w (seen_of (get_or first i d)) in
      ap (map seen_of) (take_more_set all i x lt)
      ∙ (map-append seen_of (take i all) (x ∷ [])
      ∙ (ap₂ (λ (xs : List Seen) (y : Seen). xs ++ y ∷ []) before (is ∙ ap (λ (y : Watched). renewed lists w (seen_of y)) (same_here same))
      ∙ (sym (map-append (renewed lists w) (map seen_of (take i first)) (seen_of (get_or first i d) ∷ []))
      ∙ (ap (map (renewed lists w)) (sym (map-append seen_of (take i first) (get_or first i d ∷ [])))
      ∙ ap (λ (xs : List Watched). map (renewed lists w) (map seen_of xs)) (sym (take_more first i d lt_first))))))
