-- Edges, as they are kept.
use Rattle.std.proofs.Common.{◌≡◌, ◌∙◌, ◌⊎◌, inl, inr, ℕ, zero, suc, ◌<◌, Some, List, [], ◌∷◌, ◌++◌, length, refl, ap, subst}
use Rattle.std.specs.Prelude.{slice_get, map}
use Rattle.std.specs.Option.{option_map}
use Rattle.std.proofs.lemmas.List.{map-append, length-map}
use Rattle.std.proofs.lemmas.Option.{slice_get-map, slice_get_within, slice_get-get_or, get_or_from_slice_get}
use Rattle.fmp_search.specs.declared.edges.Edge.{Edge}
use Rattle.fmp_search.specs.declared.edges.Link.{Link}
use Rattle.fmp_search.specs.declared.kinds.Kind.{Kind}
use Rattle.fmp_interned.specs.Values.{IsBeginning}
use Rattle.fmp_interned.proofs.Numbers.{number_stays}
use Rattle.fmp_search.specs.Kinds.{no_kind, edge_of, edges_of, AreKnown}
use Rattle.fmp_search.proofs.Charted.{item_of}

pub edges_long : (kinds : List Kind) (links : List Link) → length (edges_of kinds links) ≡ length links
unfolding edges_of
edges_long kinds links = length-map links (edge_of kinds)

pub edges_none : (kinds : List Kind) (links : List Link) → links ≡ [] → edges_of kinds links ≡ []
unfolding edges_of
edges_none kinds links is = ap (map (edge_of kinds)) is

abbrev pub edge_by : Link → Kind → Edge
edge_by l k = record { passes = k.passes; from = l.from; to = l.to; step = k.step }

-- the edge that a link of a kind is
pub edge_is : (kinds : List Kind) (l : Link) (kind : Kind) → slice_get kinds l.kind ≡ Some kind → edge_of kinds l ≡ edge_by l kind
edge_is kinds l kind is = ap (edge_by l) (get_or_from_slice_get kinds l.kind kind no_kind is)

pub edge_at : (kinds : List Kind) (links : List Link) (k : ℕ) (l : Link) (kind : Kind) → slice_get links k ≡ Some l → slice_get kinds l.kind ≡ Some kind →
    slice_get (edges_of kinds links) k ≡ Some (edge_by l kind)
unfolding edges_of
edge_at kinds links k l kind is has =
    slice_get-map (edge_of kinds) links k ∙ ap (option_map (edge_of kinds)) is ∙ ap (λ (e : Edge). Some e) (edge_is kinds l kind has)

module _ (kinds more : List Kind) (kept : IsBeginning kinds more) where
  edge_stays : (l : Link) → l.kind < length kinds → edge_of more l ≡ edge_of kinds l
  edge_stays l lt = edge_is more l _ (number_stays kinds more l.kind _ kept (slice_get-get_or kinds l.kind no_kind lt))

  mapped_stay : (links : List Link) → AreKnown kinds links → map (edge_of more) links ≡ map (edge_of kinds) links
  mapped_stay [] known = refl
  mapped_stay (l ∷ ls) known =
      ap (λ (e : Edge). e ∷ map (edge_of more) ls) (edge_stays l (known zero l refl))
      ∙ ap (λ (es : List Edge). edge_of kinds l ∷ es) (mapped_stay ls (λ k x is. known (suc k) x is))

  -- where there are more kinds the links are known, and with one link more there is one edge more
  pub known_stay : (links list : List Link) → list ≡ links → AreKnown kinds links → AreKnown more list
  known_stay links list same known k l is =
      let lt = known k l (subst (λ (ls : List Link). slice_get ls k ≡ Some l) same is) in
      slice_get_within more l.kind _ (number_stays kinds more l.kind _ kept (slice_get-get_or kinds l.kind no_kind lt))

  -- the same links are the same edges
  pub edges_stay : (links list : List Link) → list ≡ links → AreKnown kinds links → edges_of more list ≡ edges_of kinds links
  unfolding edges_of
  edges_stay links list same known = ap (map (edge_of more)) same ∙ mapped_stay links known

  known_one : (links : List Link) (link : Link) (kind : Kind) → AreKnown kinds links → slice_get more link.kind ≡ Some kind → (k : ℕ) (l : Link) →
      (slice_get links k ≡ Some l) ⊎ ((k ≡ length links) × (link ≡ l)) → l.kind < length more
  known_one links link kind known has k l (inl is) = known_stay links links refl known k l is
  known_one links link kind known has k l (inr is) = subst (λ (x : Link). x.kind < length more) is.1 (slice_get_within more link.kind kind has)

  pub known_more : (links list : List Link) (link : Link) (kind : Kind) → list ≡ links ++ link ∷ [] → AreKnown kinds links → slice_get more link.kind ≡ Some kind → AreKnown more list
  known_more links list link kind same known has k l is =
      known_one links link kind known has k l (item_of links link l k (subst (λ (ls : List Link). slice_get ls k ≡ Some l) same is))

  pub edges_more : (links list : List Link) (link : Link) (kind : Kind) → list ≡ links ++ link ∷ [] → AreKnown kinds links → slice_get more link.kind ≡ Some kind →
      edges_of more list ≡ edges_of kinds links ++ edge_by link kind ∷ []
  unfolding edges_of
  edges_more links list link kind same known has =
      ap (map (edge_of more)) same ∙ map-append (edge_of more) links (link ∷ [])
      ∙ ap (λ (es : List Edge). es ++ edge_of more link ∷ []) (mapped_stay links known)
      ∙ ap (λ (e : Edge). map (edge_of kinds) links ++ e ∷ []) (edge_is more link kind has)
