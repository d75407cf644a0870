-- Edges, as they are kept: each by its ends and the number of its kind.
use Rattle.std.specs.Prelude.{◌≡◌, ℕ, ◌<◌, ◌+◌, ◌%◌, ◌^◌, Some, List, length, map, slice_get, slice_index_or}
use Rattle.fmp_interned.specs.Hashes.{hash_of_number}
use Rattle.fmp_search.specs.declared.edges.Edge.{Edge}
use Rattle.fmp_search.specs.declared.edges.Link.{Link}
use Rattle.fmp_search.specs.declared.kinds.Kind.{Kind}

-- a number of each kind
abbrev pub hash_of : Kind → ℕ
hash_of k = hash_of_number ((k.passes + k.step) % 2 ^ 64)

-- what stands where there is no kind
abbrev pub no_kind : Kind
no_kind = record { passes = 0; step = 0 }

-- the edge that a link is
abbrev pub edge_of : List Kind → Link → Edge
edge_of kinds l =
    let kind = slice_index_or kinds l.kind no_kind in
    record { passes = kind.passes; from = l.from; to = l.to; step = kind.step }

unfoldable pub edges_of : List Kind → List Link → List Edge
edges_of kinds links = map (edge_of kinds) links

-- the kind of each link is there
abbrev pub AreKnown : List Kind → List Link → Type 0
AreKnown kinds links = (k : ℕ) (l : Link) → slice_get links k ≡ Some l → l.kind < length kinds
