-- Edges between names as a square of marks, their closure, and ranks by chains of bounded length.
use Rattle.enf_data.specs.declared.events.NameId.{NameId}
use Rattle.std.specs.Prelude.{ℕ, ◌≤◌, Bool, List, ◌+◌, ◌*◌, ◌<◌, false, IsTrue, slice_index_or}
use Rattle.std.specs.Prelude.{◌≡◌, ◌⊎◌}
use Rattle.rank_check.specs.meaning.Ranked.{EndsIn}
use Rattle.rank_check.specs.meaning.AcceptedPlans.{Reaches}

-- the longest of the chains of at most so many edges that end in the name
pub record IsRankWithin (E : NameId → NameId → Type 0) (most : ℕ) (name : NameId) (rank : ℕ) : Type 0 where
  pub reached : EndsIn E rank name
  pub longest : (k : ℕ) → k ≤ most → EndsIn E k name → k ≤ rank

-- one mark for each pair of names, row by row
pub record EdgeTable : Type 0 where
  pub width : ℕ
  pub marks : List Bool

-- an edge leads from the one name to the other
abbrev pub HasEdge : EdgeTable → NameId → NameId → Type 0
HasEdge table from to = (from.0 < table.width) × (to.0 < table.width)
    × IsTrue (slice_index_or table.marks (from.0 * table.width + to.0) false)

-- the edges of a relation between the names are added, and no others
pub record AddsEdges (E : NameId → NameId → Type 0) (before after : EdgeTable) : Type 0 where
  pub width : after.width ≡ before.width
  pub kept : (from to : NameId) → HasEdge before from to → HasEdge after from to
  pub added : (from to : NameId) → from.0 < before.width → to.0 < before.width → E from to
      → HasEdge after from to
  pub only : (from to : NameId) → HasEdge after from to → HasEdge before from to ⊎ E from to

-- an edge of the second table wherever a chain of edges of the first leads
pub record IsClosure (edges closed : EdgeTable) : Type 0 where
  pub width : closed.width ≡ edges.width
  pub only : (from to : NameId) → HasEdge closed from to → Reaches (HasEdge edges) from to
  pub all : (from to : NameId) → Reaches (HasEdge edges) from to → HasEdge closed from to
