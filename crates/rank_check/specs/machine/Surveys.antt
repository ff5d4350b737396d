-- What one pass over nodes finds for the horizon.
use Rattle.std.specs.List.{flat_map}
use Rattle.std.specs.Prelude.{◌≡◌, ℕ, List, length, map, filter}
use Rattle.plan_terms.specs.meaning.Plans.{caused_at, has_deadline, window_end, Plan}
use Rattle.rank_check.specs.declared.horizon.Survey.{Survey}
use Rattle.rank_check.specs.meaning.Horizon.{greatest, least_with, rank_in, class_in}

-- how many nodes these are, the least rank of a name that one of them causes, and over those with deadlines the
-- greatest class and the greatest end
pub record IsSurvey (above step : ℕ) (ranks : List ℕ) (nodes : List Plan) (found : Survey) : Type 0 where
  pub size : found.size ≡ length nodes
  pub least : found.least ≡ least_with above (map (rank_in ranks) (flat_map caused_at nodes))
  pub class : found.class ≡ greatest (map (class_in above step ranks) (filter has_deadline nodes))
  pub end : found.end ≡ greatest (map window_end (filter has_deadline nodes))
