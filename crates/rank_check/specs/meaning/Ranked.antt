-- What is known of accepted plans: ranks and roles of names, the horizon and the transparent mark.
use Rattle.enf_data.specs.declared.events.NameId.{NameId}
use Rattle.std.specs.Prelude.{ℕ, Bool, List, slice_index_or, ◌≡◌, ◌≤◌}
use Rattle.plan_terms.specs.meaning.Plans.{IsCaused, IsSuppressed, Plan}
use Rattle.rank_check.specs.declared.rank_answers.Role.{Role}
use Rattle.rank_check.specs.declared.rank_answers.Role.TheVariants.{Free, Caused, Suppressed}
use Rattle.rank_check.specs.meaning.AcceptedPlans.{is_transparent, EdgesLead, Edge}
use Rattle.rank_check.specs.meaning.Horizon.{horizon_of, rank_in}

-- a chain of so many edges ends in the name
abbrev pub EndsIn : (NameId → NameId → Type 0) → ℕ → NameId → Type 0
EndsIn E k name = (from : NameId) × EdgesLead E k from name

-- the longest chain that ends in the name has so many edges
pub record IsRank (E : NameId → NameId → Type 0) (name : NameId) (rank : ℕ) : Type 0 where
  pub reached : EndsIn E rank name
  pub longest : (k : ℕ) → EndsIn E k name → k ≤ rank

-- what is known of plans: the ranks and roles of names, the horizon and the transparent mark
pub record Ranked : Type 0 where
  pub ranks : List ℕ
  pub roles : List Role
  pub horizon : ℕ
  pub transparent : Bool

-- the role of a name in a list by name
abbrev pub role_in : List Role → NameId → Role
role_in roles name = slice_index_or roles name.0 Free

-- what the policy does to the events of a name, where nothing clashes
abbrev pub NameHasRole : List Plan → NameId → Role → Type 0
NameHasRole plans name Caused = IsCaused plans name
NameHasRole plans name Suppressed = IsSuppressed plans name
NameHasRole plans name Free = (IsCaused plans name → ⊥) × (IsSuppressed plans name → ⊥)

-- what is known of the plans is so: each name has its rank and its role, and the horizon and the mark are theirs
pub record AreRanked (plans : List Plan) (ranked : Ranked) : Type 0 where
  pub ranks : (name : NameId) → IsRank (Edge plans) name (rank_in ranked.ranks name)
  pub roles : (name : NameId) → NameHasRole plans name (role_in ranked.roles name)
  pub horizon : ranked.horizon ≡ horizon_of ranked.ranks plans
  pub transparent : ranked.transparent ≡ is_transparent plans
