-- Marks and roles of names, and the bounds of names.
use Rattle.enf_data.specs.declared.events.NameId.{NameId}
use Rattle.std.specs.Prelude.{Bool, false, IsTrue, List, slice_index_or, true, Option, None, Some, ℕ, ◌<◌}
use Rattle.std.specs.Prelude.{◌⊎◌}
use Rattle.plan_terms.specs.meaning.Plans.{IsCaused, IsSuppressed, Plan}
use Rattle.rank_check.specs.declared.rank_answers.Role.{Role}
use Rattle.rank_check.specs.declared.rank_answers.Role.TheVariants.{Free, Caused, Suppressed}

-- a name is marked in a list of marks by name
abbrev pub IsMarkedName : List Bool → NameId → Type 0
IsMarkedName marks name = IsTrue (slice_index_or marks name.0 false)

-- the role of a name that is caused or not, and suppressed or not; none where it is both
abbrev pub role_for : (caused suppressed : Bool) → Option Role
role_for true true = None
role_for true false = Some Caused
role_for false true = Some Suppressed
role_for false false = Some Free

-- the names that are caused or suppressed are among the first so many
abbrev pub AreNamesBelow : ℕ → List Plan → Type 0
AreNamesBelow most plans = (name : NameId) → IsCaused plans name ⊎ IsSuppressed plans name → name.0 < most
