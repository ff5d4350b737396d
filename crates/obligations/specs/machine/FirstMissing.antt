-- The first literal that a plan or a pending instance misses.
use Rattle.enf_data.specs.declared.steps.Step.{Step}
use Rattle.enf_data.specs.meaning.Valuations.{Valuation}
use Rattle.std.specs.Prelude.{List, [], ◌∷◌, Option, None, Some, Bool}
use Rattle.plan_terms.specs.meaning.Plans.{Plan}
use Rattle.obligations.specs.declared.instances.Instance.{Instance}
use Rattle.obligations.specs.declared.literals.Literal.{Literal}
use Rattle.obligations.specs.meaning.Obligations.{Missing}
use Rattle.obligations.specs.meaning.Pending.{MissingOf}

-- the first of the literals that a property gives, if any
abbrev pub FirstOf : (List Literal → Type 0) → Option Literal → Type 0
FirstOf P None = P []
FirstOf P (Some first) = (rest : List Literal) × P (first ∷ rest)

-- the first literal that a plan misses at the last position of a trace, and that a pending instance misses
abbrev pub FirstMissing : List Step → Plan → Valuation → Option Literal → Type 0
FirstMissing trace plan v = FirstOf (Missing trace plan v)

abbrev pub FirstMissingOf : List Plan → List Step → Instance → (forced : Bool) → Option Literal → Type 0
FirstMissingOf plans trace i forced = FirstOf (MissingOf plans trace i forced)
