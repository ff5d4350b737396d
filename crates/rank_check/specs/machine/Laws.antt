-- What ranks are: the recursion over edges that they meet, and that there are none on a cycle. Plans have one answer.
use Rattle.enf_data.specs.declared.events.NameId.{NameId}
use Rattle.std.specs.Prelude.{◌≡◌, ℕ, List, suc, ◌<◌, Bool, IsTrue, ◌⊎◌}
use Rattle.enf_formula.specs.meaning.Satisfaction.{Classically}
use Rattle.plan_terms.specs.meaning.Plans.{Plan}
use Rattle.rank_check.specs.declared.rank_answers.RankRefusal.{RankRefusal}
use Rattle.rank_check.specs.declared.rank_answers.RankRefusal.TheVariants.{NoMemory}
use Rattle.rank_check.specs.meaning.AcceptedPlans.{AreAccepted, IsOnCycle, Edge}
use Rattle.rank_check.specs.meaning.Ranked.{IsRank}
use Rattle.rank_check.specs.meaning.Refusals.{RefusesPlans}

-- a name has at most one rank
abbrev pub HasOneRank : Type 0
HasOneRank = (plans : List Plan) (name : NameId) (rank other : ℕ)
    → IsRank (Edge plans) name rank → IsRank (Edge plans) name other → rank ≡ other

-- no edge ends in a name of rank 0
abbrev pub ZeroHasNoEdge : Type 0
ZeroHasNoEdge = (plans : List Plan) (from name : NameId) → IsRank (Edge plans) name 0 → Edge plans from name → ⊥

-- a rank that is not 0 is one more than that of a name from which an edge comes
abbrev pub RankIsOneMore : Type 0
RankIsOneMore = (plans : List Plan) (name : NameId) (rank : ℕ) → IsRank (Edge plans) name (suc rank)
    → (from : NameId) × Edge plans from name × IsRank (Edge plans) from rank

abbrev pub EdgesRise : Type 0
EdgesRise = (plans : List Plan) (from to : NameId) (low high : ℕ) → Edge plans from to
    → IsRank (Edge plans) from low → IsRank (Edge plans) to high → low < high

-- a name on a cycle has no rank
abbrev pub CyclesHaveNoRank : Type 0
CyclesHaveNoRank = (plans : List Plan) (name : NameId) (rank : ℕ) → IsRank (Edge plans) name rank
    → IsOnCycle (Edge plans) name → ⊥

-- where a test tells the edges, they are between the first so many names, and no name is on a cycle, each name has a
-- rank
abbrev pub AllHaveRanks : Type 0
AllHaveRanks = (width : ℕ) (test : NameId → NameId → Bool)
    → ((from to : NameId) → IsTrue (test from to) → (from.0 < width) × (to.0 < width))
    → ((name : NameId) → IsOnCycle (λ from to. IsTrue (test from to)) name → ⊥)
    → (name : NameId) → (rank : ℕ) × IsRank (λ from to. IsTrue (test from to)) name rank

-- plans are accepted or refused for a reason, by cases on what is so
abbrev pub ArePlansAnswered : Type 0
ArePlansAnswered = (plans : List Plan) → Classically (AreAccepted plans
    ⊎ ((refusal : RankRefusal) × (refusal ≡ NoMemory → ⊥) × RefusesPlans plans refusal))

-- plans that are accepted are refused in no other way than by running out of memory
abbrev pub AcceptedPlansStay : Type 0
AcceptedPlansStay = (plans : List Plan) (refusal : RankRefusal)
    → AreAccepted plans → RefusesPlans plans refusal → refusal ≡ NoMemory

-- plans that are refused, other than by running out of memory, are refused for one reason
abbrev pub OneReason : Type 0
OneReason = (plans : List Plan) (refusal other : RankRefusal) → RefusesPlans plans refusal
    → RefusesPlans plans other → (refusal ≡ NoMemory) ⊎ ((other ≡ NoMemory) ⊎ (refusal ≡ other))
