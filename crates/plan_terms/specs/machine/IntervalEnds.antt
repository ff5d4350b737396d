-- Plans whose intervals do not end at once.
use Rattle.std.specs.List.{AllByRecursion, flat_map}
use Rattle.std.specs.Prelude.{◌<◌, List}
use Rattle.plan_terms.specs.meaning.Plans.{nodes, Plan, CausePlan, SuppressPlan, Both, Either, TestOr, Guarded}
use Rattle.plan_terms.specs.meaning.Plans.{EventuallyPlan, AlwaysPlan, UntilPlan, NextPlan}

-- an operator's interval does not end at once: the times at which it can be met go on after the present one
abbrev pub EndsLater : Plan → Type 0
EndsLater (CausePlan node place name terms) = Unit {0}
EndsLater (SuppressPlan node place name terms) = Unit {0}
EndsLater (Both node left right) = Unit {0}
EndsLater (Either node left right) = Unit {0}
EndsLater (TestOr node guard test body) = Unit {0}
EndsLater (Guarded node xs guard test body) = Unit {0}
EndsLater (EventuallyPlan node place low high body) = 0 < high
EndsLater (AlwaysPlan node place low high body) = 0 < high
EndsLater (UntilPlan node place low high left right) = 0 < high
EndsLater (NextPlan node place high body) = 0 < high

-- no interval of the plans ends at once
abbrev pub AllEndLater : List Plan → Type 0
AllEndLater plans = AllByRecursion EndsLater (flat_map nodes plans)
