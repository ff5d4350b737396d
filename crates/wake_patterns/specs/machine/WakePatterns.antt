-- The patterns of the events that can change what plans ask for.
use Rattle.enf_data.specs.declared.events.NameId.{NameId}
use Rattle.enf_data.specs.declared.terms.Term.{Term}
use Rattle.enf_data.specs.meaning.Valuations.{Valuation, value_of_term}
use Rattle.std.specs.Prelude.{List, map, [], ◌∷◌, Option, Some, ◌++◌, None, zero, suc, Bool, true, false}
use Rattle.std.specs.Prelude.{ℕ, ◌^◌, ◌-◌, cond, is_some, min, nat_lt}
use Rattle.std.specs.List.{count_by}
use Rattle.enf_formula.specs.meaning.Satisfaction.{Formula, And, Atom, Exists, Forall, Implies, Not, Once, Or, Since}
use Rattle.plan_terms.specs.meaning.Plans.{Plan, CausePlan, Both, Either, TestOr, AlwaysPlan, UntilPlan, SuppressPlan}
use Rattle.plan_terms.specs.meaning.Plans.{Guarded, EventuallyPlan}
use Rattle.sleepers.specs.declared.patterns.Pattern.{Pattern}
use Rattle.wake_patterns.specs.machine.KnownTruths.{known_truth}

-- ---- patterns

-- constants and what v binds are fixed
abbrev pub pattern_of : Valuation → NameId → List Term → Pattern
pattern_of v name terms = record { name = name; args = map (value_of_term v) terms }

-- the list of the one pattern of an atom
abbrev pub patterns_of_one : Valuation → NameId → List Term → Option (List Pattern)
patterns_of_one v name terms = Some (pattern_of v name terms ∷ [])

-- the patterns of both sides, where both have some
abbrev pub patterns_of_both : Option (List Pattern) → Option (List Pattern) → Option (List Pattern)
patterns_of_both None others = None
patterns_of_both (Some patterns) None = None
patterns_of_both (Some patterns) (Some others) = Some (patterns ++ others)

-- how many arguments are fixed
abbrev pub fixed_count : Pattern → ℕ
fixed_count pattern = count_by is_some pattern.args

-- the fewest that are fixed in one of the patterns; of no pattern a number that none exceeds
abbrev pub least_fixed : List Pattern → ℕ
least_fixed [] = 2 ^ 64 - 1
least_fixed (pattern ∷ patterns) = min (fixed_count pattern) (least_fixed patterns)

-- of two alternatives the one that has patterns; where both have some, that of which more is fixed, and the first where
-- as much is
abbrev pub narrower : Option (List Pattern) → Option (List Pattern) → Option (List Pattern)
narrower None others = others
narrower (Some patterns) None = Some patterns
narrower (Some patterns) (Some others) =
    cond (nat_lt (least_fixed patterns) (least_fixed others)) (Some others) (Some patterns)

-- no event is waited for where the truth is known to be this one; else each step is looked at
abbrev pub if_known : (wanted : Bool) → Option Bool → Option (List Pattern)
if_known true (Some true) = Some []
if_known false (Some false) = Some []
if_known wanted truth = None

-- the patterns without an event of which a guard or test fails, whatever the variables are that v does not bind, and
-- those without which it holds so: where one of two parts is enough, the narrower patterns, and where both have to be,
-- the patterns of both
abbrev mutual
  pub fails_without : Valuation → Formula → Option (List Pattern)
  fails_without v (Atom place name terms) = patterns_of_one v name terms
  fails_without v (Not place g) = holds_without v g
  fails_without v (And place g h) = narrower (fails_without v g) (fails_without v h)
  fails_without v (Or place g h) = patterns_of_both (fails_without v g) (fails_without v h)
  fails_without v (Implies place g h) = patterns_of_both (holds_without v g) (fails_without v h)
  fails_without v (Exists place xs g) = fails_without v g
  fails_without v f = if_known false (known_truth v f)

  pub holds_without : Valuation → Formula → Option (List Pattern)
  holds_without v (Not place g) = fails_without v g
  holds_without v (And place g h) = patterns_of_both (holds_without v g) (holds_without v h)
  holds_without v (Or place g h) = narrower (holds_without v g) (holds_without v h)
  holds_without v (Implies place g h) = narrower (fails_without v g) (holds_without v h)
  holds_without v (Forall place xs g) = holds_without v g
  holds_without v f = if_known true (known_truth v f)

-- the patterns of a part that holds at an earlier position, at least so much before; none where that cannot be the
-- position itself
abbrev pub if_from_now : (low : ℕ) → Option (List Pattern) → Option (List Pattern)
if_from_now zero patterns = patterns
if_from_now (suc low) patterns = None

-- the patterns that there are first
abbrev pub first_known : Option (List Pattern) → Option (List Pattern) → Option (List Pattern)
first_known None others = others
first_known (Some patterns) others = Some patterns

-- the patterns without an event of which a guard or test fails that failed at the step before: what holds by an earlier
-- step in a window that begins now held there too. Of two parts that both have to hold it is not known which one failed
abbrev pub fails_still : Valuation → Formula → Option (List Pattern)
fails_still v (And place g h) =
    first_known (fails_without v (And place g h)) (patterns_of_both (fails_still v g) (fails_still v h))
fails_still v (Or place g h) = patterns_of_both (fails_still v g) (fails_still v h)
fails_still v (Exists place xs g) = fails_still v g
fails_still v (Once place interval g) = if_from_now interval.low (fails_still v g)
fails_still v (Since place interval g h) = if_from_now interval.low (fails_still v h)
fails_still v f = fails_without v f

-- ---- what plans wait for

-- without an event of these a plan does not hold
abbrev pub met_by : Valuation → Plan → Option (List Pattern)
met_by v (CausePlan node place name terms) = patterns_of_one v name terms
met_by v (Both node left right) = narrower (met_by v left) (met_by v right)
met_by v (Either node left right) = patterns_of_both (met_by v left) (met_by v right)
met_by v (TestOr node guard test body) = patterns_of_both (fails_without v test) (met_by v body)
met_by v (AlwaysPlan node place zero high body) = met_by v body
met_by v (UntilPlan node place zero high left right) = patterns_of_both (met_by v right) (met_by v left)
met_by v (UntilPlan node place (suc low) high left right) = met_by v left
met_by v plan = None

-- without an event of these a plan does not hold that did not hold at the step before
abbrev pub met_anew : Valuation → Plan → Option (List Pattern)
met_anew v (Both node left right) =
    first_known (met_by v (Both node left right)) (patterns_of_both (met_anew v left) (met_anew v right))
met_anew v (Either node left right) = patterns_of_both (met_anew v left) (met_anew v right)
met_anew v (TestOr node guard test body) = patterns_of_both (fails_still v test) (met_anew v body)
met_anew v plan = met_by v plan

-- without an event of these a plan holds, and asks nothing of later steps
abbrev pub missed_by : Valuation → Plan → Option (List Pattern)
missed_by v (SuppressPlan node place name terms) = patterns_of_one v name terms
missed_by v (Both node left right) = patterns_of_both (missed_by v left) (missed_by v right)
missed_by v (Either node left right) = patterns_of_both (missed_by v left) (missed_by v right)
missed_by v (TestOr node guard test body) = narrower (holds_without v test) (missed_by v body)
missed_by v (Guarded node xs guard test body) = narrower (fails_without v test) (missed_by v body)
missed_by v plan = None

-- without an event of these a step changes nothing of what an operator on the future asks, up to the end of its window;
-- none where each step can change it
abbrev pub wake_patterns : Valuation → Plan → Option (List Pattern)
wake_patterns v (EventuallyPlan node place low high body) = met_by v body
wake_patterns v (AlwaysPlan node place low high body) = missed_by v body
wake_patterns v (UntilPlan node place low high left right) = patterns_of_both (met_by v right) (missed_by v left)
wake_patterns v plan = None

-- without an event of these a goal is not met: where its window began with the operator, one that was not met at the
-- step before, and else any
abbrev pub goal_patterns : (low : ℕ) → Valuation → Plan → Option (List Pattern)
goal_patterns zero v goal = met_anew v goal
goal_patterns (suc low) v goal = met_by v goal

-- without an event of these a step changes nothing of what a pending operator asks whose goal was not met at the step
-- before, up to the end of its window; none where each step can change it
abbrev pub waiting_patterns : Valuation → Plan → Option (List Pattern)
waiting_patterns v (EventuallyPlan node place low high body) = goal_patterns low v body
waiting_patterns v (AlwaysPlan node place low high body) = missed_by v body
waiting_patterns v (UntilPlan node place low high left right) =
    patterns_of_both (goal_patterns low v right) (missed_by v left)
waiting_patterns v plan = None

-- before the window of an operator on the future begins, a step without an event of these changes nothing of what it
-- asks
abbrev pub early_patterns : Valuation → Plan → Option (List Pattern)
early_patterns v (EventuallyPlan node place low high body) = Some []
early_patterns v (AlwaysPlan node place low high body) = Some []
early_patterns v (UntilPlan node place low high left right) = missed_by v left
early_patterns v plan = None
