-- What is known of the rules at the positions up to one, where the steps after it are still to come.
use Rattle.enf_data.specs.declared.steps.Step.{Step}
use Rattle.enf_data.specs.declared.terms.VarId.{VarId}
use Rattle.enf_data.specs.meaning.Valuations.{no_values}
use Rattle.std.specs.List.{AllByRecursion}
use Rattle.std.specs.Prelude.{◌≡◌, ◌⊎◌, ◌<◌, Option, None, Some, ◌↔◌, ℕ, List, slice_get}
use Rattle.std.specs.Prelude.{Contains, ◌+◌, ◌∷◌, length}
use Rattle.enf_formula.specs.meaning.Satisfaction.{Formula, Sat}
use Rattle.plan_terms.specs.machine.StoredPlans.{formulas_for}
use Rattle.plan_terms.specs.meaning.Plans.{Plan}
use Rattle.trace_audit.specs.declared.followed_rules.Followed.{Followed}
use Rattle.trace_audit.specs.declared.open_rules.OpenRule.{OpenRule}
use Rattle.trace_audit.specs.declared.residuals.Residual.{Residual}
use Rattle.trace_audit.specs.declared.verdicts.RuleAt.{RuleAt}
use Rattle.trace_audit.specs.machine.Moments.{IsAt, AuditMoment}
use Rattle.trace_audit.specs.machine.OpenRules.{HasOneMoreRule}
use Rattle.trace_audit.specs.machine.Residuals.{Means, ResidualCanGoOn}
use Rattle.trace_audit.specs.meaning.Verdicts.{IsBroken}
use Rattle.trace_audit.specs.declared.residuals.Residual.TheVariants as stored

-- at a lesser position, or by a lesser rule at the same one
abbrev pub IsRuleBefore : RuleAt → RuleAt → Type 0
IsRuleBefore at other =
    (at.position < other.position) ⊎ ((at.position ≡ other.position) × (at.rule < other.rule))

-- where there is another one
abbrev pub IsRuleBeforeAny : RuleAt → Option RuleAt → Type 0
IsRuleBeforeAny at None = Unit {0}
IsRuleBeforeAny at (Some other) = IsRuleBefore at other

-- a rule at a position, before an end, holds where the positions from one on meet what is asked of them
pub record IsAskedFor (policy : List Formula) (trace : List Step) (from : ℕ) (end : RuleAt)
    (item : OpenRule) : Type 0 where
  pub rule : Formula
  pub of_rule : slice_get policy item.at.rule ≡ Some rule
  pub before : IsRuleBefore item.at end
  pub means : Means trace from item.rest ↔ Sat trace item.at.position no_values rule

-- each of them that is of this rule and position is met
abbrev pub RulesAreMet : List Step → (from : ℕ) → List OpenRule → RuleAt → Type 0
RulesAreMet trace from items at = (item : OpenRule) → Contains items item → item.at ≡ at
    → Means trace from item.rest

-- of the rules at positions before an end some are asked, and one may be broken. Each other one before that holds where
-- this and what is asked for it are met
pub record IsJudged (policy : List Formula) (trace : List Step) (from : ℕ) (end : RuleAt) (Rest : RuleAt → Type 0)
    (asked : List OpenRule) (broken : Option RuleAt) : Type 0 where
  pub items : AllByRecursion (IsAskedFor policy trace from end) asked
  pub failed : (at : RuleAt) → broken ≡ Some at → IsRuleBefore at end × IsBroken policy trace at.rule at.position
  pub others : (at : RuleAt) (rule : Formula) → slice_get policy at.rule ≡ Some rule → IsRuleBefore at end
      → IsRuleBeforeAny at broken → RulesAreMet trace from asked at → Rest at
      → Sat trace at.position no_values rule

-- nothing else
abbrev pub NothingElse : RuleAt → Type 0
NothingElse at = Unit {0}

-- the rules at positions before an end are judged so far, from the position of the end on
abbrev pub AreJudged : List Formula → List Step → RuleAt → List OpenRule → Option RuleAt → Type 0
AreJudged policy trace end asked broken = IsJudged policy trace end.position end NothingElse asked broken

-- each of them can be followed at a step with these guards
abbrev pub RulesCanGoOn : List (Formula × List VarId) → List OpenRule → Type 0
RulesCanGoOn guards items = AllByRecursion (λ item. ResidualCanGoOn guards item.rest) items

abbrev pub asked_at : RuleAt → Residual → OpenRule
asked_at at rest = record { at = at; rest = rest }

-- what is asked for a rule at a position was put in: nothing where it is met, that it is broken where it failed
abbrev pub PutsIn : RuleAt → Residual → Followed → Followed → Type 0
PutsIn at stored.Met before after = after ≡ before
PutsIn at stored.Failed before after = after ≡ record { asked = before.asked; broken = Some at }
PutsIn at rest before after =
    HasOneMoreRule (asked_at at rest) before.asked after.asked × (after.broken ≡ before.broken)

-- ---- over a step

-- what was asked at the step is followed after it: on each trace where it is looked at as much is known as before
abbrev pub FollowsAsked : AuditMoment → Followed → Followed → Type 0
FollowsAsked now before after = (policy : List Formula) (trace : List Step) (end : RuleAt) → IsAt now trace
    → IsJudged policy trace now.position end NothingElse before.asked before.broken
    → IsJudged policy trace (now.position + 1) end NothingElse after.asked after.broken

-- the first of some is followed, and the others not yet
abbrev pub FollowsOneAsked : AuditMoment → OpenRule → Followed → Followed → Type 0
FollowsOneAsked now item before after = (policy : List Formula) (trace : List Step) (end : RuleAt)
    (left : List OpenRule)
    → IsAt now trace → IsAskedFor policy trace now.position end item
    → IsJudged policy trace (now.position + 1) end (RulesAreMet trace now.position (item ∷ left))
    before.asked before.broken
    → IsJudged policy trace (now.position + 1) end (RulesAreMet trace now.position left) after.asked
    after.broken

abbrev pub rule_at : (rule position : ℕ) → RuleAt
rule_at rule position = record { rule = rule; position = position }

-- each of the first rules is asked at the step, and followed
abbrev pub BeginsRules : AuditMoment → List Plan → (count : ℕ) → Followed → Followed → Type 0
BeginsRules now plans count before after = (trace : List Step) → IsAt now trace
    → IsJudged (formulas_for plans) trace (now.position + 1) (rule_at 0 now.position) NothingElse
    before.asked before.broken
    → IsJudged (formulas_for plans) trace (now.position + 1) (rule_at count now.position) NothingElse
    after.asked after.broken

-- over a step: on each trace where it is looked at, what was known of the rules before its position is known of those
-- up to it
abbrev pub JudgesStep : AuditMoment → List Plan → Followed → Followed → Type 0
JudgesStep now plans before after = (trace : List Step) → IsAt now trace
    → AreJudged (formulas_for plans) trace (rule_at 0 now.position) before.asked before.broken
    → AreJudged (formulas_for plans) trace (rule_at 0 (now.position + 1)) after.asked after.broken

-- ---- at the end

-- the first of a broken rule and of what stands in a slot, where no position is left
abbrev pub IsFirstWith : Option OpenRule → (broken first : Option RuleAt) → Type 0
IsFirstWith None broken first = first ≡ broken
IsFirstWith (Some item) broken first =
    ((first ≡ Some item.at) × IsRuleBeforeAny item.at broken
    × ((trace : List Step) → Means trace (length trace) item.rest → ⊥))
    ⊎ ((first ≡ broken) × ((IsRuleBeforeAny item.at broken → ⊥)
    ⊎ ((trace : List Step) → Means trace (length trace) item.rest)))
