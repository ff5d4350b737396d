-- What is asked stays over a step without an event that it waits for.
use Rattle.trace_audit.proofs.Vocabulary.{◌≡◌, ◌↔◌, ℕ, ◌+◌, ◌++◌, List, [], ◌∷◌, Option, Some, none-some, sym, subst, ◌∙◌, AllByRecursion-of_append, Vec, Global, Step, step_at, VarId, Valuation}
use Rattle.trace_audit.proofs.Vocabulary.{Formula, Plan, CausePlan, SuppressPlan, Both, Either, TestOr, Guarded, EventuallyPlan, AlwaysPlan, UntilPlan, NextPlan, plan_of, AtEach, AtEach-weaker}
use Rattle.trace_audit.proofs.Vocabulary.{Pattern, HasNone, met_by, missed_by, patterns_of_both, wake_patterns, BringsFresh, BringsFreshUnder, UnmetPlansFail, UnmissedPlansHold, FitsScope}
use Rattle.trace_audit.proofs.Vocabulary.{CanEvaluatePlan, IsAskable, guards_at, IsAt, AuditMoment, PlanHoldsAt, OperatorAsks, CanLinkGoOn, ResidualCanGoOn, LinkMeans, LinksMean, Means, LinksWait}
use Rattle.trace_audit.proofs.Vocabulary.{WaitsForEvents, Link, Residual, Waiting}
use Rattle.wake_patterns.proofs.PatternLemmas.{none_of_both}
use Rattle.trace_audit.proofs.ResidualLemmas.{IsClassical, both_ways, chain_can, chain_means, links_more}
use Rattle.trace_audit.proofs.WindowLemmas.{always_stays, eventually_stays, until_stays}
use Rattle.trace_audit.specs.declared.residuals.Link.TheVariants as link
use Rattle.trace_audit.specs.declared.residuals.Residual.TheVariants as stored

-- ---- an operator on the future

-- the variables that a plan below a node brings are new
fresh_below : (guards : List (Formula × List VarId)) (v : Valuation) (scope : List VarId) (plan : Plan) → FitsScope scope v
    → AtEach (IsAskable guards) plan scope → BringsFreshUnder v plan
fresh_below guards v scope plan fits can = record {
  scope = scope;
  fresh = AtEach-weaker (IsAskable guards) BringsFresh (λ node inner asked. asked.fresh) plan scope can;
  fits = fits;
}

module _ (classical : IsClassical) (unmet : UnmetPlansFail) (unmissed : UnmissedPlansHold) (now : AuditMoment) (trace : List Step)
    (is : IsAt now trace) (v : Valuation) (low high : ℕ) where
  abbrev guards : List (Formula × List VarId)
  guards = guards_at now.tables

  here_none : (patterns : List Pattern) → HasNone patterns now.events → HasNone patterns (step_at trace now.position).events
  here_none patterns none = subst (HasNone patterns) (sym is.events) none

  fails_here : (plan : Plan) (patterns : List Pattern) → BringsFreshUnder v plan → met_by v plan ≡ Some patterns
      → HasNone patterns now.events → PlanHoldsAt trace v plan now.position → ⊥
  fails_here plan patterns fresh waits none =
      unmet trace now.position v plan patterns is.there fresh waits (here_none patterns none)

  holds_here : (plan : Plan) (patterns : List Pattern) → BringsFreshUnder v plan → missed_by v plan ≡ Some patterns
      → HasNone patterns now.events → PlanHoldsAt trace v plan now.position
  holds_here plan patterns fresh waits none =
      unmissed trace now.position v plan patterns fresh waits (here_none patterns none)

  operator_stays : (node : Plan) (patterns : List Pattern) → CanEvaluatePlan guards node v → wake_patterns v node ≡ Some patterns
      → HasNone patterns now.events → OperatorAsks trace now.position node v low high ↔ OperatorAsks trace (now.position + 1) node v low high
  operator_stays (EventuallyPlan node place a b body) patterns can waits none =
      eventually_stays classical now trace is low high v node place a b body
      (fails_here body patterns (fresh_below guards v can.scope body can.fits can.can.1) waits none)
  operator_stays (AlwaysPlan node place a b body) patterns can waits none =
      always_stays classical now trace is low high v node place a b body
      (holds_here body patterns (fresh_below guards v can.scope body can.fits can.can.1) waits none)
  operator_stays (UntilPlan node place a b left right) patterns can waits none =
      let (xs, ys, r, l, front, back) = none_of_both now.events (met_by v right) (missed_by v left) patterns waits none in
      until_stays classical now trace is low high v node place a b left right
      (fails_here right xs (fresh_below guards v can.scope right can.fits can.can.2) r front)
      (holds_here left ys (fresh_below guards v can.scope left can.fits can.can.1) l back)
  operator_stays (CausePlan node place name terms) patterns can waits none = absurd (none-some patterns waits)
  operator_stays (SuppressPlan node place name terms) patterns can waits none = absurd (none-some patterns waits)
  operator_stays (Both node left right) patterns can waits none = absurd (none-some patterns waits)
  operator_stays (Either node left right) patterns can waits none = absurd (none-some patterns waits)
  operator_stays (TestOr node guard test body) patterns can waits none = absurd (none-some patterns waits)
  operator_stays (Guarded node xs guard test body) patterns can waits none = absurd (none-some patterns waits)
  operator_stays (NextPlan node place b body) patterns can waits none = absurd (none-some patterns waits)

pub waiting_stays : IsClassical → UnmetPlansFail → UnmissedPlansHold → (w : Waiting) (waits : Option (List Pattern))
    → waits ≡ wake_patterns w.valuation (plan_of w.node.now) → WaitsForEvents (stored.Waits w) waits
waiting_stays classical unmet unmissed w waits are now patterns some none trace is can =
    operator_stays classical unmet unmissed now trace is w.valuation w.low w.high (plan_of w.node.now) patterns can (sym are ∙ some) none

-- ---- a chain

pub met_stays : (waits : Option (List Pattern)) → WaitsForEvents stored.Met waits
met_stays waits now patterns some none trace is can = (λ m. m, λ m. m)

pub failed_stays : (waits : Option (List Pattern)) → WaitsForEvents stored.Failed waits
failed_stays waits now patterns some none trace is can = (λ m. m, λ m. m)

pub no_link_stays : (waits : Option (List Pattern)) → LinksWait [] waits
no_link_stays waits now patterns some none trace is can = (λ m. m, λ m. m)

abbrev pub rest_in : Link → Residual
rest_in (link.Both rest) = rest
rest_in (link.Either rest) = rest

link_can : (gs : List (Formula × List VarId)) (one : Link) → CanLinkGoOn gs one → ResidualCanGoOn gs (rest_in one)
link_can gs (link.Both rest) can = can
link_can gs (link.Either rest) can = can

link_stays : (trace : List Step) (from to : ℕ) (P Q : Type 0) → P ↔ Q → (one : Link)
    → Means trace from (rest_in one) ↔ Means trace to (rest_in one) → LinkMeans trace from P one ↔ LinkMeans trace to Q one
link_stays trace from to P Q same (link.Both rest) stays = (
  λ met. (same.0 met.0, stays.0 met.1),
  λ met. (same.1 met.0, stays.1 met.1),
)
link_stays trace from to P Q same (link.Either rest) stays = (
  λ met no_first no_rest. met (λ p. no_first (same.0 p)) (λ m. no_rest (stays.0 m)),
  λ met no_first no_rest. met (λ q. no_first (same.1 q)) (λ m. no_rest (stays.1 m)),
)

pub links_stay : (links : List Link) (one : Link) (some others waits : Option (List Pattern)) → waits ≡ patterns_of_both some others
    → WaitsForEvents (rest_in one) others → LinksWait links some → LinksWait (links ++ one ∷ []) waits
links_stay links one some others waits are rest_waits links_wait now patterns is_some none trace is can =
    let (xs, ys, l, r, front, back) = none_of_both now.events some others patterns (sym are ∙ is_some) none in
    let parts = AllByRecursion-of_append (CanLinkGoOn (guards_at now.tables)) links (one ∷ []) can in
    let from = now.position in
    let to = now.position + 1 in
    both_ways _ _ _ (links_more trace from (Unit {0}) links one)
    (both_ways _ _ _
    (link_stays trace from to (LinksMean trace from (Unit {0}) links) (LinksMean trace to (Unit {0}) links)
    (links_wait now xs l front trace is parts.0) one
    (rest_waits now ys r back trace is (link_can (guards_at now.tables) one parts.1.0)))
    (let m = links_more trace to (Unit {0}) links one in (m.1, m.0)))

pub chain_stays : (links : Vec Link Global) (waits : Option (List Pattern)) → LinksWait links.items waits
    → WaitsForEvents (stored.Chain links) waits
chain_stays links waits links_wait now patterns some none trace is can =
    both_ways _ _ _ (chain_means trace now.position links)
    (both_ways _ _ _ (links_wait now patterns some none trace is ((chain_can (guards_at now.tables) links).0 can))
    (let m = chain_means trace (now.position + 1) links in (m.1, m.0)))
