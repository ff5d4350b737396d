-- What is lost and owed stays so after more steps.
use Rattle.plan_terms.proofs.Vocabulary.{◌≡◌, ◌⊎◌, ℕ, ◌+◌, ◌<◌, ◌≤◌, Bool, false, ◌||◌, List, [], ◌∷◌, ◌++◌, length, All, IsTrue, inl, inr, ⊎_elim, refl, sym, ap, subst, ◌∙◌, append_assoc, arith}
use Rattle.plan_terms.proofs.Vocabulary.{length-append, AllByRecursion, list_any, false≢true, or_parts as neither, get_or_append_left, All-append, All-weaker, step_at, no_step}
use Rattle.plan_terms.proofs.Vocabulary.{AllByRecursion-of_append, Valuation, no_values, with_values, Step, Formula, Or, Sat, elapsed, PastDecides, is_past, IsIn, GuardLooksBack, IsLost, IsAhead}
use Rattle.plan_terms.proofs.Vocabulary.{IsNotMet, IsStillLost, LeadsThrough, LeadsTo, Obligation, WasLost, obligation, LostStaysLost, LeadsOn, OwedLeadsOn, OwedStaysOwed, has_future, is_future}
use Rattle.plan_terms.proofs.Vocabulary.{nodes, formula_for, interval_from_to, Plan, CausePlan, SuppressPlan, Both, Either, TestOr, Guarded, EventuallyPlan, AlwaysPlan, UntilPlan, NextPlan}

pub lost_stays_lost : LostStaysLost
lost_stays_lost trace more clock later node v position given not_before lost longer continued =
    lost longer (record {
      more = more ++ continued.more;
      begins = continued.begins ∙ append_assoc trace more continued.more;
      later = All-append (λ (step : Step). clock ≤ step.time) more continued.more given
          (All-weaker (λ (step : Step). later ≤ step.time) (λ step. clock ≤ step.time) (λ step h. omega arith) continued.more continued.later);
      is_trace = continued.is_trace;
    })

-- ---- plans that do not look ahead

abbrev LookBack : Plan → Type 0
LookBack plan = AllByRecursion GuardLooksBack (nodes plan)

none_of : (ps qs : List Plan) → list_any is_future (ps ++ qs) ≡ false
    → (list_any is_future ps ≡ false) × (list_any is_future qs ≡ false)
none_of [] qs none = (refl, none)
none_of (p ∷ ps) qs none =
    let parts = neither (is_future p) (list_any is_future (ps ++ qs)) none in
    let others = none_of ps qs parts.1 in
    (subst (λ (b : Bool). (b || list_any is_future ps) ≡ false) (sym parts.0) others.0, others.1)

both_past : (f g : Formula) → IsTrue (is_past f) → IsTrue (is_past g) → IsTrue (is_past (Or 0 f g))
both_past f g one two = grind (arith, one, two)

-- the formula of one whose guards look back does not look ahead either
pub looks_back : (plan : Plan) → has_future plan ≡ false → LookBack plan → IsTrue (is_past (formula_for plan))
looks_back (CausePlan node place name terms) none back = refl
looks_back (SuppressPlan node place name terms) none back = refl
looks_back (Both node left right) none back =
    let parts = none_of (nodes left) (nodes right) none in
    let backs = AllByRecursion-of_append GuardLooksBack (nodes left) (nodes right) back.1 in
    both_past (formula_for left) (formula_for right) (looks_back left parts.0 backs.0) (looks_back right parts.1 backs.1)
looks_back (Either node left right) none back =
    let parts = none_of (nodes left) (nodes right) none in
    let backs = AllByRecursion-of_append GuardLooksBack (nodes left) (nodes right) back.1 in
    both_past (formula_for left) (formula_for right) (looks_back left parts.0 backs.0) (looks_back right parts.1 backs.1)
looks_back (TestOr node guard test body) none back =
    both_past test (formula_for body) back.0 (looks_back body none back.1)
looks_back (Guarded node xs guard test body) none back =
    both_past test (formula_for body) back.0 (looks_back body none back.1)
looks_back (EventuallyPlan node place low high body) none back = absurd (false≢true (sym none))
looks_back (AlwaysPlan node place low high body) none back = absurd (false≢true (sym none))
looks_back (UntilPlan node place low high left right) none back = absurd (false≢true (sym none))
looks_back (NextPlan node place high body) none back = absurd (false≢true (sym none))

-- ---- moves after more steps

module _ (past : PastDecides) (trace more : List Step) (clock later : ℕ)
    (given : All (λ step. clock ≤ step.time) more) (not_before : clock ≤ later) where
  abbrev longer : List Step
  longer = trace ++ more

  same_step : (k : ℕ) → k < length trace → step_at longer k ≡ step_at trace k
  same_step k there = get_or_append_left trace more no_step k there

  on : (v : Valuation) (f : Formula) (k : ℕ) → k < length trace → IsTrue (is_past f) → Sat trace k v f → Sat longer k v f
  on v f k there back = (past trace longer k v f back (λ i le. sym (same_step i (omega (arith, le, there))))).0

  off : (v : Valuation) (f : Formula) (k : ℕ) → k < length trace → IsTrue (is_past f) → Sat longer k v f → Sat trace k v f
  off v f k there back = (past trace longer k v f back (λ i le. sym (same_step i (omega (arith, le, there))))).1

  same_distance : (low high j k : ℕ) → j < length trace → k < length trace → elapsed longer j k ≡ elapsed trace j k
  same_distance low high j k first second =
      let start = ap (λ (s : Step). s.time) (same_step j first) in
      let end = ap (λ (s : Step). s.time) (same_step k second) in
      omega (arith, start, end)

  ahead : (low high j k : ℕ) → IsAhead trace low high j k → IsAhead longer low high j k
  ahead low high j k is =
      let there = is.there in
      let behind = is.not_before in
      let same = same_distance low high j k (omega (arith, there, behind)) there in record {
        not_before = behind;
        there = omega (arith, there, length-append trace more);
        distance = subst (λ (d : ℕ). IsIn (interval_from_to low high) d) (sym same) is.distance;
      }

  -- a position that is ahead up to one of the shorter trace was ahead there
  was_ahead : (low high j k i : ℕ) → k < length trace → i ≤ k → IsAhead longer low high j i → IsAhead trace low high j i
  was_ahead low high j k i there le is =
      let behind = is.not_before in
      let same = same_distance low high j i (omega (arith, there, le, behind)) (omega (arith, there, le)) in record {
        not_before = behind;
        there = omega (arith, there, le);
        distance = subst (λ (d : ℕ). IsIn (interval_from_to low high) d) same is.distance;
      }

  stays : (node : Plan) (v : Valuation) (i : ℕ) → IsLost trace clock node v i → IsLost longer later node v i
  stays node v i = lost_stays_lost trace more clock later node v i given not_before

  was_lost : (low high : ℕ) (node : Plan) (v : Valuation) (j k : ℕ) → k < length trace
      → WasLost trace clock low high node v j k → WasLost longer later low high node v j k
  was_lost low high node v j k there lost i is below =
      stays node v i (lost i (was_ahead low high j k i there (omega (arith, below)) is) below)

  still_lost : (low high : ℕ) (node : Plan) (v : Valuation) (j k : ℕ) → k < length trace
      → IsStillLost trace clock low high node v j k → IsStillLost longer later low high node v j k
  still_lost low high node v j k there lost i is le = stays node v i (lost i (was_ahead low high j k i there le is) le)

  not_met : (side : Plan) (v : Valuation) (j : ℕ) → j < length trace → LookBack side → IsNotMet trace side v j
      → IsNotMet longer side v j
  not_met side v j there back fails none holds =
      fails none (off v (formula_for side) j there (looks_back side none back) holds)

  leads_to : (node : Plan) (v : Valuation) (j : ℕ) (next : Obligation) → LookBack node → j < length trace
      → LeadsTo trace clock node v j next → LeadsTo longer later node v j next
  leads_to (CausePlan node place name terms) v j next back there leads = leads
  leads_to (SuppressPlan node place name terms) v j next back there leads = leads
  leads_to (Both node left right) v j next back there leads = leads
  leads_to (Either node left right) v j next back there leads =
      let backs = AllByRecursion-of_append GuardLooksBack (nodes left) (nodes right) back.1 in
      (not_met left v j there backs.0 leads.0, not_met right v j there backs.1 leads.1, leads.2)
  leads_to (TestOr node guard test body) v j next back there leads =
      ((λ holds. leads.0 (off v test j there back.0 holds)), leads.1)
  leads_to (Guarded node xs guard test body) v j next back there leads =
      (leads.0, leads.1, on (with_values xs leads.0 v) test j there back.0 leads.2, leads.3)
  leads_to (NextPlan node place high body) v j next back there leads =
      (let before = leads.0 in omega (arith, before, length-append trace more), leads.1)
  leads_to (AlwaysPlan node place low high body) v j next back there leads =
      (leads.0, ahead low high j leads.0 leads.1, leads.2)
  leads_to (EventuallyPlan node place low high body) v j next back there leads =
      (leads.0, ahead low high j leads.0 leads.1, was_lost low high body v j leads.0 leads.1.there leads.2, leads.3)
  leads_to (UntilPlan node place low high left right) v j next back there leads =
      ⊎_elim
      (λ to_right. inl (to_right.0, ahead low high j to_right.0 to_right.1, was_lost low high right v j to_right.0 to_right.1.there to_right.2, to_right.3))
      (λ to_left. inr (to_left.0, ahead 0 high j to_left.0 to_left.1, still_lost low high right v j to_left.0 to_left.1.there to_left.2, to_left.3))
      leads

-- where a node leads is a node below it, at a position of the trace
abbrev Goes : List Step → Obligation → Type 0
Goes trace to = LookBack to.node × (to.position < length trace)

goes : (trace : List Step) (node : Plan) (v : Valuation) (k : ℕ) (next : Obligation) → LookBack node → k < length trace
    → obligation node v k ≡ next → Goes trace next
goes trace node v k next back there is = subst (Goes trace) is (back, there)

one_side : (trace : List Step) (left right : Plan) (v : Valuation) (j : ℕ) (next : Obligation)
    → AllByRecursion GuardLooksBack (nodes left ++ nodes right) → j < length trace
    → (obligation left v j ≡ next) ⊎ (obligation right v j ≡ next) → Goes trace next
one_side trace left right v j next back there leads =
    let backs = AllByRecursion-of_append GuardLooksBack (nodes left) (nodes right) back in
    ⊎_elim (goes trace left v j next backs.0 there) (goes trace right v j next backs.1 there) leads

leads_below : (trace : List Step) (clock : ℕ) (node : Plan) (v : Valuation) (j : ℕ) (next : Obligation) → LookBack node
    → j < length trace → LeadsTo trace clock node v j next → Goes trace next
leads_below trace clock (CausePlan node place name terms) v j next back there leads = absurd leads
leads_below trace clock (SuppressPlan node place name terms) v j next back there leads = absurd leads
leads_below trace clock (Both node left right) v j next back there leads = one_side trace left right v j next back.1 there leads
leads_below trace clock (Either node left right) v j next back there leads = one_side trace left right v j next back.1 there leads.2
leads_below trace clock (TestOr node guard test body) v j next back there leads = goes trace body v j next back.1 there leads.1
leads_below trace clock (Guarded node xs guard test body) v j next back there leads =
    goes trace body (with_values xs leads.0 v) j next back.1 there leads.3
leads_below trace clock (NextPlan node place high body) v j next back there leads = goes trace body v (j + 1) next back.1 leads.0 leads.1
leads_below trace clock (AlwaysPlan node place low high body) v j next back there leads =
    goes trace body v leads.0 next back.1 leads.1.there leads.2
leads_below trace clock (EventuallyPlan node place low high body) v j next back there leads =
    goes trace body v leads.0 next back.1 leads.1.there leads.3
leads_below trace clock (UntilPlan node place low high left right) v j next back there leads =
    let backs = AllByRecursion-of_append GuardLooksBack (nodes left) (nodes right) back.1 in
    ⊎_elim (λ to_right. goes trace right v to_right.0 next backs.1 to_right.1.there to_right.3)
    (λ to_left. goes trace left v to_left.0 next backs.0 to_left.1.there to_left.3)
    leads

-- ---- laws

pub leads_on : PastDecides → LeadsOn
leads_on past trace more clock later from [] to back there given not_before leads = leads
leads_on past trace more clock later from (next ∷ moves) to back there given not_before leads =
    let goes_on = leads_below trace clock from.node from.valuation from.position next back there leads.0 in (
      leads_to past trace more clock later given not_before from.node from.valuation from.position next back there leads.0,
      leads_on past trace more clock later next moves to goes_on.0 goes_on.1 given not_before leads.1,
    )

pub owed_stays_owed : PastDecides → OwedStaysOwed
owed_stays_owed past plans trace more clock later rule node v position back given not_before owed =
    let there = owed.there in record {
      root = owed.root;
      of_rule = owed.of_rule;
      begun = owed.begun;
      there = omega (arith, there, length-append trace more);
      moves = owed.moves;
      leads = leads_on past trace more clock later (obligation owed.root no_values owed.begun) owed.moves (obligation node v position)
          (back owed.root owed.of_rule) there given not_before owed.leads;
    }

pub through : (trace : List Step) (clock : ℕ) (from : Obligation) (moves : List Obligation) (middle : Obligation)
    (others : List Obligation) (to : Obligation) → LeadsThrough trace clock from moves middle
    → LeadsThrough trace clock middle others to → LeadsThrough trace clock from (moves ++ others) to
through trace clock from [] middle others to first second =
    subst (λ (o : Obligation). LeadsThrough trace clock o others to) (sym first) second
through trace clock from (next ∷ moves) middle others to first second =
    (first.0, through trace clock next moves middle others to first.1 second)

pub owed_leads_on : OwedLeadsOn
owed_leads_on plans trace clock rule node v position moves to owed leads = record {
  root = owed.root;
  of_rule = owed.of_rule;
  begun = owed.begun;
  there = owed.there;
  moves = owed.moves ++ moves;
  leads = through trace clock (obligation owed.root no_values owed.begun) owed.moves (obligation node v position) moves to owed.leads leads;
}
