-- What is missed at a step is led to by what misses it.
use Rattle.obligations.proofs.Vocabulary.{◌≡◌, ℕ, zero, suc, ◌<◌, ◌≤◌, List, [], ◌∷◌, length, Contains, Option, None, Some, inl, inr, ⊎_elim, refl, sym, ap, subst, arith, AllByRecursion, append-nil}
use Rattle.obligations.proofs.Vocabulary.{All-contains, step_at, Contains-append, first_or_later, none_in_nil, Valuation, values_of_terms, with_values, NameId, Step, Value, GuardLooksBack, IsLost}
use Rattle.obligations.proofs.Vocabulary.{IsAhead, IsNotMet, IsStillLost, LeadsThrough, LeadsTo, Obligation, obligation, nodes, Plan, CausePlan, SuppressPlan, Both, Either, TestOr, Guarded}
use Rattle.obligations.proofs.Vocabulary.{EventuallyPlan, AlwaysPlan, UntilPlan, NextPlan, LeadsOn, StandsIn, LacksSome, IsWantedBy, ServesLiteral, HasSome, IsAbsent, IsPresent, LiteralUnless}
use Rattle.obligations.proofs.Vocabulary.{Missing, OfEvent, cause_literal, suppress_literal, last_position, SomethingMissedIsLost, Literal}
use Rattle.obligations.proofs.GatheredLists.{Gathers-contains}
use Rattle.obligations.proofs.InstanceLeadLemmas.{at_once, fails_here, left_stands, lost_here, right_stands}
use Rattle.obligations.specs.declared.literals.LiteralKind.TheVariants as kind

only_literal : (first literal : Literal) (literals : List Literal) → literals ≡ first ∷ [] → Contains literals literal → first ≡ literal
only_literal first literal literals is there =
    ⊎_elim (λ same. same) (λ none. absurd (none_in_nil literal none))
    (first_or_later literal first [] (subst (λ (l : List Literal). Contains l literal) is there))

none_missed : (literal : Literal) (literals : List Literal) → literals ≡ [] → Contains literals literal → ⊥
none_missed literal literals is there = none_in_nil literal (subst (λ (l : List Literal). Contains l literal) is there)

-- the literal of a leaf is the one that it wants
of_cause : (trace : List Step) (name : NameId) (args : Option (List Value)) (node : ℕ) (literals : List Literal) (literal : Literal)
    → OfEvent name args (λ e. LiteralUnless (IsPresent trace e) (cause_literal e node) literals) → Contains literals literal
    → (literal.kind ≡ kind.Cause) × (literal.leaf ≡ node) × OfEvent name args (λ e. literal.event ≡ e)
of_cause trace name None node literals literal missing there = absurd missing
of_cause trace name (Some args) node literals literal missing there =
    ⊎_elim
    (λ met. absurd (none_missed literal literals met.1 there))
    (λ absent. let is = only_literal (cause_literal (record { name = name; args = args }) node) literal literals absent.1 there in
    (ap (λ (l : Literal). l.kind) (sym is), ap (λ (l : Literal). l.leaf) (sym is), ap (λ (l : Literal). l.event) (sym is)))
    missing

of_suppress : (trace : List Step) (name : NameId) (args : Option (List Value)) (node : ℕ) (literals : List Literal) (literal : Literal)
    → OfEvent name args (λ e. LiteralUnless (IsAbsent trace e) (suppress_literal e node) literals) → Contains literals literal
    → (literal.kind ≡ kind.Suppress) × (literal.leaf ≡ node) × OfEvent name args (λ e. literal.event ≡ e)
of_suppress trace name None node literals literal missing there = absurd missing
of_suppress trace name (Some args) node literals literal missing there =
    ⊎_elim
    (λ met. absurd (none_missed literal literals met.1 there))
    (λ present. let is = only_literal (suppress_literal (record { name = name; args = args }) node) literal literals present.1 there in
    (ap (λ (l : Literal). l.kind) (sym is), ap (λ (l : Literal). l.leaf) (sym is), ap (λ (l : Literal). l.event) (sym is)))
    missing

module _ (lost : SomethingMissedIsLost) (plans : List Plan) (rule : ℕ) (trace : List Step) (some : 0 < length trace) where
  abbrev now : ℕ
  now = last_position trace

  abbrev Served : Plan → Valuation → Literal → Type 0
  Served plan v literal = ServesLiteral trace 0 (obligation plan v now) literal

  abbrev Serve : Plan → Type 0
  Serve plan = (v : Valuation) (literals : List Literal) (literal : Literal) → Missing trace plan v literals
      → Contains literals literal → Served plan v literal

  -- what leads here to what serves it serves it
  pub onto : (from : Obligation) (body : Plan) (v : Valuation) (literal : Literal)
      → LeadsTo trace 0 from.node from.valuation from.position (obligation body v now) → Served body v literal
      → ServesLiteral trace 0 from literal
  onto from body v literal to served = record {
    leaf = served.leaf;
    valuation = served.valuation;
    moves = obligation body v now ∷ served.moves;
    leads = (to, served.leads);
    wanted = served.wanted;
  }

  itself : (leaf : Plan) (v : Valuation) (literal : Literal) → IsWantedBy leaf v literal → Served leaf v literal
  itself leaf v literal wanted = record { leaf = leaf; valuation = v; moves = []; leads = refl; wanted = wanted }

  not_met : (side : Plan) (v : Valuation) → AllByRecursion GuardLooksBack (nodes side) → LacksSome trace side v
      → IsNotMet trace side v now
  not_met side v back lacks none holds = fails_here lost plans rule trace some side back v lacks holds

  serve_always : (node place low high : ℕ) (body : Plan) → Serve body → Serve (AlwaysPlan node place low high body)
  serve_always node place zero high body inner v literals literal missing there =
      onto (obligation (AlwaysPlan node place 0 high body) v now) body v literal
      (now, at_once lost plans rule trace some 0 high refl, refl) (inner v literals literal missing there)
  serve_always node place (suc low) high body inner v literals literal missing there =
      absurd (none_missed literal literals missing there)

  serve_left : (node place low high : ℕ) (left right : Plan) → Serve left → (v : Valuation) (literals : List Literal) (literal : Literal)
      → IsStillLost trace 0 low high right v now now → Missing trace left v literals → Contains literals literal
      → Served (UntilPlan node place low high left right) v literal
  serve_left node place low high left right first v literals literal so_far missing there =
      onto (obligation (UntilPlan node place low high left right) v now) left v literal
      (inr (now, at_once lost plans rule trace some 0 high refl, so_far, refl)) (first v literals literal missing there)

  serve_until : (node place low high : ℕ) (left right : Plan) → AllByRecursion GuardLooksBack (nodes right) → Serve left
      → Serve (UntilPlan node place low high left right)
  serve_until node place zero high left right back first v literals literal missing there =
      ⊎_elim
      (λ nothing. absurd (none_missed literal literals nothing.1 there))
      (λ (lacks : HasSome (Missing trace right v) × Missing trace left v literals).
      serve_left node place 0 high left right first v literals literal
      (λ k ahead le. let from = ahead.not_before in
      subst (IsLost trace 0 right v) {x = now} {y = k} (omega (arith, from, le)) (lost_here lost plans rule trace some right back v 0 lacks.0))
      lacks.1 there)
      missing
  serve_until node place (suc low) high left right back first v literals literal missing there =
      serve_left node place (suc low) high left right first v literals literal (λ k ahead le. absurd (not_yet k ahead le)) missing there
    where
      not_yet : (k : ℕ) → IsAhead trace (suc low) high now k → k ≤ now → ⊥
      not_yet k ahead le =
          let from = ahead.not_before in
          let same : now ≡ k = omega (arith, from, le) in
          let times : (step_at trace now).time ≡ (step_at trace k).time = ap (λ (j : ℕ). (step_at trace j).time) same in
          let lower = ahead.distance.0 in
          omega (arith, times, lower)

  pub missed_is_served : (plan : Plan) → StandsIn plans rule plan → Serve plan
  missed_is_served (CausePlan node place name terms) stands v literals literal missing there =
      itself (CausePlan node place name terms) v literal (of_cause trace name (values_of_terms v terms) node literals literal missing there)
  missed_is_served (SuppressPlan node place name terms) stands v literals literal missing there =
      itself (SuppressPlan node place name terms) v literal (of_suppress trace name (values_of_terms v terms) node literals literal missing there)
  missed_is_served (Both node left right) stands v literals literal (first, rest, misses, also, are) there =
      ⊎_elim
      (λ front. onto (obligation (Both node left right) v now) left v literal (inl refl)
      (missed_is_served left (left_stands plans rule left right stands.back.1 stands.named.1) v first literal misses front))
      (λ back. onto (obligation (Both node left right) v now) right v literal (inr refl)
      (missed_is_served right (right_stands plans rule left right stands.back.1 stands.named.1) v rest literal also back))
      (Contains-append first rest literal (subst (λ (l : List Literal). Contains l literal) are there))
  missed_is_served (Either node left right) stands v literals literal missing there =
      let on_left = left_stands plans rule left right stands.back.1 stands.named.1 in
      let on_right = right_stands plans rule left right stands.back.1 stands.named.1 in
      ⊎_elim
      (λ nothing. absurd (none_missed literal literals nothing.1 there))
      (λ other. ⊎_elim
      (λ nothing. absurd (none_missed literal literals nothing.1 there))
      (λ lacks. onto (obligation (Either node left right) v now) right v literal
      (not_met left v on_left.back lacks.0, not_met right v on_right.back lacks.1, inr refl)
      (missed_is_served right on_right v literals literal lacks.2 there))
      other)
      missing
  missed_is_served (TestOr node guard test body) stands v literals literal missing there =
      ⊎_elim
      (λ holds. absurd (none_missed literal literals holds.1 there))
      (λ fails. onto (obligation (TestOr node guard test body) v now) body v literal (fails.0, refl)
      (missed_is_served body (record { back = stands.back.1; named = stands.named.1 }) v literals literal fails.1 there))
      missing
  missed_is_served (Guarded node xs guard test body) stands v literals literal (rows, are, gathered) there =
      let from = Gathers-contains (λ row. Missing trace body (with_values xs row v)) rows literals literal gathered there in
      let fits = All-contains (λ (r : List Value). length r ≡ length xs) rows from.0 are.fit from.1 in
      onto (obligation (Guarded node xs guard test body) v now) body (with_values xs from.0 v) literal
      (from.0, fits, (are.are from.0 fits).0 from.1, refl)
      (missed_is_served body (record { back = stands.back.1; named = stands.named.1 }) (with_values xs from.0 v) from.2 literal from.3 from.4)
  missed_is_served (EventuallyPlan node place low high body) stands v literals literal missing there =
      absurd (none_missed literal literals missing there)
  missed_is_served (AlwaysPlan node place low high body) stands v literals literal missing there =
      serve_always node place low high body (missed_is_served body (record { back = stands.back.1; named = stands.named.1 })) v literals literal missing there
  missed_is_served (UntilPlan node place low high left right) stands v literals literal missing there =
      serve_until node place low high left right (right_stands plans rule left right stands.back.1 stands.named.1).back
      (missed_is_served left (left_stands plans rule left right stands.back.1 stands.named.1)) v literals literal missing there
  missed_is_served (NextPlan node place high body) stands v literals literal missing there =
      absurd (none_missed literal literals missing there)

-- whatever the clock
pub served_at : LeadsOn → (trace : List Step) (clock : ℕ) (from : Obligation) (literal : Literal)
    → AllByRecursion GuardLooksBack (nodes from.node) → from.position < length trace → ServesLiteral trace 0 from literal
    → ServesLiteral trace clock from literal
served_at leads_on trace clock from literal back there served = record {
  leaf = served.leaf;
  valuation = served.valuation;
  moves = served.moves;
  leads = subst (λ (t : List Step). LeadsThrough t clock from served.moves (obligation served.leaf served.valuation (last_position trace))) (append-nil trace)
      (leads_on trace [] 0 clock from served.moves (obligation served.leaf served.valuation (last_position trace)) back there
      (λ k d below. absurd (omega (arith, below))) (omega arith) served.leads);
  wanted = served.wanted;
}
