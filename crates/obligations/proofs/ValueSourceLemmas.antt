-- Each literal that is missed is of a leaf, and its values are known.
use Rattle.obligations.proofs.Vocabulary.{◌≡◌, ℕ, zero, suc, Bool, true, false, List, [], ◌∷◌, ◌++◌, length, Contains, Option, None, Some, refl, sym, subst, inl, inr, ⊎_elim, ◌∙◌, AllByRecursion}
use Rattle.obligations.proofs.Vocabulary.{All-contains, same_Some, AllByRecursion-append, AllByRecursion-weaker, here, later, Valuation, values_of_terms, with_values, Event, NameId, Step, VarId}
use Rattle.obligations.proofs.Vocabulary.{Value, as_many_values, Formula, Classically, AreOpen, SafeValuesAreKnown, nodes, Plan, CausePlan, SuppressPlan, Both, Either, TestOr, Guarded, EventuallyPlan}
use Rattle.obligations.proofs.Vocabulary.{AlwaysPlan, UntilPlan, NextPlan, among_or_not, value_at-with_outside, CanAskIn, IsGuardAt, IsBound, IsLeaf, terms_of, IfElse, IsAbsent, IsPresent}
use Rattle.obligations.proofs.Vocabulary.{LiteralUnless, MissesAlways, MissesEither, MissesUntil, Missing, OfEvent, cause_literal, suppress_literal, Gathers, HoldsLast, last_position, AtNode}
use Rattle.obligations.proofs.Vocabulary.{MissesAt, IsKnownOn, IsOwnLiteral, MissedAreOwn, MissedOfAreOwn, Instance, Literal}
use Rattle.obligations.proofs.WantedLiteralLemmas.{args_known, in_body, in_left, in_right, mapped}

-- ---- what holds of each literal of the parts holds of each of the whole

module _ (Q : Literal → Type 0) where
  none_has : (literals : List Literal) → literals ≡ [] → AllByRecursion Q literals
  none_has literals none = subst (AllByRecursion Q) (sym none) tt

  unless_has : (P : Type 0) (literal : Literal) (literals : List Literal) → Q literal → LiteralUnless P literal literals
      → AllByRecursion Q literals
  unless_has P literal literals is misses =
      ⊎_elim (λ nothing. none_has literals nothing.1) (λ some. subst (AllByRecursion Q) (sym some.1) (is, tt)) misses

  event_has : (name : NameId) (given : Option (List Value)) (P : Event → Type 0) (literals : List Literal)
      → ((args : List Value) → given ≡ Some args → P (record { name = name; args = args }) → AllByRecursion Q literals)
      → OfEvent name given P → AllByRecursion Q literals
  event_has name None P literals each misses = absurd misses
  event_has name (Some args) P literals each misses = each args refl misses

  either_has : (L R : List Literal → Type 0) (literals : List Literal) → (R literals → AllByRecursion Q literals)
      → MissesEither L R literals → AllByRecursion Q literals
  either_has L R literals right misses =
      ⊎_elim
      (λ nothing. none_has literals nothing.1)
      (λ others. ⊎_elim (λ nothing. none_has literals nothing.1) (λ some. right some.2) others)
      misses

  until_has : (low : ℕ) (L R : List Literal → Type 0) (literals : List Literal) → (L literals → AllByRecursion Q literals)
      → MissesUntil low L R literals → AllByRecursion Q literals
  until_has zero L R literals left misses = ⊎_elim (λ nothing. none_has literals nothing.1) (λ some. left some.1) misses
  until_has (suc low) L R literals left misses = left misses

  always_has : (low : ℕ) (P : List Literal → Type 0) (literals : List Literal) → (P literals → AllByRecursion Q literals)
      → MissesAlways low P literals → AllByRecursion Q literals
  always_has zero P literals body misses = body misses
  always_has (suc low) P literals body none = none_has literals none

  where_has : (forced : Bool) (A B : Type 0) (literals : List Literal) → (A → AllByRecursion Q literals)
      → (B → AllByRecursion Q literals) → IfElse forced A B → AllByRecursion Q literals
  where_has true A B literals first second is = first is
  where_has false A B literals first second is = second is

  gathers_have : {X : Type 0} (P : X → List Literal → Type 0) (Fits : X → Type 0)
      → ((x : X) → Fits x → (literals : List Literal) → P x literals → AllByRecursion Q literals)
      → (xs : List X) → ((x : X) → Contains xs x → Fits x) → (literals : List Literal) → Gathers P xs literals
      → AllByRecursion Q literals
  gathers_have P Fits each [] fit literals none = none_has literals none
  gathers_have P Fits each (x ∷ xs) fit literals (first, rest, of_first, of_rest, is) =
      subst (AllByRecursion Q) (sym is)
      (AllByRecursion-append Q first rest (each x (fit x (here x xs)) first of_first) (gathers_have P Fits each xs (λ y there. fit y (later y x xs there)) rest of_rest))

module _ (known : SafeValuesAreKnown) (guards : List (Formula × List VarId)) (trace : List Step) where
  abbrev Own : Plan → Valuation → Literal → Type 0
  Own plan v literal = IsOwnLiteral guards trace plan v literal

  -- ---- the values

  own_leaf : (leaf : Plan) (v : Valuation) (args : List Value) (literal : Literal) → Contains (nodes leaf) leaf
      → values_of_terms v (terms_of leaf) ≡ Some args → literal.event.args ≡ args → IsLeaf leaf literal.kind literal.leaf literal.event
      → Own leaf v literal
  own_leaf leaf v args literal itself given same is = record {
    leaf = leaf;
    there = itself;
    is = is;
    known = λ value there not. not (⊎_elim
        (λ bound. inl bound)
        (λ among. inr (inr (inr (leaf, itself, among))))
        (args_known v (terms_of leaf) args given value (subst (λ l. Contains l value) same there)));
  }

  -- what is known to a part is known to the whole
  more_known : (part whole : Plan) (v w : Valuation) (value : Value)
      → ((leaf : Plan) → Contains (nodes part) leaf → Contains (nodes whole) leaf)
      → (IsBound w value → Classically (IsKnownOn guards trace whole v value)) → Classically (IsKnownOn guards trace part w value)
      → Classically (IsKnownOn guards trace whole v value)
  more_known part whole v w value inside of_bound is not =
      is (λ k. ⊎_elim
      (λ bound. of_bound bound not)
      (λ others. ⊎_elim
      (λ argument. not (inr (inl argument)))
      (λ others. ⊎_elim
      (λ constant. not (inr (inr (inl constant))))
      (λ leaf. not (inr (inr (inr (leaf.0, inside leaf.0 leaf.1, leaf.2)))))
      others)
      others)
      k)

  own_inside : (part whole : Plan) (v w : Valuation) → ((leaf : Plan) → Contains (nodes part) leaf → Contains (nodes whole) leaf)
      → ((value : Value) → IsBound w value → Classically (IsKnownOn guards trace whole v value))
      → (literal : Literal) → Own part w literal → Own whole v literal
  own_inside part whole v w inside of_bound literal own = record {
    leaf = own.leaf;
    there = inside own.leaf own.there;
    is = own.is;
    known = λ value there. more_known part whole v w value inside (of_bound value) (own.known value there);
  }

  owns_inside : (part whole : Plan) (v : Valuation) → ((leaf : Plan) → Contains (nodes part) leaf → Contains (nodes whole) leaf)
      → (literals : List Literal) → AllByRecursion (Own part v) literals → AllByRecursion (Own whole v) literals
  owns_inside part whole v inside literals each =
      AllByRecursion-weaker (Own part v) (Own whole v) literals
      (own_inside part whole v v inside (λ value bound not. not (inl bound))) each

  -- under a row of a guard, what is bound is known
  module _ (node number : ℕ) (f : Formula) (scope xs : List VarId) (at : IsGuardAt guards number f scope)
      (opening : AreOpen f scope xs) (v : Valuation) (body : Plan) where
    abbrev whole : Plan
    whole = Guarded node xs number f body

    row_known : (row : List Value) → HoldsLast trace (with_values xs row v) f → (value : Value)
        → IsBound (with_values xs row v) value → Classically (IsKnownOn guards trace whole v value)
    row_known row holds value (x, e) =
        ⊎_elim
        (λ (brought : Contains xs x). λ not. known trace (last_position trace) f scope (with_values xs row v) at.safe at.fresh holds x value ((opening.exact x).0 brought).0 e
        (λ k. ⊎_elim
        (λ argument. not (inr (inl argument)))
        (λ others. ⊎_elim
        (λ constant. not (inr (inr (inl (f, mapped (λ (g : Formula × List VarId). g.0) guards number (f, scope) at.listed, constant)))))
        (λ bound. not (inl (bound.0, sym (value_at-with_outside xs row v bound.0 (λ (again : Contains xs bound.0). ((opening.exact bound.0).0 again).1 bound.1)) ∙ bound.2)))
        others)
        k))
        (λ (other : Contains xs x → ⊥). λ not. not (inl (x, sym (value_at-with_outside xs row v x other) ∙ e)))
        (among_or_not xs x)

    under_row : (row : List Value) → HoldsLast trace (with_values xs row v) f → (literals : List Literal)
        → AllByRecursion (Own body (with_values xs row v)) literals → AllByRecursion (Own whole v) literals
    under_row row holds literals each =
        AllByRecursion-weaker (Own body (with_values xs row v)) (Own whole v) literals
        (own_inside body whole v (with_values xs row v) (in_body whole body) (row_known row holds)) each

  -- ---- the literals

  pub missed_are_own : (plan : Plan) (scope : List VarId) → CanAskIn guards plan scope → (v : Valuation) (literals : List Literal)
      → Missing trace plan v literals → AllByRecursion (Own plan v) literals
  missed_are_own (CausePlan node place name terms) scope can v literals misses =
      let leaf : Plan = CausePlan node place name terms in
      event_has (Own leaf v) name (values_of_terms v terms) (λ e. LiteralUnless (IsPresent trace e) (cause_literal e node) literals) literals
      (λ args given of_event. unless_has (Own leaf v) (IsPresent trace (record { name = name; args = args })) (cause_literal (record { name = name; args = args }) node) literals
      (own_leaf leaf v args (cause_literal (record { name = name; args = args }) node) (here leaf []) given refl (refl, refl, refl, as_many_values v terms args given)) of_event) misses
  missed_are_own (SuppressPlan node place name terms) scope can v literals misses =
      let leaf : Plan = SuppressPlan node place name terms in
      event_has (Own leaf v) name (values_of_terms v terms) (λ e. LiteralUnless (IsAbsent trace e) (suppress_literal e node) literals) literals
      (λ args given of_event. unless_has (Own leaf v) (IsAbsent trace (record { name = name; args = args })) (suppress_literal (record { name = name; args = args }) node) literals
      (own_leaf leaf v args (suppress_literal (record { name = name; args = args }) node) (here leaf []) given refl (refl, refl, refl, as_many_values v terms args given)) of_event) misses
  missed_are_own (Both node left right) scope can v literals (first, rest, of_first, of_rest, is) =
      let whole : Plan = Both node left right in
      subst (AllByRecursion (Own whole v)) (sym is)
      (AllByRecursion-append (Own whole v) first rest
      (owns_inside left whole v (in_left whole left right) first (missed_are_own left scope can.1 v first of_first))
      (owns_inside right whole v (in_right whole left right) rest (missed_are_own right scope can.2 v rest of_rest)))
  missed_are_own (Either node left right) scope can v literals misses =
      let whole : Plan = Either node left right in
      either_has (Own whole v) (Missing trace left v) (Missing trace right v) literals
      (λ some. owns_inside right whole v (in_right whole left right) literals (missed_are_own right scope can.2 v literals some)) misses
  missed_are_own (TestOr node guard test body) scope can v literals misses =
      let whole : Plan = TestOr node guard test body in
      ⊎_elim
      (λ nothing. none_has (Own whole v) literals nothing.1)
      (λ some. owns_inside body whole v (in_body whole body) literals (missed_are_own body scope can.1 v literals some.1))
      misses
  missed_are_own (Guarded node xs guard test body) scope can v literals (rows, are, gathers) =
      gathers_have (Own (Guarded node xs guard test body) v) (λ row. Missing trace body (with_values xs row v))
      (λ (row : List Value). HoldsLast trace (with_values xs row v) test)
      (λ row holds ls some. under_row node guard test scope xs can.0.0 can.0.1 v body row holds ls (missed_are_own body (scope ++ xs) can.1 (with_values xs row v) ls some))
      rows
      (λ row there. ((are.are row (All-contains (λ (r : List Value). length r ≡ length xs) rows row are.fit there)).0 there))
      literals gathers
  missed_are_own (EventuallyPlan node place low high body) scope can v literals none =
      none_has (Own (EventuallyPlan node place low high body) v) literals none
  missed_are_own (AlwaysPlan node place low high body) scope can v literals misses =
      let whole : Plan = AlwaysPlan node place low high body in
      always_has (Own whole v) low (Missing trace body v) literals
      (λ some. owns_inside body whole v (in_body whole body) literals (missed_are_own body scope can.1 v literals some)) misses
  missed_are_own (UntilPlan node place low high left right) scope can v literals misses =
      let whole : Plan = UntilPlan node place low high left right in
      until_has (Own whole v) low (Missing trace left v) (Missing trace right v) literals
      (λ some. owns_inside left whole v (in_left whole left right) literals (missed_are_own left scope can.1 v literals some)) misses
  missed_are_own (NextPlan node place high body) scope can v literals none =
      none_has (Own (NextPlan node place high body) v) literals none

  node_missed : (node : Plan) (scope : List VarId) → CanAskIn guards node scope → (i : Instance) (forced : Bool)
      (literals : List Literal) → MissesAt trace node i forced literals → AllByRecursion (Own node i.valuation) literals
  node_missed (EventuallyPlan node place low high body) scope can i forced literals misses =
      let whole : Plan = EventuallyPlan node place low high body in
      where_has (Own whole i.valuation) forced (Missing trace body i.valuation literals) (literals ≡ []) literals
      (λ some. owns_inside body whole i.valuation (in_body whole body) literals (missed_are_own body scope can.1 i.valuation literals some))
      (none_has (Own whole i.valuation) literals) misses
  node_missed (NextPlan node place high body) scope can i forced literals misses =
      let whole : Plan = NextPlan node place high body in
      owns_inside body whole i.valuation (in_body whole body) literals (missed_are_own body scope can.1 i.valuation literals misses)
  node_missed (AlwaysPlan node place low high body) scope can i forced literals misses =
      let whole : Plan = AlwaysPlan node place low high body in
      ⊎_elim
      (λ inside. owns_inside body whole i.valuation (in_body whole body) literals (missed_are_own body scope can.1 i.valuation literals inside.1))
      (λ outside. none_has (Own whole i.valuation) literals outside.1)
      misses
  node_missed (UntilPlan node place low high left right) scope can i forced literals misses =
      let whole : Plan = UntilPlan node place low high left right in
      ⊎_elim
      (λ met. none_has (Own whole i.valuation) literals met.2)
      (λ waits. where_has (Own whole i.valuation) forced (Missing trace right i.valuation literals) (Missing trace left i.valuation literals) literals
      (λ some. owns_inside right whole i.valuation (in_right whole left right) literals (missed_are_own right scope can.2 i.valuation literals some))
      (λ some. owns_inside left whole i.valuation (in_left whole left right) literals (missed_are_own left scope can.1 i.valuation literals some))
      waits.1)
      misses
  node_missed (CausePlan node place name terms) scope can i forced literals misses = absurd misses
  node_missed (SuppressPlan node place name terms) scope can i forced literals misses = absurd misses
  node_missed (Both node left right) scope can i forced literals misses = absurd misses
  node_missed (Either node left right) scope can i forced literals misses = absurd misses
  node_missed (TestOr node guard test body) scope can i forced literals misses = absurd misses
  node_missed (Guarded node xs guard test body) scope can i forced literals misses = absurd misses

pub plan_misses_its_own : SafeValuesAreKnown → MissedAreOwn
plan_misses_its_own known guards trace plan v literals can misses =
    missed_are_own known guards trace plan can.scope can.can v literals misses

pub instance_misses_its_own : SafeValuesAreKnown → MissedOfAreOwn
instance_misses_its_own known guards plans trace i forced literals node can found misses =
    let same : can.node ≡ node = same_Some can.node node (sym can.found ∙ found) in
    let all : AllByRecursion (IsOwnLiteral guards trace can.node i.valuation) literals =
    node_missed known guards trace can.node can.can.scope can.can.can i forced literals
    (subst (λ o. AtNode o (λ n. MissesAt trace n i forced literals)) can.found misses)
    in
    subst (λ n. AllByRecursion (IsOwnLiteral guards trace n i.valuation) literals) same all
