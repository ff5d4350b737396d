-- What is pending has right values, where guards give such: by induction over plans, and along the trace.
use Rattle.obligations.proofs.Vocabulary.{◌≡◌, ◌∙◌, ℕ, zero, suc, ◌+◌, ◌<◌, ◌≤◌, Bool, true, cond, List, [], ◌∷◌, ◌++◌, length, take, Contains, None, Some, ⊎_elim, refl, sym, ap, subst, arith}
use Rattle.obligations.proofs.Vocabulary.{All-contains, same_Some, Contains-append, first_or_later, none_in_nil, Valuation, no_values, with_values, Step, VarId, Value, Formula, has_future, is_future}
use Rattle.obligations.proofs.Vocabulary.{node_number, Plan, CausePlan, SuppressPlan, Both, Either, TestOr, Guarded, EventuallyPlan, AlwaysPlan, UntilPlan, NextPlan, AtEach-root, FoundIsFirst}
use Rattle.obligations.proofs.Vocabulary.{NodesHaveScopes, AtEach, only_future, future_in, AreWellFormed, BeginsAlways, BeginsOrWaits, Begun, WithBehind, begun_now, first_end, second_end, After}
use Rattle.obligations.proofs.Vocabulary.{AtNode, BecomesAt, PendsBehind, AreRight, GivesRight, GuardsGiveRight, PendingIsRight, Instance}
use Rattle.obligations.proofs.GatheredLists.{BegunByRoots-contains, Gathers-contains}
use Rattle.obligations.proofs.PendingBoundLemmas.{Lies, all_lie, named_node}
use Rattle.obligations.proofs.SoundnessLemmas.{taken}

module _ (plans : List Plan) (trace : List Step) (right : ℕ → VarId → Value → Bool) where
  -- a node lies where its number names it, and gives right values
  abbrev pub AllGive : ℕ → Plan → List VarId → Type 0
  AllGive rule plan scope = AtEach (Lies plans rule) plan scope × AtEach (GivesRight trace (right rule)) plan scope

  pub record IsRight (i : Instance) : Type 0 where
    pub node : Plan
    pub scope : List VarId
    pub named : future_in plans i.rule i.node ≡ Some (node, scope)
    pub give : AllGive i.rule node scope
    pub values : AreRight (right i.rule) scope i.valuation

  abbrev pub AllRight : List Instance → Type 0
  AllRight is = (i : Instance) → Contains is i → IsRight i

  none_right : (is : List Instance) → is ≡ [] → AllRight is
  none_right is none i there = absurd (none_in_nil i (subst (λ (l : List Instance). Contains l i) none there))

  one_right : (i : Instance) (is : List Instance) → IsRight i → is ≡ i ∷ [] → AllRight is
  one_right i is can are j there =
      ⊎_elim (λ same. subst IsRight same can) (λ none. absurd (none_in_nil j none))
      (first_or_later j i [] (subst (λ (l : List Instance). Contains l j) are there))

  behind_right : (i : Instance) (P : List Instance → Type 0) → IsRight i → ((more : List Instance) → P more → AllRight more) → (is : List Instance) → WithBehind i P is → AllRight is
  behind_right i P can each is (more, holds, are) j there =
      ⊎_elim (λ same. subst IsRight same can) (λ behind. each more holds j behind)
      (first_or_later j i more (subst (λ (l : List Instance). Contains l j) are there))

  module _ (steps : ℕ) (some : steps < length trace) where
    abbrev front : List Step
    front = take (suc steps) trace

    waits_right : (low : ℕ) (body : Plan) (v : Valuation) (Begins Waits : Type 0) (is : List Instance) → (Begins → AllRight is) → (Waits → AllRight is)
        → BeginsOrWaits front low body v Begins Waits → AllRight is
    waits_right zero body v Begins Waits is first second begins = ⊎_elim (λ taken. first taken.1) (λ passed. second passed.1) begins
    waits_right (suc low) body v Begins Waits is first second begins = second begins

    always_right : (low : ℕ) (i : Instance) (P : List Instance → Type 0) → IsRight i → ((more : List Instance) → P more → AllRight more) → (is : List Instance) → BeginsAlways low i P is → AllRight is
    always_right zero i P can each is begins = behind_right i P can each is begins
    always_right (suc low) i P can each is begins = one_right i is can begins

    module _ (rule : ℕ) where
      begins_right : (plan : Plan) (scope : List VarId) → AllGive rule plan scope → is_future plan ≡ true → (v : Valuation) → AreRight (right rule) scope v
          → IsRight (begun_now front rule (node_number plan) (first_end plan) (second_end plan) v)
      begins_right plan scope give future v values =
          let root : Lies plans rule plan scope = AtEach-root (Lies plans rule) plan scope give.0 in record {
            node = plan;
            scope = scope;
            named = ap only_future root.named ∙ ap (λ b. cond b (Some (plan, scope)) None) future;
            give = give;
            values = values;
          }

      begun_right : (plan : Plan) (scope : List VarId) → AllGive rule plan scope → (v : Valuation) → AreRight (right rule) scope v → (is : List Instance) → Begun front rule plan v is → AllRight is
      begun_right (CausePlan node place name terms) scope give v values is begins i there = none_right is begins i there
      begun_right (SuppressPlan node place name terms) scope give v values is begins i there = none_right is begins i there
      begun_right (Both node l r) scope give v values is (first, rest, begins, also, are) i there =
          ⊎_elim (λ one. begun_right l scope (give.0.1, give.1.1) v values first begins i one) (λ two. begun_right r scope (give.0.2, give.1.2) v values rest also i two)
          (Contains-append first rest i (subst (λ (l : List Instance). Contains l i) are there))
      begun_right (Either node l r) scope give v values is begins i there =
          ⊎_elim (λ side. begun_right r scope (give.0.2, give.1.2) v values is side.1 i there)
          (λ second. ⊎_elim (λ side. begun_right l scope (give.0.1, give.1.1) v values is side.1 i there)
          (λ third. ⊎_elim (λ side. begun_right r scope (give.0.2, give.1.2) v values is side.1 i there)
          (λ fourth. ⊎_elim (λ side. begun_right l scope (give.0.1, give.1.1) v values is side.1 i there) (λ neither. none_right is neither.1 i there) fourth.1) third)
          (taken (has_future l) front l v second))
          (taken (has_future r) front r v begins)
      begun_right (TestOr node guard test body) scope give v values is begins i there =
          ⊎_elim (λ met. none_right is met.1 i there) (λ fails. begun_right body scope (give.0.1, give.1.1) v values is fails.1 i there) begins
      begun_right (Guarded node xs guard test body) scope give v values is (rows, are, gathered) i there =
          let found = Gathers-contains (λ (row : List Value) (js : List Instance). Begun front rule body (with_values xs row v) js) rows is i gathered there in
          let long = All-contains (λ (r : List Value). length r ≡ length xs) rows found.0 are.fit found.1 in
          begun_right body (scope ++ xs) (give.0.1, give.1.1) (with_values xs found.0 v)
          (give.1.0 steps v found.0 some long values ((are.are found.0 long).0 found.1)) found.2 found.3 i found.4
      begun_right (EventuallyPlan node place low high body) scope give v values is begins i there =
          waits_right low body v (Begun front rule body v is) (is ≡ begun_now front rule node low high v ∷ []) is (begun_right body scope (give.0.1, give.1.1) v values is)
          (one_right (begun_now front rule node low high v) is (begins_right (EventuallyPlan node place low high body) scope give refl v values)) begins i there
      begun_right (AlwaysPlan node place low high body) scope give v values is begins i there =
          always_right low (begun_now front rule node low high v) (Begun front rule body v) (begins_right (AlwaysPlan node place low high body) scope give refl v values)
          (begun_right body scope (give.0.1, give.1.1) v values) is begins i there
      begun_right (UntilPlan node place low high l r) scope give v values is begins i there =
          waits_right low r v (Begun front rule r v is) (WithBehind (begun_now front rule node low high v) (Begun front rule l v) is) is
          (begun_right r scope (give.0.2, give.1.2) v values is)
          (behind_right (begun_now front rule node low high v) (Begun front rule l v) (begins_right (UntilPlan node place low high l r) scope give refl v values)
          (begun_right l scope (give.0.1, give.1.1) v values) is) begins i there
      begun_right (NextPlan node place high body) scope give v values is begins i there =
          one_right (begun_now front rule node 0 high v) is (begins_right (NextPlan node place high body) scope give refl v values) begins i there

    becomes_right : (node : Plan) (i : Instance) (can : IsRight i) → can.node ≡ node → (after : List Instance) → BecomesAt front node i after → AllRight after
    becomes_right (EventuallyPlan node place low high body) i can is after becomes =
        let give = subst (λ p. AllGive i.rule p can.scope) is can.give in
        ⊎_elim (λ met. begun_right i.rule body can.scope (give.0.1, give.1.1) i.valuation can.values after met.2) (λ waits. one_right i after can waits.1) becomes
    becomes_right (NextPlan node place high body) i can is after becomes =
        let give = subst (λ p. AllGive i.rule p can.scope) is can.give in
        begun_right i.rule body can.scope (give.0.1, give.1.1) i.valuation can.values after becomes
    becomes_right (AlwaysPlan node place low high body) i can is after becomes =
        let give = subst (λ p. AllGive i.rule p can.scope) is can.give in
        ⊎_elim (λ early. one_right i after can early.1) (λ others.
        ⊎_elim (λ inside. behind_right i (Begun front i.rule body i.valuation) can (begun_right i.rule body can.scope (give.0.1, give.1.1) i.valuation can.values) after inside.1)
        (λ late. none_right after late.2) others) becomes
    becomes_right (UntilPlan node place low high l r) i can is after becomes =
        let give = subst (λ p. AllGive i.rule p can.scope) is can.give in
        ⊎_elim (λ met. begun_right i.rule r can.scope (give.0.2, give.1.2) i.valuation can.values after met.2)
        (λ waits. behind_right i (Begun front i.rule l i.valuation) can (begun_right i.rule l can.scope (give.0.1, give.1.1) i.valuation can.values) after waits.1) becomes
    becomes_right (CausePlan node place name terms) i can is after becomes = absurd becomes
    becomes_right (SuppressPlan node place name terms) i can is after becomes = absurd becomes
    becomes_right (Both node left right) i can is after becomes = absurd becomes
    becomes_right (Either node left right) i can is after becomes = absurd becomes
    becomes_right (TestOr node guard test body) i can is after becomes = absurd becomes
    becomes_right (Guarded node xs guard test body) i can is after becomes = absurd becomes

  module _ (is_first : FoundIsFirst) (have_scopes : NodesHaveScopes) (guards : List (Formula × List VarId)) (well : AreWellFormed plans guards)
      (give : GuardsGiveRight plans trace right) where
    pub pends_right : (n : ℕ) → n ≤ length trace → (pending : List Instance) → PendsBehind plans trace n pending → AllRight pending
    pends_right zero le pending none i there = absurd (none_in_nil i (subst (λ (l : List Instance). Contains l i) none there))
    pends_right (suc n) le pending (before, pend, (kept, begun, goes, begins, are)) i there =
        ⊎_elim
        (λ old.
        let from = Gathers-contains (After plans (take (suc n) trace)) before kept i goes old in
        let can = pends_right n (omega (arith, le)) before pend from.0 from.1 in
        becomes_right n (omega (arith, le)) can.node from.0 can refl from.2
        (subst (λ o. AtNode o (λ node. BecomesAt (take (suc n) trace) node from.0 from.2)) (named_node is_first plans from.0.rule from.0.node can.node can.scope can.named) from.3) i from.4)
        (λ new.
        let root = BegunByRoots-contains (take (suc n) trace) 0 plans begun i begins new in
        begun_right n (omega (arith, le)) root.0 root.1 [] (all_lie have_scopes guards plans well root.0 root.1 root.2, give root.0 root.1 root.2) no_values
        (λ x value none at. absurd (none_in_nil x none)) root.3
        (subst (λ (r : ℕ). Begun (take (suc n) trace) r root.1 no_values root.3) {x = 0 + root.0} {y = root.0} (omega arith) root.4) i root.5)
        (Contains-append kept begun i (subst (λ (l : List Instance). Contains l i) are there))

pub pending_right : FoundIsFirst → NodesHaveScopes → PendingIsRight
pending_right is_first have_scopes plans guards trace pending right well give pend i there node scope named =
    let is = pends_right plans trace right is_first have_scopes guards well give (length trace) (omega arith) pending pend i there in
    let same : (is.node, is.scope) ≡ (node, scope) = same_Some (is.node, is.scope) (node, scope) (sym is.named ∙ named) in
    subst (λ (xs : List VarId). AreRight (right i.rule) xs i.valuation) (ap (λ (p : Plan × List VarId). p.1) same) is.values
