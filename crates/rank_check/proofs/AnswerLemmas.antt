-- Plans are accepted, or refused for one reason alone.
use Rattle.rank_check.proofs.Vocabulary.{◌≡◌, ◌⊎◌, ℕ, zero, suc, ◌<◌, ◌≤◌, IsTrue, List, Some, refl, sym, ap, subst, inl, inr, ⊎_elim, arith, ◌∙◌, slice_get, cases_lt, NameId, nodes, Plan, CausePlan}
use Rattle.rank_check.proofs.Vocabulary.{EventuallyPlan, UntilPlan, NextPlan, NothingClashes, Clashes, IsOnCycle, needs_trigger, Edge, AllIsTriggered, AreAccepted, IsAcyclic, IsUntriggeredAt}
use Rattle.rank_check.proofs.Vocabulary.{IsFirstName, IsFirstPlace, IsPlaceOf, RefusesPlans, RankRefusal, RoleClash, Untriggered, Cyclic, NoMemory}

-- where no name is the first, none is there
none_below : (P : NameId → Type 0) → ((name : NameId) → IsFirstName P name → ⊥) → (most : ℕ) (name : NameId) → name.0 < most → P name → ⊥
none_below P none zero name below holds = omega (arith, below)
none_below P none (suc most) name below holds =
    let before : (other : NameId) → other.0 < most → P other → ⊥ = none_below P none most in
    none name (record {
      has = holds;
      first = λ other also. ⊎_elim
          (λ (less : other.0 < name.0). absurd (before other (omega (arith, less, below)) also))
          (λ (from : name.0 ≤ other.0). from) (cases_lt other.0 name.0);
    })

none_first : (P : NameId → Type 0) → ((name : NameId) → IsFirstName P name → ⊥) → (name : NameId) → P name → ⊥
none_first P none name holds = none_below P none (suc name.0) name (omega arith) holds

one_first : (P : NameId → Type 0) (a b : NameId) → IsFirstName P a → IsFirstName P b → a ≡ b
one_first P a b is also =
    let same : a.0 ≡ b.0 = omega (arith, is.first b also.has, also.first a is.has) in ap (λ (n : ℕ). record { 0 = n }) same

-- where no node is the first, none is there
place_at : (node : Plan) → IsTrue (needs_trigger node) → (at : ℕ) × IsPlaceOf at node
place_at (CausePlan n place name terms) needs = (place, refl)
place_at (EventuallyPlan n place low high body) needs = (place, refl)
place_at (UntilPlan n place low high l r) needs = (place, refl)
place_at (NextPlan n place high body) needs = (place, refl)
place_at plan needs = absurd (cc)

abbrev NoneFirst : List Plan → Type 0
NoneFirst plans = (at : ℕ) → IsFirstPlace plans at → ⊥

abbrev NoneIn : List Plan → ℕ → ℕ → Type 0
NoneIn plans rule most = (number : ℕ) (node : Plan) → number < most → IsUntriggeredAt plans rule number node → ⊥

in_rule : (plans : List Plan) → NoneFirst plans → (rule : ℕ) → ((other number : ℕ) (node : Plan) → other < rule → IsUntriggeredAt plans other number node → ⊥) → (most : ℕ) → NoneIn plans rule most
in_rule plans none rule before zero number node below is = omega (arith, below)
in_rule plans none rule before (suc most) number node below is =
    let earlier : NoneIn plans rule most = in_rule plans none rule before most in
    let at : (at : ℕ) × IsPlaceOf at node = place_at node is.untriggered.0 in
    none at.0 (
      rule,
      number,
      node,
      record {
        untriggered = is;
        first = λ other place late met. ⊎_elim
            (λ (behind : rule < other). inl behind)
            (λ (upto : other ≤ rule). ⊎_elim
            (λ (less : other < rule). absurd (before other place late less met))
            (λ (from : rule ≤ other).
            let same : other ≡ rule = omega (arith, upto, from) in
            ⊎_elim
            (λ (sooner : place < number). absurd (earlier place late (omega (arith, sooner, below)) (subst (λ (k : ℕ). IsUntriggeredAt plans k place late) same met)))
            (λ (later : number ≤ place). inr (sym same, later)) (cases_lt place number))
            (cases_lt other rule))
            (cases_lt rule other);
      },
      at.1,
    )

in_rules : (plans : List Plan) → NoneFirst plans → (most rule number : ℕ) (node : Plan) → rule < most → IsUntriggeredAt plans rule number node → ⊥
in_rules plans none zero rule number node below is = omega (arith, below)
in_rules plans none (suc most) rule number node below is =
    let earlier : (other place : ℕ) (late : Plan) → other < most → IsUntriggeredAt plans other place late → ⊥ = in_rules plans none most in
    in_rule plans none rule (λ other place late less met. earlier other place late (omega (arith, less, below)) met) (suc number) number node (omega arith) is

all_triggered : (plans : List Plan) → NoneFirst plans → AllIsTriggered plans
all_triggered plans none rule number node is = in_rules plans none (suc rule) rule number node (omega arith) is

-- the place of a node is one
one_place : (node : Plan) (a b : ℕ) → IsPlaceOf a node → IsPlaceOf b node → a ≡ b
one_place (CausePlan n place name terms) a b is also = is ∙ sym also
one_place (EventuallyPlan n place low high body) a b is also = is ∙ sym also
one_place (UntilPlan n place low high l r) a b is also = is ∙ sym also
one_place (NextPlan n place high body) a b is also = is ∙ sym also
one_place plan a b is also = absurd is

one_first_place : (plans : List Plan) (a b : ℕ) → IsFirstPlace plans a → IsFirstPlace plans b → a ≡ b
one_first_place plans a b (rule, number, node, is, keeps) (other, place, late, also, holds) =
    let there : (rule < other) ⊎ ((rule ≡ other) × (number ≤ place)) = is.first other place late also.untriggered in
    let back : (other < rule) ⊎ ((other ≡ rule) × (place ≤ number)) = also.first rule number node is.untriggered in
    ⊎_elim
    (λ (less : rule < other). ⊎_elim (λ (more : other < rule). absurd (omega (arith, less, more))) (λ (same : (other ≡ rule) × (place ≤ number)). absurd (omega (arith, less, same.0))) back)
    (λ (same : (rule ≡ other) × (number ≤ place)). ⊎_elim (λ (more : other < rule). absurd (omega (arith, more, same.0)))
    (λ (too : (other ≡ rule) × (place ≤ number)).
    let numbers : number ≡ place = omega (arith, same.1, too.1) in
    let one : slice_get plans rule ≡ Some also.untriggered.plan = subst (λ (k : ℕ). slice_get plans k ≡ Some also.untriggered.plan) too.0 also.untriggered.plan_is in
    let mine : slice_get plans rule ≡ Some is.untriggered.plan = is.untriggered.plan_is in
    let plans_alike : is.untriggered.plan ≡ also.untriggered.plan = cc in
    let here : slice_get (nodes also.untriggered.plan) place ≡ Some node = subst (λ (p : Plan). slice_get (nodes p) place ≡ Some node) plans_alike
    (subst (λ (k : ℕ). slice_get (nodes is.untriggered.plan) k ≡ Some node) numbers is.untriggered.node_is) in
    let its : slice_get (nodes also.untriggered.plan) place ≡ Some late = also.untriggered.node_is in
    let nodes_alike : node ≡ late = cc in
    one_place late a b (subst (IsPlaceOf a) nodes_alike keeps) holds) back)
    there

pub accepted_stays : (plans : List Plan) (refusal : RankRefusal) → AreAccepted plans → RefusesPlans plans refusal → refusal ≡ NoMemory
accepted_stays plans (RoleClash name) accepted is = absurd (accepted.roles name is.has)
accepted_stays plans (Untriggered at) accepted is = absurd (accepted.triggered is.1.0 is.1.1 is.1.2 is.1.3.untriggered)
accepted_stays plans (Cyclic name) accepted is = absurd (accepted.acyclic name is.2.has)
accepted_stays plans NoMemory accepted is = refl

untriggered_is : (plans : List Plan) (at : ℕ) → AllIsTriggered plans → IsFirstPlace plans at → ⊥
untriggered_is plans at all is = all is.0 is.1 is.2 is.3.untriggered

pub one_reason : (plans : List Plan) (refusal other : RankRefusal) → RefusesPlans plans refusal → RefusesPlans plans other → (refusal ≡ NoMemory) ⊎ ((other ≡ NoMemory) ⊎ (refusal ≡ other))
one_reason plans NoMemory other is also = inl refl
one_reason plans refusal NoMemory is also = inr (inl refl)
one_reason plans (RoleClash a) (RoleClash b) is also = inr (inr (ap RoleClash (one_first (Clashes plans) a b is also)))
one_reason plans (RoleClash a) (Untriggered b) is also = absurd (also.0 a is.has)
one_reason plans (RoleClash a) (Cyclic b) is also = absurd (also.0 a is.has)
one_reason plans (Untriggered a) (RoleClash b) is also = absurd (is.0 b also.has)
one_reason plans (Untriggered a) (Untriggered b) is also = inr (inr (ap Untriggered (one_first_place plans a b is.1 also.1)))
one_reason plans (Untriggered a) (Cyclic b) is also = absurd (untriggered_is plans a also.1 is.1)
one_reason plans (Cyclic a) (RoleClash b) is also = absurd (is.0 b also.has)
one_reason plans (Cyclic a) (Untriggered b) is also = absurd (untriggered_is plans b is.1 also.1)
one_reason plans (Cyclic a) (Cyclic b) is also = inr (inr (ap Cyclic (one_first (IsOnCycle (Edge plans)) a b is.2 also.2)))

abbrev Answer : List Plan → Type 0
Answer plans = AreAccepted plans ⊎ ((refusal : RankRefusal) × (refusal ≡ NoMemory → ⊥) × RefusesPlans plans refusal)

pub answered : (plans : List Plan) → (Answer plans → ⊥) → ⊥
answered plans none =
    let clear : NothingClashes plans = none_first (Clashes plans) (λ name first. none (inr (RoleClash name, λ (e : RoleClash name ≡ NoMemory). cc, first))) in
    let triggered : AllIsTriggered plans = all_triggered plans (λ at first. none (inr (Untriggered at, λ (e : Untriggered at ≡ NoMemory). cc, (clear, first)))) in
    let acyclic : IsAcyclic plans = none_first (IsOnCycle (Edge plans)) (λ name first. none (inr (Cyclic name, λ (e : Cyclic name ≡ NoMemory). cc, (clear, triggered, first)))) in
    none (inl (record { roles = clear; triggered = triggered; acyclic = acyclic }))
