-- A plan misses one list of literals at most, and begins one list of instances.
use Rattle.obligations.proofs.Vocabulary.{◌≡◌, ℕ, zero, suc, Bool, true, false, List, [], ◌∷◌, ◌++◌, Option, None, Some, length, sym, ap, subst, arith, ⊎_elim, ◌⊎◌, ◌∙◌, take, Valuation, no_values}
use Rattle.obligations.proofs.Vocabulary.{values_of_terms, with_values, Event, NameId, Step, Value, Plan, CausePlan, SuppressPlan, Both, Either, TestOr, Guarded, EventuallyPlan, AlwaysPlan, UntilPlan}
use Rattle.obligations.proofs.Vocabulary.{NextPlan, has_future, Missing, HasSome, LiteralUnless, MissesEither, MissesUntil, MissesAlways, OfEvent, IsAbsent, IsPresent, cause_literal, suppress_literal}
use Rattle.obligations.proofs.Vocabulary.{Gathers, Begun, BeginsAlways, BeginsOrWaits, LacksNothing, LacksSome, TakesOrElse, TakesPresent, IfElse, WithBehind, begun_now, MissingIsOne, AfterIsOne}
use Rattle.obligations.proofs.Vocabulary.{BegunIsOne, MissingOfIsOne, PendIsOne, RowsAreOne, After, AtNode, BecomesAt, BegunByRoots, IsNowIn, MissesAt, PendsBehind, node_of, Instance, Literal}

-- at most one list has the property
abbrev pub IsOne : {X : Type 0} → (List X → Type 0) → Type 0
IsOne {X} P = (xs ys : List X) → P xs → P ys → xs ≡ ys

literal_is_one : (P : Type 0) (literal : Literal) → IsOne (LiteralUnless P literal)
literal_is_one P literal xs ys first second =
    ⊎_elim
    (λ a. ⊎_elim (λ b. a.1 ∙ sym b.1) (λ b. absurd (b.0 a.0)) second)
    (λ a. ⊎_elim (λ b. absurd (a.0 b.0)) (λ b. a.1 ∙ sym b.1) second)
    first

of_event_is_one : (name : NameId) (args : Option (List Value)) (P : Event → List Literal → Type 0)
    → ((e : Event) → IsOne (P e)) → IsOne (λ literals. OfEvent name args (λ e. P e literals))
of_event_is_one name None P one xs ys first second = absurd first
of_event_is_one name (Some args) P one xs ys first second = one (record { name = name; args = args }) xs ys first second

pub gathers_one : {X Y : Type 0} (P : X → List Y → Type 0) → ((x : X) → IsOne (P x)) → (xs : List X) → IsOne (Gathers P xs)
gathers_one P one [] ks ls first second = first ∙ sym second
gathers_one {Y = Y} P one (x ∷ xs) ks ls (a, more, pa, pm, ea) (b, others, pb, po, eb) =
    let same : a ≡ b = one x a b pa pb in
    let rest : more ≡ others = gathers_one P one xs more others pm po in
    ea ∙ (ap (λ (l : List Y). l ++ more) same ∙ (ap (λ (l : List Y). b ++ l) rest ∙ sym eb))

nothing_or_some : (P : List Literal → Type 0) → IsOne P → P [] → HasSome P → ⊥
nothing_or_some P one nothing lacks =
    let n : 0 ≡ length (lacks.0 ∷ lacks.1) = ap length (one [] (lacks.0 ∷ lacks.1) nothing lacks.2) in omega arith

either_is_one : (P Q : List Literal → Type 0) → IsOne P → IsOne Q → IsOne (MissesEither P Q)
either_is_one P Q p q xs ys first second =
    ⊎_elim
    (λ a. ⊎_elim (λ b. a.1 ∙ sym b.1) (λ b. ⊎_elim (λ c. a.1 ∙ sym c.1) (λ c. absurd (nothing_or_some P p a.0 c.0)) b) second)
    (λ a. ⊎_elim
    (λ d. ⊎_elim (λ b. d.1 ∙ sym b.1) (λ b. ⊎_elim (λ c. d.1 ∙ sym c.1) (λ c. absurd (nothing_or_some Q q d.0 c.1)) b) second)
    (λ d. ⊎_elim (λ b. absurd (nothing_or_some P p b.0 d.0)) (λ b. ⊎_elim (λ c. absurd (nothing_or_some Q q c.0 d.1)) (λ c. q xs ys d.2 c.2) b) second)
    a)
    first

until_is_one : (low : ℕ) (P Q : List Literal → Type 0) → IsOne P → IsOne Q → IsOne (MissesUntil low P Q)
until_is_one zero P Q p q xs ys first second =
    ⊎_elim
    (λ a. ⊎_elim (λ b. a.1 ∙ sym b.1) (λ b. absurd (nothing_or_some Q q a.0 b.0)) second)
    (λ a. ⊎_elim (λ b. absurd (nothing_or_some Q q b.0 a.0)) (λ b. p xs ys a.1 b.1) second)
    first
until_is_one (suc low) P Q p q xs ys first second = p xs ys first second

always_is_one : (low : ℕ) (P : List Literal → Type 0) → IsOne P → IsOne (MissesAlways low P)
always_is_one zero P p xs ys first second = p xs ys first second
always_is_one (suc low) P p xs ys first second = first ∙ sym second

module _ (rows_are_one : RowsAreOne) where
  pub missing_is_one : MissingIsOne
  missing_is_one trace (CausePlan node place name terms) v ks ls first second = of_event_is_one name (values_of_terms v terms)
      (λ e. LiteralUnless (IsPresent trace e) (cause_literal e node)) (λ e. literal_is_one (IsPresent trace e) (cause_literal e node)) ks ls first second
  missing_is_one trace (SuppressPlan node place name terms) v ks ls first second = of_event_is_one name (values_of_terms v terms)
      (λ e. LiteralUnless (IsAbsent trace e) (suppress_literal e node)) (λ e. literal_is_one (IsAbsent trace e) (suppress_literal e node)) ks ls first second
  missing_is_one trace (Both node left right) v ks ls (a, more, pa, pm, ea) (b, others, pb, po, eb) =
      let same : a ≡ b = missing_is_one trace left v a b pa pb in
      let rest : more ≡ others = missing_is_one trace right v more others pm po in
      ea ∙ (ap (λ (l : List Literal). l ++ more) same ∙ (ap (λ (l : List Literal). b ++ l) rest ∙ sym eb))
  missing_is_one trace (Either node left right) v ks ls first second = either_is_one (Missing trace left v) (Missing trace right v) (missing_is_one trace left v)
      (missing_is_one trace right v) ks ls first second
  missing_is_one trace (TestOr node guard test body) v ks ls first second =
      ⊎_elim
      (λ a. ⊎_elim (λ b. a.1 ∙ sym b.1) (λ b. absurd (b.0 a.0)) second)
      (λ a. ⊎_elim (λ b. absurd (a.0 b.0)) (λ b. missing_is_one trace body v ks ls a.1 b.1) second)
      first
  missing_is_one trace (Guarded node xs guard test body) v ks ls (rows, are, first) (others, too, second) =
      let same : others ≡ rows = rows_are_one trace v xs test others rows too are in
      gathers_one (λ row. Missing trace body (with_values xs row v)) (λ row. missing_is_one trace body (with_values xs row v)) rows ks ls first
      (subst (λ r. Gathers (λ row. Missing trace body (with_values xs row v)) r ls) same second)
  missing_is_one trace (EventuallyPlan node place low high body) v ks ls first second = first ∙ sym second
  missing_is_one trace (AlwaysPlan node place low high body) v ks ls first second = always_is_one low (Missing trace body v) (missing_is_one trace body v) ks ls first second
  missing_is_one trace (UntilPlan node place low high left right) v ks ls first second = until_is_one low (Missing trace left v) (Missing trace right v) (missing_is_one trace left v)
      (missing_is_one trace right v) ks ls first second
  missing_is_one trace (NextPlan node place high body) v ks ls first second = first ∙ sym second

-- ---- what is begun, and what becomes of it

-- a choice between two, of which not both can be
choice_is_one : {X : Type 0} (P Q : Type 0) (A B : List X → Type 0) → (P → Q → ⊥) → IsOne A → IsOne B
    → IsOne (λ xs. (P × A xs) ⊎ (Q × B xs))
choice_is_one P Q A B apart a b xs ys first second =
    ⊎_elim
    (λ p. ⊎_elim (λ q. a xs ys p.1 q.1) (λ q. absurd (apart p.0 q.0)) second)
    (λ p. ⊎_elim (λ q. absurd (apart q.0 p.0)) (λ q. b xs ys p.1 q.1) second)
    first

same_is_one : {X : Type 0} (zs : List X) → IsOne (λ xs. xs ≡ zs)
same_is_one zs xs ys first second = first ∙ sym second

where_one : {X : Type 0} (ahead : Bool) (A B : List X → Type 0) → IsOne A → IsOne B → IsOne (λ xs. IfElse ahead (A xs) (B xs))
where_one true A B a b xs ys first second = a xs ys first second
where_one false A B a b xs ys first second = b xs ys first second

behind_is_one : (i : Instance) (P : List Instance → Type 0) → IsOne P → IsOne (WithBehind i P)
behind_is_one i P one xs ys (a, pa, ea) (b, pb, eb) = ea ∙ (ap (λ l. i ∷ l) (one a b pa pb) ∙ sym eb)

module _ (rows_are_one : RowsAreOne) where
  apart : (trace : List Step) (plan : Plan) (v : Valuation) → LacksNothing trace plan v → LacksSome trace plan v → ⊥
  apart trace plan v = nothing_or_some (Missing trace plan v) (missing_is_one rows_are_one trace plan v)

  takes_one : (trace : List Step) (side : Plan) (v : Valuation) (A B : List Instance → Type 0) → IsOne A → IsOne B
      → IsOne (λ xs. TakesOrElse trace side v (A xs) (B xs))
  takes_one trace side v A B a b =
      choice_is_one (LacksNothing trace side v) (LacksSome trace side v) A B (apart trace side v) a b

  waits_one : (trace : List Step) (low : ℕ) (body : Plan) (v : Valuation) (A B : List Instance → Type 0) → IsOne A
      → IsOne B → IsOne (λ xs. BeginsOrWaits trace low body v (A xs) (B xs))
  waits_one trace zero body v A B a b xs ys first second = takes_one trace body v A B a b xs ys first second
  waits_one trace (suc low) body v A B a b xs ys first second = b xs ys first second

  always_one : (low : ℕ) (i : Instance) (A : List Instance → Type 0) → IsOne A → IsOne (BeginsAlways low i A)
  always_one zero i A a xs ys first second = behind_is_one i A a xs ys first second
  always_one (suc low) i A a xs ys first second = first ∙ sym second

  either_one : (trace : List Step) (left right : Plan) (v : Valuation) (L R : List Instance → Type 0) → IsOne L → IsOne R
      → IsOne (λ xs. TakesPresent trace right v (R xs) (TakesPresent trace left v (L xs) (TakesOrElse trace right v (R xs) (TakesOrElse trace left v (L xs) (xs ≡ [])))))
  either_one trace left right v L R l r =
      let last = takes_one trace left v L (λ xs. xs ≡ []) l (same_is_one []) in
      let third = takes_one trace right v R (λ xs. TakesOrElse trace left v (L xs) (xs ≡ [])) r last in
      let second = where_one (has_future left) (λ xs. TakesOrElse trace right v (R xs) (TakesOrElse trace left v (L xs) (xs ≡ [])))
      (λ xs. TakesOrElse trace left v (L xs) (TakesOrElse trace right v (R xs) (TakesOrElse trace left v (L xs) (xs ≡ [])))) third
      (takes_one trace left v L (λ xs. TakesOrElse trace right v (R xs) (TakesOrElse trace left v (L xs) (xs ≡ []))) l third) in
      where_one (has_future right) (λ xs. TakesPresent trace left v (L xs) (TakesOrElse trace right v (R xs) (TakesOrElse trace left v (L xs) (xs ≡ []))))
      (λ xs. TakesOrElse trace right v (R xs) (TakesPresent trace left v (L xs) (TakesOrElse trace right v (R xs) (TakesOrElse trace left v (L xs) (xs ≡ []))))) second
      (takes_one trace right v R (λ xs. TakesPresent trace left v (L xs) (TakesOrElse trace right v (R xs) (TakesOrElse trace left v (L xs) (xs ≡ [])))) r second)

  joined_one : (a more b others xs ys : List Instance) → a ≡ b → more ≡ others → xs ≡ a ++ more → ys ≡ b ++ others → xs ≡ ys
  joined_one a more b others xs ys same rest ea eb =
      ea ∙ (ap (λ l. l ++ more) same ∙ (ap (λ l. b ++ l) rest ∙ sym eb))

  pub begun_is_one : BegunIsOne
  begun_is_one trace rule (CausePlan node place name terms) v xs ys first second = first ∙ sym second
  begun_is_one trace rule (SuppressPlan node place name terms) v xs ys first second = first ∙ sym second
  begun_is_one trace rule (Both node left right) v xs ys (a, more, pa, pm, ea) (b, others, pb, po, eb) =
      joined_one a more b others xs ys (begun_is_one trace rule left v a b pa pb) (begun_is_one trace rule right v more others pm po) ea eb
  begun_is_one trace rule (Either node left right) v xs ys first second =
      either_one trace left right v (Begun trace rule left v) (Begun trace rule right v) (begun_is_one trace rule left v) (begun_is_one trace rule right v) xs ys first second
  begun_is_one trace rule (TestOr node guard test body) v xs ys first second =
      ⊎_elim
      (λ a. ⊎_elim (λ b. a.1 ∙ sym b.1) (λ b. absurd (b.0 a.0)) second)
      (λ a. ⊎_elim (λ b. absurd (a.0 b.0)) (λ b. begun_is_one trace rule body v xs ys a.1 b.1) second)
      first
  begun_is_one trace rule (Guarded node vars guard test body) v xs ys (rows, are, first) (others, too, second) =
      let same : others ≡ rows = rows_are_one trace v vars test others rows too are in
      gathers_one (λ row. Begun trace rule body (with_values vars row v)) (λ row. begun_is_one trace rule body (with_values vars row v)) rows xs ys first
      (subst (λ r. Gathers (λ row. Begun trace rule body (with_values vars row v)) r ys) same second)
  begun_is_one trace rule (EventuallyPlan node place low high body) v xs ys first second =
      waits_one trace low body v (Begun trace rule body v) (λ zs. zs ≡ begun_now trace rule node low high v ∷ []) (begun_is_one trace rule body v)
      (same_is_one (begun_now trace rule node low high v ∷ [])) xs ys first second
  begun_is_one trace rule (AlwaysPlan node place low high body) v xs ys first second =
      always_one low (begun_now trace rule node low high v) (Begun trace rule body v) (begun_is_one trace rule body v) xs ys first second
  begun_is_one trace rule (UntilPlan node place low high left right) v xs ys first second =
      waits_one trace low right v (Begun trace rule right v) (WithBehind (begun_now trace rule node low high v) (Begun trace rule left v)) (begun_is_one trace rule right v)
      (behind_is_one (begun_now trace rule node low high v) (Begun trace rule left v) (begun_is_one trace rule left v)) xs ys first second
  begun_is_one trace rule (NextPlan node place high body) v xs ys first second = first ∙ sym second

  in_window_one : {X : Type 0} (trace : List Step) (plan : Plan) (i : Instance) (A B : List X → Type 0) → IsOne A → IsOne B
      → IsOne (λ xs. (IsNowIn trace i × LacksNothing trace plan i.valuation × A xs) ⊎ ((IsNowIn trace i → LacksSome trace plan i.valuation) × B xs))
  in_window_one trace plan i A B a b xs ys first second =
      ⊎_elim
      (λ p. ⊎_elim (λ q. a xs ys p.2 q.2) (λ q. absurd (apart trace plan i.valuation p.1 (q.0 p.0))) second)
      (λ p. ⊎_elim (λ q. absurd (apart trace plan i.valuation q.1 (p.0 q.0))) (λ q. b xs ys p.1 q.1) second)
      first

  misses_one : (trace : List Step) (node : Plan) (i : Instance) (forced : Bool) → IsOne (MissesAt trace node i forced)
  misses_one trace (EventuallyPlan node place low high body) i forced xs ys first second =
      where_one forced (Missing trace body i.valuation) (λ zs. zs ≡ []) (missing_is_one rows_are_one trace body i.valuation) (same_is_one []) xs ys first second
  misses_one trace (NextPlan node place high body) i forced xs ys first second = missing_is_one rows_are_one trace body i.valuation xs ys first second
  misses_one trace (AlwaysPlan node place low high body) i forced xs ys first second =
      choice_is_one (IsNowIn trace i) (IsNowIn trace i → ⊥) (Missing trace body i.valuation) (λ zs. zs ≡ []) (λ inside outside. outside inside)
      (missing_is_one rows_are_one trace body i.valuation) (same_is_one []) xs ys first second
  misses_one trace (UntilPlan node place low high left right) i forced xs ys first second =
      in_window_one trace right i (λ zs. zs ≡ []) (λ zs. IfElse forced (Missing trace right i.valuation zs) (Missing trace left i.valuation zs)) (same_is_one [])
      (where_one forced (Missing trace right i.valuation) (Missing trace left i.valuation) (missing_is_one rows_are_one trace right i.valuation)
      (missing_is_one rows_are_one trace left i.valuation)) xs ys first second
  misses_one trace (CausePlan node place name terms) i forced xs ys first second = absurd first
  misses_one trace (SuppressPlan node place name terms) i forced xs ys first second = absurd first
  misses_one trace (Both node left right) i forced xs ys first second = absurd first
  misses_one trace (Either node left right) i forced xs ys first second = absurd first
  misses_one trace (TestOr node guard test body) i forced xs ys first second = absurd first
  misses_one trace (Guarded node vars guard test body) i forced xs ys first second = absurd first

  becomes_one : (trace : List Step) (node : Plan) (i : Instance) → IsOne (BecomesAt trace node i)
  becomes_one trace (EventuallyPlan node place low high body) i xs ys first second =
      in_window_one trace body i (Begun trace i.rule body i.valuation) (λ zs. zs ≡ i ∷ []) (begun_is_one trace i.rule body i.valuation) (same_is_one (i ∷ [])) xs ys first second
  becomes_one trace (NextPlan node place high body) i xs ys first second = begun_is_one trace i.rule body i.valuation xs ys first second
  becomes_one trace (AlwaysPlan node place low high body) i xs ys first second =
      ⊎_elim
      (λ p. ⊎_elim (λ q. p.1 ∙ sym q.1) (λ q. ⊎_elim (λ r. let early = p.0 in let within = r.0.0 in absurd (omega (arith, early, within)))
      (λ r. let early = p.0 in let within = r.0 in absurd (omega (arith, early, within))) q) second)
      (λ o. ⊎_elim
      (λ p. ⊎_elim (λ q. let early = q.0 in let within = p.0.0 in absurd (omega (arith, early, within)))
      (λ q. ⊎_elim (λ r. behind_is_one i (Begun trace i.rule body i.valuation) (begun_is_one trace i.rule body i.valuation) xs ys p.1 r.1)
      (λ r. let late = r.1 in let within = p.0.1 in absurd (omega (arith, late, within))) q) second)
      (λ p. ⊎_elim (λ q. let early = q.0 in let within = p.0 in absurd (omega (arith, early, within)))
      (λ q. ⊎_elim (λ r. let late = p.1 in let within = r.0.1 in absurd (omega (arith, late, within))) (λ r. p.2 ∙ sym r.2) q) second)
      o)
      first
  becomes_one trace (UntilPlan node place low high left right) i xs ys first second =
      in_window_one trace right i (Begun trace i.rule right i.valuation) (WithBehind i (Begun trace i.rule left i.valuation)) (begun_is_one trace i.rule right i.valuation)
      (behind_is_one i (Begun trace i.rule left i.valuation) (begun_is_one trace i.rule left i.valuation)) xs ys first second
  becomes_one trace (CausePlan node place name terms) i xs ys first second = absurd first
  becomes_one trace (SuppressPlan node place name terms) i xs ys first second = absurd first
  becomes_one trace (Both node left right) i xs ys first second = absurd first
  becomes_one trace (Either node left right) i xs ys first second = absurd first
  becomes_one trace (TestOr node guard test body) i xs ys first second = absurd first
  becomes_one trace (Guarded node vars guard test body) i xs ys first second = absurd first

  at_node_one : {X : Type 0} (P : Plan → List X → Type 0) → ((node : Plan) → IsOne (P node)) → (found : Option Plan)
      → IsOne (λ xs. AtNode found (λ node. P node xs))
  at_node_one P one None xs ys first second = absurd first
  at_node_one P one (Some node) xs ys first second = one node xs ys first second

  pub missing_of_is_one : MissingOfIsOne
  missing_of_is_one plans trace i forced xs ys first second =
      at_node_one (λ node. MissesAt trace node i forced) (λ node. misses_one trace node i forced) (node_of plans i) xs ys first second

  pub after_is_one : AfterIsOne
  after_is_one plans trace i xs ys first second =
      at_node_one (λ node. BecomesAt trace node i) (λ node. becomes_one trace node i) (node_of plans i) xs ys first second

  roots_one : (trace : List Step) (rule : ℕ) (plans : List Plan) → IsOne (BegunByRoots trace rule plans)
  roots_one trace rule [] xs ys first second = first ∙ sym second
  roots_one trace rule (plan ∷ plans) xs ys (a, more, pa, pm, ea) (b, others, pb, po, eb) =
      joined_one a more b others xs ys (begun_is_one trace rule plan no_values a b pa pb) (roots_one trace (suc rule) plans more others pm po) ea eb

  pub pends_one : (plans : List Plan) (trace : List Step) (steps : ℕ) → IsOne (PendsBehind plans trace steps)
  pends_one plans trace zero xs ys first second = first ∙ sym second
  pends_one plans trace (suc steps) xs ys (before, pend, (kept, begun, goes, begins, are)) (before', pend', (kept', begun', goes', begins', are')) =
      let same : before' ≡ before = pends_one plans trace steps before' before pend' pend in
      let goes_too = subst (λ l. Gathers (After plans (take (suc steps) trace)) l kept') same goes' in
      joined_one kept begun kept' begun' xs ys
      (gathers_one (After plans (take (suc steps) trace)) (λ i. after_is_one plans (take (suc steps) trace) i) before kept kept' goes goes_too)
      (roots_one (take (suc steps) trace) 0 plans begun begun' begins begins') are are'

  pub pend_is_one : PendIsOne
  pend_is_one plans trace xs ys first second = pends_one plans trace (length trace) xs ys first second
