-- There is one verdict, and policies that mean the same have the same one.
use Rattle.trace_audit.proofs.Vocabulary.{◌≡◌, ℕ, zero, suc, ◌<◌, List, [], ◌∷◌, length, get_or, Some, refl, sym, subst, slice_get, AllZip, get_or_from_slice_get, none-some, same_Some}
use Rattle.trace_audit.proofs.Vocabulary.{slice_get-get_or, slice_get_within, no_values, Step, eq_from_neither_less, Formula, Sat, PlanMeans, PolicyKeepsMeaning, formula_for, Plan, formulas_for}
use Rattle.trace_audit.proofs.Vocabulary.{Satisfies, VerdictIsOfPolicy, VerdictIsOne, HoldsAt, IsBroken, IsFirstBroken, IsVerdict, Verdict, Holds, Fails}

-- where a trace satisfies a policy, no rule is broken at a position of it
satisfied_at : (policy : List Formula) (trace : List Step) → Satisfies trace policy → (rule position : ℕ) → position < length trace
    → HoldsAt policy trace rule position
satisfied_at policy trace satisfied rule position there formula of =
    subst (λ f. Sat trace position no_values f) (get_or_from_slice_get policy rule formula formula of)
    (satisfied rule formula (slice_get_within policy rule formula of) position there)

not_both : (policy : List Formula) (trace : List Step) (rule position : ℕ) → Satisfies trace policy
    → IsFirstBroken policy trace rule position → ⊥
not_both policy trace rule position satisfied first =
    first.broken.2 (satisfied_at policy trace satisfied rule position first.there first.broken.0 first.broken.1)

-- of two that are first none comes before the other
none_before : (policy : List Formula) (trace : List Step) (rule position other at : ℕ) → IsFirstBroken policy trace rule position
    → IsFirstBroken policy trace other at → position < at → ⊥
none_before policy trace rule position other at first too less =
    first.broken.2 (too.least position rule less first.broken.0 first.broken.1)

none_less : (policy : List Formula) (trace : List Step) (rule position other at : ℕ) → IsFirstBroken policy trace rule position
    → IsFirstBroken policy trace other at → position ≡ at → rule < other → ⊥
none_less policy trace rule position other at first too same less =
    first.broken.2 (subst (λ p. Sat trace p no_values first.broken.0) (sym same) (too.first rule less first.broken.0 first.broken.1))

pub verdict_is_one : VerdictIsOne
verdict_is_one policy trace Holds Holds is too = refl
verdict_is_one policy trace Holds (Fails rule position) is too = absurd (not_both policy trace rule position is too)
verdict_is_one policy trace (Fails rule position) Holds is too = absurd (not_both policy trace rule position too is)
verdict_is_one policy trace (Fails rule position) (Fails other at) is too =
    let same : position ≡ at = eq_from_neither_less position at (none_before policy trace rule position other at is too)
    (none_before policy trace other at rule position too is) in
    let of : rule ≡ other = eq_from_neither_less rule other (none_less policy trace rule position other at is too same)
    (none_less policy trace other at rule position too is (sym same)) in
    λ i. Fails (of i) (same i)

-- ---- policies that mean the same

plan_at : (policy : List Formula) (plans : List Plan) → AllZip PlanMeans policy plans → (rule : ℕ) (f : Formula)
    → slice_get policy rule ≡ Some f → (plan : Plan) × (slice_get (formulas_for plans) rule ≡ Some (formula_for plan)) × PlanMeans f plan
plan_at [] plans zip rule f of = absurd (none-some f of)
plan_at (g ∷ policy) [] zip rule f of = absurd zip
plan_at (g ∷ policy) (plan ∷ plans) zip zero f of = (plan, refl, subst (λ h. PlanMeans h plan) (same_Some g f of) zip.0)
plan_at (g ∷ policy) (plan ∷ plans) zip (suc rule) f of = plan_at policy plans zip.1 rule f of

formula_at : (policy : List Formula) (plans : List Plan) → AllZip PlanMeans policy plans → (rule : ℕ) (f : Formula)
    → slice_get (formulas_for plans) rule ≡ Some f
    → (g : Formula) × (slice_get policy rule ≡ Some g) × ((trace : List Step) (i : ℕ) → Sat trace i no_values g → Sat trace i no_values f)
formula_at [] [] zip rule f of = absurd (none-some f of)
formula_at [] (plan ∷ plans) zip rule f of = absurd zip
formula_at (g ∷ policy) [] zip rule f of = absurd zip
formula_at (g ∷ policy) (plan ∷ plans) zip zero f of =
    (g, refl, λ trace i sat. subst (Sat trace i no_values) (same_Some (formula_for plan) f of) ((zip.0 trace i no_values).1 sat))
formula_at (g ∷ policy) (plan ∷ plans) zip (suc rule) f of = formula_at policy plans zip.1 rule f of

module _ (policy : List Formula) (plans : List Plan) (zip : AllZip PlanMeans policy plans) (trace : List Step) where
  holds_too : (rule position : ℕ) → HoldsAt (formulas_for plans) trace rule position → HoldsAt policy trace rule position
  holds_too rule position holds f of =
      let plan = plan_at policy plans zip rule f of in
      (plan.2 trace position no_values).0 (holds (formula_for plan.0) plan.1)

  broken_too : (rule position : ℕ) → IsBroken (formulas_for plans) trace rule position → IsBroken policy trace rule position
  broken_too rule position broken =
      let formula = formula_at policy plans zip rule broken.0 broken.1 in
      (formula.0, formula.1, λ sat. broken.2 (formula.2 trace position sat))

  verdict_too : (verdict : Verdict) → IsVerdict (formulas_for plans) trace verdict → IsVerdict policy trace verdict
  verdict_too Holds satisfied = λ k d within i there.
      holds_too k i (satisfied_at (formulas_for plans) trace satisfied k i there) (get_or policy k d) (slice_get-get_or policy k d within)
  verdict_too (Fails rule position) first = record {
    there = first.there;
    broken = broken_too rule position first.broken;
    least = λ i r less. holds_too r i (first.least i r less);
    first = λ r less. holds_too r position (first.first r less);
  }

pub verdict_is_of_policy : PolicyKeepsMeaning → VerdictIsOfPolicy
verdict_is_of_policy keeps entries policy plans guards trace verdict planned is =
    verdict_too policy plans (keeps entries policy plans guards planned) trace verdict is
