-- What a pending instance misses its node leads to.
use Rattle.obligations.proofs.Vocabulary.{◌≡◌, ℕ, ◌+◌, ◌<◌, ◌≤◌, Bool, true, false, List, [], ◌∷◌, ◌++◌, length, Contains, Option, Some, inl, inr, ⊎_elim, refl, sym, ap, subst, ◌∙◌, arith}
use Rattle.obligations.proofs.Vocabulary.{length-append, get_or-append-add, step_at, no_step, none_in_nil, Step, LastIsAtTheEnd, EndsInTime, IsLost, IsAhead, obligation, LostStaysLost, LeadsOn}
use Rattle.obligations.proofs.Vocabulary.{OwedLeadsOn, OwedStaysOwed, FoundIsFirst, has_deadline, Plan, CausePlan, SuppressPlan, Both, Either, TestOr, Guarded, EventuallyPlan, AlwaysPlan, UntilPlan}
use Rattle.obligations.proofs.Vocabulary.{NextPlan, StandsIn, IfElse, time_now, ServesLiteral, Missing, last_position, SomethingMissedIsLost, AtNode, HasDeadline, MissesAt, NoneIsOver}
use Rattle.obligations.proofs.Vocabulary.{PendsBehind, node_of, PlansStand, Instance, Literal}
use Rattle.obligations.proofs.PendingOwedLemmas.{IsFrom, from_start, is_ahead, lost_before, waits_more, window_still}
use Rattle.obligations.proofs.LossLemmas.{IsPendingAs, front_ordered, held}
use Rattle.obligations.proofs.InstanceLeadLemmas.{left_stands, right_stands}
use Rattle.obligations.proofs.LiteralLeadLemmas.{missed_is_served, onto, served_at}
use Rattle.obligations.proofs.TraceLemmas.{stands_found}

module _ (lost : SomethingMissedIsLost) (stay : LostStaysLost) (owed_on : OwedStaysOwed) (leads_on : OwedLeadsOn)
    (first : FoundIsFirst) (last : LastIsAtTheEnd) (plans : List Plan) (stand : PlansStand plans) (trace : List Step)
    (step : Step) (ordered : (i j : ℕ) → i ≤ j → j < length (trace ++ step ∷ [])
    → (step_at (trace ++ step ∷ []) i).time ≤ (step_at (trace ++ step ∷ []) j).time) (i : Instance) where
  abbrev longer : List Step
  longer = trace ++ step ∷ []

  abbrev now : ℕ
  now = last_position longer

  count : length longer ≡ length trace + 1
  count = length-append trace (step ∷ [])

  some : 0 < length longer
  some = omega (arith, count)

  time_is : time_now longer ≡ step.time
  time_is =
      ap (λ (s : Step). s.time) (subst (λ (n : ℕ). step_at longer n ≡ step) {x = length trace + 0} {y = now} (omega (arith, count))
      (get_or-append-add trace (step ∷ []) 0 no_step))

  abbrev Led : Plan → Literal → Type 0
  Led node literal = ServesLiteral longer 0 (obligation node i.valuation i.origin) literal

  none_missed : (node : Plan) (literals : List Literal) (literal : Literal) → literals ≡ [] → Contains literals literal → Led node literal
  none_missed node literals literal is there = absurd (none_in_nil literal (subst (λ (l : List Literal). Contains l literal) is there))

  -- at the end of the window
  at_the_end : (low high : ℕ) → IsFrom (step_at longer i.origin).time low high i → low ≤ high → i.origin < length trace
      → step.time ≡ i.high → IsAhead longer low high i.origin now
  at_the_end low high window order before due =
      let from = window.0 in
      let upto = window.1 in
      is_ahead lost stay owed_on leads_on first plans stand trace step ordered low high i window (omega (arith, before, count))
      (inr (omega (arith, from, upto, order, due, time_is))) (omega (arith, due, time_is))

  serve_at : (node : Plan) → IsPendingAs plans trace i node → StandsIn plans i.rule node → EndsInTime node → (forced : Bool)
      → (forced ≡ true → step.time ≡ i.high) → (has_deadline node ≡ true → step.time ≤ i.high)
      → (literals : List Literal) (literal : Literal) → MissesAt longer node i forced literals → Contains literals literal
      → Led node literal
  serve_at (CausePlan node place name terms) h stands ends forced due in_time literals literal misses there = absurd misses
  serve_at (SuppressPlan node place name terms) h stands ends forced due in_time literals literal misses there = absurd misses
  serve_at (Both node left right) h stands ends forced due in_time literals literal misses there = absurd misses
  serve_at (Either node left right) h stands ends forced due in_time literals literal misses there = absurd misses
  serve_at (TestOr node guard test body) h stands ends forced due in_time literals literal misses there = absurd misses
  serve_at (Guarded node xs guard test body) h stands ends forced due in_time literals literal misses there = absurd misses
  serve_at (EventuallyPlan node place low high body) h stands ends false due in_time literals literal misses there =
      none_missed (EventuallyPlan node place low high body) literals literal misses there
  serve_at (EventuallyPlan node place low high body) h stands ends true due in_time literals literal misses there =
      let window = window_still lost stay owed_on leads_on first plans stand trace step ordered i (EventuallyPlan node place low high body) h in
      onto lost plans i.rule longer some (obligation (EventuallyPlan node place low high body) i.valuation i.origin) body i.valuation literal
      (now, at_the_end low high window ends.0 h.begun (due refl), lost_before lost stay owed_on leads_on first plans stand trace step ordered low high body i h.waited, refl)
      (missed_is_served lost plans i.rule longer some body (record { back = stands.back.1; named = stands.named.1 }) i.valuation literals literal misses there)
  serve_at (NextPlan node place high body) h stands ends forced due in_time literals literal misses there =
      let next : i.origin + 1 ≡ now = h.waited ∙ omega (arith, count) in
      onto lost plans i.rule longer some (obligation (NextPlan node place high body) i.valuation i.origin) body i.valuation literal
      (omega (arith, next, some), ap (λ (k : ℕ). obligation body i.valuation k) next)
      (missed_is_served lost plans i.rule longer some body (record { back = stands.back.1; named = stands.named.1 }) i.valuation literals literal misses there)
  serve_at (AlwaysPlan node place low high body) h stands ends forced due in_time literals literal misses there =
      let before = h.begun in
      let window = window_still lost stay owed_on leads_on first plans stand trace step ordered i (AlwaysPlan node place low high body) h in
      ⊎_elim
      (λ in_window. onto lost plans i.rule longer some (obligation (AlwaysPlan node place low high body) i.valuation i.origin) body i.valuation literal
      (now, is_ahead lost stay owed_on leads_on first plans stand trace step ordered low high i window (omega (arith, before, count)) (inr in_window.0.0) in_window.0.1, refl)
      (missed_is_served lost plans i.rule longer some body (record { back = stands.back.1; named = stands.named.1 }) i.valuation literals literal in_window.1 there))
      (λ out. none_missed (AlwaysPlan node place low high body) literals literal out.1 there)
      misses
  serve_at (UntilPlan node place low high left right) h stands ends forced due in_time literals literal misses there =
      let before = h.begun in
      let window = window_still lost stay owed_on leads_on first plans stand trace step ordered i (UntilPlan node place low high left right) h in
      let on_right = right_stands plans i.rule left right stands.back.1 stands.named.1 in
      let on_left = left_stands plans i.rule left right stands.back.1 stands.named.1 in
      let in_time' = in_time refl in
      ⊎_elim
      (λ nothing. none_missed (UntilPlan node place low high left right) literals literal nothing.2 there)
      (λ lacks. by forced due lacks.1 window on_left on_right before
      (from_start lost stay owed_on leads_on first plans stand trace step ordered i low high window (omega (arith, before, count)) (omega (arith, in_time', time_is)))
      (waits_more lost stay owed_on leads_on first plans stand trace step ordered low high right on_right.back i window lacks.0 h.waited))
      misses
    where
      by : (forced : Bool) → (forced ≡ true → step.time ≡ i.high)
          → IfElse forced (Missing longer right i.valuation literals) (Missing longer left i.valuation literals)
          → IsFrom (step_at longer i.origin).time low high i → StandsIn plans i.rule left → StandsIn plans i.rule right
          → i.origin < length trace → IsAhead longer 0 high i.origin now
          → ((k : ℕ) → IsAhead longer low high i.origin k → IsLost longer 0 right i.valuation k)
          → Led (UntilPlan node place low high left right) literal
      by true due' missing window on_left on_right before from_there so_far =
          onto lost plans i.rule longer some (obligation (UntilPlan node place low high left right) i.valuation i.origin) right i.valuation literal
          (inl (now, at_the_end low high window ends.0 before (due' refl), lost_before lost stay owed_on leads_on first plans stand trace step ordered low high right i h.waited, refl))
          (missed_is_served lost plans i.rule longer some right on_right i.valuation literals literal missing there)
      by false due' missing window on_left on_right before from_there so_far =
          onto lost plans i.rule longer some (obligation (UntilPlan node place low high left right) i.valuation i.origin) left i.valuation literal
          (inr (now, from_there, (λ k ahead le. so_far k ahead), refl))
          (missed_is_served lost plans i.rule longer some left on_left i.valuation literals literal missing there)

  pub pending_is_served : LeadsOn → (clock : ℕ) (pending : List Instance) (node : Plan) (forced : Bool) (literals : List Literal) (literal : Literal)
      → PendsBehind plans trace (length trace) pending → NoneIsOver plans pending step.time
      → Contains pending i → node_of plans i ≡ Some node → EndsInTime node → (forced ≡ true → step.time ≡ i.high)
      → AtNode (node_of plans i) (λ n. MissesAt longer n i forced literals) → Contains literals literal
      → ServesLiteral longer clock (obligation node i.valuation i.origin) literal
  pending_is_served leads clock pending node forced literals literal pend none_over there named ends due misses at =
      let h = held lost stay owed_on leads_on first last plans stand trace (front_ordered trace (step ∷ []) ordered) pending i node pend there named in
      let stands = stands_found first plans stand i node named in
      let before = h.begun in
      served_at leads longer clock (obligation node i.valuation i.origin) literal stands.back (omega (arith, before, count))
      (serve_at node h stands ends forced due
      (λ is. subst (λ (j : Instance). (d : ℕ) → HasDeadline plans j d → step.time ≤ d) there.2 (none_over there.0 i there.1) i.high
      (subst (λ (n : Option Plan). AtNode n (λ m. (has_deadline m ≡ true) × (i.high ≡ i.high))) (sym named) (is, refl)))
      literals literal
      (subst (λ (n : Option Plan). AtNode n (λ m. MissesAt longer m i forced literals)) named misses) at)
