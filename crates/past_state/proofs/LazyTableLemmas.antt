-- What operators answer that are asked at a step.
use Rattle.past_state.proofs.Vocabulary.{◌≡◌, ◌∙◌, ◌↔◌, ℕ, suc, ◌+◌, ◌-◌, ◌<◌, ◌≤◌, List, [], ◌∷◌, ◌++◌, length, take, drop, reverse, map, get_or, Option, None, Some, refl, sym, ap, subst, arith}
use Rattle.past_state.proofs.Vocabulary.{drop-cons, slice_get, get_or-reverse, get_or-map, length-map, length-reverse, length-take, map_push, take-map, All-append, All-cons, All-get_or, All-head}
use Rattle.past_state.proofs.Vocabulary.{All-nil, All-tail, All-take, get_or_from_slice_get, slice_get_read, Valuation, Event, slice_get-append_left, iff_then, Formula, Prev, Once, Historically}
use Rattle.past_state.proofs.Vocabulary.{Since, FirstGivesUnder, FirstHas, Relation, HasValuation, AgreesWhereBound, window_given, Window, AnswersBy, SurvivesFor, Surviving, CanAnswer, CanAnswerAt}
use Rattle.past_state.proofs.Vocabulary.{CanAskEach, LastFits, table_at, table_of_step, tables_at, IsFor, AreStepTables, IsUpToTimeOf, memory_given, AreOrderedOperators, AreUpToTimeOf, Runs}
use Rattle.past_state.proofs.Vocabulary.{SurvivorsFit, IsViewOf, survives_by, Memory, StepTables, OperatorState}
use Rattle.enf_data.specs.meaning.Valuations.{BindsColumns}
use Rattle.monitorable_guard.specs.machine.Evaluation.{FirstHasUnder}
use Rattle.past_state.proofs.MemoryLemmas.{step_fits}
use Rattle.past_state.proofs.OperatorRunLemmas.{at, ready, run_at}
use Rattle.past_state.proofs.StackLemmas.{stack_below}
use Rattle.past_state.proofs.SurvivorLemmas.{by_view, window_gives}
use Rattle.past_state.specs.declared.memories.Memory.TheVariants as memories

-- ---- the first of the tables after some

pub first_has : (tables : List Relation) (k : ℕ) (t : Relation) (v : Valuation) (B : Type 0) → k < length tables → get_or tables k t ≡ t → B ↔ HasValuation t v → B ↔ FirstHas (drop k tables) v
first_has tables k t v B below is told = subst (λ l. B ↔ FirstHas l v) (sym (drop-cons tables k t below)) (subst (λ s. B ↔ HasValuation s v) (sym is) told)

pub first_gives : (tables : List Relation) (k : ℕ) (t : Relation) (v : Valuation) (rows : Relation) → k < length tables → get_or tables k t ≡ t → rows.columns ≡ t.columns
    → ((w : Valuation) → HasValuation rows w ↔ (HasValuation t w × AgreesWhereBound t.columns v w)) → FirstGivesUnder (drop k tables) v rows
first_gives tables k t v rows below is columns exact =
    subst (λ l. FirstGivesUnder l v rows) (sym (drop-cons tables k t below))
    (subst (λ s. (rows.columns ≡ s.columns) × ((w : Valuation) → HasValuation rows w ↔ (HasValuation s w × AgreesWhereBound s.columns v w))) (sym is) (columns, exact))

pub first_has_under : (tables : List Relation) (k : ℕ) (t : Relation) (v : Valuation) (B : Type 0) → k < length tables → get_or tables k t ≡ t → B ↔ FirstHasUnder (t ∷ []) v
    → B ↔ FirstHasUnder (drop k tables) v
first_has_under tables k t v B below is told =
    subst (λ l. B ↔ FirstHasUnder l v) (sym (drop-cons tables k t below)) (subst (λ s. B ↔ FirstHasUnder (s ∷ []) v) (sym is) told)

-- ---- what one operator answers

turned : {P Q : Type 0} → P ↔ Q → Q ↔ P
turned both = (both.1, both.0)

pub window_has : (window : Window) (time : ℕ) (t : StepTables) (view : Surviving) (v : Valuation) (B : Type 0) → SurvivorsFit window.columns t.surviving → t.right.columns
    ≡ window.columns → IsViewOf t.surviving view
    → B ↔ AnswersBy window time (SurvivesFor view) t.right v → B ↔ HasValuation (window_given window time (survives_by t.surviving) t.right) v
window_has window time t view v B fit same is told =
    iff_then (by_view (λ S. B ↔ AnswersBy window time S t.right v) t.surviving view is told) (turned (window_gives window time t.surviving t.right fit same v))

pub window_rows : (window : Window) (time : ℕ) (t : StepTables) (view : Surviving) (w : Valuation) (B A : Type 0) → SurvivorsFit window.columns t.surviving → t.right.columns
    ≡ window.columns → IsViewOf t.surviving view
    → B ↔ (AnswersBy window time (SurvivesFor view) t.right w × A) → B ↔ (HasValuation (window_given window time (survives_by t.surviving) t.right) w × A)
window_rows window time t view w B A fit same is told =
    let gives = window_gives window time t.surviving t.right fit same w in
    iff_then (by_view (λ S. B ↔ (AnswersBy window time S t.right w × A)) t.surviving view is told) (λ both. (gives.1 both.0, both.1), λ both. (gives.0 both.0, both.1))

pub window_some : (window : Window) (time : ℕ) (t : StepTables) (view : Surviving) (v : Valuation) (B : Type 0) → SurvivorsFit window.columns t.surviving → t.right.columns
    ≡ window.columns → IsViewOf t.surviving view
    → B ↔ ((w : Valuation) × BindsColumns w window.columns × AnswersBy window time (SurvivesFor view) t.right w × AgreesWhereBound window.columns v w)
    → B ↔ FirstHasUnder (window_given window time (survives_by t.surviving) t.right ∷ []) v
window_some window time t view v B fit same is told =
    let gives = window_gives window time t.surviving t.right fit same in
    iff_then
    (by_view (λ S. B ↔ ((w : Valuation) × BindsColumns w window.columns × AnswersBy window time S t.right w × AgreesWhereBound window.columns v w)) t.surviving view is told)
    (λ some. (some.0, some.1, (gives some.0).1 some.2, some.3), λ some. (some.0, some.1, (gives some.0).0 some.2, some.3))

pub last_fits : (f : Formula) (m : Memory) → IsFor f m → LastFits m
last_fits (Prev place interval g) (memories.Prev slot operand) for = for.3
last_fits (Once place interval g) (memories.Once window right) for = tt
last_fits (Historically place interval g) (memories.Once window right) for = tt
last_fits (Since place interval g h) (memories.Since window left left_tables right) for = tt
last_fits f m for = absurd for

-- ---- lists

slice_last : {X : Type 0} (xs : List X) (x : X) → slice_get (xs ++ x ∷ []) (length xs) ≡ Some x
slice_last [] x = refl
slice_last (y ∷ xs) x = slice_last xs x

-- ---- operators that are asked

module _ (operators : List OperatorState) (time : ℕ) where
  can_both : (o : Option OperatorState) (t : Option StepTables) → CanAnswerAt time o t → (p : OperatorState) × (s : StepTables) × (o ≡ Some p) × (t ≡ Some s)
  can_both None t can = absurd can
  can_both (Some o) None can = absurd can
  can_both (Some o) (Some t) can = (o, t, refl, refl)

  -- the table of one of them
  there : (steps : List StepTables) (place : ℕ) (o : OperatorState) (t : StepTables) → CanAnswerAt time (slice_get operators place) (slice_get steps place) → o
      ≡ get_or operators place o → t ≡ get_or steps place t
      → table_at operators steps time place ≡ memory_given o.memory time t
  there steps place o t can is brought =
      let both = can_both (slice_get operators place) (slice_get steps place) can in
      let here : slice_get operators place ≡ Some o = both.2 ∙ ap Some (sym (is ∙ get_or_from_slice_get operators place both.0 o both.2)) in
      let here_too : slice_get steps place ≡ Some t = both.3 ∙ ap Some (sym (brought ∙ get_or_from_slice_get steps place both.1 t both.3)) in
      ap (λ p. table_of_step time p (slice_get steps place)) here ∙ ap (λ s. table_of_step time (Some o) s) here_too

  pub first_is : (steps : List StepTables) (places : List ℕ) (number place : ℕ) (o : OperatorState) (t : StepTables) → CanAskEach operators steps time places
      → number < length (tables_at operators steps time places)
      → place ≡ get_or (reverse places) number place → o ≡ get_or operators place o → t ≡ get_or steps place t
      → get_or (tables_at operators steps time places) number (memory_given o.memory time t) ≡ memory_given o.memory time t
  first_is steps places number place o t can below at_place is brought =
      let f = table_at operators steps time in
      let d : Relation = memory_given o.memory time t in
      let long : length (map f places) ≡ length places = length-map places f in
      let within : number < length (map f places) = omega (arith, below, length-reverse (map f places)) in
      let inside : length places - 1 - number < length places = omega (arith, within, long) in
      let same : get_or places (length places - 1 - number) place ≡ place = sym (get_or-reverse places number place (omega (arith, within, long))) ∙ sym at_place in
      get_or-reverse (map f places) number d within ∙ ap (λ n. get_or (map f places) (n - 1 - number) d) long ∙ get_or-map f places (length places - 1 - number) place d inside
      ∙ ap f same ∙ there steps place o t (subst (λ p. CanAnswerAt time (slice_get operators p) (slice_get steps p)) same
      (All-get_or (λ p. CanAnswerAt time (slice_get operators p) (slice_get steps p)) places (length places - 1 - number) place inside can)) is brought

  pub asked_behind : (steps : List StepTables) (places : List ℕ) (count : ℕ) → count ≤ length (tables_at operators steps time places)
      → tables_at operators steps time (take (length places - count) places) ≡ drop count (tables_at operators steps time places)
  asked_behind steps places count within =
      let f = table_at operators steps time in
      ap reverse (sym (take-map f (length places - count) places) ∙ ap (λ n. take (n - count) (map f places)) (sym (length-map places f))) ∙ stack_below (map f places) count within

  -- ---- one step more

  same_before : (steps : List StepTables) (t : StepTables) (place : ℕ) → CanAnswerAt time (slice_get operators place) (slice_get steps place) → slice_get (steps ++ t ∷ []) place
      ≡ slice_get steps place
  same_before steps t place can =
      let both = can_both (slice_get operators place) (slice_get steps place) can in
      slice_get-append_left steps (t ∷ []) place both.1 both.3 ∙ sym both.3

  can_more : (steps : List StepTables) (t : StepTables) (places : List ℕ) → CanAskEach operators steps time places → CanAskEach operators (steps ++ t ∷ []) time places
  can_more steps t places can k d below =
      subst (λ s. CanAnswerAt time (slice_get operators (get_or places k d)) s) (sym (same_before steps t (get_or places k d) (can k d below))) (can k d below)

  map_same : (steps : List StepTables) (t : StepTables) (places : List ℕ) → CanAskEach operators steps time places → map (table_at operators (steps ++ t ∷ []) time) places
      ≡ map (table_at operators steps time) places
  map_same steps t [] can = refl
  map_same steps t (p ∷ places) can =
      ap (λ s. table_of_step time (slice_get operators p) s ∷ map (table_at operators (steps ++ t ∷ []) time) places)
      (same_before steps t p (All-head (λ q. CanAnswerAt time (slice_get operators q) (slice_get steps q)) p places can))
      ∙ ap (λ l. table_at operators steps time p ∷ l) (map_same steps t places (All-tail (λ q. CanAnswerAt time (slice_get operators q) (slice_get steps q)) p places can))

pub asked_tables : (operators : List OperatorState) (time : ℕ) {steps more : List StepTables} {places others : List ℕ} → steps ≡ more → places ≡ others
    → tables_at operators steps time places ≡ tables_at operators more time others
asked_tables operators time {steps} {more} {places} {others} same_steps same_places = ap (λ l. tables_at operators l time places) same_steps ∙ ap (tables_at operators more time) same_places

run_long : (events : List Event) (time : ℕ) (stack : List Relation) (operators : List OperatorState) (steps : List StepTables) (final : List Relation)
    → Runs events time stack operators steps final → length steps ≡ length operators
run_long events time stack [] [] final runs = refl
run_long events time stack [] (t ∷ steps) final runs = absurd runs
run_long events time stack (o ∷ operators) [] final runs = absurd runs
run_long events time stack (o ∷ operators) (t ∷ steps) final runs = ap suc (run_long events time (memory_given o.memory time t ∷ drop o.taken stack) operators steps final runs.1)

-- so far the operators have run, and those whose numbers these are can be asked
pub record RanTo (events : List Event) (time : ℕ) (operators : List OperatorState) (i : ℕ) (steps : List StepTables) (places : List ℕ) : Type 0 where
  pub runs : Runs events time [] (take i operators) steps (tables_at operators steps time places)
  pub can : CanAskEach operators steps time places

pub ran_more : (events : List Event) (time : ℕ) (operators : List OperatorState) (i : ℕ) (o : OperatorState) (t : StepTables) (steps more : List StepTables) (places after : List ℕ)
    → AreOrderedOperators operators → AreUpToTimeOf time operators → i < length operators
    → o ≡ get_or operators i o → RanTo events time operators i steps places → AreStepTables events (tables_at operators steps time places) o.memory t
    → after ≡ take (length places - o.taken) places ++ length steps ∷ [] → more ≡ steps ++ t ∷ [] → RanTo events time operators (i + 1) more after
ran_more events time operators i o t steps more places after ordered up_to below is ran are put grown =
    let f = table_at operators steps time in
    let f' = table_at operators (steps ++ t ∷ []) time in
    let front : List ℕ = take (length places - o.taken) places in
    let found = at [] ordered.formulas operators i o ordered.are_for ordered.inside_out below is in
    let can : CanAnswer o.memory time t = record {
      fits = step_fits events (tables_at operators steps time places) o.memory t are;
      up_to = subst (λ p. IsUpToTimeOf time p.memory) (sym is) (All-get_or (λ p. IsUpToTimeOf time p.memory) operators i o below up_to);
      last = last_fits found.formula o.memory found.is_for;
    } in
    let counted : length steps ≡ i = run_long events time [] (take i operators) steps (tables_at operators steps time places) ran.runs ∙ length-take i operators ∙ omega (arith, below) in
    let at_new : slice_get operators (length steps) ≡ Some o = slice_get_read operators (length operators) (length steps) o refl (omega (arith, counted, below))
    (is ∙ ap (λ n. get_or operators n o) (sym counted)) in
    let new : f' (length steps) ≡ memory_given o.memory time t = ap (λ p. table_of_step time p (slice_get (steps ++ t ∷ []) (length steps))) at_new ∙ ap
    (λ s. table_of_step time (Some o) s) (slice_last steps t) in
    let can_front : CanAskEach operators steps time front = All-take (λ q. CanAnswerAt time (slice_get operators q) (slice_get steps q)) (length places - o.taken) places ran.can in
    let old : map f' front ≡ take (length (map f places) - o.taken) (map f places) =
    map_same operators time steps t front can_front ∙ sym (take-map f (length places - o.taken) places) ∙ ap (λ n. take (n - o.taken) (map f places)) (sym (length-map places f)) in
    let e : map f' after ≡ take (length (map f places) - o.taken) (map f places) ++ memory_given o.memory time t ∷ [] =
    ap (map f') put ∙ map_push f' front (length steps) ∙ ap (λ l. l ++ f' (length steps) ∷ []) old ∙ ap (λ r. take (length (map f places) - o.taken) (map f places) ++ r ∷ []) new in
    subst (λ l. RanTo events time operators (i + 1) l after) (sym grown) (record {
      runs = run_at events time operators i o steps (map f places) (map f' after) t below is
          (ready events time operators i o steps (tables_at operators steps time places) ordered below is ran.runs).enough ran.runs are e;
      can = subst (CanAskEach operators (steps ++ t ∷ []) time) (sym put) (All-append (λ q. CanAnswerAt time (slice_get operators q) (slice_get (steps ++ t ∷ []) q)) front
          (length steps ∷ []) (can_more operators time steps t front can_front)
          (All-cons (λ q. CanAnswerAt time (slice_get operators q) (slice_get (steps ++ t ∷ []) q)) (length steps) []
          (subst (λ p. CanAnswerAt time p (slice_get (steps ++ t ∷ []) (length steps))) (sym at_new) (subst (λ s. CanAnswerAt time (Some o) s) (sym (slice_last steps t)) can))
          (All-nil _)));
    })
