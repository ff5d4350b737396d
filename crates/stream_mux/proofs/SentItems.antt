-- What is sent: the steps in it.
use Rattle.enf_data.proofs.Lists.{AllByRecursion-of_append}
use Rattle.log_stream.specs.declared.items.LogItem.TheVariants.{Tick}
use Rattle.std.proofs.Common.{ap, append-nil, refl, subst, sym, ◌∙◌}
use Rattle.std.proofs.lemmas.List.{map-append}
use Rattle.std.proofs.lemmas.List.Elements.{filter-append}
use Rattle.std.specs.List.{AllByRecursion, filter}
use Rattle.std.specs.Prelude.{ℕ, List, [], ◌∷◌, ◌++◌, ◌≡◌, Bool, true, false, cond, nat_lt, Option, None, Some}
use Rattle.stream_mux.proofs.ReleasedSteps.{next_released, released_parts}
use Rattle.stream_mux.proofs.TakenRecords.{fits_behind, with_all}
use Rattle.stream_mux.specs.declared.records.Tagged.{Tagged}
use Rattle.stream_mux.specs.machine.Laws.{SentStepsAreReleased}
use Rattle.stream_mux.specs.meaning.MergedStreams.{AreTaken, StreamStep, greatest_time, is_step, items_in_order, least_mark, merge_of}
use Rattle.stream_mux.specs.meaning.MergedStreams.{newly_released, open_marks, released, sent, tick_above, waiting_steps}

-- the merge has steps alone
all_steps : (history : List Tagged) → AllByRecursion (λ y. is_step y.item ≡ true) (merge_of history)
all_steps [] = tt
all_steps (last ∷ before) =
    with_all (λ y. is_step y.item ≡ true) last.stream last.offer (merge_of before) (λ item e is. is) (all_steps before)

only_steps : (l : List StreamStep) → AllByRecursion (λ y. is_step y.item ≡ true) l
    → filter is_step (items_in_order l) ≡ items_in_order l
only_steps [] all = refl
only_steps (y ∷ l) all =
    ap (λ b. cond b (y.item ∷ filter is_step (items_in_order l)) (filter is_step (items_in_order l))) all.0
    ∙ ap (λ is. y.item ∷ is) (only_steps l all.1)

no_steps_in_tick : (greatest : ℕ) (mark : Option ℕ) → filter is_step (tick_above greatest mark) ≡ []
no_steps_in_tick greatest None = refl
no_steps_in_tick greatest (Some mark) = by (nat_lt greatest mark)
  where
    by : (b : Bool) → filter is_step (cond b (Tick mark ∷ []) []) ≡ []
    by true = refl
    by false = refl

-- the steps that a record releases are steps
newly_steps : (streams : ℕ) (last : Tagged) (before : List Tagged) → AreTaken streams (last ∷ before)
    → AllByRecursion (λ y. is_step y.item ≡ true) (newly_released streams last before)
newly_steps streams last before taken =
    let parts = (released_parts streams (last ∷ before)).parts in
    let some = AllByRecursion-of_append (λ y. is_step y.item ≡ true) (released streams (last ∷ before))
    (waiting_steps streams (last ∷ before))
    (subst (AllByRecursion (λ y. is_step y.item ≡ true)) parts (all_steps (last ∷ before))) in
    (AllByRecursion-of_append (λ y. is_step y.item ≡ true) (released streams before) (newly_released streams last before)
    (subst (AllByRecursion (λ y. is_step y.item ≡ true))
    (next_released streams last before (fits_behind streams before last taken.0)) some.0)).1

pub sent_steps_are_released : SentStepsAreReleased
sent_steps_are_released streams [] taken = refl
sent_steps_are_released streams (last ∷ before) taken =
    let mark = least_mark (open_marks streams (last ∷ before)) in
    let newly = newly_released streams last before in
    let items = sent streams before ++ items_in_order newly in
    let fits = fits_behind streams before last taken.0 in
    filter-append is_step items (tick_above (greatest_time items) mark)
    ∙ ap (λ l. filter is_step items ++ l) (no_steps_in_tick (greatest_time items) mark)
    ∙ append-nil (filter is_step items)
    ∙ filter-append is_step (sent streams before) (items_in_order newly)
    ∙ ap (λ l. l ++ filter is_step (items_in_order newly)) (sent_steps_are_released streams before taken.1)
    ∙ ap (λ l. items_in_order (released streams before) ++ l) (only_steps newly (newly_steps streams last before taken))
    ∙ sym (map-append (λ (step : StreamStep). step.item) (released streams before) newly)
    ∙ ap items_in_order (sym (next_released streams last before fits))
