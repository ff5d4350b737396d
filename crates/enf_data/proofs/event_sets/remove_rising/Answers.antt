use Rattle.enf_data.proofs.Vocabulary.{◌≡◌, ℕ, AreRisingEvents, Event, List, Some, event_order, remove, slice_get, subst, sym, true, true≢false, TakesOut}
use Rattle.enf_data.proofs.EventOrder.{event_order_total}
use Rattle.enf_data.proofs.RisingLists.{rising_distinct, rising_removed}
use Rattle.enf_data.proofs.TableKeys.{taken_out}
use Rattle.enf_data.proofs.event_sets.remove_rising.Goals as goal

pub returns-in-Some-clause-removed : goal.returns-in-Some-clause-removed
returns-in-Some-clause-removed c =
    let few = c.args.rising.now.items in
    let event = c.args.event.now in
    let place = c.in-Some.place in
    record {
      present = λ t. subst (TakesOut event few) (sym c.remove-gone.ensures.items) (taken_out few place event (subst (λ l. slice_get l place ≡ Some event) c.as_slice.ensures.value c.in-Some.ensures.some));
      absent = λ f. absurd (true≢false f);
    }

-- what is left rises
left : (rising after : List Event) (place : ℕ) (event : Event) → slice_get rising place ≡ Some event → AreRisingEvents rising → after ≡ remove rising place → AreRisingEvents after
left rising after place event there rise is =
    let out = taken_out rising place event there in
    subst AreRisingEvents (sym is)
    (rising_removed event_order event rising (remove rising place) true (record { present = λ t. out; absent = λ f. absurd (true≢false f) }) rise)

pub returns-in-Some-clause-order : goal.returns-in-Some-clause-order
returns-in-Some-clause-order c =
    left c.args.rising.now.items _ c.in-Some.place c.args.event.now (subst (λ l. slice_get l c.in-Some.place ≡ Some c.args.event.now) c.as_slice.ensures.value c.in-Some.ensures.some)
    c.requires c.remove-gone.ensures.items

pub returns-in-Some-clause-distinct : goal.returns-in-Some-clause-distinct
returns-in-Some-clause-distinct c = rising_distinct event_order_total _
    (left c.args.rising.now.items _ c.in-Some.place c.args.event.now (subst (λ l. slice_get l c.in-Some.place ≡ Some c.args.event.now) c.as_slice.ensures.value c.in-Some.ensures.some)
    c.requires c.remove-gone.ensures.items)

pub returns-in-None-clause-distinct : goal.returns-in-None-clause-distinct
returns-in-None-clause-distinct c = rising_distinct event_order_total c.args.rising.now.items c.requires

pub place_in_order-requires : goal.place_in_order-requires
place_in_order-requires c = subst AreRisingEvents (sym c.as_slice.ensures.value) c.requires
