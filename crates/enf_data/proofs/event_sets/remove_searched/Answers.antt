use Rattle.enf_data.proofs.Vocabulary.{◌≡◌, Some, slice_get, subst, sym, true≢false, HasNoRepeats, TakesOut}
use Rattle.enf_data.proofs.TableKeys.{taken_out, without_middle}
use Rattle.enf_data.proofs.event_sets.remove_searched.Goals as goal

pub returns-in-Some-clause-removed : goal.returns-in-Some-clause-removed
returns-in-Some-clause-removed c =
    let few = c.args.few.now.items in
    let event = c.args.event.now in
    let place = c.in-Some.place in
    record {
      present = λ t. subst (TakesOut event few) (sym c.remove.ensures.items) (taken_out few place event (subst (λ l. slice_get l place ≡ Some event) c.as_slice.ensures.value c.in-Some.ensures.some));
      absent = λ f. absurd (true≢false f);
    }

pub returns-in-Some-clause-distinct : goal.returns-in-Some-clause-distinct
returns-in-Some-clause-distinct c =
    let few = c.args.few.now.items in
    let event = c.args.event.now in
    let place = c.in-Some.place in
    let out = taken_out few place event (subst (λ l. slice_get l place ≡ Some event) c.as_slice.ensures.value c.in-Some.ensures.some) in
    subst HasNoRepeats (sym c.remove.ensures.items) (subst HasNoRepeats (sym out.is) (without_middle out.front out.back event (subst HasNoRepeats out.was c.requires)))
