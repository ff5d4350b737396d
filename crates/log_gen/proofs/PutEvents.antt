-- Events that are put one after another.
use Rattle.std.proofs.Common.{◌≡◌, ℕ, Bool, true, false, List, [], ◌∷◌, ◌++◌, refl, sym, ap, ◌∙◌, cond, ◌+◌, ◌*◌, add-one}
use Rattle.std.proofs.lemmas.Bool.{false_from_ne_true}
use Rattle.enf_data.specs.meaning.Values.{has_event}
use Rattle.enf_data.proofs.ValueEquality.{has_event-Decides}
use Rattle.enf_data.specs.machine.EventSets.{InsertsItem}
use Rattle.enf_data.specs.declared.events.Event.{Event}
use Rattle.log_stream.specs.meaning.LogGrammar.{with_event_put, with_events_put}
use Rattle.log_gen.specs.meaning.GeneratedLogs.{draw, drawn_event, drawn_events}

-- one event more goes after all
pub put_all-push : (before events : List Event) (event : Event) → with_events_put before (events ++ event ∷ []) ≡ with_event_put (with_events_put before events) event
put_all-push before [] event = refl
put_all-push before (next ∷ events) event = put_all-push (with_event_put before next) events event

-- what an insertion leaves is what was put
pub Inserts-put : (event : Event) (before after : List Event) (new : Bool) → InsertsItem event before new after → after ≡ with_event_put before event
Inserts-put event before after true inserts =
    let parts = inserts.absent refl in
    parts.1 ∙ ap (λ b. cond b before (before ++ event ∷ [])) (sym (false_from_ne_true (has_event before event) (λ e. parts.0 ((has_event-Decides before event).0 e))))
Inserts-put event before after false inserts =
    let parts = inserts.present refl in
    parts.1 ∙ ap (λ b. cond b before (before ++ event ∷ [])) (sym ((has_event-Decides before event).1 parts.0))

-- the events of one pair of draws more
pub put_drawn : (start number pairs s m : ℕ) (before after : List Event) (event : Event)
    → s ≡ start → m ≡ number + 2 * pairs → before ≡ with_events_put [] (drawn_events start number pairs)
    → event ≡ drawn_event (draw s m) (draw s (m + 1)) → after ≡ with_event_put before event
    → after ≡ with_events_put [] (drawn_events start number (pairs + 1))
put_drawn start number pairs s m before after event same made so_far drawn is =
    is
    ∙ ap (λ e. with_event_put before e) (drawn ∙ ap (λ s. drawn_event (draw s m) (draw s (m + 1))) same ∙ ap (λ m. drawn_event (draw start m) (draw start (m + 1))) made)
    ∙ ap (λ b. with_event_put b (drawn_event (draw start (number + 2 * pairs)) (draw start (number + 2 * pairs + 1)))) so_far
    ∙ sym (put_all-push [] (drawn_events start number pairs) (drawn_event (draw start (number + 2 * pairs)) (draw start (number + 2 * pairs + 1))))
    ∙ ap (λ n. with_events_put [] (drawn_events start number n)) (sym (add-one pairs))
