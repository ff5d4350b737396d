-- What goes to a stream, event by event, and the lines of streams one after the other.
use Rattle.enf_data.proofs.Lists.{Contains-filter}
use Rattle.std.proofs.Common.{◌≡◌, ◌≢◌, ◌<◌, ℕ, ◌+◌, ◌++◌, length, slice_index_or, subst, arith, append_assoc, cond, take, get_or, ◌≤◌, ◌∷◌, List, [], Option, None, Some, Bool, true, false, map, refl, ap, sym, ◌∙◌, add-one, decimal}
use Rattle.std.proofs.lemmas.Grind.{flat_map-append}
use Rattle.std.proofs.lemmas.List.{append-nil, get_or-map, take_all, take_more}
use Rattle.std.proofs.lemmas.List.Elements.{filter-append}
use Rattle.std.specs.List.{filter, flat_map}
use Rattle.std.specs.Option.{option_map}
use Rattle.enf_data.specs.declared.events.Event.{Event}
use Rattle.enf_data.specs.declared.values.Value.{Value}
use Rattle.log_stream.specs.meaning.LogGrammar.{spelled_event, step_line}
use Rattle.signature.specs.meaning.Grammar.{entry_names}
use Rattle.slices.specs.meaning.Slices.{Keying, event_key, has_key, cut_events}
use Rattle.trace_meaning.specs.declared.kinds.StepKind.TheVariants.{System}
use Rattle.log_split.specs.machine.Splitting.{goes_to, own_stream}
use Rattle.log_split.specs.meaning.Streams.{SplitPlan, events_to, has_stream, lines_below, stream_for_key, stream_tag, tagged_step}

-- the lines of one stream more
pub lines_below_more : (line : ℕ → List ℕ) (stream : ℕ)
    → lines_below line (stream + 1) ≡ lines_below line stream ++ line stream
lines_below_more line stream = rw add-one refl

-- a key's stream says whether it goes there
goes_by_key : (streams stream : ℕ) (key : Option Value)
    → goes_to stream (option_map (stream_for_key streams) key) ≡ has_key (has_stream streams stream) key
goes_by_key streams stream None = refl
goes_by_key streams stream (Some key) = refl

-- an event goes to a stream where its own stream says so
pub goes_as_keyed : (keying : Keying) (streams stream : ℕ) (event : Event)
    → goes_to stream (own_stream keying streams event) ≡ has_key (has_stream streams stream) (event_key keying event)
goes_as_keyed keying streams stream event = goes_by_key streams stream (event_key keying event)

-- the line of a step with events
pub tagged_some : (plan : SplitPlan) (time stream : ℕ) (events : List Event) → events ≢ []
    → tagged_step plan time stream events ≡ stream_tag stream ++ step_line (entry_names plan.entries) System time events
tagged_some plan time stream [] some = absurd (some refl)
tagged_some plan time stream (event ∷ events) some = refl

-- what passes a test at a place is among all that pass it
pub filter_has : {X : Type 0} (p : X → Bool) (xs : List X) (i : ℕ) (x : X) → i < length xs → slice_index_or xs i x ≡ x
    → p x ≡ true → filter p xs ≡ [] → ⊥
filter_has p xs i x within at passes none =
    let has = Contains-filter p xs x (i, within, at) passes in
    let short = subst (λ ys. has.0 < length ys) none has.1 in omega (arith, short)

-- ---- The line of a step in a stream.

kept_one : {X Y : Type 0} (b : Bool) (f : X → Y) (x : X) (xs : List X) (ys : List Y) → ys ≡ map f xs
    → cond b (f x ∷ ys) ys ≡ map f (cond b (x ∷ xs) xs)
kept_one true f x xs ys same = ap (λ zs. f x ∷ zs) same
kept_one false f x xs ys same = same

-- the streams that are this one are those of the events that go there
pub kept_as_keyed : (keying : Keying) (streams stream : ℕ) (events : List Event)
    → filter (goes_to stream) (map (own_stream keying streams) events)
    ≡ map (own_stream keying streams) (cut_events keying (has_stream streams stream) events)
kept_as_keyed keying streams stream [] = refl
kept_as_keyed keying streams stream (event ∷ events) =
    let own = own_stream keying streams in
    let kept = filter (goes_to stream) (map own events) in
    ap (λ b. cond b (own event ∷ kept) kept) (goes_as_keyed keying streams stream event)
    ∙ kept_one (has_key (has_stream streams stream) (event_key keying event)) own event
    (cut_events keying (has_stream streams stream) events) kept (kept_as_keyed keying streams stream events)

map_none : {X Y : Type 0} (f : X → Y) (xs : List X) → map f xs ≡ [] → xs ≡ []
map_none f [] none = refl
map_none f (x ∷ xs) none = cc none

-- a stream to which no event goes has no line
pub no_line : (plan : SplitPlan) (time stream : ℕ) (events : List Event) (own : List (Option ℕ))
    → own ≡ map (own_stream plan.keying plan.streams) events → filter (goes_to stream) own ≡ []
    → tagged_step plan time stream (events_to plan stream events) ≡ []
no_line plan time stream events own of_events none =
    ap (λ es. tagged_step plan time stream es) (map_none (own_stream plan.keying plan.streams) (events_to plan stream events)
    (sym (kept_as_keyed plan.keying plan.streams stream events) ∙ sym (ap (λ each. filter (goes_to stream) each) of_events) ∙ none))

-- one stream more has its line
pub more_lines : (line : ℕ → List ℕ) (stream : ℕ) (all before after : List ℕ) → before ≡ all ++ lines_below line stream
    → after ≡ before ++ line stream → after ≡ all ++ lines_below line (stream + 1)
more_lines line stream all before after so_far more =
    more ∙ ap (λ out. out ++ line stream) so_far ∙ append_assoc all (lines_below line stream) (line stream)
    ∙ ap (λ lines. all ++ lines) (sym (lines_below_more line stream))

-- one stream more has none
pub no_more_lines : (line : ℕ → List ℕ) (stream : ℕ) (all before after : List ℕ) → before ≡ all ++ lines_below line stream
    → after ≡ before → line stream ≡ [] → after ≡ all ++ lines_below line (stream + 1)
no_more_lines line stream all before after so_far same none =
    more_lines line stream all before after so_far (same ∙ sym (ap (λ more. before ++ more) none ∙ append-nil before))

-- the line of a step with events
pub closed_line : (plan : SplitPlan) (time stream : ℕ) (events : List Event) (all : List ℕ) → events ≢ []
    → all ++ (stream_tag stream ++ 64 ∷ decimal time
    ++ flat_map (λ event. 32 ∷ spelled_event (entry_names plan.entries) event) events) ++ 59 ∷ 10 ∷ []
    ≡ all ++ tagged_step plan time stream events
closed_line plan time stream events all some =
    let line : tagged_step plan time stream events
    ≡ stream_tag stream ++ step_line (entry_names plan.entries) System time events = tagged_some plan time stream events some in
    rw line (grind (arith, append_assoc))

-- some event goes to a stream that one of the streams is
pub some_event : (plan : SplitPlan) (stream : ℕ) (events : List Event) (own : List (Option ℕ))
    → own ≡ map (own_stream plan.keying plan.streams) events → (filter (goes_to stream) own ≡ [] → ⊥)
    → events_to plan stream events ≡ [] → ⊥
some_event plan stream events own of_events some none =
    some (ap (λ each. filter (goes_to stream) each) of_events ∙ kept_as_keyed plan.keying plan.streams stream events
    ∙ ap (λ es. map (own_stream plan.keying plan.streams) es) none)

-- the line is whole once the events are
pub whole_line : (plan : SplitPlan) (time stream place : ℕ) (events : List Event) (own : List (Option ℕ))
    (all before after : List ℕ) → before ≡ all ++ (stream_tag stream ++ 64 ∷ decimal time
    ++ flat_map (λ event. 32 ∷ spelled_event (entry_names plan.entries) event) (events_to plan stream (take place events)))
    → length events ≤ place → after ≡ before ++ 59 ∷ 10 ∷ []
    → own ≡ map (own_stream plan.keying plan.streams) events → (filter (goes_to stream) own ≡ [] → ⊥)
    → after ≡ all ++ tagged_step plan time stream (events_to plan stream events)
whole_line plan time stream place events own all before after so_far behind end of_events some =
    let front : List Event → List ℕ = λ es. all ++ (stream_tag stream ++ 64 ∷ decimal time
    ++ flat_map (λ event. 32 ∷ spelled_event (entry_names plan.entries) event) (events_to plan stream es)) in
    end ∙ ap (λ out. out ++ 59 ∷ 10 ∷ []) (so_far ∙ ap front (take_all place events behind))
    ∙ closed_line plan time stream (events_to plan stream events) all (some_event plan stream events own of_events some)

-- the events of the line, one more
flat_more : (text : Event → List ℕ) (all front before after : List ℕ) (kept more : List Event) (event : Event)
    → before ≡ all ++ (front ++ flat_map text kept) → after ≡ before ++ text event → more ≡ kept ++ event ∷ []
    → after ≡ all ++ (front ++ flat_map text more)
flat_more text all front before after kept more event so_far end one =
    end ∙ ap (λ out. out ++ text event) so_far ∙ append_assoc all (front ++ flat_map text kept) (text event)
    ∙ ap (λ out. all ++ out) (append_assoc front (flat_map text kept) (text event)
    ∙ ap (λ out. front ++ out) (ap (λ out. flat_map text kept ++ out) (sym (append-nil (text event)))
    ∙ sym (flat_map-append text kept (event ∷ [])) ∙ ap (λ es. flat_map text es) (sym one)))

-- what goes to a stream, one event more
events_to_more : (plan : SplitPlan) (stream place : ℕ) (events : List Event) (event : Event) → place < length events
    → event ≡ get_or events place event → events_to plan stream (take (place + 1) events)
    ≡ events_to plan stream (take place events) ++ cond (goes_to stream (own_stream plan.keying plan.streams event)) (event ∷ []) []
events_to_more plan stream place events event within at =
    let passes : Event → Bool = λ e. has_key (has_stream plan.streams stream) (event_key plan.keying e) in
    ap (λ es. filter passes es) (take_more events place event within ∙ ap (λ e. take place events ++ e ∷ []) (sym at))
    ∙ filter-append passes (take place events) (event ∷ [])
    ∙ ap (λ b. filter passes (take place events) ++ cond b (event ∷ []) []) (sym (goes_as_keyed plan.keying plan.streams stream event))

-- the next event of a step, and whether it goes to a stream
pub record IsNextEvent (plan : SplitPlan) (stream place : ℕ) (events : List Event) (own : List (Option ℕ)) (event : Event)
    (goes : Bool) : Type 0 where
  pub of_events : own ≡ map (own_stream plan.keying plan.streams) events
  pub within : place < length events
  pub at : event ≡ get_or events place event
  pub goes_is : goes ≡ goes_to stream (get_or own place None)

module _ (plan : SplitPlan) (time stream place : ℕ) (events : List Event) (own : List (Option ℕ)) (event : Event)
    (goes : Bool) (h : IsNextEvent plan stream place events own event goes) where
  by_own : goes ≡ goes_to stream (own_stream plan.keying plan.streams event)
  by_own =
      h.goes_is ∙ ap (λ each. goes_to stream (get_or each place None)) h.of_events
      ∙ ap (λ mine. goes_to stream mine) (get_or-map (own_stream plan.keying plan.streams) events place event None h.within)
      ∙ ap (λ e. goes_to stream (own_stream plan.keying plan.streams e)) (sym h.at)

  one_more : events_to plan stream (take (place + 1) events) ≡ events_to plan stream (take place events) ++ cond goes (event ∷ []) []
  one_more = events_to_more plan stream place events event h.within h.at
      ∙ ap (λ b. events_to plan stream (take place events) ++ cond b (event ∷ []) []) (sym by_own)

  -- the line of a stream as far as the events before a place
  abbrev line_to : List ℕ → ℕ → List ℕ
  line_to all at = all ++ (stream_tag stream ++ 64 ∷ decimal time
      ++ flat_map (λ event. 32 ∷ spelled_event (entry_names plan.entries) event) (events_to plan stream (take at events)))

  pub line_more : (all before after : List ℕ) → goes ≡ true → before ≡ line_to all place
      → after ≡ before ++ 32 ∷ spelled_event (entry_names plan.entries) event → after ≡ line_to all (place + 1)
  line_more all before after passes so_far end =
      flat_more (λ event. 32 ∷ spelled_event (entry_names plan.entries) event) all (stream_tag stream ++ 64 ∷ decimal time)
      before after (events_to plan stream (take place events)) (events_to plan stream (take (place + 1) events)) event so_far end
      (one_more ∙ ap (λ b. events_to plan stream (take place events) ++ cond b (event ∷ []) []) passes)

  pub line_same : (all before after : List ℕ) → goes ≡ false → before ≡ line_to all place → after ≡ before
      → after ≡ line_to all (place + 1)
  line_same all before after fails so_far same =
      same ∙ so_far ∙ ap (λ es. all ++ (stream_tag stream ++ 64 ∷ decimal time
      ++ flat_map (λ event. 32 ∷ spelled_event (entry_names plan.entries) event) es))
      (sym (one_more ∙ ap (λ b. events_to plan stream (take place events) ++ cond b (event ∷ []) []) fails
      ∙ append-nil (events_to plan stream (take place events))))
