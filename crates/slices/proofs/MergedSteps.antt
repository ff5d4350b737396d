-- Steps whose changes were made slice by slice.
use Rattle.slices.proofs.Vocabulary.{◌≡◌, Bool, true, false, List, [], ◌∷◌, ◌++◌, refl, sym, subst, ◌∙◌, true≢false, All, All-cons, All-head, All-nil, All-tail, get_or, Event, NameId, Value, Keying, cut_events}
use Rattle.slices.proofs.PolicyTruth.{merges_satisfy}
use Rattle.slices.proofs.SlicedLogs.{changes_merge}
use Rattle.slices.proofs.Vocabulary.{⊎_elim, Contains, IsTrue, Some, ap, map, same_Some, event_key, none_in_nil, HasNoRepeats}
use Rattle.std.proofs.lemmas.List.{map-append}
use Rattle.std.proofs.lemmas.List.Elements.{All-contains}
use Rattle.enf_data.proofs.Lists.{Contains-append, Contains-from_map, HasNoRepeats-append}
use Rattle.slices.specs.machine.Laws.{ChangesStayOnce, MergesAreEnforced, StepsMerge}
use Rattle.slices.specs.meaning.SlicedLogs.{AreOfOtherKeys, IsChangeOf, IsPartOf, ShareNoKey, StepPart, all_changes}
use Rattle.trace_meaning.specs.meaning.Traces.{Change, event_of, Leads, trace_of}

share_none : (keys others : Value → Bool) → ShareNoKey keys others → ShareNoKey others keys
share_none keys others apart key there = by (keys key) refl
  where
    by : (b : Bool) → keys key ≡ b → keys key ≡ false
    by true is = absurd (true≢false (sym there ∙ apart key is))
    by false is = is

module _ (causable suppressible : NameId → Bool) (keying : Keying) where
  leads_join : (first then : List Change) (before between after : List Event) → Leads causable suppressible first before between
      → Leads causable suppressible then between after → Leads causable suppressible (first ++ then) before after
  leads_join [] then before between after here next = subst (λ (events : List Event). Leads causable suppressible then events after) here next
  leads_join (change ∷ first) then before between after here next =
      (here.0, here.1, leads_join first then here.0 between after here.2 next)

  -- the changes of all parts, made in all events
  record AreMade (parts : List StepPart) (before whole : List Event) : Type 0 where
    leads : Leads causable suppressible (all_changes parts) before whole
    own : All (λ part. cut_events keying part.keys whole ≡ part.events) parts
    others : (others : Value → Bool) → All (λ (part : StepPart). ShareNoKey part.keys others) parts
        → cut_events keying others whole ≡ cut_events keying others before

  all_made : (parts : List StepPart) (before : List Event) → AreOfOtherKeys parts → All (IsPartOf causable suppressible keying before) parts
      → (whole : List Event) × AreMade parts before whole
  all_made [] before apart are =
      (before, record { leads = refl; own = All-nil (λ (part : StepPart). cut_events keying part.keys before ≡ part.events); others = λ others none. refl })
  all_made (part ∷ parts) before apart are =
      let mine = All-head (IsPartOf causable suppressible keying before) part parts are in
      let theirs = All-tail (IsPartOf causable suppressible keying before) part parts are in
      let one = changes_merge causable suppressible keying part.keys part.changes before part.events mine.own mine.leads in
      let rest = all_made parts one.0 apart.1 (λ k d below. record {
        own = (theirs k d below).own;
        leads = subst (λ (events : List Event). Leads causable suppressible (get_or parts k d).changes events (get_or parts k d).events)
            (sym (one.1.others (get_or parts k d).keys (apart.0 k d below))) (theirs k d below).leads;
      }) in (
        rest.0,
        record {
          leads = leads_join part.changes (all_changes parts) before one.0 rest.0 one.1.leads rest.1.leads;
          own = All-cons (λ (p : StepPart). cut_events keying p.keys rest.0 ≡ p.events) part parts
              (rest.1.others part.keys (λ k d below. share_none part.keys (get_or parts k d).keys (apart.0 k d below)) ∙ one.1.own) rest.1.own;
          others = λ others apart'. rest.1.others others (All-tail (λ (p : StepPart). ShareNoKey p.keys others) part parts apart')
              ∙ one.1.others others (All-head (λ (p : StepPart). ShareNoKey p.keys others) part parts apart');
        },
      )

pub steps_merge : StepsMerge
steps_merge causable suppressible keying parts before apart are =
    let made = all_made causable suppressible keying parts before apart are in
    (made.0, made.1.leads, made.1.own)

-- ---- No event is changed twice.

-- the parts change events of their keys alone
abbrev pub AreOwn : Keying → List StepPart → Type 0
AreOwn keying parts = All (λ (part : StepPart). All (IsChangeOf keying part.keys) part.changes) parts

module _ (keying : Keying) where
  -- an event that was changed for some keys has one of them
  changed_key : (keys : Value → Bool) (changes : List Change) (event : Event) → All (IsChangeOf keying keys) changes
      → Contains (map event_of changes) event → (key : Value) × (event_key keying event ≡ Some key) × IsTrue (keys key)
  changed_key keys changes event own there =
      let found = Contains-from_map event_of changes event there in
      let is = All-contains (IsChangeOf keying keys) changes found.0 own found.1 in
      (is.0, ap (event_key keying) (sym found.2) ∙ is.1, is.2)

  not_changed : (parts : List StepPart) (event : Event) (key : Value) → event_key keying event ≡ Some key → AreOwn keying parts
      → All (λ (part : StepPart). part.keys key ≡ false) parts → Contains (map event_of (all_changes parts)) event → ⊥
  not_changed [] event key is own none there = none_in_nil event there
  not_changed (part ∷ parts) event key is own none there =
      ⊎_elim
      (λ here.
      let has = changed_key part.keys part.changes event (All-head (λ (p : StepPart). All (IsChangeOf keying p.keys) p.changes) part parts own) here in
      let same : has.0 ≡ key = same_Some has.0 key (sym has.1 ∙ is) in
      true≢false (sym has.2 ∙ ap part.keys same ∙ All-head (λ (p : StepPart). p.keys key ≡ false) part parts none))
      (λ later. not_changed parts event key is (All-tail (λ (p : StepPart). All (IsChangeOf keying p.keys) p.changes) part parts own)
      (All-tail (λ (p : StepPart). p.keys key ≡ false) part parts none) later)
      (Contains-append (map event_of part.changes) (map event_of (all_changes parts)) event
      (subst (λ (events : List Event). Contains events event) (map-append event_of part.changes (all_changes parts)) there))

  all_once : (parts : List StepPart) → AreOfOtherKeys parts → AreOwn keying parts
      → All (λ (part : StepPart). HasNoRepeats (map event_of part.changes)) parts → HasNoRepeats (map event_of (all_changes parts))
  all_once [] apart own once = tt
  all_once (part ∷ parts) apart own once =
      let mine = All-head (λ (p : StepPart). All (IsChangeOf keying p.keys) p.changes) part parts own in
      let theirs = All-tail (λ (p : StepPart). All (IsChangeOf keying p.keys) p.changes) part parts own in
      subst (λ (events : List Event). HasNoRepeats events) (sym (map-append event_of part.changes (all_changes parts)))
      (HasNoRepeats-append (map event_of part.changes) (map event_of (all_changes parts))
      (All-head (λ (p : StepPart). HasNoRepeats (map event_of p.changes)) part parts once)
      (all_once parts apart.1 theirs (All-tail (λ (p : StepPart). HasNoRepeats (map event_of p.changes)) part parts once))
      (λ event here there.
      let has = changed_key part.keys part.changes event mine here in
      not_changed parts event has.0 has.1 theirs (λ k d below. apart.0 k d below has.0 has.2) there))

pub changes_stay_once : ChangesStayOnce
changes_stay_once keying parts apart own once = all_once keying parts apart own once

pub merges_are_enforced : MergesAreEnforced
merges_are_enforced causable suppressible keying sets policy records parts out sliced cover enforced lawful is_trace same = record {
  lawful = lawful;
  is_trace = is_trace;
  satisfied = merges_satisfy keying sets (trace_of out) (λ c. trace_of (parts c)) policy sliced cover (λ c. (enforced c).satisfied) same;
}
