-- Open rules in slots, and the entries for these.
use Rattle.trace_audit.proofs.Vocabulary.{◌≡◌, ℕ, zero, suc, ◌<◌, List, [], ◌∷◌, ◌++◌, length, Option, None, Some, Contains, set, slice_get, slice_get_within, slice_get-append_left, there_from_get}
use Rattle.trace_audit.proofs.Vocabulary.{Contains-flat_map, get_or, flat_map-append, option_to_list, append-nil, IfNone, none-some, same_Some, refl, sym, ap, subst, arith, inl, inr, ⊎_elim, ◌⊎◌, ◌∙◌}
use Rattle.trace_audit.proofs.Vocabulary.{cases_eq, here, later, first_or_later, none_in_nil, Contains-append, Contains-append_left, Contains-append_right, Contains-map, Contains-from_map, Event}
use Rattle.trace_audit.proofs.Vocabulary.{Entry, Place, HasOneMoreEntry, IsAllBut, IsAsleep, ArePlaced, IsFreePlace, IsPlaceBefore, HasNone, beginning_at, not_itself, AuditMoment, StaysAsked}
use Rattle.trace_audit.proofs.Vocabulary.{WaitsForEvents, AreAmongRules, AreForSlots, HasOneMoreRule, IsForSlot, TakesAhead, TakesAwake, open_in, slot_place, OpenRule}

-- ---- what stands at a place of a list

slice_get-set_at : {X : Type 0} (xs : List X) (k : ℕ) (x : X) → k < length xs → slice_get (set xs k x) k ≡ Some x
slice_get-set_at [] k x within = absurd (omega (arith, within))
slice_get-set_at (y ∷ xs) zero x within = refl
slice_get-set_at (y ∷ xs) (suc k) x within = slice_get-set_at xs k x (omega (arith, within))

slice_get-set_other : {X : Type 0} (xs : List X) (k j : ℕ) (x : X) → (j ≡ k → ⊥) → slice_get (set xs k x) j ≡ slice_get xs j
slice_get-set_other [] k j x apart = refl
slice_get-set_other (y ∷ xs) zero zero x apart = absurd (apart refl)
slice_get-set_other (y ∷ xs) zero (suc j) x apart = refl
slice_get-set_other (y ∷ xs) (suc k) zero x apart = refl
slice_get-set_other (y ∷ xs) (suc k) (suc j) x apart = slice_get-set_other xs k j x (λ same. apart (ap suc same))

-- ---- what stands in slots

abbrev pub Slots : Type 0
Slots = List (Option OpenRule)

-- the rule stands in the slot
abbrev pub StandsAt : Slots → ℕ → OpenRule → Type 0
StandsAt slots k item = slice_get slots k ≡ Some (Some item)

pub open_at : (slots : Slots) (k : ℕ) (item : OpenRule) → StandsAt slots k item → Contains (open_in slots) item
open_at slots k item is =
    Contains-flat_map option_to_list slots (Some item) item (there_from_get slots k (Some item) is) (here item [])

pub at_open : (slots : Slots) (item : OpenRule) → Contains (open_in slots) item → (k : ℕ) × StandsAt slots k item
at_open [] item there = absurd (none_in_nil item there)
at_open (None ∷ slots) item there = let (k, is) = at_open slots item there in (suc k, is)
at_open (Some first ∷ slots) item there = ⊎_elim
    (λ same. (0, ap (λ (i : OpenRule). Some (Some i)) same))
    (λ on. let (k, is) = at_open slots item on in (suc k, is))
    (first_or_later item first (open_in slots) there)

not_both : (slots : Slots) (k : ℕ) (item : OpenRule) → slice_get slots k ≡ Some None → StandsAt slots k item → ⊥
not_both slots k item free is = none-some item (same_Some None (Some item) (sym free ∙ is))

same_item : (slots : Slots) (k : ℕ) (item other : OpenRule) → StandsAt slots k item → StandsAt slots k other → item ≡ other
same_item slots k item other one two = same_Some item other (same_Some (Some item) (Some other) (sym one ∙ two))

-- ---- entries

entry_among : (entry : Entry ℕ) (fewer more : List (Entry ℕ)) → HasOneMoreEntry entry fewer more → (other : Entry ℕ)
    → Contains fewer other → Contains more other
entry_among entry fewer more one other there =
    subst (λ (l : List (Entry ℕ)). Contains l other) (sym one.more_is) (⊎_elim
    (λ front. Contains-append_left one.front (entry ∷ one.back) other front)
    (λ back. Contains-append_right one.front (entry ∷ one.back) other (later other entry one.back back))
    (Contains-append one.front one.back other (subst (λ (l : List (Entry ℕ)). Contains l other) one.fewer_is there)))

pub entry_there : (entry : Entry ℕ) (fewer more : List (Entry ℕ)) → HasOneMoreEntry entry fewer more → Contains more entry
entry_there entry fewer more one =
    subst (λ (l : List (Entry ℕ)). Contains l entry) (sym one.more_is)
    (Contains-append_right one.front (entry ∷ one.back) entry (here entry one.back))

entry_or : (entry : Entry ℕ) (fewer more : List (Entry ℕ)) → HasOneMoreEntry entry fewer more → (other : Entry ℕ)
    → Contains more other → (entry ≡ other) ⊎ Contains fewer other
entry_or entry fewer more one other there = ⊎_elim
    (λ front. inr (in_fewer (Contains-append_left one.front one.back other front)))
    (λ rest. ⊎_elim (λ same. inl same)
    (λ back. inr (in_fewer (Contains-append_right one.front one.back other back)))
    (first_or_later other entry one.back rest))
    (Contains-append one.front (entry ∷ one.back) other (subst (λ (l : List (Entry ℕ)). Contains l other) one.more_is there))
  where
    in_fewer : Contains (one.front ++ one.back) other → Contains fewer other
    in_fewer within = subst (λ (l : List (Entry ℕ)). Contains l other) (sym one.fewer_is) within

-- the entry that is one more has a place of its own
module _ (entry : Entry ℕ) where
  own_place : (front back : List (Entry ℕ)) → ArePlaced (front ++ entry ∷ back) → (other : Entry ℕ) → Contains (front ++ back) other
      → other.place ≡ entry.place → ⊥
  own_place [] back placed other there same =
      not_itself entry.place (subst (IsPlaceBefore entry.place) same
      (placed.0 other.place (Contains-map (λ (e : Entry ℕ). e.place) back other there)))
  own_place (f ∷ front) back placed other there same = ⊎_elim
      (λ first. not_itself f.place (subst (IsPlaceBefore f.place)
      (sym same ∙ ap (λ (e : Entry ℕ). e.place) (sym first))
      (placed.0 entry.place (Contains-map (λ (e : Entry ℕ). e.place) (front ++ entry ∷ back) entry
      (Contains-append_right front (entry ∷ back) entry (here entry back))))))
      (λ on. own_place front back placed.1 other on same)
      (first_or_later other f (front ++ back) there)

  pub is_another : (fewer more : List (Entry ℕ)) → HasOneMoreEntry entry fewer more → (other : Entry ℕ) → Contains fewer other
      → other.place ≡ entry.place → ⊥
  is_another fewer more one other there =
      own_place one.front one.back (subst ArePlaced one.more_is one.placed) other
      (subst (λ (l : List (Entry ℕ)). Contains l other) one.fewer_is there)

-- ---- entries for slots

pub nothing_for : AreForSlots [] []
nothing_for = record {
  each = λ entry there. absurd (none_in_nil entry there);
  every = λ slot item is. absurd (none-some (Some item) is);
}

-- where there is a slot more in which nothing stands
fewer_at : (slots : Slots) (k : ℕ) (item : OpenRule) → StandsAt (slots ++ None ∷ []) k item → StandsAt slots k item
fewer_at [] zero item is = absurd (none-some item (same_Some None (Some item) is))
fewer_at [] (suc k) item is = absurd (none-some (Some item) is)
fewer_at (slot ∷ slots) zero item is = is
fewer_at (slot ∷ slots) (suc k) item is = fewer_at slots k item is

abbrev pub MayHaveOneMore : (slots more : Slots) → Type 0
MayHaveOneMore slots more = (more ≡ slots) ⊎ (more ≡ slots ++ None ∷ [])

pub same_open : (slots more : Slots) → MayHaveOneMore slots more → open_in more ≡ open_in slots
same_open slots more (inl same) = ap open_in same
same_open slots more (inr one) = ap open_in one ∙ flat_map-append option_to_list slots (None ∷ []) ∙ append-nil (open_in slots)

pub still_for_slots : (slots more : Slots) (entries : List (Entry ℕ)) → MayHaveOneMore slots more → AreForSlots slots entries
    → AreForSlots more entries
still_for_slots slots more entries (inl same) kept = subst (λ (s : Slots). AreForSlots s entries) (sym same) kept
still_for_slots slots more entries (inr one) kept = subst (λ (s : Slots). AreForSlots s entries) (sym one) (record {
  each = λ entry there. let is = kept.each entry there in record {
    item = is.item;
    there = slice_get-append_left slots (None ∷ []) entry.item (Some is.item) is.there;
    placed = is.placed;
    waits = is.waits;
  };
  every = λ slot item at. kept.every slot item (fewer_at slots slot item at);
})

same_slot : (k j : ℕ) → slot_place k ≡ slot_place j → k ≡ j
same_slot k j same = ap (λ (p : Place). (get_or p 0 (beginning_at 0 0)).number) same

-- no entry stands at the place of a free slot
pub free_place : (slots : Slots) (entries : List (Entry ℕ)) (k : ℕ) → AreForSlots slots entries → slice_get slots k ≡ Some None
    → IsFreePlace (slot_place k) entries
free_place slots entries k kept free there =
    let (entry, among, at) = Contains-from_map (λ (e : Entry ℕ). e.place) entries (slot_place k) there in
    let is = kept.each entry among in
    let slot : entry.item ≡ k = same_slot entry.item k (sym is.placed ∙ at) in
    not_both slots k is.item free (subst (λ j. StandsAt slots j is.item) slot is.there)

-- ---- a rule that is put into a free slot

module _ (slots : Slots) (entries grown : List (Entry ℕ)) (k : ℕ) (item : OpenRule) (free : slice_get slots k ≡ Some None) where
  filled : StandsAt (set slots k (Some item)) k item
  filled = slice_get-set_at slots k (Some item) (slice_get_within slots k None free)

  others_stay : (j : ℕ) (other : OpenRule) → StandsAt slots j other → StandsAt (set slots k (Some item)) j other
  others_stay j other is =
      slice_get-set_other slots k j (Some item) (λ same. not_both slots k other free (subst (λ i. StandsAt slots i other) same is)) ∙ is

  pub put_rule : HasOneMoreRule item (open_in slots) (open_in (set slots k (Some item)))
  put_rule = record {
    there = open_at (set slots k (Some item)) k item filled;
    kept = λ other there. let (j, is) = at_open slots other there in open_at (set slots k (Some item)) j other (others_stay j other is);
    only = λ other there. let (j, is) = at_open (set slots k (Some item)) other there in ⊎_elim
        (λ same. inl (same_item (set slots k (Some item)) k other item (subst (λ i. StandsAt (set slots k (Some item)) i other) same is) filled))
        (λ apart. inr (open_at slots j other (sym (slice_get-set_other slots k j (Some item) apart) ∙ is)))
        (cases_eq j k);
  }

  pub put_for_slots : (entry : Entry ℕ) → entry.place ≡ slot_place k → entry.item ≡ k → WaitsForEvents item.rest entry.patterns
      → HasOneMoreEntry entry entries grown → AreForSlots slots entries → AreForSlots (set slots k (Some item)) grown
  put_for_slots entry placed slot waits one kept = record {
    each = λ other there. ⊎_elim
        (λ same. subst (IsForSlot (set slots k (Some item))) same (record {
          item = item;
          there = subst (λ j. StandsAt (set slots k (Some item)) j item) (sym slot) filled;
          placed = placed ∙ ap slot_place (sym slot);
          waits = waits;
        }))
        (λ old. let is = kept.each other old in record {
          item = is.item;
          there = others_stay other.item is.item is.there;
          placed = is.placed;
          waits = is.waits;
        })
        (entry_or entry entries grown one other there);
    every = λ j other is. ⊎_elim
        (λ same. (entry, entry_there entry entries grown one, slot ∙ sym same))
        (λ apart. let (found, there, at) = kept.every j other (sym (slice_get-set_other slots k j (Some item) apart) ∙ is) in
        (found, entry_among entry entries grown one found there, at))
        (cases_eq j k);
  }

-- ---- a rule that is taken out of its slot

module _ (slots : Slots) (entries left : List (Entry ℕ)) (entry : Entry ℕ) (one : HasOneMoreEntry entry left entries)
    (kept : AreForSlots slots entries) where
  abbrev pub is_for : IsForSlot slots entry
  is_for = kept.each entry (entry_there entry left entries one)

  abbrev pub emptied : Slots
  emptied = set slots entry.item None

  pub slot_fits : entry.item < length slots
  slot_fits = slice_get_within slots entry.item (Some is_for.item) is_for.there

  -- what is taken out is the rule
  pub taken_is : (found : Option OpenRule) → slice_get slots entry.item ≡ Some found → found ≡ Some is_for.item
  taken_is found is = same_Some found (Some is_for.item) (sym is ∙ is_for.there)

  empty_there : slice_get emptied entry.item ≡ Some None
  empty_there = slice_get-set_at slots entry.item None slot_fits

  stands_on : (j : ℕ) (other : OpenRule) → StandsAt emptied j other → (j ≡ entry.item → ⊥) × StandsAt slots j other
  stands_on j other is =
      let apart : j ≡ entry.item → ⊥ = λ same. not_both emptied entry.item other empty_there (subst (λ i. StandsAt emptied i other) same is) in
      (apart, sym (slice_get-set_other slots entry.item j None apart) ∙ is)

  pub emptied_among : AreAmongRules (open_in slots) (open_in emptied)
  emptied_among other there = let (j, is) = at_open emptied other there in open_at slots j other (stands_on j other is).1

  pub taken_or_left : (other : OpenRule) → Contains (open_in slots) other → (is_for.item ≡ other) ⊎ Contains (open_in emptied) other
  taken_or_left other there = let (j, is) = at_open slots other there in ⊎_elim
      (λ same. inl (same_item slots entry.item is_for.item other is_for.there (subst (λ i. StandsAt slots i other) same is)))
      (λ apart. inr (open_at emptied j other (slice_get-set_other slots entry.item j None apart ∙ is)))
      (cases_eq j entry.item)

  pub left_for_slots : AreForSlots emptied left
  left_for_slots = record {
    each = λ other there.
        let old = kept.each other (entry_among entry left entries one other there) in
        let apart : other.item ≡ entry.item → ⊥ = λ same. is_another entry left entries one other there (old.placed ∙ ap slot_place same ∙ sym is_for.placed) in record {
          item = old.item;
          there = slice_get-set_other slots entry.item other.item None apart ∙ old.there;
          placed = old.placed;
          waits = old.waits;
        };
    every = λ j other is.
        let (apart, was) = stands_on j other is in
        let (found, there, at) = kept.every j other was in ⊎_elim
        (λ same. absurd (apart (sym at ∙ ap (λ (e : Entry ℕ). e.item) (sym same))))
        (λ on. (found, on, at))
        (entry_or entry left entries one found there);
  }

-- ---- a walk over what is awake

pub none_taken : {X P : Type 0} (o : Option X) → ((x : X) → o ≡ Some x → ⊥) → IfNone o P → P
none_taken None none is = is
none_taken (Some x) none is = absurd (none x refl)

-- so far these rules were taken out; of the entries that are left those that were ahead still are
pub record TakesSoFar (slots : Slots) (entries ahead : List (Entry ℕ)) (awake : List OpenRule) (slots_left : Slots)
    (entries_left ahead_left : List (Entry ℕ)) : Type 0 where
  pub kept : AreForSlots slots_left entries_left
  pub awake_among : AreAmongRules (open_in slots) awake
  pub left_among : AreAmongRules (open_in slots) (open_in slots_left)
  pub every : (item : OpenRule) → Contains (open_in slots) item → Contains awake item ⊎ Contains (open_in slots_left) item
  pub entries_among : (entry : Entry ℕ) → Contains entries_left entry → Contains entries entry
  pub still_ahead : (entry : Entry ℕ) → Contains entries_left entry → Contains ahead entry → Contains ahead_left entry

module _ (slots : Slots) (entries ahead : List (Entry ℕ)) where
  pub takes_none : AreForSlots slots entries → TakesSoFar slots entries ahead [] slots entries ahead
  takes_none kept = record {
    kept = kept;
    awake_among = λ item there. absurd (none_in_nil item there);
    left_among = λ item there. there;
    every = λ item there. inr there;
    entries_among = λ entry there. there;
    still_ahead = λ entry there on. on;
  }

  module _ (awake : List OpenRule) (now_slots : Slots) (now_entries now_ahead left ahead_left : List (Entry ℕ)) (entry : Entry ℕ)
      (so_far : TakesSoFar slots entries ahead awake now_slots now_entries now_ahead) (one : HasOneMoreEntry entry left now_entries)
      (first : now_ahead ≡ entry ∷ ahead_left) where
    abbrev taken : OpenRule
    taken = (is_for now_slots now_entries left entry one so_far.kept).item

    taken_there : StandsAt now_slots entry.item taken
    taken_there = (is_for now_slots now_entries left entry one so_far.kept).there

    takes_one : TakesSoFar slots entries ahead (awake ++ taken ∷ []) (set now_slots entry.item None) left ahead_left
    takes_one = record {
      kept = left_for_slots now_slots now_entries left entry one so_far.kept;
      awake_among = λ item there. ⊎_elim
          (λ old. so_far.awake_among item old)
          (λ new. ⊎_elim
          (λ same. subst (Contains (open_in slots)) same
          (so_far.left_among taken (open_at now_slots entry.item taken (is_for now_slots now_entries left entry one so_far.kept).there)))
          (λ none. absurd (none_in_nil item none))
          (first_or_later item taken [] new))
          (Contains-append awake (taken ∷ []) item there);
      left_among = λ item there. so_far.left_among item (emptied_among now_slots now_entries left entry one so_far.kept item there);
      every = λ item there. ⊎_elim
          (λ old. inl (Contains-append_left awake (taken ∷ []) item old))
          (λ on. ⊎_elim
          (λ same. inl (Contains-append_right awake (taken ∷ []) item (subst (Contains (taken ∷ [])) same (here taken []))))
          (λ still. inr still)
          (taken_or_left now_slots now_entries left entry one so_far.kept item on))
          (so_far.every item there);
      entries_among = λ other there. so_far.entries_among other (entry_among entry left now_entries one other there);
      still_ahead = λ other there was. ⊎_elim
          (λ same. absurd (is_another entry left now_entries one other there (ap (λ (e : Entry ℕ). e.place) (sym same))))
          (λ on. on)
          (first_or_later other entry ahead_left (subst (λ (l : List (Entry ℕ)). Contains l other) first
          (so_far.still_ahead other (entry_among entry left now_entries one other there) was)));
    }

    -- what was taken out stands last
    pub takes_next : (slots_after : Slots) (grown : List OpenRule) → slots_after ≡ set now_slots entry.item None
        → ((item : OpenRule) → StandsAt now_slots entry.item item → grown ≡ awake ++ item ∷ [])
        → TakesSoFar slots entries ahead grown slots_after left ahead_left
    takes_next slots_after grown is_emptied last =
        subst (λ (l : List OpenRule). TakesSoFar slots entries ahead l slots_after left ahead_left) (sym (last taken taken_there))
        (subst (λ (s : Slots). TakesSoFar slots entries ahead (awake ++ taken ∷ []) s left ahead_left) (sym is_emptied) takes_one)

  pub takes_all : (awake : List OpenRule) (now_slots : Slots) (left now_ahead : List (Entry ℕ))
      → TakesSoFar slots entries ahead awake now_slots left now_ahead → now_ahead ≡ [] → TakesAhead slots entries ahead awake now_slots left
  takes_all awake now_slots left now_ahead so_far none = record {
    awake_among = so_far.awake_among;
    every = so_far.every;
    entries_among = so_far.entries_among;
    none_ahead = λ entry there was. none_in_nil entry (subst (λ (l : List (Entry ℕ)). Contains l entry) none (so_far.still_ahead entry there was));
  }

-- where the entries ahead are those that are awake, the rules that are left stay asked over the step
pub takes_awake : (now : AuditMoment) (events : List Event) (slots left : Slots) (entries ahead entries_left : List (Entry ℕ))
    (awake : List OpenRule) → events ≡ now.events → IsAllBut (IsAsleep events now.time) entries ahead
    → TakesAhead slots entries ahead awake left entries_left → AreForSlots left entries_left
    → AreAmongRules (open_in slots) (open_in left) → TakesAwake now (open_in slots) awake (open_in left)
takes_awake now events slots left entries ahead entries_left awake same but takes kept among = record {
  awake_among = takes.awake_among;
  left_among = among;
  every = takes.every;
  stay = λ item there.
      let (k, at) = at_open left item there in
      let (entry, in_left, slot) = kept.every k item at in
      let is = kept.each entry in_left in
      let asleep : IsAsleep events now.time entry = ⊎_elim
      (λ on. absurd (takes.none_ahead entry in_left on))
      (λ sleeps. sleeps)
      (but.others entry (takes.entries_among entry in_left)) in
      let of : is.item ≡ item = same_item left k is.item item (subst (λ j. StandsAt left j is.item) slot is.there) at in
      subst (λ (i : OpenRule). StaysAsked now i.rest) of
      (is.waits now asleep.patterns asleep.waits (subst (HasNone asleep.patterns) same asleep.none));
}
