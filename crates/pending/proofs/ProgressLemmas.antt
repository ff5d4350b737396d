-- What was pending, after a step.
use Rattle.pending.proofs.Vocabulary.{◌≡◌, ℕ, suc, ◌+◌, ◌-◌, ◌<◌, ◌≤◌, ◌^◌, Bool, true, false, cond, List, [], ◌∷◌, ◌++◌, Contains, ◌⊎◌, inl, inr, ⊎_elim, refl, sym, ap, subst, ◌∙◌, arith, length}
use Rattle.pending.proofs.Vocabulary.{map, Option, AllByRecursion, append-nil, AllByRecursion-append, AllByRecursion-contains, AllByRecursion-weaker, Contains-append, first_or_later, here, later}
use Rattle.pending.proofs.Vocabulary.{none_in_nil, Step, Plan, has_deadline, IsAllBut, IsAsleep, entry_places, Place, WasMade, places_from, beginning_at, HasNone, CanPutIn, OutcomeGoesOn, IsInOrder}
use Rattle.pending.proofs.Vocabulary.{IsOneOr, IsStep, EntryOutcome, PutsInEntries, begun_entries, entries_behind, StepsCanPutIn, StepsGoInOrder, Entry, Beginning, IsNowOf, guards_now, time_now}
use Rattle.pending.proofs.Vocabulary.{Gathers, AreServed, is_forced, ComesOf, NowLeads, AfterExists, After, AtNode, PendingAfter, node_of, IsBegunUnder, CanAskOf, HasPart, Instance, Now}
use Rattle.pending.proofs.Vocabulary.{EntryBecomes, CarriesPending, WalksEntries, ArePendingEntries, FitsStep, entries_from, items_of, IsPendingListOf, EarlyStay, IsWaitOf, Listed, PendingList}
use Rattle.pending.proofs.Vocabulary.{AreUnmet, IsUnmetOf, PlansStand, SleepersStay, Wait, last_time, all_listed, listed_of, step_moment}
use Rattle.pending.proofs.EntryLemmas.{entries_items, entries_places, filed_waits, items_append}
use Rattle.pending.proofs.MomentLemmas.{before_last, not_begun, not_forced, not_later}
use Rattle.pending.proofs.WakePatternLemmas.{not_over}

-- ---- places at the next step

weaker_turns : (m n : ℕ) (p : Place) → n ≤ m → AllByRecursion (λ (u : Beginning). m < u.number) p → AllByRecursion (λ (u : Beginning). n < u.number) p
weaker_turns m n p less above = AllByRecursion-weaker (λ (u : Beginning). m < u.number) (λ (u : Beginning). n < u.number) p (λ u a. omega (arith, a, less)) above

made_later : (f g m n : ℕ) (p : Place) → f ≤ g → n ≤ m → WasMade f m p → WasMade g n p
made_later f g m n [] more less made = made
made_later f g m n (t ∷ p) more less made = let below = made.0 in (omega (arith, below, more), weaker_turns m n p less made.1)

made_on : (f g m n j : ℕ) (p : Place) → f ≤ g → n < m → WasMade f m p → WasMade g n (p ++ beginning_at m j ∷ [])
made_on f g m n j [] more less made = absurd made
made_on f g m n j (t ∷ p) more less made =
    let below = made.0 in (
      omega (arith, below, more),
      AllByRecursion-append (λ (u : Beginning). n < u.number) p (beginning_at m j ∷ []) (weaker_turns m n p (omega (arith, less)) made.1) (less, tt),
    )

pub made_now : (f g n j : ℕ) → f < g → WasMade g n (beginning_at f j ∷ [])
made_now f g n j less = (less, tt)

module _ (plans : List Plan) (time : ℕ) where
  pub fit_from : (steps number k : ℕ) (place : Place) (xs : List Instance)
      → ((j : ℕ) → WasMade steps (2 ^ 64 - 1 - steps) (place ++ beginning_at number j ∷ [])) → AllByRecursion (FitsStep steps) (entries_from plans time place number k xs)
  fit_from steps number k place [] made = tt
  fit_from steps number k place (x ∷ xs) made = (record { made = made k }, fit_from steps number (suc k) place xs made)

pub kept_later : (n : ℕ) (all : List (Entry Instance)) → n < 2 ^ 64 - 1 → ArePendingEntries n all → ArePendingEntries (n + 1) all
kept_later n all small kept = record {
  placed = kept.placed;
  fit = AllByRecursion-weaker (FitsStep n) (FitsStep (n + 1)) all (λ e f. record {
    made = made_later n (n + 1) (2 ^ 64 - 1 - n) (2 ^ 64 - 1 - (n + 1)) e.place (omega arith) (omega arith)
        f.made;
  }) kept.fit;
}

-- ---- what is known of each entry

module _ (now : Now) (plans : List Plan) where
  -- it waits as its instance does
  abbrev WaitsWell : Listed → Type 0
  WaitsWell x = IsWaitOf plans x.wait x.instance

  -- so it is with an entry, whose instance can be asked
  abbrev Good : Entry Instance → Type 0
  Good e = IsWaitOf plans (listed_of e).wait e.item × CanAskOf (guards_now now) plans e.item

  good_all : (all : List (Entry Instance)) → AllByRecursion WaitsWell (all_listed all) → AllByRecursion (CanAskOf (guards_now now) plans) (items_of all)
      → AllByRecursion Good all
  good_all [] waits asked = tt
  good_all (e ∷ all) waits asked = ((waits.0, asked.0), good_all all waits.1 asked.1)

  good_from : (number k : ℕ) (place : Place) (xs : List Instance) → AllByRecursion (CanAskOf (guards_now now) plans) xs
      → AllByRecursion Good (entries_from plans now.time place number k xs)
  good_from number k place [] asked = tt
  good_from number k place (x ∷ xs) asked = ((filed_waits plans now.time x, asked.0), good_from number (suc k) place xs asked.1)

  good_waits : (all : List (Entry Instance)) → AllByRecursion Good all → AllByRecursion WaitsWell (all_listed all)
  good_waits [] good = tt
  good_waits (e ∷ all) good = (good.0.0, good_waits all good.1)

  good_asked : (all : List (Entry Instance)) → AllByRecursion Good all → AllByRecursion (CanAskOf (guards_now now) plans) (items_of all)
  good_asked [] good = tt
  good_asked (e ∷ all) good = (good.0.1, good_asked all good.1)

-- ---- a step

module _ (now : Now) (plans : List Plan) (inserted : Bool) (n : ℕ) (all left more : List (Entry Instance)) (small : n < 2 ^ 64 - 1)
    (kept : ArePendingEntries n all) (seen : PendingList) (deadlines : List ℕ)
    (view : record { instances = items_of all; deadlines = deadlines; listed = all_listed all } ≡ seen) (keeps : IsPendingListOf plans seen)
    (can : AllByRecursion (CanAskOf (guards_now now) plans) seen.instances) (carried : CarriesPending now plans inserted n all left more) where
  abbrev Q : Entry Instance → Type 0
  Q = IsAsleep now.events.now (step_moment inserted now.time)

  abbrev m : ℕ
  m = carried.later

  abbrev walks : WalksEntries now plans inserted m all carried.first left [] carried.begun_for
  walks = carried.walks

  abbrev anew : List (Entry Instance)
  anew = entries_from plans now.time [] n 0 carried.roots

  abbrev entry_of : EntryOutcome Instance → Entry Instance
  entry_of o = o.entry

  seen_are : items_of all ≡ seen.instances
  seen_are = ap (λ (p : PendingList). p.instances) view

  waits : AllByRecursion (WaitsWell now plans) (all_listed all)
  waits = (subst (IsPendingListOf plans) (sym view) keeps).waits

  asked : AllByRecursion (CanAskOf (guards_now now) plans) (items_of all)
  asked = subst (AllByRecursion (CanAskOf (guards_now now) plans)) (sym seen_are) can

  looked_all : carried.first ≡ map entry_of walks.outcomes
  looked_all = sym walks.looked_at ∙ append-nil (map entry_of walks.outcomes)

  goes_on : (outcomes : List (EntryOutcome Instance)) → AllByRecursion (EntryBecomes now plans inserted m) outcomes → AllByRecursion (OutcomeGoesOn m) outcomes
  goes_on [] each = tt
  goes_on (o ∷ outcomes) each =
      let b = each.0 in
      (subst (λ (l : List (Entry Instance)). entry_places l ≡ places_from o.entry.place m 0 (length l)) (sym b.begun) (entries_places plans now.time o.entry.place m 0 b.more), goes_on outcomes each.1)

  step : IsStep n m Q all walks.outcomes left anew
  step = record {
    placed = kept.placed;
    made = AllByRecursion-weaker (FitsStep n) (λ (e : Entry Instance). WasMade n m e.place) all (λ e f. subst (λ (k : ℕ). WasMade n k e.place) (sym carried.at) f.made) kept.fit;
    looked_at = subst (IsAllBut Q all) looked_all carried.awake;
    go_on = goes_on walks.outcomes walks.each;
    taken_out = walks.taken_out;
    first_beginning = entries_places plans now.time [] n 0 carried.roots;
  }

  pub can_put : StepsCanPutIn Instance → CanPutIn more left
  can_put law =
      subst (λ (l : List (Entry Instance)). CanPutIn l left) (sym carried.grown)
      (subst (λ (l : List (Entry Instance)). CanPutIn (l ++ anew) left) (sym walks.begun_are) (law now.events.now (step_moment inserted now.time) n m all walks.outcomes left anew step))

  order_of : StepsGoInOrder Instance → (grown : List (Entry Instance)) → PutsInEntries more left grown → IsInOrder Q all walks.outcomes anew grown
  order_of law grown puts =
      law now.events.now (step_moment inserted now.time) n m all walks.outcomes left anew grown step
      (subst (λ (l : List (Entry Instance)). PutsInEntries (l ++ anew) left grown) walks.begun_are (subst (λ (l : List (Entry Instance)). PutsInEntries l left grown) carried.grown puts))

  in_all : (o : EntryOutcome Instance) → Contains walks.outcomes o → Contains all o.entry
  in_all o there = (carried.awake.without o.entry (subst (λ (l : List (Entry Instance)). Contains l o.entry) (sym looked_all) (of_map walks.outcomes o there))).0
    where
      of_map : (os : List (EntryOutcome Instance)) (u : EntryOutcome Instance) → Contains os u → Contains (map entry_of os) u.entry
      of_map [] u among = absurd (none_in_nil u among)
      of_map (v ∷ os) u among = ⊎_elim (λ e. (0, omega arith, ap entry_of e)) (λ on. later u.entry v.entry (map entry_of os) (of_map os u on)) (first_or_later u v os among)

  -- what is put in fits the next step
  pub fit_next : AllByRecursion (FitsStep (n + 1)) more
  fit_next =
      subst (AllByRecursion (FitsStep (n + 1))) (sym carried.grown)
      (AllByRecursion-append (FitsStep (n + 1)) carried.begun_for anew
      (subst (AllByRecursion (FitsStep (n + 1))) (sym walks.begun_are) (each_fit walks.outcomes walks.each in_all))
      (fit_from plans now.time (n + 1) n 0 [] carried.roots (λ j. made_now n (n + 1) (2 ^ 64 - 1 - (n + 1)) j (omega arith))))
    where
      each_fit : (os : List (EntryOutcome Instance)) → AllByRecursion (EntryBecomes now plans inserted m) os → ((o : EntryOutcome Instance) → Contains os o → Contains all o.entry)
          → AllByRecursion (FitsStep (n + 1)) (begun_entries os)
      each_fit [] each inside = tt
      each_fit (o ∷ os) each inside =
          let b = each.0 in
          let at = carried.at in
          let f = AllByRecursion-contains (FitsStep n) all o.entry kept.fit (inside o (here o os)) in
          AllByRecursion-append (FitsStep (n + 1)) o.begun (begun_entries os)
          (subst (AllByRecursion (FitsStep (n + 1))) (sym b.begun) (fit_from plans now.time (n + 1) m 0 o.entry.place b.more (λ j.
          made_on n (n + 1) m (2 ^ 64 - 1 - (n + 1)) j o.entry.place (omega arith) (omega (arith, at, small)) (subst (λ (k : ℕ). WasMade n k o.entry.place) (sym at) f.made))))
          (each_fit os each.1 (λ u there. inside u (later u o os there)))

  module _ (grown : List (Entry Instance)) (law : StepsGoInOrder Instance) (puts : PutsInEntries more left grown) where
    order : IsInOrder Q all walks.outcomes anew grown
    order = order_of law grown puts

    good_behind : (every : List (EntryOutcome Instance)) → AllByRecursion (IsOneOr Q walks.outcomes) every → AllByRecursion (Good now plans) (map entry_of every)
        → AllByRecursion (Good now plans) (entries_behind every)
    good_behind [] each good = tt
    good_behind (o ∷ every) each good =
        AllByRecursion-append (Good now plans) (cond o.stays (o.entry ∷ []) [] ++ o.begun) (entries_behind every)
        (AllByRecursion-append (Good now plans) (cond o.stays (o.entry ∷ []) []) o.begun (if_stays o.stays)
        (⊎_elim
        (λ one. let b = AllByRecursion-contains (EntryBecomes now plans inserted m) walks.outcomes o walks.each one in
        subst (AllByRecursion (Good now plans)) (sym b.begun) (good_from now plans m 0 o.entry.place b.more b.asked))
        (λ c. subst (AllByRecursion (Good now plans)) (sym c.2) tt) each.0))
        (good_behind every each.1 good.1)
      where
        if_stays : (b : Bool) → AllByRecursion (Good now plans) (cond b (o.entry ∷ []) [])
        if_stays true = (good.0, tt)
        if_stays false = tt

    good_grown : AllByRecursion (Good now plans) grown
    good_grown =
        subst (AllByRecursion (Good now plans)) (sym order.are)
        (AllByRecursion-append (Good now plans) (entries_behind order.every) anew
        (good_behind order.every order.each (subst (AllByRecursion (Good now plans)) (sym order.entries) (good_all now plans all waits asked)))
        (good_from now plans n 0 [] carried.roots carried.asked))

    pub waits_behind : AllByRecursion (λ x. IsWaitOf plans x.wait x.instance) (all_listed grown)
    waits_behind = good_waits now plans grown good_grown

    pub asked_behind : AllByRecursion (CanAskOf (guards_now now) plans) (items_of grown)
    asked_behind = good_asked now plans grown good_grown

    grown_items : items_of grown ≡ items_of (entries_behind order.every) ++ carried.roots
    grown_items = ap items_of order.are ∙ items_append (entries_behind order.every) anew ∙ ap (λ l. items_of (entries_behind order.every) ++ l) (entries_items plans now.time [] n 0 carried.roots)

    part_items : (b : Bool) (x : Entry Instance) (others : List (Entry Instance)) → items_of (cond b (x ∷ []) [] ++ others) ≡ cond b (x.item ∷ []) [] ++ items_of others
    part_items true x others = refl
    part_items false x others = refl

    -- ---- of what it comes

    -- an instance that sleeps waits
    waits_on : (e : Entry Instance) → Good now plans e → Q e → ComesOf now plans inserted e.item e.item
    waits_on e good asleep =
        let can = good.1 in
        let before = before_last plans (listed_of e).wait e.item (step_moment inserted now.time) good.0 asleep.in_time in
        subst (λ (o : Option Plan). AtNode o (λ node. ((e.item ≡ e.item) × (has_deadline node ≡ true → is_forced inserted now.time e.item ≡ false))
        ⊎ ((part : Plan) × HasPart node part × IsBegunUnder now.ordered.now now.time now.position e.item.rule part e.item))) (sym can.found)
        (inl (refl, λ due. not_forced inserted now.time e.item.high before))

    comes_one : (o : EntryOutcome Instance) → IsOneOr Q walks.outcomes o → Good now plans o.entry → (j : Instance)
        → Contains (items_of (cond o.stays (o.entry ∷ []) [] ++ o.begun)) j → ComesOf now plans inserted o.entry.item j
    comes_one o one good j there =
        ⊎_elim
        (λ in_walk.
        let b = AllByRecursion-contains (EntryBecomes now plans inserted m) walks.outcomes o walks.each in_walk in
        b.come j (subst (λ (l : List Instance). Contains l j)
        (part_items o.stays o.entry o.begun ∙ ap (λ l. cond o.stays (o.entry.item ∷ []) [] ++ items_of l) b.begun ∙ ap (λ l. cond o.stays (o.entry.item ∷ []) [] ++ l)
        (entries_items plans now.time o.entry.place m 0 b.more)) there))
        (λ c.
        let stays = c.1 in
        let none = c.2 in
        let alone = subst (λ (l : List Instance). Contains l j) (λ i. items_of (cond (stays i) (o.entry ∷ []) [] ++ none i)) there in
        ⊎_elim (λ same. subst (ComesOf now plans inserted o.entry.item) same (waits_on o.entry good c.0)) (λ no. absurd (none_in_nil j no)) (first_or_later j o.entry.item [] alone)) one

    comes_behind : (every : List (EntryOutcome Instance)) → AllByRecursion (IsOneOr Q walks.outcomes) every → AllByRecursion (Good now plans) (map entry_of every)
        → (j : Instance) → Contains (items_of (entries_behind every)) j
        → (i : Instance) × Contains (items_of (map entry_of every)) i × ComesOf now plans inserted i j
    comes_behind [] each good j there = absurd (none_in_nil j there)
    comes_behind (o ∷ every) each good j there =
        ⊎_elim (λ front. (o.entry.item, here o.entry.item (items_of (map entry_of every)), comes_one o each.0 good.0 j front))
        (λ back. let more = comes_behind every each.1 good.1 j back in (more.0, later more.0 o.entry.item (items_of (map entry_of every)) more.1, more.2))
        (Contains-append (items_of (cond o.stays (o.entry ∷ []) [] ++ o.begun)) (items_of (entries_behind every)) j
        (subst (λ (l : List Instance). Contains l j) (items_append (cond o.stays (o.entry ∷ []) [] ++ o.begun) (entries_behind every)) there))

    from_old : (j : Instance) → Contains (items_of (entries_behind order.every)) j → (i : Instance) × Contains (items_of all) i × ComesOf now plans inserted i j
    from_old j there =
        let from = comes_behind order.every order.each (subst (AllByRecursion (Good now plans)) (sym order.entries) (good_all now plans all waits asked)) j there in
        (from.0, subst (λ (l : List (Entry Instance)). Contains (items_of l) from.0) order.entries from.1, from.2)

    pub leads : NowLeads now plans inserted seen.instances (items_of grown)
    leads =
        subst (λ (l : List Instance). NowLeads now plans inserted l (items_of grown)) seen_are
        (λ j there. ⊎_elim (λ front. inl (from_old j front)) (λ back. inr (carried.come j back))
        (Contains-append (items_of (entries_behind order.every)) carried.roots j (subst (λ (l : List Instance). Contains l j) grown_items there)))

    module _ (exists : AfterExists) (stay : SleepersStay) (early_stay : EarlyStay) (stand : PlansStand plans) (before : List Step) (newest : Step)
        (is : IsNowOf now (before ++ newest ∷ [])) (later : last_time before ≤ newest.time) where
      abbrev trace : List Step
      trace = before ++ newest ∷ []

      -- an entry that is asleep becomes itself
      itself : (e : Entry Instance) → Good now plans e → Q e → IsUnmetOf plans before e.item → After plans trace e.item (e.item ∷ [])
      itself e good asleep unmet =
          let found = exists (guards_now now) plans trace e.item good.1 in
          let now_is = is.time in
          let none = subst (HasNone asleep.patterns) (sym is.events) asleep.none in
          let within = not_later inserted now.time e.item.high (before_last plans (listed_of e).wait e.item (step_moment inserted now.time) good.0 asleep.in_time) in
          subst (After plans trace e.item) (⊎_elim
          (λ open_is. stay (guards_now now) plans before newest e.item stand good.1
          (record { patterns = asleep.patterns; wakes = sym (ap (λ (w : Wait). w.patterns) open_is) ∙ asleep.waits; none = none })
          (not_over (node_of plans e.item) e.item (time_now trace) (omega (arith, within, now_is))) later unmet found.0 found.1)
          (λ early_is.
          let before = not_begun inserted now.time e.item (subst (λ (w : Wait). step_moment inserted now.time < w.until) early_is asleep.in_time) in
          early_stay (guards_now now) plans trace e.item good.1 (record {
            patterns = asleep.patterns;
            wakes = sym (ap (λ (w : Wait). w.patterns) early_is) ∙ asleep.waits;
            none = none;
            before = omega (arith, before, now_is);
          }) found.0 found.1) good.0) found.1

      after_one : (o : EntryOutcome Instance) → IsOneOr Q walks.outcomes o → Good now plans o.entry → IsUnmetOf plans before o.entry.item
          → AreServed plans inserted trace (o.entry.item ∷ []) → After plans trace o.entry.item (items_of (cond o.stays (o.entry ∷ []) [] ++ o.begun))
      after_one o one good unmet served =
          ⊎_elim
          (λ there.
          let b = AllByRecursion-contains (EntryBecomes now plans inserted m) walks.outcomes o walks.each there in
          subst (After plans trace o.entry.item)
          (sym (part_items o.stays o.entry o.begun ∙ ap (λ l. cond o.stays (o.entry.item ∷ []) [] ++ items_of l) b.begun ∙ ap (λ l. cond o.stays (o.entry.item ∷ []) [] ++ l)
          (entries_items plans now.time o.entry.place m 0 b.more)))
          (b.after trace is served))
          (λ c.
          let stays = c.1 in
          let none = c.2 in
          subst (After plans trace o.entry.item) (λ i. items_of (cond (sym stays i) (o.entry ∷ []) [] ++ sym none i)) (itself o.entry good c.0 unmet)) one

      gathered : (every : List (EntryOutcome Instance)) → AllByRecursion (IsOneOr Q walks.outcomes) every → AllByRecursion (Good now plans) (map entry_of every)
          → AreUnmet plans before (items_of (map entry_of every)) → AreServed plans inserted trace (items_of (map entry_of every))
          → Gathers (After plans trace) (items_of (map entry_of every)) (items_of (entries_behind every))
      gathered [] each good unmet served = refl
      gathered (o ∷ every) each good unmet served = (
        items_of (cond o.stays (o.entry ∷ []) [] ++ o.begun),
        items_of (entries_behind every),
        after_one o each.0 good.0 unmet.0 (served.0, tt),
        gathered every each.1 good.1 unmet.1 served.1,
        items_append (cond o.stays (o.entry ∷ []) [] ++ o.begun) (entries_behind every),
      )

      pub goes : AreUnmet plans before seen.instances → AreServed plans inserted trace seen.instances → PendingAfter plans trace seen.instances (items_of grown)
      goes seen_unmet seen_served =
          let unmet = subst (AreUnmet plans before) (sym seen_are) seen_unmet in
          let served = subst (AreServed plans inserted trace) (sym seen_are) seen_served in
          subst (λ (l : List Instance). PendingAfter plans trace l (items_of grown)) seen_are (
            items_of (entries_behind order.every),
            carried.roots,
            subst (λ (l : List (Entry Instance)). Gathers (After plans trace) (items_of l) (items_of (entries_behind order.every))) order.entries
                (gathered order.every order.each (subst (AllByRecursion (Good now plans)) (sym order.entries) (good_all now plans all waits asked))
                (subst (λ (l : List (Entry Instance)). AreUnmet plans before (items_of l)) (sym order.entries) unmet)
                (subst (λ (l : List (Entry Instance)). AreServed plans inserted trace (items_of l)) (sym order.entries) served)),
            carried.by_roots trace is,
            grown_items,
          )
