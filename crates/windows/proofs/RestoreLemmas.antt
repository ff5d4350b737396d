-- A window that is made of pairs.
use Rattle.windows.proofs.WindowLemmas.{kept_from, to_view}
use Rattle.windows.proofs.Vocabulary.{inr, ◌⊎◌, ◌≡◌, ◌∙◌, ◌↔◌, ⊎_elim, ℕ, ◌-◌, ◌<◌, ◌≤◌, List, [], ◌∷◌, ◌++◌, map, drop, length, All, Contains, Option, None, Some, refl, sym, ap, subst, arith}
use Rattle.windows.proofs.Vocabulary.{length-append, int_cmp_total, tied_itself, nat_list_cmp_total, ordering_then, Less, Equal, cases_lt, All-contains, All-nil, All-push, Contains-append_cases}
use Rattle.windows.proofs.Vocabulary.{Contains-append_left, Contains-append_right, HasNoRepeats, row_cmp, value_cmp, Interval, VarId, Value, Num, Text, all_from, here, later, first_or_later}
use Rattle.windows.proofs.Vocabulary.{none_in_nil, Contains-from_map, Contains-map, ChosenBy, IsPairBefore, IsRisingBy, pair, AreBefore, AreEntriesOf, AreKeepable, AreWindowEntries, AreLeast, HasTime}
use Rattle.windows.proofs.Vocabulary.{Queue, IsQueueAt, count_pairs, AreLeastTimes, RiseTo, IsWindow, kept_entries, KeptPair}
use Rattle.windows.proofs.KeptLaws.{rises_append}
use Rattle.windows.proofs.EntryLemmas.{SetsAt}
use Rattle.windows.proofs.LeastLemmas.{one_entry}

-- ---- no row is before itself

value_itself : (v : Value) → value_cmp v v ≡ Equal
value_itself (Num x) = tied_itself int_cmp_total x
value_itself (Text s) = tied_itself nat_list_cmp_total s

row_itself : (row : List Value) → row_cmp row row ≡ Equal
row_itself [] = refl
row_itself (v ∷ row) = ap (λ o. ordering_then o (row_cmp row row)) (value_itself v) ∙ row_itself row

same_row_later : (p q : KeptPair) → q.row ≡ p.row → IsPairBefore q p → q.time < p.time
same_row_later p q same before = ⊎_elim (λ less. absurd (not_less (subst (λ r. row_cmp r p.row ≡ Less) same less))) (λ h. h.1) before
  where
    not_less : row_cmp p.row p.row ≡ Less → ⊥
    not_less less = let e = row_itself p.row in cc

-- ---- the rows with their times, pair by pair

pub no_entries : AreEntriesOf [] []
no_entries = record {
  exact = λ p. (λ has. absurd (none_in_nil (p.row, has.0) has.1), λ there. absurd (none_in_nil p there));
  fit = All-nil _;
  unique = tt;
}

-- which is later than the times that it has
pub later_times : (done : List KeptPair) (p : KeptPair) (es : List (List Value × List ℕ)) (times : List ℕ) → AreEntriesOf done es → AreBefore done p → Contains es (p.row, times)
    → All (λ t. t < p.time) times
later_times done p es times are before there = all_from (λ t. t < p.time) times (λ t at.
    same_row_later p (pair p.row t) refl (before (pair p.row t) ((are.exact (pair p.row t)).0 (times, there, at))))

-- a time goes last in the entry of its row
pub entry_set : (done : List KeptPair) (p : KeptPair) (es after : List (List Value × List ℕ)) (old new : List ℕ) → SetsAt es after p.row old new → new ≡ old ++ p.time ∷ []
    → HasNoRepeats (map (λ e. e.0) after) → AreEntriesOf done es → AreBefore done p → AreEntriesOf (done ++ p ∷ []) after
entry_set done p es after old new sets grown unique are before = record {
  exact = λ q. (
    λ has. ⊎_elim
        (λ was. Contains-append_left done (p ∷ []) q ((are.exact q).0 (has.0, was, has.2)))
        (λ same.
        let row : q.row ≡ p.row = ap (λ e. e.0) same in
        ⊎_elim
        (λ earlier. Contains-append_left done (p ∷ []) q ((are.exact q).0 (subst (λ r. HasTime es r q.time) (sym row) (old, sets.was, earlier))))
        (λ last. Contains-append_right done (p ∷ []) q (0, omega arith, (λ i. pair (sym row i) (sym (only q.time last) i))))
        (Contains-append_cases old (p.time ∷ []) q.time (subst (λ l. Contains l q.time) (ap (λ e. e.1) same ∙ grown) has.2)))
        (sets.from (q.row, has.0) has.1),
    λ there. ⊎_elim
        (λ earlier. let has = (are.exact q).1 earlier in ⊎_elim (λ stays. (has.0, stays, has.2)) (λ same.
        let row : q.row ≡ p.row = ap (λ e. e.0) same in
        subst (λ r. HasTime after r q.time) (sym row) (
          new,
          sets.is,
          subst (λ l. Contains l q.time) (sym grown)
              (Contains-append_left old (p.time ∷ []) q.time (subst (λ l. Contains l q.time) (ap (λ e. e.1) same) has.2)),
        ))
        (sets.rest (q.row, has.0) has.1))
        (λ last. subst (λ r. HasTime after r.row r.time) (only_pair q last)
        (new, sets.is, subst (λ l. Contains l p.time) (sym grown) (Contains-append_right old (p.time ∷ []) p.time (here p.time []))))
        (Contains-append_cases done (p ∷ []) q there),
  );
  fit = all_from (λ e. (0 < length e.1) × IsRisingBy ◌<◌ e.1) after (λ e there. ⊎_elim
      (λ was. All-contains (λ f. (0 < length f.1) × IsRisingBy ◌<◌ f.1) es e are.fit was)
      (λ same. subst (λ f. (0 < length f.1) × IsRisingBy ◌<◌ f.1) (sym same) (subst (λ l. (0 < length l) × IsRisingBy ◌<◌ l) (sym grown) (
        omega (arith, length-append old (p.time ∷ [])),
        rises_append ◌<◌ old (p.time ∷ []) (All-contains (λ f. (0 < length f.1) × IsRisingBy ◌<◌ f.1) es (p.row, old) are.fit sets.was).1 (All-nil _, tt)
            (λ x y first second. subst (λ t. x < t) (sym (only y second)) (same_row_later p (pair p.row x) refl (before (pair p.row x) ((are.exact (pair p.row x)).0 (old, sets.was, first))))),
      )))
      (sets.from e there));
  unique = unique;
}
  where
    only : (t : ℕ) → Contains (p.time ∷ []) t → t ≡ p.time
    only t there = ⊎_elim (λ same. sym same) (λ none. absurd (none_in_nil t none)) (first_or_later t p.time [] there)

    only_pair : (q : KeptPair) → Contains (p ∷ []) q → p ≡ q
    only_pair q there = ⊎_elim (λ same. same) (λ none. absurd (none_in_nil q none)) (first_or_later q p [] there)

-- a row that is new goes last, with one time
pub entry_first : (done : List KeptPair) (p : KeptPair) (es after : List (List Value × List ℕ)) (new : List ℕ) → ((time : ℕ) → HasTime es p.row time → ⊥) → after ≡ es ++ (p.row, new) ∷ []
    → new ≡ p.time ∷ [] → HasNoRepeats (map (λ e. e.0) after) → AreEntriesOf done es → AreEntriesOf (done ++ p ∷ []) after
entry_first done p es after new absent grown one unique are = record {
  exact = λ q. (
    λ has. ⊎_elim
        (λ was. Contains-append_left done (p ∷ []) q ((are.exact q).0 (has.0, was, has.2)))
        (λ last.
        let same : (p.row, new) ≡ (q.row, has.0) = ⊎_elim (λ h. h) (λ none. absurd (none_in_nil (q.row, has.0) none)) (first_or_later (q.row, has.0) (p.row, new) [] last) in
        let at : Contains (p.time ∷ []) q.time = subst (λ l. Contains l q.time) (ap (λ e. e.1) (sym same) ∙ one) has.2 in
        let time : p.time ≡ q.time = ⊎_elim (λ h. h) (λ none. absurd (none_in_nil q.time none)) (first_or_later q.time p.time [] at) in
        Contains-append_right done (p ∷ []) q (0, omega arith, (λ i. pair ((same i).0) (time i))))
        (Contains-append_cases es ((p.row, new) ∷ []) (q.row, has.0) (subst (λ l. Contains l (q.row, has.0)) grown has.1)),
    λ there. ⊎_elim
        (λ earlier. let has = (are.exact q).1 earlier in (has.0, subst (λ l. Contains l (q.row, has.0)) (sym grown) (Contains-append_left es ((p.row, new) ∷ []) (q.row, has.0) has.1), has.2))
        (λ last.
        let same : p ≡ q = ⊎_elim (λ h. h) (λ none. absurd (none_in_nil q none)) (first_or_later q p [] last) in
        subst (λ r. HasTime after r.row r.time) same (
          new,
          subst (λ l. Contains l (p.row, new)) (sym grown) (Contains-append_right es ((p.row, new) ∷ []) (p.row, new) (here (p.row, new) [])),
          subst (λ l. Contains l p.time)
              (sym one) (here p.time []),
        ))
        (Contains-append_cases done (p ∷ []) q there),
  );
  fit = subst (All (λ e. (0 < length e.1) × IsRisingBy ◌<◌ e.1)) (sym grown) (All-push (λ e. (0 < length e.1) × IsRisingBy ◌<◌ e.1) es (p.row, new) are.fit
      (subst (λ l. (0 < length l) × IsRisingBy ◌<◌ l) (sym one) (omega arith, (All-nil _, tt))));
  unique = unique;
}

-- ---- the window

rise_to : (last : ℕ) (times : List ℕ) → ((time : ℕ) → Contains times time → time ≤ last) → IsRisingBy ◌<◌ times → RiseTo last times
rise_to last [] up_to rises = tt
rise_to last (time ∷ times) up_to rises = (up_to time (here time times), rises.0, rise_to last times (λ t there. up_to t (later t time times there)) rises.1)

least_of_chosen : (high : Option ℕ) (low last : ℕ) (times : List ℕ) → 0 < length times → IsRisingBy ◌<◌ times
    → ((time : ℕ) → Contains times time → ChosenBy high low last (Contains times) time) → AreLeastTimes high low last times
least_of_chosen high low last [] some rises chosen = absurd (omega (arith, some))
least_of_chosen None low last (first ∷ []) some rises chosen = refl
least_of_chosen None low last (first ∷ second ∷ times) some rises chosen =
    let below : first < second = All-contains (λ t. first < t) (second ∷ times) second rises.0 (here second times) in
    absurd (omega (arith, below, chosen second (later second first (second ∷ times) (here second times)) first (here first (second ∷ times))))
least_of_chosen (Some high) low last (first ∷ times) some rises chosen = (
  (chosen first (here first times)).0,
  all_from (λ t. last - t < low) times (λ t there. near t there),
)
  where
    near : (t : ℕ) → Contains times t → last - t < low
    near t there = ⊎_elim (λ less. less) (λ far.
        let below : first < t = All-contains (λ u. first < u) times t rises.0 there in
        absurd (omega (arith, below, (chosen first (here first times)).1 (omega (arith, below, far)) t (later t first times there) far))) (cases_lt (last - t) low)

module _ (interval : Interval) (columns : List VarId) (last : ℕ) (pairs : List KeptPair) (es : List (List Value × List ℕ)) (keepable : AreKeepable interval columns last pairs)
    (are : AreEntriesOf pairs es) where
  times_of : (row : List Value) (times : List ℕ) → Contains es (row, times) → (time : ℕ) → Contains times time ↔ Contains pairs (pair row time)
  times_of row times there time = (
    λ has. (are.exact (pair row time)).0 (times, there, has),
    λ is. let has = (are.exact (pair row time)).1 is in subst (λ t. Contains t time) (one_entry es are.unique row has.0 times has.1 there) has.2,
  )

  pub restored_kept : AreWindowEntries (length columns) last es
  restored_kept = record {
    fit = all_from (λ e. (length e.0 ≡ length columns) × RiseTo last e.1) es (λ e there.
        let fit = All-contains (λ f. (0 < length f.1) × IsRisingBy ◌<◌ f.1) es e are.fit there in
        let first = some_time e.1 fit.0 in (
          All-contains (λ p. length p.row ≡ length columns) pairs (pair e.0 first.0) keepable.fit ((times_of e.0 e.1 there first.0).0 first.1),
          rise_to last e.1 (λ t has. All-contains (λ p. p.time ≤ last) pairs (pair e.0 t) keepable.up_to ((times_of e.0 e.1 there t).0 has)) fit.1,
        ));
    unique = are.unique;
  }
    where
      some_time : (times : List ℕ) → 0 < length times → (t : ℕ) × Contains times t
      some_time [] some = absurd (omega (arith, some))
      some_time (t ∷ times) some = (t, here t times)

  pub restored_least : AreLeast interval last es
  restored_least = all_from (λ e. (e.1 ≡ []) ⊎ AreLeastTimes interval.high interval.low last e.1) es (λ e there.
      let fit = All-contains (λ f. (0 < length f.1) × IsRisingBy ◌<◌ f.1) es e are.fit there in
      inr (least_of_chosen interval.high interval.low last e.1 fit.0 fit.1 (λ t has.
      among interval.high e.0 e.1 there t (keepable.chosen e.0 t ((times_of e.0 e.1 there t).0 has)))))
    where
      among : (high : Option ℕ) (row : List Value) (times : List ℕ) → Contains es (row, times) → (t : ℕ)
          → ChosenBy high interval.low last (λ other. Contains pairs (pair row other)) t → ChosenBy high interval.low last (Contains times) t
      among None row times there t chosen = λ other has. chosen other ((times_of row times there other).0 has)
      among (Some high) row times there t chosen = (chosen.0, λ far other has. chosen.1 far other ((times_of row times there other).0 has))

  all_counted : (left : List (List Value × List ℕ)) → ((e : List Value × List ℕ) → Contains left e → 0 < length e.1) → length left ≤ count_pairs left
  all_counted [] some = omega arith
  all_counted (e ∷ left) some =
      let rest = all_counted left (λ x there. some x (later x e left there)) in
      let first = some e (here e left) in omega (arith, rest, first)

  pub restored : (queue : Queue) (n : ℕ) → HasNoRepeats columns → IsQueueAt interval last es queue → length queue.dues ≤ count_pairs es → n ≤ count_pairs es
      → IsWindow interval columns last es queue None n
  restored queue n distinct queued few counted =
      let rows = all_counted es (λ e there. (All-contains (λ f. (0 < length f.1) × IsRisingBy ◌<◌ f.1) es e are.fit there).0) in record {
        distinct = distinct;
        kept = restored_kept;
        least = restored_least;
        queued = queued;
        indexed = tt;
        compact = record { rows = omega (arith, rows); dues = omega (arith, few) };
        counted = counted;
      }

  pub restored_pairs : (kept : List (List Value × List ℕ)) → kept ≡ kept_entries es → (row : List Value) (time : ℕ)
      → Contains pairs (pair row time) ↔ ((times : List ℕ) × Contains kept (row, times) × Contains times time)
  restored_pairs kept is row time = (
    λ there. let has = (are.exact (pair row time)).1 there in (has.0, subst (λ l. Contains l (row, has.0)) (sym is) (to_view es row has.0 time has.1 has.2), has.2),
    λ stored. (are.exact (pair row time)).0 (stored.0, (kept_from es (row, stored.0) (subst (λ l. Contains l (row, stored.0)) is stored.1)).0, stored.2),
  )

-- ---- the rows of pairs

pub rows_fit : (n : ℕ) (pairs : List KeptPair) → All (λ p. length p.row ≡ n) pairs → All (λ row. length row ≡ n) (map (λ p. p.row) pairs)
rows_fit n pairs fit = all_from (λ row. length row ≡ n) (map (λ p. p.row) pairs) (λ row there.
    let from = Contains-from_map (λ (p : KeptPair). p.row) pairs row there in
    subst (λ r. length r ≡ n) from.2 (All-contains (λ p. length p.row ≡ n) pairs from.0 fit from.1))

-- a step with just the rows of pairs, all of its time, has these pairs
pub last_pairs : (time : ℕ) (rows : List (List Value)) (pairs : List KeptPair) → All (λ p. p.time ≡ time) pairs → ((row : List Value) → Contains rows row ↔ Contains (map (λ p. p.row) pairs) row)
    → (p : KeptPair) → Contains (map (λ row. pair row time) rows) p ↔ Contains pairs p
last_pairs time rows pairs times same p = (
  λ there.
      let from = Contains-from_map (λ row. pair row time) rows p there in
      let of = Contains-from_map (λ (q : KeptPair). q.row) pairs from.0 ((same from.0).0 from.1) in
      let at : of.0.time ≡ time = All-contains (λ q. q.time ≡ time) pairs of.0 times of.1 in
      let is : of.0 ≡ pair from.0 time = (λ i. pair (of.2 i) (at i)) in
      subst (Contains pairs) (is ∙ from.2) of.1,
  λ there.
      let at : p.time ≡ time = All-contains (λ q. q.time ≡ time) pairs p times there in
      subst (Contains (map (λ row. pair row time) rows)) (λ i. pair p.row (sym at i))
      (Contains-map (λ row. pair row time) rows p.row ((same p.row).1 (Contains-map (λ (q : KeptPair). q.row) pairs p there))),
)
