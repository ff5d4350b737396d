-- Rows of which none goes: those of a slot of `prev`, and the window that holds them.
use Rattle.prev_rows.proofs.Vocabulary.{◌≡◌, ◌∙◌, ◌↔◌, ◌⊎◌, inl, inr, ⊎_elim, ℕ, ◌-◌, ◌≤◌, List, [], ◌∷◌, length, map, All, Contains, Option, None, Some, refl, sym, ap, subst, arith}
use Rattle.prev_rows.proofs.Vocabulary.{◌++◌, append-nil, All-contains, all_from, Contains-from_map, Contains-map, here, later, none_in_nil, IsIn, IsUpTo, Valuation, Interval, VarId, Value, Relation, HasValuation}
use Rattle.prev_rows.proofs.Vocabulary.{AgreesWithRow, Window, AnswersBy, HasRow, IsCommittedBy, WindowRemembers, SurvivesFor, ArePairsOf, AreRising, Stores, AreKeepable, AreOfLast, last_step_time}
use Rattle.prev_rows.proofs.Vocabulary.{pairs_of_last, pair, ChosenBy, IsPairBefore, KeptPair, LastStep, GivesLast, IsUpToTime, LastHasColumns, Slot, with_rows, given_answers, given_rows, rows_given}
use Rattle.prev_rows.proofs.Vocabulary.{survives_always, IsEndless, IsGrownBy, IsTakenOver, KeepsColumns, WasThere, grown_rows, grown_slot, kept_slot}
use Rattle.prev_rows.specs.declared.last_rows.Kept.{Kept}
use Rattle.windows.specs.declared.surviving_rows.Surviving.TheVariants as seen

no_rows : (rows : List (List Value)) → ((row : List Value) → Contains rows row → ⊥) → rows ≡ []
no_rows [] none = refl
no_rows (row ∷ rows) none = absurd (none row (here row rows))

-- what is made of all is made of what was given
pub all_given : {X Y : Type 0} (f : X → Y) (out : List Y) (all given left : List X) → map f all ≡ out ++ map f left → length left ≡ 0 → all ≡ given → out ≡ map f given
all_given f out all given [] so_far none is = sym (append-nil out) ∙ sym so_far ∙ ap (map f) is
all_given f out all given (x ∷ left) so_far none is = absurd (omega (arith, none))

-- a table has none that is made of none
pub made_of_none : (rows given : List (List Value)) → given ≡ [] → ((row : List Value) → Contains rows row ↔ Contains given row) → rows ≡ []
made_of_none rows given none same = no_rows rows (λ row there. none_in_nil row (subst (λ l. Contains l row) none ((same row).0 there)))

-- ---- windows without an end

module _ (window : Window) (endless : IsEndless window) where
  within : (d : ℕ) → IsIn window.interval d
  within d = (omega (arith, endless.0), subst (λ h. IsUpTo h d) (sym endless.1) tt)

  remembers_all : (time : ℕ) (v : Valuation) → WindowRemembers window time v ↔ ((t : ℕ) × HasRow window v t)
  remembers_all time v = (λ r. (r.0, r.2), λ h. (h.0, within (time - h.0), h.1))

  -- what is answered where no row comes
  pub answers_grown : (none : Relation) → none.rows ≡ [] → (v : Valuation)
      → AnswersBy window window.last (SurvivesFor seen.All) none v ↔ ((t : ℕ) × HasRow window v t)
  answers_grown none empty v = (
    λ a. ⊎_elim (λ n. absurd (none_in_nil n.1.0 (subst (λ rows. Contains rows n.1.0) empty n.1.1))) (λ e. (remembers_all window.last v).0 e.0) a,
    λ h. inr ((remembers_all window.last v).1 h, tt),
  )

  pub grown_has : (v : Valuation) → HasValuation (grown_rows window) v ↔ ((t : ℕ) × HasRow window v t)
  grown_has v =
      let none : Relation = record { columns = window.columns; rows = [] } in
      let gives = given_answers window window.last survives_always none (SurvivesFor seen.All) refl (λ row times w there agrees. (λ _. tt, λ _. refl)) v in
      let all = answers_grown none refl v in
      (λ h. all.0 (gives.0 h), λ h. gives.1 (all.1 h))

  -- its rows are those of its pairs
  grown_row : (row : List Value) → Contains (grown_rows window).rows row ↔ ((t : ℕ) × Stores window row t)
  grown_row row =
      let none : Relation = record { columns = window.columns; rows = [] } in (
        λ there. ⊎_elim (λ now. absurd (none_in_nil row now.1)) (λ kept. (kept.2.0, (kept.0, kept.1, kept.2.1))) (given_rows window window.last survives_always none row there),
        λ stored. rows_given window window.last survives_always none row (inr (stored.1.0, stored.1.1, (stored.0, stored.1.2, within (window.last - stored.0)), refl)),
      )

  -- and so are those of the slot that it stands for, each at the last time
  pub grown_pairs : (pairs : List KeptPair) → ArePairsOf window pairs → (p : KeptPair)
      → Contains (map (λ q. pair q.row window.last) pairs) p ↔ Contains (map (λ row. pair row window.last) (grown_rows window).rows) p
  grown_pairs pairs exact p = (
    λ there.
        let from = Contains-from_map (λ (q : KeptPair). pair q.row window.last) pairs p there in
        let stored = (exact from.0.row from.0.time).0 from.1 in
        subst (Contains (map (λ row. pair row window.last) (grown_rows window).rows)) from.2
        (Contains-map (λ row. pair row window.last) (grown_rows window).rows from.0.row ((grown_row from.0.row).1 (from.0.time, stored))),
    λ there.
        let from = Contains-from_map (λ row. pair row window.last) (grown_rows window).rows p there in
        let stored = (grown_row from.0).0 from.1 in
        subst (Contains (map (λ q. pair q.row window.last) pairs)) from.2
        (Contains-map (λ (q : KeptPair). pair q.row window.last) pairs (pair from.0 stored.0) ((exact from.0 stored.0).1 stored.1)),
  )

  -- they are as long as the columns
  pub grown_fit : (pairs : List KeptPair) → ArePairsOf window pairs → All (λ p. length p.row ≡ length window.columns) pairs
      → All (λ p. length p.row ≡ length window.columns) (map (λ row. pair row window.last) (grown_rows window).rows)
  grown_fit pairs exact fit = all_from (λ p. length p.row ≡ length window.columns) _ (λ p there.
      let from = Contains-from_map (λ row. pair row window.last) (grown_rows window).rows p there in
      let stored = (grown_row from.0).0 from.1 in
      subst (λ q. length q.row ≡ length window.columns) from.2
      (All-contains (λ q. length q.row ≡ length window.columns) pairs (pair from.0 stored.0) fit ((exact from.0 stored.0).1 stored.1)))

  -- of each row there is one time alone
  one_time : (pairs : List KeptPair) → AreKeepable window.interval window.columns window.last pairs → (row : List Value) (t u : ℕ)
      → Contains pairs (pair row t) → Contains pairs (pair row u) → t ≡ u
  one_time pairs keepable row t u there also =
      let earliest : (at : ℕ) → Contains pairs (pair row at) → ChosenBy None window.interval.low window.last (λ other. Contains pairs (pair row other)) at =
      λ at is. subst (λ h. ChosenBy h window.interval.low window.last (λ other. Contains pairs (pair row other)) at) endless.1 (keepable.chosen row at is) in
      omega (arith, earliest t there u also, earliest u also t there)

  -- so they are in order at any time
  pub grown_rises : (pairs : List KeptPair) → AreKeepable window.interval window.columns window.last pairs → (time : ℕ) → AreRising (map (λ p. pair p.row time) pairs)
  grown_rises pairs keepable time = rise pairs (one_time pairs keepable) keepable.rising
    where
      rise : (ps : List KeptPair) → ((row : List Value) (t u : ℕ) → Contains ps (pair row t) → Contains ps (pair row u) → t ≡ u) → AreRising ps → AreRising (map (λ p. pair p.row time) ps)
      rise [] same rising = tt
      rise (p ∷ ps) same rising = (
        all_from (IsPairBefore (pair p.row time)) (map (λ q. pair q.row time) ps) (λ q there.
            let from = Contains-from_map (λ (r : KeptPair). pair r.row time) ps q there in
            subst (IsPairBefore (pair p.row time)) from.2 (⊎_elim
            (λ less. inl less)
            (λ equal. absurd (omega (
              arith,
              equal.1,
              same p.row p.time from.0.time (here p ps)
                  (subst (λ row. Contains (p ∷ ps) (pair row from.0.time)) (sym equal.0) (later from.0 p ps from.1)),
            )))
            (All-contains (IsPairBefore p) ps from.0 rising.0 from.1))),
        rise ps (λ row t u there also. same row t u (later (pair row t) p ps there) (later (pair row u) p ps also)) rising.1,
      )

-- ---- a window made of a slot

-- what a slot has, a window has that is made of its pairs
taken : (columns : List VarId) (last : Option LastStep) (window : Window) → window.columns ≡ columns → LastHasColumns columns last → ArePairsOf window (pairs_of_last last) → (v : Valuation)
    → ((t : ℕ) × HasRow window v t) ↔ WasThere last v
taken columns None window same fits exact v =
    (λ h. absurd (none_in_nil (pair h.1.0 h.0) ((exact h.1.0 h.0).1 (h.1.1, h.1.2, h.1.3))), λ w. absurd w.1)
taken columns (Some last) window same fits exact v = (
  λ h.
      let there = (exact h.1.0 h.0).1 (h.1.1, h.1.2, h.1.3) in
      let from = Contains-from_map (λ row. pair row last.time) last.rows.rows (pair h.1.0 h.0) there in (
        last.time,
        (refl, (h.1.0, subst (Contains last.rows.rows) (ap (λ q. q.row) from.2) from.1, subst (λ l. AgreesWithRow v l h.1.0) (same ∙ sym fits) h.1.4)),
      ),
  λ w.
      let stored = (exact w.1.1.0 last.time).0 (Contains-map (λ row. pair row last.time) last.rows.rows w.1.1.0 w.1.1.1) in
      (last.time, (w.1.1.0, stored.0, stored.1, stored.2, subst (λ l. AgreesWithRow v l w.1.1.0) (fits ∙ sym same) w.1.1.2)),
)

-- the pairs of a slot can be kept by it
pub keepable_last : (interval : Interval) (columns : List VarId) (last : Option LastStep) (time : ℕ) (pairs : List KeptPair) → interval.high ≡ None → IsUpToTime time last
    → AreOfLast (last_step_time last) pairs → AreRising pairs → All (λ p. length p.row ≡ length columns) pairs → AreKeepable interval columns time pairs
keepable_last interval columns last time pairs endless up_to times rising fit = record {
  fit = fit;
  up_to = all_from (λ p. p.time ≤ time) pairs (λ p there. not_later last up_to times p there);
  rising = rising;
  chosen = λ row at there. subst (λ h. ChosenBy h interval.low time (λ other. Contains pairs (pair row other)) at) (sym endless)
      (λ other also. omega (arith, same last times (pair row at) (pair row other) there also));
}
  where
    not_later : (l : Option LastStep) → IsUpToTime time l → AreOfLast (last_step_time l) pairs → (p : KeptPair) → Contains pairs p → p.time ≤ time
    not_later None up none p there = absurd (none_in_nil p (subst (λ ps. Contains ps p) none there))
    not_later (Some step) up all p there = omega (arith, up, All-contains (λ q. q.time ≡ step.time) pairs p all there)

    same : (l : Option LastStep) → AreOfLast (last_step_time l) pairs → (p q : KeptPair) → Contains pairs p → Contains pairs q → p.time ≡ q.time
    same None none p q there also = absurd (none_in_nil p (subst (λ ps. Contains ps p) none there))
    same (Some step) all p q there also =
        All-contains (λ r. r.time ≡ step.time) pairs p all there ∙ sym (All-contains (λ r. r.time ≡ step.time) pairs q all also)

pub taken_over : (slot : Slot) (interval : Interval) (window : Window) (time : ℕ) → interval ≡ slot.interval → IsEndless window → window.columns ≡ slot.columns → window.last ≡ time
    → LastHasColumns slot.columns slot.last → ArePairsOf window (pairs_of_last slot.last) → IsTakenOver time slot (grown_slot interval window)
taken_over slot interval window time interval_is endless same last_is fits exact = record {
  interval_is = interval_is;
  columns_are = same;
  there = λ v.
      let both = taken slot.columns slot.last window same fits exact v in
      let has = grown_has window endless v in
      (λ w. both.0 (has.0 w.1.1), λ w. (window.last, (refl, has.1 (both.1 w))));
  up_to = omega (arith, last_is);
}

-- ---- a step with more rows

pub grown_by : (interval : Interval) (window after : Window) (time : ℕ) (right : Relation) → IsEndless window → IsCommittedBy window time (SurvivesFor seen.All) right after
    → IsGrownBy (grown_slot interval window) time right (grown_slot interval after)
grown_by interval window after time right endless committed = record {
  rows = grown_rows after;
  columns_are = committed.columns_are;
  after_is = λ i. record {
    interval = interval;
    columns = committed.columns_are i;
    last = Some (record { time = committed.last_is i; rows = grown_rows after });
  };
  has = λ v.
      let now = grown_has after still v in
      let was = grown_has window endless v in
      let remembers = committed.remembers time (omega arith) v in (
        λ h. ⊎_elim (λ n. inl n.1) (λ e. inr (window.last, (refl, was.1 ((remembers_all window endless time v).0 e.0)))) (remembers.0 ((remembers_all after still time v).1 (now.0 h))),
        λ either. now.1 ((remembers_all after still time v).0 (remembers.1 (⊎_elim
            (λ n. inl (within window endless (time - time), n))
            (λ w. inr ((remembers_all window endless time v).1 (was.0 w.1.1), tt)) either))),
      );
}
  where
    still : IsEndless after
    still = subst (λ i. (i.low ≡ 0) × (i.high ≡ None)) (sym committed.interval_is) endless

-- the rows of a slot, taken over and grown
pub grown_over : (slot over after : Slot) (time : ℕ) (right : Relation) → IsTakenOver time slot over → IsGrownBy over time right after → IsGrownBy slot time right after
grown_over slot over after time right taken_is grown = record {
  rows = grown.rows;
  columns_are = grown.columns_are ∙ taken_is.columns_are;
  after_is = grown.after_is ∙ (λ i. record { interval = taken_is.interval_is i; columns = taken_is.columns_are i; last = Some (with_rows time grown.rows) });
  has = λ v. (
    λ h. ⊎_elim (λ new. inl new) (λ was. inr ((taken_is.there v).0 was)) ((grown.has v).0 h),
    λ either. (grown.has v).1 (⊎_elim (λ new. inl new) (λ was. inr ((taken_is.there v).1 was)) either),
  );
}

-- ---- what is kept

pub kept_is : (kept other : Kept) (slot : Slot) → kept ≡ other → kept_slot kept ≡ slot → kept_slot other ≡ slot
kept_is kept other slot is view = sym (ap kept_slot is) ∙ view

-- ---- the columns stay

pub told_columns : (before after : Slot) (time : ℕ) (rows : Relation) → rows.columns ≡ before.columns → after ≡ record before { last = Some (with_rows time rows) } → KeepsColumns before after
told_columns before after time rows same is = record {
  interval_is = ap (λ s. s.interval) is;
  columns_are = ap (λ s. s.columns) is;
  fits = λ fit. subst (λ s. LastHasColumns before.columns s.last) (sym is) same;
}

pub grown_columns : (interval : Interval) (before after : Window) → after.columns ≡ before.columns → KeepsColumns (grown_slot interval before) (grown_slot interval after)
grown_columns interval before after same = record { interval_is = refl; columns_are = same; fits = λ fit. same }

-- ---- what the slot of such rows answers

module _ (interval : Interval) (window : Window) (endless : IsEndless window) (none : Relation) (empty : none.rows ≡ []) where
  are_grown : (v : Valuation) → AnswersBy window window.last (SurvivesFor seen.All) none v ↔ HasValuation (grown_rows window) v
  are_grown v =
      let all = answers_grown window endless none empty v in
      let has = grown_has window endless v in
      (λ a. has.1 (all.0 a), λ h. all.1 (has.0 h))

  pub answers_near : (time : ℕ) (v : Valuation) → IsIn interval (time - window.last) → (B : Type 0) → B ↔ AnswersBy window window.last (SurvivesFor seen.All) none v
      → B ↔ GivesLast interval time (grown_slot interval window).last v
  answers_near time v near B told =
      let gives = are_grown v in
      (λ b. (near, gives.0 (told.0 b)), λ g. told.1 (gives.1 g.1))

  pub rows_near : (time : ℕ) (v : Valuation) → IsIn interval (time - window.last) → (B A : Type 0) → B ↔ (AnswersBy window window.last (SurvivesFor seen.All) none v × A)
      → B ↔ (GivesLast interval time (grown_slot interval window).last v × A)
  rows_near time v near B A told =
      let gives = are_grown v in
      (λ b. let both = told.0 b in ((near, gives.0 both.0), both.1), λ g. told.1 (gives.1 g.0.1, g.1))
