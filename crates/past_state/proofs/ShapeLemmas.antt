-- Rows that can be kept, and one more after the last of them.
use Rattle.past_state.proofs.Vocabulary.{◌≡◌, ◌∙◌, ◌↔◌, ◌⊎◌, inl, inr, ⊎_elim, ℕ, suc, ◌<◌, ◌≤◌, List, [], ◌∷◌, ◌++◌, append_assoc, get_or, length, map, All, Contains, Option, None, Some, refl, sym}
use Rattle.past_state.proofs.Vocabulary.{ap, subst, arith, slice_get, tied_itself, Greater, All-contains, Contains-append_cases, Contains-append_left, Contains-append_right, option_map, length-map}
use Rattle.past_state.proofs.Vocabulary.{map-append, none-some, same_Some, slice_get-get_or, slice_get-map, slice_get_past, row_cmp, Value, there_from_get, here, none_in_nil, VarId, all_from}
use Rattle.past_state.proofs.Vocabulary.{only_item as only, Formula, Not, Implies, Prev, Once, Historically, Since, AreFreeVariables, same_free, denial, row_cmp_total, ChosenBy, IsPairBefore, pair}
use Rattle.past_state.proofs.Vocabulary.{rises_append, rises_front, KeptPair, AreWithinBounds, HaveTime, IsKeepable, IsTimely, kept_row, numbered_operators, IsRowBefore, pair_of, kept_operand}
use Rattle.past_state.proofs.Vocabulary.{all_operators, operators, AreOfOne, RowCanFollow, ComesBehind, FitsIn, HasItsColumns, HasOtherValues, TimeJoins, TimeJoinsBy, operator_of, KeptRow}
use Rattle.past_state.proofs.Vocabulary.{WindowShape}
use Rattle.std.specs.declared.cmp.Ordering.TheVariants.{Less}

-- ---- the order of rows

pub not_less : (row other : List Value) → row ≡ other → row_cmp row other ≡ Less → ⊥
not_less row other same less =
    let tied = tied_itself row_cmp_total other in
    let itself : row_cmp other other ≡ Less = subst (λ r. row_cmp r other ≡ Less) same less in
    cc

pair_before : (p q s : KeptPair) → IsPairBefore p q → IsPairBefore q s → IsPairBefore p s
pair_before p q s first second =
    ⊎_elim
    (λ less. ⊎_elim (λ also. inl (row_cmp_total.trans p.row q.row s.row less also)) (λ same. inl (subst (λ r. row_cmp p.row r ≡ Less) same.0 less)) second)
    (λ here. ⊎_elim (λ less. inl (subst (λ r. row_cmp r s.row ≡ Less) (sym here.0) less)) (λ same. inr (here.0 ∙ same.0, omega (arith, here.1, same.1))) second)
    first

row_before : (a b c : KeptRow) → IsRowBefore a b → IsRowBefore b c → IsRowBefore a c
row_before a b c first second =
    ⊎_elim
    (λ less. ⊎_elim (λ also. inl (omega (arith, less, also))) (λ same. inl (omega (arith, less, same.0))) second)
    (λ here. ⊎_elim (λ less. inl (omega (arith, here.0, less))) (λ same. inr (here.0 ∙ same.0, pair_before (pair_of a) (pair_of b) (pair_of c) here.1 same.1)) second)
    first

pub not_before : (b r : KeptRow) → row_cmp b.row r.row ≡ Greater → b.window ≡ r.window → IsRowBefore b r → ⊥
not_before b r greater same before =
    ⊎_elim (λ less. omega (arith, less, same)) (λ here. ⊎_elim (λ less. cc) (λ also. let itself : row_cmp r.row r.row
    ≡ Greater = subst (λ l. row_cmp l r.row ≡ Greater) also.0 greater in let tied = tied_itself row_cmp_total r.row in cc) here.1) before

-- of the same values the later one has the later time
pub later_of_one : (a c : KeptRow) → AreOfOne a c → IsRowBefore a c → a.time < c.time
later_of_one a c one before =
    ⊎_elim (λ less. absurd (omega (arith, less, one.0))) (λ here. ⊎_elim (λ less. absurd (not_less a.row c.row one.1 less)) (λ same. same.1) here.1) before

-- what stands between two of the same values is of these too
between : (a b c : KeptRow) → IsRowBefore a b → IsRowBefore b c → AreOfOne a c → AreOfOne b c
between a b c first second one =
    ⊎_elim
    (λ less. absurd (⊎_elim (λ also. omega (arith, less, also, one.0)) (λ same. omega (arith, less, same.0, one.0)) second))
    (λ here. ⊎_elim
    (λ less. absurd (omega (arith, here.0, less, one.0)))
    (λ same. (same.0, ⊎_elim (λ less. absurd (rows less here.1)) (λ also. also.0) same.1))
    second)
    first
  where
    rows : row_cmp b.row c.row ≡ Less → IsPairBefore (pair_of a) (pair_of b) → ⊥
    rows less before =
        ⊎_elim (λ also. not_less a.row c.row one.1 (row_cmp_total.trans a.row b.row c.row also less)) (λ same. not_less b.row c.row (sym same.0 ∙ one.1) less) before

-- ---- the last of rows

-- it is the last of them, if there is one
abbrev pub IsLastOf : List KeptRow → Option KeptRow → Type 0
IsLastOf xs None = xs ≡ []
IsLastOf xs (Some b) = Contains xs b × ((q : KeptRow) → Contains xs q → (q ≡ b) ⊎ IsRowBefore q b)

all_before : (xs : List KeptRow) (before : Option KeptRow) (r q : KeptRow) → IsLastOf xs before → ComesBehind before r → Contains xs q → IsRowBefore q r
all_before xs None r q is comes there = absurd (none_in_nil q (subst (λ l. Contains l q) is there))
all_before xs (Some b) r q is comes there = ⊎_elim (λ same. subst (λ p. IsRowBefore p r) (sym same) comes) (λ before. row_before q b r before comes) (is.1 q there)

none_of_one : (xs : List KeptRow) (before : Option KeptRow) (r q : KeptRow) → IsLastOf xs before → ComesBehind before r → Contains xs q → AreOfOne q r → HasOtherValues before r → ⊥
none_of_one xs None r q is comes there one other = none_in_nil q (subst (λ l. Contains l q) is there)
none_of_one xs (Some b) r q is comes there one other =
    other (⊎_elim (λ same. subst (λ p. AreOfOne p r) same one) (λ before. between q b r before comes one) (is.1 q there))

-- ---- the times

joins_map : (f : Formula) (last : ℕ) (A B : Type 0) (time : ℕ) → (A → B) → TimeJoins f last A time → TimeJoins f last B time
joins_map f last A B time from = by f
  where
    each : (high : Option ℕ) (low : ℕ) → TimeJoinsBy high low last A time → TimeJoinsBy high low last B time
    each None low alone = from alone
    each (Some high) low joins = (joins.0, λ far. from (joins.1 far))

    by : (f : Formula) → TimeJoins f last A time → TimeJoins f last B time
    by (Prev place interval g) joins = joins
    by (Once place interval g) joins = (joins.0, each interval.high interval.low joins.1)
    by (Historically place interval g) joins = (joins.0, each interval.high interval.low joins.1)
    by (Since place interval g h) joins = (joins.0, each interval.high interval.low joins.1)
    by f joins = absurd joins

-- the time of a row after the others can be kept with theirs,
timely_last : (f : Formula) (last : ℕ) (Alone : Type 0) (P : ℕ → Type 0) (time : ℕ) → ((other : ℕ) → P other → other ≤ time) → (Alone → (other : ℕ) → P other → time ≤ other)
    → TimeJoins f last Alone time → IsTimely f last P time
timely_last f last Alone P time latest earliest = by f
  where
    each : (high : Option ℕ) (low : ℕ) → TimeJoinsBy high low last Alone time → ChosenBy high low last P time
    each None low alone = earliest alone
    each (Some high) low joins = (joins.0, λ far other there also. latest other there)

    by : (f : Formula) → TimeJoins f last Alone time → IsTimely f last P time
    by (Prev place interval g) joins = joins
    by (Once place interval g) joins = (joins.0, each interval.high interval.low joins.1)
    by (Historically place interval g) joins = (joins.0, each interval.high interval.low joins.1)
    by (Since place interval g h) joins = (joins.0, each interval.high interval.low joins.1)
    by f joins = absurd joins

-- and those of the others with it
timely_more : (f : Formula) (last : ℕ) (P Q : ℕ → Type 0) (time : ℕ) → ((other : ℕ) → Q other → P other ⊎ ((time ≤ other) × TimeJoins f last ⊥ other)) → IsTimely f last P time → IsTimely f last Q time
timely_more f last P Q time = by f
  where
    each : (high : Option ℕ) (low : ℕ) → ((other : ℕ) → Q other → P other ⊎ ((time ≤ other) × TimeJoinsBy high low last ⊥ other)) → ChosenBy high low last P time → ChosenBy high low last Q time
    each None low more chosen = λ other there. ⊎_elim (λ old. chosen other old) (λ new. new.0) (more other there)
    each (Some high) low more chosen =
        (chosen.0, λ far other there also. ⊎_elim (λ old. chosen.1 far other old also) (λ new. absurd (new.1.1 also)) (more other there))

    by : (f : Formula) → ((other : ℕ) → Q other → P other ⊎ ((time ≤ other) × TimeJoins f last ⊥ other)) → IsTimely f last P time → IsTimely f last Q time
    by (Prev place interval g) more timely = timely
    by (Once place interval g) more timely = (timely.0, each interval.high interval.low (λ other there. ⊎_elim inl (λ new. inr (new.0, new.1.1)) (more other there)) timely.1)
    by (Historically place interval g) more timely = (timely.0, each interval.high interval.low (λ other there. ⊎_elim inl (λ new. inr (new.0, new.1.1)) (more other there)) timely.1)
    by (Since place interval g h) more timely = (timely.0, each interval.high interval.low (λ other there. ⊎_elim inl (λ new. inr (new.0, new.1.1)) (more other there)) timely.1)
    by f more timely = absurd timely

-- an earlier time of the same values
record HasEarlier (f : Formula) (last : ℕ) (P Q : ℕ → Type 0) (time : ℕ) : Type 0 where
  earlier : ℕ
  less : earlier < time
  there : P earlier
  timely : IsTimely f last Q earlier
  also : Q time

-- where both times can be kept, the later one can join the earlier
joins_from : (f : Formula) (last : ℕ) (P Q : ℕ → Type 0) (time : ℕ) (Same : Type 0) → (Same → HasEarlier f last P Q time) → IsTimely f last P time → TimeJoins f last (Same → ⊥) time
joins_from f last P Q time Same = by f
  where
    each : (high : Option ℕ) (low : ℕ) → (Same → (e : ℕ) × (e < time) × P e × ChosenBy high low last Q e × Q time) → ChosenBy high low last P time → TimeJoinsBy high low last (Same → ⊥) time
    each None low has chosen = λ s. let e = has s in omega (arith, e.1, chosen e.0 e.2)
    each (Some high) low has chosen =
        (chosen.0, λ far s. let e = has s in omega (arith, e.1, e.3.1 (omega (arith, e.1, far)) time e.4 far))

    by : (f : Formula) → (Same → HasEarlier f last P Q time) → IsTimely f last P time → TimeJoins f last (Same → ⊥) time
    by (Prev place interval g) has timely = timely
    by (Once place interval g) has timely = (timely.0, each interval.high interval.low (λ s. let e = has s in (e.earlier, e.less, e.there, e.timely.1, e.also)) timely.1)
    by (Historically place interval g) has timely = (timely.0, each interval.high interval.low (λ s. let e = has s in (e.earlier, e.less, e.there, e.timely.1, e.also)) timely.1)
    by (Since place interval g h) has timely = (timely.0, each interval.high interval.low (λ s. let e = has s in (e.earlier, e.less, e.there, e.timely.1, e.also)) timely.1)
    by f has timely = absurd timely

-- ---- one row more

module _ (fs : List Formula) (last : ℕ) (xs : List KeptRow) (before : Option KeptRow) (r : KeptRow) (is : IsLastOf xs before) where
  -- the times that rows have for one, with the row after them
  either : (q : KeptRow) (other : ℕ) → HaveTime (xs ++ r ∷ []) q other → HaveTime xs q other ⊎ (kept_row q.window (pair q.row other) ≡ r)
  either q other there =
      let s = kept_row q.window (pair q.row other) in
      ⊎_elim (λ old. inl old) (λ new. inr (sym (only r s new))) (Contains-append_cases xs (r ∷ []) s there)

  module _ (can : RowCanFollow fs last before r) where
    last_keepable : IsKeepable fs last (xs ++ r ∷ []) r
    last_keepable = record {
      operator = can.fits.operator;
      numbered = can.fits.numbered;
      long = can.fits.long;
      timely = timely_last can.fits.operator last (HasOtherValues before r) (HaveTime (xs ++ r ∷ []) r) r.time
          (λ other there. ⊎_elim
          (λ old. let less = later_of_one (kept_row r.window (pair r.row other)) r (refl, refl) (all_before xs before r _ is can.behind old) in omega (arith, less))
          (λ new. let same = ap (λ (k : KeptRow). k.time) new in omega (arith, same)) (either r other there))
          (λ alone other there. ⊎_elim
          (λ old. absurd (none_of_one xs before r (kept_row r.window (pair r.row other)) is can.behind old (refl, refl) alone))
          (λ new. let same = ap (λ (k : KeptRow). k.time) new in omega (arith, same)) (either r other there))
          can.fits.joins;
    }

    still_keepable : (q : KeptRow) → Contains xs q → IsKeepable fs last xs q → IsKeepable fs last (xs ++ r ∷ []) q
    still_keepable q there k = record {
      operator = k.operator;
      numbered = k.numbered;
      long = k.long;
      timely = timely_more k.operator last (HaveTime xs q) (HaveTime (xs ++ r ∷ []) q) q.time
          (λ other also. ⊎_elim (λ old. inl old) (λ new. inr (added other new)) (either q other also)) k.timely;
    }
      where
        added : (other : ℕ) → kept_row q.window (pair q.row other) ≡ r → (q.time ≤ other) × TimeJoins k.operator last ⊥ other
        added other new =
            let one : AreOfOne q r = (ap (λ (s : KeptRow). s.window) new, ap (λ (s : KeptRow). s.row) new) in
            let time : other ≡ r.time = ap (λ (s : KeptRow). s.time) new in
            let less = later_of_one q r one (all_before xs before r q is can.behind there) in
            let same : can.fits.operator ≡ k.operator = same_Some can.fits.operator k.operator (sym can.fits.numbered ∙ ap (slice_get fs) (sym one.0) ∙ k.numbered) in (
              omega (arith, less, time),
              subst (TimeJoins k.operator last ⊥) (sym time) (subst (λ f. TimeJoins f last ⊥ r.time) same
                  (joins_map can.fits.operator last (HasOtherValues before r) ⊥ r.time (none_of_one xs before r q is can.behind there one) can.fits.joins)),
            )

    pub within_with : AreWithinBounds fs (Some last) xs → AreWithinBounds fs (Some last) (xs ++ r ∷ [])
    within_with within = (
      rises_append IsRowBefore xs (r ∷ []) within.0 (all_from (IsRowBefore r) [] (λ q there. absurd (none_in_nil q there)), tt)
          (λ q s there also. subst (IsRowBefore q) (only r s also) (all_before xs before r q is can.behind there)),
      all_from (IsKeepable fs last (xs ++ r ∷ [])) (xs ++ r ∷ []) (λ q there. ⊎_elim
          (λ old. still_keepable q old (All-contains (IsKeepable fs last xs) xs q within.1 old))
          (λ new. subst (IsKeepable fs last (xs ++ r ∷ [])) (only r q new) last_keepable) (Contains-append_cases xs (r ∷ []) q there)),
    )

    pub last_with : IsLastOf (xs ++ r ∷ []) (Some r)
    last_with = (
      Contains-append_right xs (r ∷ []) r (here r []),
      λ q there. ⊎_elim (λ old. inr (all_before xs before r q is can.behind old)) (λ new. inl (sym (only r q new))) (Contains-append_cases xs (r ∷ []) q there),
    )

  module _ (within : AreWithinBounds fs (Some last) (xs ++ r ∷ [])) where
    across : (q : KeptRow) → Contains xs q → IsRowBefore q r
    across q there = (rises_front IsRowBefore xs (r ∷ []) within.0).1 q r there (here r [])

    own : IsKeepable fs last (xs ++ r ∷ []) r
    own = All-contains (IsKeepable fs last (xs ++ r ∷ [])) (xs ++ r ∷ []) r within.1 (Contains-append_right xs (r ∷ []) r (here r []))

    comes : (o : Option KeptRow) → IsLastOf xs o → ComesBehind o r
    comes None last_is = tt
    comes (Some b) last_is = across b last_is.0

    joins_in : (o : Option KeptRow) → IsLastOf xs o → TimeJoins own.operator last (HasOtherValues o r) r.time
    joins_in None last_is =
        joins_map own.operator last (⊥ → ⊥) (Unit {0}) r.time (λ _. tt)
        (joins_from own.operator last (HaveTime (xs ++ r ∷ []) r) (HaveTime (xs ++ r ∷ []) r) r.time ⊥ (λ none. absurd none) own.timely)
    joins_in (Some b) last_is =
        joins_from own.operator last (HaveTime (xs ++ r ∷ []) r) (HaveTime (xs ++ r ∷ []) b) r.time (AreOfOne b r) earlier own.timely
      where
        earlier : AreOfOne b r → HasEarlier own.operator last (HaveTime (xs ++ r ∷ []) r) (HaveTime (xs ++ r ∷ []) b) r.time
        earlier one =
            let old : Contains (xs ++ r ∷ []) b = Contains-append_left xs (r ∷ []) b last_is.0 in
            let new : Contains (xs ++ r ∷ []) r = Contains-append_right xs (r ∷ []) r (here r []) in
            let k = All-contains (IsKeepable fs last (xs ++ r ∷ [])) (xs ++ r ∷ []) b within.1 old in
            let same : k.operator ≡ own.operator = same_Some k.operator own.operator (sym k.numbered ∙ ap (slice_get fs) one.0 ∙ own.numbered) in
            record {
              earlier = b.time;
              less = later_of_one b r one (across b last_is.0);
              there = subst (λ w. Contains (xs ++ r ∷ []) (kept_row w (pair r.row b.time))) one.0 (subst (λ l. Contains (xs ++ r ∷ []) (kept_row b.window (pair l b.time))) one.1 old);
              timely = subst (λ f. IsTimely f last (HaveTime (xs ++ r ∷ []) b) b.time) same k.timely;
              also = subst (λ w. Contains (xs ++ r ∷ []) (kept_row w (pair b.row r.time))) (sym one.0) (subst (λ l. Contains (xs ++ r ∷ []) (kept_row r.window (pair l r.time))) (sym one.1) new);
            }

    pub can_follow_from : RowCanFollow fs last before r
    can_follow_from = record {
      behind = comes before is;
      fits = record { operator = own.operator; numbered = own.numbered; long = own.long; joins = joins_in before is };
    }

-- ---- the windows by their numbers

-- a row fits in where its window's shape has as many columns and its operator can keep the time,
pub fits_with : (shapes : List WindowShape) (last : ℕ) (Alone : Type 0) (r : KeptRow) (shape : WindowShape) → All HasItsColumns shapes → r.window < length shapes → shape ≡ get_or shapes r.window shape
    → FitsIn (map operator_of shapes) last Alone r ↔ ((length r.row ≡ length shape.columns) × TimeJoins (operator_of shape) last Alone r.time)
fits_with shapes last Alone r shape each within is =
    let at : slice_get shapes r.window ≡ Some shape = slice_get-get_or shapes r.window shape within ∙ ap Some (sym is) in
    let named : slice_get (map operator_of shapes) r.window ≡ Some (operator_of shape) = slice_get-map operator_of shapes r.window ∙ ap (option_map operator_of) at in
    let own : HasItsColumns shape = All-contains HasItsColumns shapes shape each (there_from_get shapes r.window shape at) in (
      λ f. let same : f.operator ≡ operator_of shape = same_Some f.operator (operator_of shape) (sym f.numbered ∙ named) in
          (f.long shape.columns (subst (λ g. AreFreeVariables (kept_operand g) shape.columns) (sym same) own), subst (λ g. TimeJoins g last Alone r.time) same f.joins),
      λ both. record {
        operator = operator_of shape;
        numbered = named;
        long = λ columns free. both.0 ∙ ap length (same_free (kept_operand (operator_of shape)) shape.columns columns own free);
        joins = both.1;
      },
    )

-- and not where there is no such window
pub fits_none : (shapes : List WindowShape) (last : ℕ) (Alone : Type 0) (r : KeptRow) → length shapes ≤ r.window → FitsIn (map operator_of shapes) last Alone r → ⊥
fits_none shapes last Alone r past f =
    let none : slice_get (map operator_of shapes) r.window ≡ None = slice_get_past (map operator_of shapes) r.window (let long = length-map shapes operator_of in omega (arith, past, long)) in
    none-some f.operator (sym none ∙ f.numbered)

-- the denial has the same free variables
pub denial_free : (g : Formula) (xs : List VarId) → AreFreeVariables g xs → AreFreeVariables (denial g) xs
denial_free (Not place h) xs free = record { rising = free.rising; exact = free.exact }
denial_free (Implies place a b) xs free = record { rising = free.rising; exact = free.exact }
denial_free g xs free = record { rising = free.rising; exact = free.exact }

-- an operator, and then those of its two operands
pub pushed_two : (n : ℕ) (s : Formula) (fs gs : List Formula) (old one two new : List (ℕ × Formula)) → one ≡ old ++ (n, s) ∷ [] → two ≡ one ++ map (λ (o : Formula). (n, o)) fs
    → new ≡ two ++ map (λ (o : Formula). (n, o)) gs → new ≡ old ++ map (λ (o : Formula). (n, o)) (s ∷ (fs ++ gs))
pushed_two n s fs gs old one two new first second third =
    let F : List (ℕ × Formula) = map (λ (o : Formula). (n, o)) fs in
    let G : List (ℕ × Formula) = map (λ (o : Formula). (n, o)) gs in
    let both : (old ++ (n, s) ∷ []) ++ (F ++ G) ≡ old ++ ((n, s) ∷ (F ++ G)) = append_assoc old ((n, s) ∷ []) (F ++ G) in
    third ∙ ap (λ l. l ++ G) (second ∙ ap (λ l. l ++ F) first) ∙ append_assoc (old ++ (n, s) ∷ []) F G ∙ both
    ∙ ap (λ l. old ++ ((n, s) ∷ l)) (sym (map-append (λ (o : Formula). (n, o)) fs gs))

-- without the numbers of guards they are the operators
seconds : (n : ℕ) (fs : List Formula) → map (λ (p : ℕ × Formula). p.1) (map (λ (o : Formula). (n, o)) fs) ≡ fs
seconds n [] = refl
seconds n (f ∷ fs) = ap (λ l. f ∷ l) (seconds n fs)

pub without_numbers : (n : ℕ) (fs : List Formula) → map (λ (p : ℕ × Formula). p.1) (numbered_operators n fs) ≡ all_operators fs
without_numbers n [] = refl
without_numbers n (f ∷ fs) =
    map-append (λ (p : ℕ × Formula). p.1) (map (λ (o : Formula). (n, o)) (operators f)) (numbered_operators (suc n) fs)
    ∙ ap (λ l. l ++ map (λ (p : ℕ × Formula). p.1) (numbered_operators (suc n) fs)) (seconds n (operators f))
    ∙ ap (λ l. operators f ++ l) (without_numbers (suc n) fs)
