-- The times of a row that are kept are chosen among those that are kept.
use Rattle.windows.proofs.Vocabulary.{◌≡◌, ◌∙◌, ⊎_elim, ℕ, ◌-◌, ◌<◌, ◌≤◌, List, [], ◌∷◌, map, Contains, Option, None, Some, sym, ap, subst, arith, All-contains, HasNoRepeats, first_or_later}
use Rattle.windows.proofs.Vocabulary.{none_in_nil, Contains-map, agrees_once, ChosenBy, LeastIsChosen, AreLeastTimes, RiseTo, HasLeast, HasRow}

pub of_times : (high : Option ℕ) (low last : ℕ) (times : List ℕ) → RiseTo last times → AreLeastTimes high low last times → (time : ℕ) → Contains times time
    → ChosenBy high low last (Contains times) time
of_times high low last [] rise least time there = absurd (none_in_nil time there)
of_times None low last (first ∷ times) rise least time there = λ other also. omega (arith, alone time there, alone other also)
  where
    alone : (t : ℕ) → Contains (first ∷ times) t → first ≡ t
    alone t h = ⊎_elim (λ same. same) (λ behind. absurd (none_in_nil t (subst (λ l. Contains l t) least behind))) (first_or_later t first times h)
of_times (Some high) low last (first ∷ times) rise least time there = (
  ⊎_elim (λ same. omega (arith, same, least.0)) (λ behind. omega (arith, least.0, All-contains (λ later. first < later) times time rise.1 behind)) (first_or_later time first times there),
  λ far other also far_too. omega (arith, is_first time there far, is_first other also far_too),
)
  where
    is_first : (t : ℕ) → Contains (first ∷ times) t → low ≤ last - t → first ≡ t
    is_first t h far = ⊎_elim (λ same. same) (λ behind. absurd (omega (arith, far, All-contains (λ later. last - later < low) times t least.1 behind))) (first_or_later t first times h)

pub chosen_of_fewer : (high : Option ℕ) (low last : ℕ) (P Q : ℕ → Type 0) (time : ℕ) → ((t : ℕ) → Q t → P t) → ChosenBy high low last P time → ChosenBy high low last Q time
chosen_of_fewer None low last P Q time fewer chosen = λ other also. chosen other (fewer other also)
chosen_of_fewer (Some high) low last P Q time fewer chosen = (chosen.0, λ far other also. chosen.1 far other (fewer other also))

-- no row stands twice, so that it has one list of times
pub one_entry : {X Y : Type 0} (es : List (X × Y)) → HasNoRepeats (map (λ e. e.0) es) → (x : X) (y z : Y) → Contains es (x, y) → Contains es (x, z) → y ≡ z
one_entry [] unique x y z in_y in_z = absurd (none_in_nil (x, y) in_y)
one_entry {X} {Y} (e ∷ es) unique x y z in_y in_z =
    ⊎_elim
    (λ first. ⊎_elim (λ also. ap (λ p. p.1) (sym first ∙ also)) (λ behind. absurd (again z (ap (λ p. p.0) first) behind)) (first_or_later (x, z) e es in_z))
    (λ behind. ⊎_elim (λ first. absurd (again y (ap (λ p. p.0) first) behind)) (λ too. one_entry es unique.1 x y z behind too) (first_or_later (x, z) e es in_z))
    (first_or_later (x, y) e es in_y)
  where
    again : (w : Y) → e.0 ≡ x → Contains es (x, w) → ⊥
    again w same behind = unique.0 (subst (Contains (map (λ p. p.0) es)) (sym same) (Contains-map (λ (p : X × Y). p.0) es (x, w) behind))

pub least_is_chosen : LeastIsChosen
least_is_chosen window least v time has =
    let here = All-contains (HasLeast window) window.kept (has.0, has.1) least.rows has.2 in
    chosen_of_fewer window.interval.high window.interval.low window.last (Contains has.1) (HasRow window v) time
    (λ other also.
    let long = All-contains (HasLeast window) window.kept (also.0, also.1) least.rows also.2 in
    let same : also.0 ≡ has.0 = agrees_once v window.columns also.0 has.0 least.distinct long.long here.long also.4 has.4 in
    subst (λ l. Contains l other) (one_entry window.kept least.unique has.0 also.1 has.1 (subst (λ r. Contains window.kept (r, also.1)) same also.2) has.2) also.3)
    (of_times window.interval.high window.interval.low window.last has.1 here.rise here.least time has.3)
