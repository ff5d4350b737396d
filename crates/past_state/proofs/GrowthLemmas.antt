-- An operand of `prev` of whose rows none goes: those of a step are those of the step before, with those that come.
use Rattle.past_state.proofs.Vocabulary.{◌≡◌, ◌↔◌, inl, inr, ⊎_elim, ℕ, ◌-◌, ◌<◌, IsTrue, List, [], ◌∷◌, ◌++◌, length, None, sym, subst, arith}
use Rattle.past_state.proofs.Vocabulary.{Option, Some, false, false≢true, refl, cases_lt, IsIn, IsUpTo, Valuation, BindsColumns, Interval}
use Rattle.past_state.proofs.Vocabulary.{Step, Formula, Once, Sat, is_past, PastDecides, last_time, PrevGoesOn, HasValuation}
use Rattle.std.proofs.Common.{is_some}
use Rattle.past_state.proofs.BegunLemmas.{starts}
use Rattle.past_state.proofs.Decided.{in_table}
use Rattle.past_state.proofs.WindowTraceLemmas.{same_sat}
use Rattle.past_state.specs.machine.Laws.{PrevGrows}
use Rattle.past_state.specs.machine.Newcomers.{BeginsWith, GrowsBy}
use Rattle.past_state.specs.machine.OperatorMeaning.{SlotStands}

pub no_end : (high : Option ℕ) → is_some high ≡ false → high ≡ None
no_end None is = refl
no_end (Some bound) is = absurd (false≢true (sym is))

pub grown_past : (g begun : Formula) → GrowsBy g begun → IsTrue (is_past g) → IsTrue (is_past begun)
grown_past (Once place inner h) begun grows past = subst (λ f. IsTrue (is_past f)) grows.2 past
grown_past g begun grows past = absurd grows

grows_begins : (g begun : Formula) → GrowsBy g begun → BeginsWith g begun
grows_begins (Once place inner h) begun grows = (grows.0, grows.2)
grows_begins g begun grows = absurd grows

anywhere : (inner : Interval) (d : ℕ) → inner.low ≡ 0 → inner.high ≡ None → IsIn inner d
anywhere inner d low high = (omega (arith, low), subst (λ h. IsUpTo h d) (sym high) tt)

module _ (decides : PastDecides) (trace : List Step) (step : Step) where
  -- what held at the last position holds at the new one
  carried : (g begun : Formula) → GrowsBy g begun → IsTrue (is_past g) → (v : Valuation) → 0 < length trace → Sat trace (length trace - 1) v g → Sat (trace ++ step ∷ []) (length trace) v g
  carried (Once place inner h) begun grows past v some holds =
      λ none. holds (λ s. none (
        s.0,
        omega (arith, s.1, some),
        anywhere inner _ grows.0 grows.1,
        (same_sat decides trace step h past v s.0 (omega (arith, s.1, some))).0 s.3,
        λ k after up_to. tt,
      ))
  carried g begun grows past v some holds = absurd grows

  -- and what holds at the new one and does not come there held at the last one
  back : (g begun : Formula) → GrowsBy g begun → IsTrue (is_past g) → (v : Valuation) → Sat (trace ++ step ∷ []) (length trace) v g → (Sat (trace ++ step ∷ []) (length trace) v begun → ⊥)
      → (0 < length trace) × Sat trace (length trace - 1) v g
  back (Once place inner h) begun grows past v holds absent = (
    ⊎_elim (λ some. some) (λ none. absurd (holds (λ s. comes s.0 (omega (arith, s.1, none)) s.3))) (cases_lt 0 (length trace)),
    λ none. holds (λ s. ⊎_elim
        (λ earlier. none (
          s.0,
          omega (arith, earlier),
          anywhere inner _ grows.0 grows.1,
          (same_sat decides trace step h past v s.0 earlier).1 s.3,
          λ k after up_to. tt,
        ))
        (λ from. comes s.0 (omega (arith, s.1, from)) s.3)
        (cases_lt s.0 (length trace))),
  )
    where
      comes : (j : ℕ) → j ≡ length trace → Sat (trace ++ step ∷ []) j v h → ⊥
      comes j is here = absent (subst (Sat (trace ++ step ∷ []) (length trace) v) grows.2 (subst (λ k. Sat (trace ++ step ∷ []) k v h) is here))
  back g begun grows past v holds absent = absurd grows

pub prev_grows : PastDecides → PrevGoesOn → PrevGrows
prev_grows decides goes_on trace step interval g begun slot after right past grows stands told is =
    subst (SlotStands (trace ++ step ∷ []) interval g) (sym is.after_is) (goes_on trace step interval g slot is.rows stands is.columns_are exact)
  where
    exact : (v : Valuation) → BindsColumns v slot.columns → HasValuation is.rows v ↔ Sat (trace ++ step ∷ []) (length trace) v g
    exact v binds = (
      λ h. ⊎_elim (λ new. starts g begun (grows_begins g begun grows) (trace ++ step ∷ []) (length trace) v ((told v binds).0 new))
          (λ was. let kept = (stands.kept v binds was.0).0 was.1 in carried decides trace step g begun grows past v kept.0 kept.2)
          ((is.has v).0 h),
      λ holds. (is.has v).1 (⊎_elim (λ yes. inl yes) (λ no.
          let was = back decides trace step g begun grows past v holds (λ now. no ((told v binds).1 now)) in
          inr (last_time trace, (stands.kept v binds (last_time trace)).1 (was.0, refl, was.1))) (in_table right v)),
    )
