-- What the last step gives.
use Rattle.windows.proofs.Vocabulary.{◌≡◌, ◌↔◌, ℕ, ◌-◌, Option, None, Some, sym, subst, IsIn, Valuation, Interval, Relation, HasValuation, GivesLast, LastStep}

pub given : (interval : Interval) (time : ℕ) (kept : Option LastStep) (last : LastStep) (t : Relation) → kept ≡ Some last
    → IsIn interval (time - last.time) → t ≡ last.rows → (v : Valuation) → HasValuation t v ↔ GivesLast interval time kept v
given interval time kept last t is within same v =
    subst (λ o. HasValuation t v ↔ GivesLast interval time o v) (sym is) (λ h. (within, subst (λ r. HasValuation r v) same h), λ g. subst (λ r. HasValuation r v) (sym same) g.1)

pub not_given : (interval : Interval) (time : ℕ) (kept : Option LastStep) (last : LastStep) (t : Relation) → kept ≡ Some last
    → (IsIn interval (time - last.time) → ⊥) → ((v : Valuation) → HasValuation t v → ⊥) → (v : Valuation)
    → HasValuation t v ↔ GivesLast interval time kept v
not_given interval time kept last t is outside none v =
    subst (λ o. HasValuation t v ↔ GivesLast interval time o v) (sym is) (λ h. absurd (none v h), λ g. absurd (outside g.0))

pub none_given : (interval : Interval) (time : ℕ) (kept : Option LastStep) (t : Relation) → kept ≡ None
    → ((v : Valuation) → HasValuation t v → ⊥) → (v : Valuation) → HasValuation t v ↔ GivesLast interval time kept v
none_given interval time kept t is none v =
    subst (λ o. HasValuation t v ↔ GivesLast interval time o v) (sym is) (λ h. absurd (none v h), λ g. absurd g)
