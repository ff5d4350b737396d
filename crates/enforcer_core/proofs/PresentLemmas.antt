-- Plans that do not look ahead, one after another.
use Rattle.enforcer_core.proofs.Vocabulary.{◌≡◌, ℕ, zero, suc, ◌+◌, ◌<◌, Bool, true, false, List, [], ◌∷◌, length, map, take, get_or, refl, sym, subst, arith, ◌||◌, ◌∙◌, false≢true, AllByRecursion}
use Rattle.enforcer_core.proofs.Vocabulary.{list_any, has_future, is_future, nodes, Plan, LooksAtNow}

both : (x y : Bool) → (x || y) ≡ false → (x ≡ false) × (y ≡ false)
both false y e = (refl, e)
both true y e = absurd (false≢true (sym e))

none_of : (ps : List Plan) → list_any is_future ps ≡ false → AllByRecursion (λ p. is_future p ≡ false) ps
none_of [] e = tt
none_of (p ∷ ps) e = let b = both (is_future p) (list_any is_future ps) e in (b.0, none_of ps b.1)

pub looks_at_now : (b : Bool) (plan : Plan) → b ≡ has_future plan → b ≡ false → LooksAtNow plan
looks_at_now b plan is none = none_of (nodes plan) (sym is ∙ none)

all_next : {X : Type 0} (f : X → Plan) (xs : List X) (k : ℕ) (x : X) → k < length xs → x ≡ get_or xs k x
    → AllByRecursion LooksAtNow (map f (take k xs)) → LooksAtNow (f x)
    → AllByRecursion LooksAtNow (map f (take (suc k) xs))
all_next f [] k x within at all is = absurd (omega (arith, within))
all_next f (y ∷ xs) zero x within at all is = (subst (λ z. LooksAtNow (f z)) at is, tt)
all_next f (y ∷ xs) (suc k) x within at all is = (all.0, all_next f xs k x (omega (arith, within)) at all.1 is)

-- one plan more
pub all_one_more : {X : Type 0} (f : X → Plan) (xs : List X) (k : ℕ) (x : X) → k < length xs → x ≡ get_or xs k x
    → AllByRecursion LooksAtNow (map f (take k xs)) → LooksAtNow (f x)
    → AllByRecursion LooksAtNow (map f (take (k + 1) xs))
all_one_more f xs k x within at all is =
    subst (λ n. AllByRecursion LooksAtNow (map f (take n xs))) {x = suc k} {y = k + 1} (omega arith) (all_next f xs k x within at all is)
