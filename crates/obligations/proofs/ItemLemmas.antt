-- What holds of each item of a list: that no node looks ahead, and one item more.
use Rattle.obligations.proofs.Vocabulary.{◌≡◌, ℕ, zero, suc, ◌+◌, ◌<◌, Bool, true, false, List, [], ◌∷◌, length, map, take, get_or, refl, sym, subst, arith, ◌||◌, ◌∙◌, false≢true, AllByRecursion}
use Rattle.obligations.proofs.Vocabulary.{list_any, is_future, Plan}

-- no node of a list is one on the future
pub none_ahead : (b : Bool) (ps : List Plan) → b ≡ list_any is_future ps → b ≡ false → AllByRecursion (λ p. is_future p ≡ false) ps
none_ahead b ps is none = over ps (sym is ∙ none)
  where
    both : (x y : Bool) → (x || y) ≡ false → (x ≡ false) × (y ≡ false)
    both false y e = (refl, e)
    both true y e = absurd (false≢true (sym e))

    over : (ps : List Plan) → list_any is_future ps ≡ false → AllByRecursion (λ p. is_future p ≡ false) ps
    over [] e = tt
    over (p ∷ ps) e = let b = both (is_future p) (list_any is_future ps) e in (b.0, over ps b.1)

all_next : {X Y : Type 0} (P : Y → Type 0) (f : X → Y) (xs : List X) (k : ℕ) (x : X) → k < length xs → x ≡ get_or xs k x
    → AllByRecursion P (map f (take k xs)) → P (f x) → AllByRecursion P (map f (take (suc k) xs))
all_next P f [] k x within at all is = absurd (omega (arith, within))
all_next P f (y ∷ xs) zero x within at all is = (subst (λ z. P (f z)) at is, tt)
all_next P f (y ∷ xs) (suc k) x within at all is = (all.0, all_next P f xs k x (omega (arith, within)) at all.1 is)

pub all_one_more : {X Y : Type 0} (P : Y → Type 0) (f : X → Y) (xs : List X) (k : ℕ) (x : X) → k < length xs → x ≡ get_or xs k x
    → AllByRecursion P (map f (take k xs)) → P (f x) → AllByRecursion P (map f (take (k + 1) xs))
all_one_more P f xs k x within at all is =
    subst (λ n. AllByRecursion P (map f (take n xs))) {x = suc k} {y = k + 1} (omega arith) (all_next P f xs k x within at all is)
