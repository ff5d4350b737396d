-- What holds depends on the values of the free variables alone.
use Rattle.monitorable_guard.proofs.Vocabulary.{◌≡◌, ◌+◌, ◌<ℤ◌, ◌≤ℤ◌, ◌⊎◌, ◌↔◌, inl, inr, ⊎_elim, List, [], ◌∷◌, ◌++◌, length, take, drop, Contains, refl, sym, subst, ◌∙◌, arith, length-append}
use Rattle.monitorable_guard.proofs.Vocabulary.{length-take, length-drop, take-append-drop, Valuation, value_at, value_of_term, with_values, Event, VarId, Value, value_alike, values_alike, Formula}
use Rattle.monitorable_guard.proofs.Vocabulary.{True, False, Atom, Equal, Less, AtMost, Not, And, Or, Implies, Exists, Forall, Prev, Next, Once, Historically, Since, Eventually, Always, Until, IsFree}
use Rattle.monitorable_guard.proofs.Vocabulary.{IsEventAmong, AreSameValues, AreNumbersInOrder, AgreeOnFreeVariables, agree_back as turn, first_or_later, none_in_nil, among_or_not, value_at-bound}
use Rattle.monitorable_guard.proofs.Vocabulary.{value_at-other, same_or_other, Relation, HasValuation, FitOperators, HoldsNow, FirstHas, outermost, tables_beyond}
use Rattle.std.specs.FinMap as finite

pub fit_front : (fs gs : List Formula) (tables : List Relation) → FitOperators (fs ++ gs) tables → FitOperators fs tables
fit_front [] gs tables fit = tt
fit_front (f ∷ fs) gs [] fit = absurd fit
fit_front (f ∷ fs) gs (t ∷ tables) fit = (fit.0, fit_front fs gs tables fit.1)

pub fit_back : (fs gs : List Formula) (tables : List Relation) → FitOperators (fs ++ gs) tables → FitOperators gs (drop (length fs) tables)
fit_back [] gs tables fit = fit
fit_back (f ∷ fs) gs [] fit = absurd fit
fit_back (f ∷ fs) gs (t ∷ tables) fit = fit_back fs gs tables fit.1

-- with the same values for some variables, two valuations agree on these, and where they did
pub with_same : (xs : List VarId) (values : List Value) (v w : Valuation) (x : VarId) → length values ≡ length xs → Contains xs x ⊎ (value_at v x ≡ value_at w x)
    → value_at (with_values xs values v) x ≡ value_at (with_values xs values w) x
with_same [] values v w x long either = ⊎_elim (λ there. absurd (none_in_nil x there)) (λ e. e) either
with_same (y ∷ xs) [] v w x long either = absurd (omega (arith, long))
with_same (y ∷ xs) (value ∷ values) v w x long either =
    with_same xs values (finite.insert v y value) (finite.insert w y value) x (omega (arith, long))
    (⊎_elim
    (λ same. inr (value_at-bound v y x value same ∙ sym (value_at-bound w y x value same)))
    (λ other. ⊎_elim
    (λ there. ⊎_elim (λ same. absurd (other same)) (λ later. inl later) (first_or_later x y xs there))
    (λ e. inr (value_at-other v y x value other ∙ e ∙ sym (value_at-other w y x value other)))
    either)
    (same_or_other y x))

-- the values of some variables, and those of others
with_both : (xs : List VarId) (front : List Value) (ys : List VarId) (back : List Value) (v : Valuation) → length front ≡ length xs → with_values (xs ++ ys) (front ++ back) v
    ≡ with_values ys back (with_values xs front v)
with_both [] [] ys back v long = refl
with_both [] (value ∷ front) ys back v long = absurd (omega (arith, long))
with_both (x ∷ xs) [] ys back v long = absurd (omega (arith, long))
with_both (x ∷ xs) (value ∷ front) ys back v long = with_both xs front ys back (finite.insert v x value) (omega (arith, long))

pub nested_alike : (P : Valuation → Type 0) (xs ys : List VarId) (v : Valuation)
    → ((values : List Value) → length values ≡ length (xs ++ ys) → P (with_values (xs ++ ys) values v))
    ↔ ((front : List Value) → length front ≡ length xs → (back : List Value) → length back ≡ length ys → P (with_values ys back (with_values xs front v)))
nested_alike P xs ys v = (
  λ each front long back long_back. subst P (with_both xs front ys back v long) (each (front ++ back) (length-append front back ∙ (λ i. long i + long_back i) ∙ sym (length-append xs ys))),
  λ each values long.
      let front_long : length (take (length xs) values) ≡ length xs = omega (arith, length-take (length xs) values, length-append xs ys, long) in
      let back_long : length (drop (length xs) values) ≡ length ys = omega (arith, length-drop (length xs) values, length-append xs ys, long) in
      subst (λ l. P (with_values (xs ++ ys) l v)) (take-append-drop (length xs) values)
      (subst P (sym (with_both xs (take (length xs) values) ys (drop (length xs) values) v front_long)) (each (take (length xs) values) front_long (drop (length xs) values) back_long)),
)

pub has_agrees : (t : Relation) (v w : Valuation) → ((x : VarId) → Contains t.columns x → value_at v x ≡ value_at w x) → HasValuation t v → HasValuation t w
has_agrees t v w agree has = (has.0, has.1, λ x there. sym (agree x there) ∙ has.2 x there)

pub first_agrees : (f : Formula) (tables : List Relation) (v w : Valuation) → FitOperators (f ∷ []) tables → AgreeOnFreeVariables f v w → FirstHas tables v → FirstHas tables w
first_agrees f [] v w fit agree has = absurd has
first_agrees f (t ∷ tables) v w fit agree has = has_agrees t v w (λ x there. agree x ((fit.0 x).0 there)) has

below : (xs : List VarId) (values : List Value) (v w : Valuation) (g : Formula) → length values ≡ length xs
    → ((x : VarId) → IsFree x g × (Contains xs x → ⊥) → value_at v x ≡ value_at w x) → AgreeOnFreeVariables g (with_values xs values v) (with_values xs values w)
below xs values v w g long agree x free = with_same xs values v w x long (⊎_elim (λ there. inl there) (λ absent. inr (agree x (free, absent))) (among_or_not xs x))

module _ (events : List Event) where
  pub now_agrees : (tables : List Relation) (f : Formula) (v w : Valuation) → FitOperators (outermost f) tables → AgreeOnFreeVariables f v w → HoldsNow events tables v f → HoldsNow events tables w f
  now_agrees tables (True place) v w fit agree h = h
  now_agrees tables (False place) v w fit agree h = h
  now_agrees tables (Atom place name terms) v w fit agree h = subst (IsEventAmong events name) (values_alike v w terms agree) h
  now_agrees tables (Equal place s t) v w fit agree h = subst (λ a. AreSameValues a (value_of_term w t)) (value_alike v w s (λ x is. agree x (inl is)))
      (subst (AreSameValues (value_of_term v s)) (value_alike v w t (λ x is. agree x (inr is))) h)
  now_agrees tables (Less place s t) v w fit agree h = subst (λ a. AreNumbersInOrder ◌<ℤ◌ a (value_of_term w t)) (value_alike v w s (λ x is. agree x (inl is)))
      (subst (AreNumbersInOrder ◌<ℤ◌ (value_of_term v s)) (value_alike v w t (λ x is. agree x (inr is))) h)
  now_agrees tables (AtMost place s t) v w fit agree h = subst (λ a. AreNumbersInOrder ◌≤ℤ◌ a (value_of_term w t)) (value_alike v w s (λ x is. agree x (inl is)))
      (subst (AreNumbersInOrder ◌≤ℤ◌ (value_of_term v s)) (value_alike v w t (λ x is. agree x (inr is))) h)
  now_agrees tables (Not place g) v w fit agree h = λ n. h (now_agrees tables g w v fit (turn g v w agree) n)
  now_agrees tables (And place g h) v w fit agree both = (
    now_agrees tables g v w (fit_front (outermost g) (outermost h) tables fit) (λ x free. agree x (inl free)) both.0,
    now_agrees (tables_beyond g tables) h v w (fit_back (outermost g) (outermost h) tables fit) (λ x free. agree x (inr free)) both.1,
  )
  now_agrees tables (Or place g h) v w fit agree either = λ l r. either
      (λ n. l (now_agrees tables g v w (fit_front (outermost g) (outermost h) tables fit) (λ x free. agree x (inl free)) n))
      (λ n. r (now_agrees (tables_beyond g tables) h v w (fit_back (outermost g) (outermost h) tables fit) (λ x free. agree x (inr free)) n))
  now_agrees tables (Implies place g h) v w fit agree each = λ n.
      now_agrees (tables_beyond g tables) h v w (fit_back (outermost g) (outermost h) tables fit) (λ x free. agree x (inr free))
      (each (now_agrees tables g w v (fit_front (outermost g) (outermost h) tables fit) (λ x free. sym (agree x (inl free))) n))
  now_agrees tables (Exists place xs g) v w fit agree h = λ none. h (λ some. none (
    some.0,
    some.1,
    now_agrees tables g (with_values xs some.0 v) (with_values xs some.0 w) fit
        (below xs some.0 v w g some.1 agree) some.2,
  ))
  now_agrees tables (Forall place xs g) v w fit agree each = λ values long. now_agrees tables g (with_values xs values v) (with_values xs values w) fit (below xs values v w g long agree)
      (each values long)
  now_agrees tables (Prev place interval g) v w fit agree h = first_agrees (Prev place interval g) tables v w fit agree h
  now_agrees tables (Once place interval g) v w fit agree h = first_agrees (Once place interval g) tables v w fit agree h
  now_agrees tables (Historically place interval g) v w fit agree h = λ has. h (first_agrees (Historically place interval g) tables w v fit (λ x free. sym (agree x free)) has)
  now_agrees tables (Since place interval g h) v w fit agree has = first_agrees (Since place interval g h) tables v w fit agree has
  now_agrees tables (Next place interval g) v w fit agree h = h
  now_agrees tables (Eventually place interval g) v w fit agree h = h
  now_agrees tables (Always place interval g) v w fit agree h = h
  now_agrees tables (Until place interval g h) v w fit agree has = has
