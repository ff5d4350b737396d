-- On what the satisfaction of a formula depends.
use Rattle.enf_formula.proofs.Vocabulary.{◌≡◌, ℕ, ◌+◌, ◌-◌, ◌<◌, ◌≤◌, ◌<ℤ◌, ◌≤ℤ◌, Bool, true, false, cond, IsTrue, List, [], ◌∷◌, length, Option, Some, Contains, arith, refl, sym, ap, subst, ◌∙◌, inl}
use Rattle.enf_formula.proofs.Vocabulary.{inr, true≢false, ⊎_elim, tied_itself, eq_by_cmp, is_eq, Contains-append_right, Contains-append_cases, step_at, IsIn, Valuation, value_at, value_of_term}
use Rattle.enf_formula.proofs.Vocabulary.{values_of_terms, with_values, variable_cmp, value_at-insert, variable_cmp_total, Interval, Step, VarId, Value, both_true, value_alike, values_alike, Formula}
use Rattle.enf_formula.proofs.Vocabulary.{True, False, Atom, Equal, Less, AtMost, Not, And, Or, Implies, Exists, Forall, Prev, Next, Once, Historically, Since, Eventually, Always, Until, Sat}
use Rattle.enf_formula.proofs.Vocabulary.{IsEventAmong, AreSameValues, AreNumbersInOrder, HeldSince, HoldsUntil, HoldsAnywhere, AgreeOnFreeVariables, AgreeUpTo, FreeVariablesDecide, PastDecides}
use Rattle.enf_formula.proofs.Vocabulary.{is_past}
use Rattle.enf_formula.proofs.Gathering.{only_one}
use Rattle.std.specs.FinMap as map

pub there_later : {X : Type 0} (x : X) (xs : List X) (y : X) → Contains xs y → Contains (x ∷ xs) y
there_later x xs y h = Contains-append_right (x ∷ []) xs y h

pub first_or_later : {X : Type 0} (x : X) (xs : List X) (y : X) → Contains (x ∷ xs) y → (Contains xs y → ⊥) → y ≡ x
first_or_later x xs y h out = ⊎_elim (λ one. only_one x y one) (λ later. absurd (out later)) (Contains-append_cases (x ∷ []) xs y h)

bound_by : (b : Bool) (value : Value) (p q : Option Value) → (b ≡ false → p ≡ q) → cond b (Some value) p ≡ cond b (Some value) q
bound_by true value p q h = refl
bound_by false value p q h = h refl

-- the variables that are bound have the same values, and the others have those that they had
bound_alike : (xs : List VarId) (values : List Value) (v w : Valuation) (x : VarId) → length values ≡ length xs → ((Contains xs x → ⊥) → value_at v x ≡ value_at w x)
    → value_at (with_values xs values v) x ≡ value_at (with_values xs values w) x
bound_alike [] values v w x same agree = agree (λ there. omega (arith, there.1))
bound_alike (y ∷ xs) [] v w x same agree = absurd (omega arith)
bound_alike (y ∷ xs) (value ∷ values) v w x same agree =
    bound_alike xs values (map.insert v y value) (map.insert w y value) x (omega arith) (λ out.
    value_at-insert v y value x
    ∙ bound_by (eq_by_cmp variable_cmp x y) value (value_at v x) (value_at w x) (λ differs. agree (λ there.
    let is : x ≡ y = first_or_later y xs x there out in
    true≢false (sym (ap is_eq (tied_itself variable_cmp_total x)) ∙ ap (eq_by_cmp variable_cmp x) is ∙ differs)))
    ∙ sym (value_at-insert w y value x))

-- the steps up to a position are at the same times
abbrev pub AtSameTimes : ℕ → List Step → List Step → Type 0
AtSameTimes i trace other = (k : ℕ) → k ≤ i → (step_at trace k).time ≡ (step_at other k).time

pub held_since : (trace other : List Step) (i : ℕ) (interval : Interval) (F G F' G' : ℕ → Type 0) → AtSameTimes i trace other → ((k : ℕ) → k ≤ i → F k → F' k)
    → ((j : ℕ) → j ≤ i → G j → G' j) → HeldSince trace i interval F G → HeldSince other i interval F' G'
held_since trace other i interval F G F' G' times left right held none =
    held (λ some.
    none (some.0, some.1, subst (IsIn interval) (λ n. times i (omega arith) n - times some.0 some.1 n) some.2, right some.0 some.1 some.3, λ k after upto. left k upto (some.4 k after upto)))

pub holds_until : (trace other : List Step) (i : ℕ) (interval : Interval) (F G F' G' : ℕ → Type 0) → length trace ≡ length other
    → ((k : ℕ) → (step_at trace k).time ≡ (step_at other k).time) → ((k : ℕ) → F k → F' k) → ((j : ℕ) → G j → G' j) → HoldsUntil trace i interval F G
    → HoldsUntil other i interval F' G'
holds_until trace other i interval F G F' G' long times left right held none =
    held (λ some. none (
      some.0,
      some.1,
      subst (λ n. some.0 < n) long some.2,
      subst (IsIn interval) (λ n. times some.0 n - times i n) some.3,
      right some.0 some.4,
      λ k from before. left k
          (some.5 k from before),
    ))

pub agree_back : (f : Formula) (v w : Valuation) → AgreeOnFreeVariables f v w → AgreeOnFreeVariables f w v
agree_back f v w agree x free = sym (agree x free)

agree_under : (xs : List VarId) (values : List Value) (f : Formula) (v w : Valuation) → length values ≡ length xs → AgreeOnFreeVariables (Exists 0 xs f) v w
    → AgreeOnFreeVariables f (with_values xs values v) (with_values xs values w)
agree_under xs values f v w same agree x free = bound_alike xs values v w x same (λ out. agree x (free, out))

-- one direction of the law, for any two valuations
by_values : (trace : List Step) (i : ℕ) (v w : Valuation) (f : Formula) → AgreeOnFreeVariables f v w → Sat trace i v f → Sat trace i w f
by_values trace i v w (True place) agree s = tt
by_values trace i v w (False place) agree s = s
by_values trace i v w (Atom place name terms) agree s = subst (IsEventAmong (step_at trace i).events name) (values_alike v w terms agree) s
by_values trace i v w (Equal place s t) agree h =
    subst (λ a. AreSameValues a (value_of_term w t)) (value_alike v w s (λ x is. agree x (inl is))) (subst (AreSameValues (value_of_term v s)) (value_alike v w t (λ x is. agree x (inr is))) h)
by_values trace i v w (Less place s t) agree h =
    subst (λ a. AreNumbersInOrder ◌<ℤ◌ a (value_of_term w t)) (value_alike v w s (λ x is. agree x (inl is)))
    (subst (AreNumbersInOrder ◌<ℤ◌ (value_of_term v s)) (value_alike v w t (λ x is. agree x (inr is))) h)
by_values trace i v w (AtMost place s t) agree h =
    subst (λ a. AreNumbersInOrder ◌≤ℤ◌ a (value_of_term w t)) (value_alike v w s (λ x is. agree x (inl is)))
    (subst (AreNumbersInOrder ◌≤ℤ◌ (value_of_term v s)) (value_alike v w t (λ x is. agree x (inr is))) h)
by_values trace i v w (Not place f) agree s = λ holds. s (by_values trace i w v f (agree_back f v w agree) holds)
by_values trace i v w (And place f g) agree s = (by_values trace i v w f (λ x free. agree x (inl free)) s.0, by_values trace i v w g (λ x free. agree x (inr free)) s.1)
by_values trace i v w (Or place f g) agree s =
    λ left right. s (λ holds. left (by_values trace i v w f (λ x free. agree x (inl free)) holds)) (λ holds. right (by_values trace i v w g (λ x free. agree x (inr free)) holds))
by_values trace i v w (Implies place f g) agree s =
    λ holds. by_values trace i v w g (λ x free. agree x (inr free)) (s (by_values trace i w v f (λ x free. sym (agree x (inl free))) holds))
by_values trace i v w (Exists place xs f) agree s =
    λ none. s (λ some. none (some.0, some.1, by_values trace i (with_values xs some.0 v) (with_values xs some.0 w) f (agree_under xs some.0 f v w some.1 agree) some.2))
by_values trace i v w (Forall place xs f) agree s =
    λ values same. by_values trace i (with_values xs values v) (with_values xs values w) f (agree_under xs values f v w same agree) (s values same)
by_values trace i v w (Prev place interval f) agree s = (s.0, s.1, by_values trace (i - 1) v w f agree s.2)
by_values trace i v w (Next place interval f) agree s = (s.0, s.1, by_values trace (i + 1) v w f agree s.2)
by_values trace i v w (Once place interval f) agree s =
    held_since trace trace i interval HoldsAnywhere (λ j. Sat trace j v f) HoldsAnywhere (λ j. Sat trace j w f) (λ k upto. refl) (λ k upto h. h) (λ j upto h. by_values trace j v w f agree h) s
by_values trace i v w (Historically place interval f) agree s =
    λ held. s (held_since trace trace i interval HoldsAnywhere (λ j. Sat trace j w f → ⊥) HoldsAnywhere (λ j. Sat trace j v f → ⊥) (λ k upto. refl) (λ k upto h. h)
    (λ j upto fails holds. fails (by_values trace j v w f agree holds)) held)
by_values trace i v w (Since place interval f g) agree s =
    held_since trace trace i interval (λ k. Sat trace k v f) (λ j. Sat trace j v g) (λ k. Sat trace k w f) (λ j. Sat trace j w g) (λ k upto. refl)
    (λ k upto h. by_values trace k v w f (λ x free. agree x (inl free)) h) (λ j upto h. by_values trace j v w g (λ x free. agree x (inr free)) h) s
by_values trace i v w (Eventually place interval f) agree s =
    holds_until trace trace i interval HoldsAnywhere (λ j. Sat trace j v f) HoldsAnywhere (λ j. Sat trace j w f) refl (λ k. refl) (λ k h. h) (λ j h. by_values trace j v w f agree h) s
by_values trace i v w (Always place interval f) agree s =
    λ held. s (holds_until trace trace i interval HoldsAnywhere (λ j. Sat trace j w f → ⊥) HoldsAnywhere (λ j. Sat trace j v f → ⊥) refl (λ k. refl) (λ k h. h)
    (λ j fails holds. fails (by_values trace j v w f agree holds)) held)
by_values trace i v w (Until place interval f g) agree s =
    holds_until trace trace i interval (λ k. Sat trace k v f) (λ j. Sat trace j v g) (λ k. Sat trace k w f) (λ j. Sat trace j w g) refl (λ k. refl)
    (λ k h. by_values trace k v w f (λ x free. agree x (inl free)) h) (λ j h. by_values trace j v w g (λ x free. agree x (inr free)) h) s

pub free_variables_decide : FreeVariablesDecide
free_variables_decide trace i v w f agree = (by_values trace i v w f agree, by_values trace i w v f (agree_back f v w agree))

agree_other : (i : ℕ) (trace other : List Step) → AgreeUpTo i trace other → AgreeUpTo i other trace
agree_other i trace other agree k upto = sym (agree k upto)

agree_below : (i j : ℕ) (trace other : List Step) → AgreeUpTo i trace other → j ≤ i → AgreeUpTo j trace other
agree_below i j trace other agree below k upto = agree k (omega arith)

same_times : (i : ℕ) (trace other : List Step) → AgreeUpTo i trace other → AtSameTimes i trace other
same_times i trace other agree k upto = ap (λ s. s.time) (agree k upto)

by_steps : (trace other : List Step) (i : ℕ) (v : Valuation) (f : Formula) → IsTrue (is_past f) → AgreeUpTo i trace other → Sat trace i v f → Sat other i v f
by_steps trace other i v (True place) past agree s = tt
by_steps trace other i v (False place) past agree s = s
by_steps trace other i v (Atom place name terms) past agree s = subst (λ (step : Step). IsEventAmong step.events name (values_of_terms v terms)) (agree i (omega arith)) s
by_steps trace other i v (Equal place s t) past agree h = h
by_steps trace other i v (Less place s t) past agree h = h
by_steps trace other i v (AtMost place s t) past agree h = h
by_steps trace other i v (Not place f) past agree s = λ holds. s (by_steps other trace i v f past (agree_other i trace other agree) holds)
by_steps trace other i v (And place f g) past agree s =
    let p = both_true (is_past f) (is_past g) past in
    (by_steps trace other i v f p.0 agree s.0, by_steps trace other i v g p.1 agree s.1)
by_steps trace other i v (Or place f g) past agree s =
    let p = both_true (is_past f) (is_past g) past in
    λ left right. s (λ holds. left (by_steps trace other i v f p.0 agree holds)) (λ holds. right (by_steps trace other i v g p.1 agree holds))
by_steps trace other i v (Implies place f g) past agree s =
    let p = both_true (is_past f) (is_past g) past in
    λ holds. by_steps trace other i v g p.1 agree (s (by_steps other trace i v f p.0 (agree_other i trace other agree) holds))
by_steps trace other i v (Exists place xs f) past agree s =
    λ none. s (λ some. none (some.0, some.1, by_steps trace other i (with_values xs some.0 v) f past agree some.2))
by_steps trace other i v (Forall place xs f) past agree s = λ values same. by_steps trace other i (with_values xs values v) f past agree (s values same)
by_steps trace other i v (Prev place interval f) past agree s = (
  s.0,
  subst (IsIn interval) (λ n. (agree i (omega arith) n).time - (agree (i - 1) (omega arith) n).time) s.1,
  by_steps trace other (i - 1) v f past
      (agree_below i (i - 1) trace other agree (omega arith)) s.2,
)
by_steps trace other i v (Next place interval f) past agree s = absurd (true≢false (sym past))
by_steps trace other i v (Once place interval f) past agree s =
    held_since trace other i interval HoldsAnywhere (λ j. Sat trace j v f) HoldsAnywhere (λ j. Sat other j v f) (same_times i trace other agree) (λ k upto h. h)
    (λ j upto h. by_steps trace other j v f past (agree_below i j trace other agree upto) h) s
by_steps trace other i v (Historically place interval f) past agree s =
    λ held. s (held_since other trace i interval HoldsAnywhere (λ j. Sat other j v f → ⊥) HoldsAnywhere (λ j. Sat trace j v f → ⊥)
    (λ k upto. sym (same_times i trace other agree k upto)) (λ k upto h. h) (λ j upto fails holds. fails
    (by_steps trace other j v f past (agree_below i j trace other agree upto) holds)) held)
by_steps trace other i v (Since place interval f g) past agree s =
    let p = both_true (is_past f) (is_past g) past in
    held_since trace other i interval (λ k. Sat trace k v f) (λ j. Sat trace j v g) (λ k. Sat other k v f) (λ j. Sat other j v g) (same_times i trace other agree)
    (λ k upto h. by_steps trace other k v f p.0 (agree_below i k trace other agree upto) h) (λ j upto h. by_steps trace other j v g p.1 (agree_below i j trace other agree upto) h) s
by_steps trace other i v (Eventually place interval f) past agree s = absurd (true≢false (sym past))
by_steps trace other i v (Always place interval f) past agree s = absurd (true≢false (sym past))
by_steps trace other i v (Until place interval f g) past agree s = absurd (true≢false (sym past))

pub past_decides : PastDecides
past_decides trace other i v f past agree =
    (by_steps trace other i v f past agree, by_steps other trace i v f past (agree_other i trace other agree))
