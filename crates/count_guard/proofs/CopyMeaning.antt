-- A copy holds where the formula does with the values of the terms.
use Rattle.count_guard.proofs.Vocabulary.{◌≡◌, ℕ, ◌+◌, ◌-◌, ◌≤◌, ◌<ℤ◌, ◌≤ℤ◌, ◌↔◌, List, Contains, length, map, refl, sym, subst, ◌∙◌, arith, inl, inr, held_since, holds_until, length-map}
use Rattle.count_guard.proofs.Vocabulary.{Interval, Step, step_at, VarId, Value, Var, Valuation, value_of_term, with_values, Formula, True, False, Atom, Equal, Less, AtMost, Not, And, Or}
use Rattle.count_guard.proofs.Vocabulary.{Implies, Exists, Forall, Prev, Next, Once, Historically, Since, Eventually, Always, Until, Sat, IsFree, IsEventAmong, AreSameValues, AreNumbersInOrder, HeldSince}
use Rattle.count_guard.proofs.Vocabulary.{Option, HoldsUntil, HoldsAnywhere, Substitution, bound_count, copy_of, new_variables, term_given, with_new_variables, GivesSameValues, CopiesHoldAlike}
use Rattle.count_guard.proofs.GivenTerms.{below_later, new_below, term_copied, term_kept, terms_below, terms_copied, terms_value}
use Rattle.count_guard.proofs.NumberedVariables.{new_many, new_values}

pub denials : (P Q : Type 0) → P ↔ Q → (P → ⊥) ↔ (Q → ⊥)
denials P Q same = (λ n q. n (same.1 q), λ n p. n (same.0 p))

pub since_same : (trace : List Step) (i : ℕ) (interval : Interval) (F G F' G' : ℕ → Type 0) → ((k : ℕ) → F k ↔ F' k) → ((j : ℕ) → G j ↔ G' j)
    → HeldSince trace i interval F G ↔ HeldSince trace i interval F' G'
since_same trace i interval F G F' G' left right = (
  held_since trace trace i interval F G F' G' (λ k upto. refl) (λ k upto. (left k).0) (λ j upto. (right j).0),
  held_since trace trace i interval F' G' F G (λ k upto. refl) (λ k upto. (left k).1) (λ j upto. (right j).1),
)

pub until_same : (trace : List Step) (i : ℕ) (interval : Interval) (F G F' G' : ℕ → Type 0) → ((k : ℕ) → F k ↔ F' k) → ((j : ℕ) → G j ↔ G' j)
    → HoldsUntil trace i interval F G ↔ HoldsUntil trace i interval F' G'
until_same trace i interval F G F' G' left right = (
  holds_until trace trace i interval F G F' G' refl (λ k. refl) (λ k. (left k).0) (λ j. (right j).0),
  holds_until trace trace i interval F' G' F G refl (λ k. refl) (λ k. (left k).1) (λ j. (right j).1),
)

pub anywhere : (k : ℕ) → HoldsAnywhere k ↔ HoldsAnywhere k
anywhere k = (λ h. h, λ h. h)

-- what is given for a formula is given for a part of it
pub part : (f g : Formula) (given : Substitution) (next more : ℕ) (v w : Valuation) → next ≤ more → ((x : VarId) → IsFree x g → IsFree x f) → GivesSameValues given next f v w
    → GivesSameValues given more g v w
part f g given next more v w le within same = record {
  same = λ x free. same.same x (within x free);
  below = λ x free. below_later next more (given x) le (same.below x (within x free));
}

-- and, with new variables, for the formula below a quantifier
pub under : (f g : Formula) (xs : List VarId) (values : List Value) (given : Substitution) (next : ℕ) (v w : Valuation) → length values ≡ length xs
    → ((x : VarId) → IsFree x g → (Contains xs x → ⊥) → IsFree x f) → GivesSameValues given next f v w
    → GivesSameValues (with_new_variables next xs given) (next + length xs) g (with_values (new_variables next xs) values v) (with_values xs values w)
under f g xs values given next v w long within same =
    let many : length (map Var (new_variables next xs)) ≡ length xs = length-map (new_variables next xs) Var ∙ new_many next xs in
    record {
      same = λ x free. terms_value xs (map Var (new_variables next xs)) values given (with_values (new_variables next xs) values v) w x many (new_values next xs values v long)
          (λ out. term_kept next xs values v (given x) (same.below x (within x free out)) ∙ same.same x (within x free out));
      below = λ x free. terms_below (next + length xs) xs (map Var (new_variables next xs)) given x many (new_below next xs)
          (λ out. below_later next (next + length xs) (given x) (omega arith) (same.below x (within x free out)));
    }

pub both_sides : (R : Option Value → Option Value → Type 0) (a b c d : Option Value) → a ≡ c → b ≡ d → R a b ↔ R c d
both_sides R a b c d left right = (
  λ h. subst (λ o. R o d) left (subst (R a) right h),
  λ h. subst (λ o. R o b) (sym left) (subst (R c) (sym right) h),
)

module _ (at : ℕ) (trace : List Step) where
  pub copied_same : (f : Formula) (given : Substitution) (next : ℕ) (i : ℕ) (v w : Valuation) → GivesSameValues given next f v w
      → Sat trace i v (copy_of at given next f) ↔ Sat trace i w f
  copied_same (True place) given next i v w h = (λ s. s, λ s. s)
  copied_same (False place) given next i v w h = (λ s. s, λ s. s)
  copied_same (Atom place name terms) given next i v w h =
      let same = terms_copied given v w terms (λ x there. h.same x there) in
      (subst (IsEventAmong (step_at trace i).events name) same, subst (IsEventAmong (step_at trace i).events name) (sym same))
  copied_same (Equal place s t) given next i v w h =
      both_sides AreSameValues (value_of_term v (term_given given s)) (value_of_term v (term_given given t)) (value_of_term w s) (value_of_term w t)
      (term_copied given v w s (λ x is. h.same x (inl is))) (term_copied given v w t (λ x is. h.same x (inr is)))
  copied_same (Less place s t) given next i v w h =
      both_sides (AreNumbersInOrder ◌<ℤ◌) (value_of_term v (term_given given s)) (value_of_term v (term_given given t)) (value_of_term w s) (value_of_term w t)
      (term_copied given v w s (λ x is. h.same x (inl is))) (term_copied given v w t (λ x is. h.same x (inr is)))
  copied_same (AtMost place s t) given next i v w h =
      both_sides (AreNumbersInOrder ◌≤ℤ◌) (value_of_term v (term_given given s)) (value_of_term v (term_given given t)) (value_of_term w s) (value_of_term w t)
      (term_copied given v w s (λ x is. h.same x (inl is))) (term_copied given v w t (λ x is. h.same x (inr is)))
  copied_same (Not place f) given next i v w h =
      denials (Sat trace i v (copy_of at given next f)) (Sat trace i w f) (copied_same f given next i v w (part (Not place f) f given next next v w (omega arith) (λ x free. free) h))
  copied_same (And place f g) given next i v w h =
      let left = copied_same f given next i v w (part (And place f g) f given next next v w (omega arith) (λ x free. inl free) h) in
      let right = copied_same g given (next + bound_count f) i v w (part (And place f g) g given next (next + bound_count f) v w (omega arith) (λ x free. inr free) h) in
      (λ s. (left.0 s.0, right.0 s.1), λ s. (left.1 s.0, right.1 s.1))
  copied_same (Or place f g) given next i v w h =
      let left = copied_same f given next i v w (part (Or place f g) f given next next v w (omega arith) (λ x free. inl free) h) in
      let right = copied_same g given (next + bound_count f) i v w (part (Or place f g) g given next (next + bound_count f) v w (omega arith) (λ x free. inr free) h) in
      (λ s p q. s (λ holds. p (left.0 holds)) (λ holds. q (right.0 holds)), λ s p q. s (λ holds. p (left.1 holds)) (λ holds. q (right.1 holds)))
  copied_same (Implies place f g) given next i v w h =
      let left = copied_same f given next i v w (part (Implies place f g) f given next next v w (omega arith) (λ x free. inl free) h) in
      let right = copied_same g given (next + bound_count f) i v w (part (Implies place f g) g given next (next + bound_count f) v w (omega arith) (λ x free. inr free) h) in
      (λ s holds. right.0 (s (left.1 holds)), λ s holds. right.1 (s (left.0 holds)))
  copied_same (Exists place xs f) given next i v w h =
      let inner = λ (values : List Value) (long : length values ≡ length xs).
      copied_same f (with_new_variables next xs given) (next + length xs) i (with_values (new_variables next xs) values v) (with_values xs values w)
      (under (Exists place xs f) f xs values given next v w long (λ x free out. (free, out)) h) in (
        λ s none. s (λ some. let long = some.1 ∙ new_many next xs in none (some.0, long, (inner some.0 long).0 some.2)),
        λ s none. s (λ some. none (some.0, some.1 ∙ sym (new_many next xs), (inner some.0 some.1).1 some.2)),
      )
  copied_same (Forall place xs f) given next i v w h =
      let inner = λ (values : List Value) (long : length values ≡ length xs).
      copied_same f (with_new_variables next xs given) (next + length xs) i (with_values (new_variables next xs) values v) (with_values xs values w)
      (under (Forall place xs f) f xs values given next v w long (λ x free out. (free, out)) h) in (
        λ s values long. (inner values long).0 (s values (long ∙ sym (new_many next xs))),
        λ s values long. let as_many = long ∙ new_many next xs in (inner values as_many).1 (s values as_many),
      )
  copied_same (Prev place interval f) given next i v w h =
      let inner = copied_same f given next (i - 1) v w (part (Prev place interval f) f given next next v w (omega arith) (λ x free. free) h) in
      (λ s. (s.0, s.1, inner.0 s.2), λ s. (s.0, s.1, inner.1 s.2))
  copied_same (Next place interval f) given next i v w h =
      let inner = copied_same f given next (i + 1) v w (part (Next place interval f) f given next next v w (omega arith) (λ x free. free) h) in
      (λ s. (s.0, s.1, inner.0 s.2), λ s. (s.0, s.1, inner.1 s.2))
  copied_same (Once place interval f) given next i v w h =
      let inner = λ (j : ℕ). copied_same f given next j v w (part (Once place interval f) f given next next v w (omega arith) (λ x free. free) h) in
      since_same trace i interval HoldsAnywhere (λ j. Sat trace j v (copy_of at given next f)) HoldsAnywhere (λ j. Sat trace j w f) anywhere inner
  copied_same (Eventually place interval f) given next i v w h =
      let inner = λ (j : ℕ). copied_same f given next j v w (part (Eventually place interval f) f given next next v w (omega arith) (λ x free. free) h) in
      until_same trace i interval HoldsAnywhere (λ j. Sat trace j v (copy_of at given next f)) HoldsAnywhere (λ j. Sat trace j w f) anywhere inner
  copied_same (Historically place interval f) given next i v w h =
      let inner = λ (j : ℕ). copied_same f given next j v w (part (Historically place interval f) f given next next v w (omega arith) (λ x free. free) h) in
      denials (HeldSince trace i interval HoldsAnywhere (λ j. Sat trace j v (copy_of at given next f) → ⊥)) (HeldSince trace i interval HoldsAnywhere (λ j. Sat trace j w f → ⊥))
      (since_same trace i interval HoldsAnywhere (λ j. Sat trace j v (copy_of at given next f) → ⊥) HoldsAnywhere (λ j. Sat trace j w f → ⊥) anywhere
      (λ j. denials (Sat trace j v (copy_of at given next f)) (Sat trace j w f) (inner j)))
  copied_same (Always place interval f) given next i v w h =
      let inner = λ (j : ℕ). copied_same f given next j v w (part (Always place interval f) f given next next v w (omega arith) (λ x free. free) h) in
      denials (HoldsUntil trace i interval HoldsAnywhere (λ j. Sat trace j v (copy_of at given next f) → ⊥)) (HoldsUntil trace i interval HoldsAnywhere (λ j. Sat trace j w f → ⊥))
      (until_same trace i interval HoldsAnywhere (λ j. Sat trace j v (copy_of at given next f) → ⊥) HoldsAnywhere (λ j. Sat trace j w f → ⊥) anywhere
      (λ j. denials (Sat trace j v (copy_of at given next f)) (Sat trace j w f) (inner j)))
  copied_same (Since place interval f g) given next i v w h =
      since_same trace i interval (λ j. Sat trace j v (copy_of at given next f)) (λ j. Sat trace j v (copy_of at given (next + bound_count f) g)) (λ j. Sat trace j w f) (λ j. Sat trace j w g)
      (λ j. copied_same f given next j v w (part (Since place interval f g) f given next next v w (omega arith) (λ x free. inl free) h))
      (λ j. copied_same g given (next + bound_count f) j v w (part (Since place interval f g) g given next (next + bound_count f) v w (omega arith) (λ x free. inr free) h))
  copied_same (Until place interval f g) given next i v w h =
      until_same trace i interval (λ j. Sat trace j v (copy_of at given next f)) (λ j. Sat trace j v (copy_of at given (next + bound_count f) g)) (λ j. Sat trace j w f) (λ j. Sat trace j w g)
      (λ j. copied_same f given next j v w (part (Until place interval f g) f given next next v w (omega arith) (λ x free. inl free) h))
      (λ j. copied_same g given (next + bound_count f) j v w (part (Until place interval f g) g given next (next + bound_count f) v w (omega arith) (λ x free. inr free) h))

pub copies_hold_alike : CopiesHoldAlike
copies_hold_alike at given next f trace i v w h = copied_same at trace f given next i v w h
