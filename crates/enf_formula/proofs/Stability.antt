-- Each formula holds where its denial is false: the connectives and operators are classical, and the rest can be decided.
use Rattle.enf_formula.proofs.Vocabulary.{◌≡◌, ℕ, ◌+◌, ◌-◌, ◌≤◌, ◌<ℤ◌, ◌≤ℤ◌, ℤ, Bool, true, false, List, Option, None, Some, Contains, arith, refl, ⊎_elim, clash_ℤ, cases_lt, by_lt_z}
use Rattle.enf_formula.proofs.Vocabulary.{Decides-contains, Decides-by_or, not_from_Decides, list_any, step_at, Step, value_eq, event_eq, value_eq-Decides, event_eq-Decides, IsIn, IsUpTo, Event}
use Rattle.enf_formula.proofs.Vocabulary.{NameId, Interval, Value, Num, Text, Formula, True, False, Atom, Equal, Less, AtMost, Not, And, Or, Implies, Exists, Forall, Prev, Next, Once, Historically}
use Rattle.enf_formula.proofs.Vocabulary.{Since, Eventually, Always, Until, Sat, IsEventAmong, AreSameValues, AreNumbersInOrder, IsStable, Valuation, with_values, value_of_term, values_of_terms}
use Rattle.std.proofs.Common.{Decides}

denial_stable : (P : Type 0) → IsStable (P → ⊥)
denial_stable P h p = h (λ n. n p)

never_stable : IsStable ⊥
never_stable h = h (λ x. x)

decided_stable : (P : Type 0) (r : Bool) → Decides r P → IsStable P
decided_stable P true d h = d.0 refl
decided_stable P false d h = absurd (h (not_from_Decides false d refl))

both_stable : (P Q : Type 0) → IsStable P → IsStable Q → IsStable (P × Q)
both_stable P Q p q h = (p (λ n. h (λ b. n b.0)), q (λ n. h (λ b. n b.1)))

all_three_stable : (P Q R : Type 0) → IsStable P → IsStable Q → IsStable R → IsStable (P × Q × R)
all_three_stable P Q R p q r h = (p (λ n. h (λ b. n b.0)), q (λ n. h (λ b. n b.1)), r (λ n. h (λ b. n b.2)))

at_most_stable : (a b : ℕ) → IsStable (a ≤ b)
at_most_stable a b h = ⊎_elim (λ above. absurd (h (λ le. omega arith))) (λ le. le) (cases_lt b a)

int_below_stable : (x y : ℤ) → IsStable (x <ℤ y)
int_below_stable x y h = by_lt_z x y (λ lt. lt) (λ le. absurd (h (λ lt. clash_ℤ lt le)))

int_at_most_stable : (x y : ℤ) → IsStable (x ≤ℤ y)
int_at_most_stable x y h = by_lt_z y x (λ lt. absurd (h (λ le. clash_ℤ lt le))) (λ le. le)

contains_decides : (events : List Event) (event : Event) → Decides (list_any (λ e. event_eq e event) events) (Contains events event)
contains_decides events event =
    Decides-contains events event _ (Decides-by_or (λ e. event_eq e event) (λ e. e ≡ event) (list_any (λ e. event_eq e event)) (λ e. event_eq-Decides e event) refl (λ _ _. refl) events)

-- where the test fails, the event is not there
pub absent : (events : List Event) (event : Event) → list_any (λ e. event_eq e event) events ≡ false → Contains events event → ⊥
absent events event fails = not_from_Decides _ (contains_decides events event) fails

contains_stable : (events : List Event) (event : Event) → IsStable (Contains events event)
contains_stable events event = decided_stable _ _ (contains_decides events event)

among_stable : (events : List Event) (name : NameId) (args : Option (List Value)) → IsStable (IsEventAmong events name args)
among_stable events name None = never_stable
among_stable events name (Some args) = contains_stable events (record { name = name; args = args })

same_stable : (s t : Option Value) → IsStable (AreSameValues s t)
same_stable None t = never_stable
same_stable (Some a) None = never_stable
same_stable (Some a) (Some b) = decided_stable _ (value_eq a b) (value_eq-Decides a b)

ordered_stable : (R : ℤ → ℤ → Type 0) → ((x y : ℤ) → IsStable (R x y)) → (s t : Option Value) → IsStable (AreNumbersInOrder R s t)
ordered_stable R each None t = never_stable
ordered_stable R each (Some (Num x)) None = never_stable
ordered_stable R each (Some (Num x)) (Some (Num y)) = each x y
ordered_stable R each (Some (Num x)) (Some (Text b)) = never_stable
ordered_stable R each (Some (Text a)) t = never_stable

up_to_stable : (high : Option ℕ) (difference : ℕ) → IsStable (IsUpTo high difference)
up_to_stable None difference = λ _. tt
up_to_stable (Some high) difference = at_most_stable difference high

in_stable : (interval : Interval) (difference : ℕ) → IsStable (IsIn interval difference)
in_stable interval difference = both_stable _ _ (at_most_stable interval.low difference) (up_to_stable interval.high difference)

pub Sat_stable : (trace : List Step) (i : ℕ) (v : Valuation) (f : Formula) → IsStable (Sat trace i v f)
Sat_stable trace i v (True place) = λ _. tt
Sat_stable trace i v (False place) = never_stable
Sat_stable trace i v (Atom place name terms) = among_stable (step_at trace i).events name (values_of_terms v terms)
Sat_stable trace i v (Equal place s t) = same_stable (value_of_term v s) (value_of_term v t)
Sat_stable trace i v (Less place s t) = ordered_stable ◌<ℤ◌ int_below_stable (value_of_term v s) (value_of_term v t)
Sat_stable trace i v (AtMost place s t) = ordered_stable ◌≤ℤ◌ int_at_most_stable (value_of_term v s) (value_of_term v t)
Sat_stable trace i v (Not place f) = denial_stable _
Sat_stable trace i v (And place f g) = both_stable _ _ (Sat_stable trace i v f) (Sat_stable trace i v g)
Sat_stable trace i v (Or place f g) = λ h left right. h (λ either. either left right)
Sat_stable trace i v (Implies place f g) = λ h holds. Sat_stable trace i v g (λ fails. h (λ implies. fails (implies holds)))
Sat_stable trace i v (Exists place xs f) = denial_stable _
Sat_stable trace i v (Forall place xs f) = λ h values same_length. Sat_stable trace i (with_values xs values v) f (λ fails. h (λ each. fails (each values same_length)))
Sat_stable trace i v (Prev place interval f) = all_three_stable _ _ _ (at_most_stable _ _) (in_stable interval _) (Sat_stable trace (i - 1) v f)
Sat_stable trace i v (Next place interval f) = all_three_stable _ _ _ (at_most_stable _ _) (in_stable interval _) (Sat_stable trace (i + 1) v f)
Sat_stable trace i v (Once place interval f) = denial_stable _
Sat_stable trace i v (Historically place interval f) = denial_stable _
Sat_stable trace i v (Since place interval f g) = denial_stable _
Sat_stable trace i v (Eventually place interval f) = denial_stable _
Sat_stable trace i v (Always place interval f) = denial_stable _
Sat_stable trace i v (Until place interval f g) = denial_stable _
