-- Whether a formula is safe can be decided, where it can be decided which variables are bound.
use Rattle.enforce_types.proofs.Vocabulary.{◌≡◌, List, [], ◌∷◌, ◌++◌, Option, None, Some, ◌↔◌, ◌⊎◌, inl, inr, ⊎_elim, Contains, refl, ap, subst, Term, Var, Const, VarId, Formula, True, False, Atom}
use Rattle.enforce_types.proofs.Vocabulary.{Equal, Less, AtMost, Not, And, Or, Implies, Exists, Forall, Prev, Next, Once, Historically, Since, Eventually, Always, Until, IsFree, among_or_not, here}
use Rattle.enforce_types.proofs.Vocabulary.{later, first_or_later, none_in_nil, SafeBelow, FreeWithin, FreeUnder, FreeAlike, BoundOrFreeIn, NoneBound, Assigns, IsTest}

-- it holds or it does not
abbrev pub Decided : Type 0 → Type 0
Decided P = P ⊎ (P → ⊥)

abbrev pub AllDecided : (VarId → Type 0) → Type 0
AllDecided B = (x : VarId) → Decided (B x)

both : {P Q : Type 0} → Decided P → Decided Q → Decided (P × Q)
both (inl p) (inl q) = inl (p, q)
both (inl p) (inr n) = inr (λ b. n b.1)
both (inr n) q = inr (λ b. n b.0)

three : {P Q R : Type 0} → Decided P → Decided Q → Decided R → Decided (P × Q × R)
three (inl p) (inl q) (inl r) = inl (p, q, r)
three (inl p) (inl q) (inr n) = inr (λ b. n b.2)
three (inl p) (inr n) r = inr (λ b. n b.1)
three (inr n) q r = inr (λ b. n b.0)

either : {P Q : Type 0} → Decided P → Decided Q → Decided (P ⊎ Q)
either (inl p) q = inl (inl p)
either (inr n) (inl q) = inl (inr q)
either (inr n) (inr m) = inr (λ e. ⊎_elim n m e)

denied : {P : Type 0} → Decided P → Decided (P → ⊥)
denied (inl p) = inr (λ n. n p)
denied (inr n) = inl n

implied : {P Q : Type 0} → Decided P → Decided Q → Decided (P → Q)
implied (inl p) (inl q) = inl (λ _. q)
implied (inl p) (inr n) = inr (λ f. n (f p))
implied (inr n) q = inl (λ p. absurd (n p))

alike : {P Q : Type 0} → P ↔ Q → Decided P → Decided Q
alike same (inl p) = inl (same.0 p)
alike same (inr n) = inr (λ q. n (same.1 q))

is_variable : (s : Term) (x : VarId) → Decided (s ≡ Var x)
is_variable (Var y) x = ⊎_elim (λ there. inl (ap Var (by (first_or_later x y [] there))))
    (λ absent. inr (λ e. absent (subst (λ (z : VarId). Contains (y ∷ []) z) (same y x e) (here y []))))
    (among_or_not (y ∷ []) x)
  where
    same : (y x : VarId) → Var y ≡ Var x → y ≡ x
    same y x e = cc

    by : (y ≡ x) ⊎ Contains [] x → y ≡ x
    by (inl e) = e
    by (inr there) = absurd (none_in_nil x there)
is_variable (Const value) x = inr (λ e. cc)

is_term : (terms : List Term) (x : VarId) → Decided (Contains terms (Var x))
is_term [] x = inr (λ there. none_in_nil (Var x) there)
is_term (s ∷ terms) x = alike (
  λ e. ⊎_elim (λ is. subst (Contains (s ∷ terms)) is (here s terms))
      (λ there. later (Var x) s terms there) e,
  λ there. first_or_later (Var x) s terms there,
)
    (either (is_variable s x) (is_term terms x))

-- whether a variable is free in a formula
pub free_or_not : (x : VarId) (f : Formula) → Decided (IsFree x f)
free_or_not x (True place) = inr (λ n. n)
free_or_not x (False place) = inr (λ n. n)
free_or_not x (Atom place name terms) = is_term terms x
free_or_not x (Equal place s t) = either (is_variable s x) (is_variable t x)
free_or_not x (Less place s t) = either (is_variable s x) (is_variable t x)
free_or_not x (AtMost place s t) = either (is_variable s x) (is_variable t x)
free_or_not x (Not place f) = free_or_not x f
free_or_not x (And place f g) = either (free_or_not x f) (free_or_not x g)
free_or_not x (Or place f g) = either (free_or_not x f) (free_or_not x g)
free_or_not x (Implies place f g) = either (free_or_not x f) (free_or_not x g)
free_or_not x (Exists place xs f) = both (free_or_not x f) (denied (among_or_not xs x))
free_or_not x (Forall place xs f) = both (free_or_not x f) (denied (among_or_not xs x))
free_or_not x (Prev place interval f) = free_or_not x f
free_or_not x (Next place interval f) = free_or_not x f
free_or_not x (Once place interval f) = free_or_not x f
free_or_not x (Historically place interval f) = free_or_not x f
free_or_not x (Since place interval f g) = either (free_or_not x f) (free_or_not x g)
free_or_not x (Eventually place interval f) = free_or_not x f
free_or_not x (Always place interval f) = free_or_not x f
free_or_not x (Until place interval f g) = either (free_or_not x f) (free_or_not x g)

term_within : (B : VarId → Type 0) → AllDecided B → (s : Term) → Decided ((x : VarId) → s ≡ Var x → B x)
term_within B d (Const value) = inl (λ x e. absurd (cc))
term_within B d (Var y) = alike (λ b x e. subst B (same y x e) b, λ each. each y refl) (d y)
  where
    same : (y x : VarId) → Var y ≡ Var x → y ≡ x
    same y x e = cc

terms_within : (B : VarId → Type 0) → AllDecided B → (terms : List Term) → Decided ((x : VarId) → Contains terms (Var x) → B x)
terms_within B d [] = inl (λ x there. absurd (none_in_nil (Var x) there))
terms_within B d (s ∷ terms) =
    alike (
      λ b x there. ⊎_elim (b.0 x) (b.1 x) (first_or_later (Var x) s terms there),
      λ each. (
        λ x is. each x (subst (Contains (s ∷ terms)) is (here s terms)),
        λ x there. each x
            (later (Var x) s terms there),
      ),
    ) (both (term_within B d s) (terms_within B d terms))

pairs_within : (B P Q : VarId → Type 0) → Decided ((x : VarId) → P x → B x) → Decided ((x : VarId) → Q x → B x) → Decided ((x : VarId) → P x ⊎ Q x → B x)
pairs_within B P Q p q = alike (λ b x e. ⊎_elim (b.0 x) (b.1 x) e, λ each. (λ x p. each x (inl p), λ x q. each x (inr q))) (both p q)

-- bound, or one of some variables
abbrev pub Or' : (VarId → Type 0) → List VarId → VarId → Type 0
Or' B xs x = (Contains xs x → ⊥) → B x

or_decided : (B : VarId → Type 0) (xs : List VarId) → AllDecided B → AllDecided (Or' B xs)
or_decided B xs d x = implied (denied (among_or_not xs x)) (d x)

under_within : (B : VarId → Type 0) (xs : List VarId) (f : Formula) → FreeWithin f (Or' B xs) ↔ ((x : VarId) → IsFree x f × (Contains xs x → ⊥) → B x)
under_within B xs f = (λ w x both. w x both.0 both.1, λ w x free absent. w x (free, absent))

-- whether all free variables are bound
pub within_or_not : (f : Formula) (B : VarId → Type 0) → AllDecided B → Decided (FreeWithin f B)
within_or_not (True place) B d = inl (λ x n. absurd n)
within_or_not (False place) B d = inl (λ x n. absurd n)
within_or_not (Atom place name terms) B d = terms_within B d terms
within_or_not (Equal place s t) B d = pairs_within B (λ x. s ≡ Var x) (λ x. t ≡ Var x) (term_within B d s) (term_within B d t)
within_or_not (Less place s t) B d = pairs_within B (λ x. s ≡ Var x) (λ x. t ≡ Var x) (term_within B d s) (term_within B d t)
within_or_not (AtMost place s t) B d = pairs_within B (λ x. s ≡ Var x) (λ x. t ≡ Var x) (term_within B d s) (term_within B d t)
within_or_not (Not place f) B d = within_or_not f B d
within_or_not (And place f g) B d = pairs_within B (λ x. IsFree x f) (λ x. IsFree x g) (within_or_not f B d) (within_or_not g B d)
within_or_not (Or place f g) B d = pairs_within B (λ x. IsFree x f) (λ x. IsFree x g) (within_or_not f B d) (within_or_not g B d)
within_or_not (Implies place f g) B d = pairs_within B (λ x. IsFree x f) (λ x. IsFree x g) (within_or_not f B d) (within_or_not g B d)
within_or_not (Exists place xs f) B d = alike (under_within B xs f) (within_or_not f (Or' B xs) (or_decided B xs d))
within_or_not (Forall place xs f) B d = alike (under_within B xs f) (within_or_not f (Or' B xs) (or_decided B xs d))
within_or_not (Prev place interval f) B d = within_or_not f B d
within_or_not (Next place interval f) B d = within_or_not f B d
within_or_not (Once place interval f) B d = within_or_not f B d
within_or_not (Historically place interval f) B d = within_or_not f B d
within_or_not (Since place interval f g) B d = pairs_within B (λ x. IsFree x f) (λ x. IsFree x g) (within_or_not f B d) (within_or_not g B d)
within_or_not (Eventually place interval f) B d = within_or_not f B d
within_or_not (Always place interval f) B d = within_or_not f B d
within_or_not (Until place interval f g) B d = pairs_within B (λ x. IsFree x f) (λ x. IsFree x g) (within_or_not f B d) (within_or_not g B d)

-- whether each of some variables is free
pub all_free_or_not : (xs : List VarId) (g : Formula) → Decided ((x : VarId) → Contains xs x → IsFree x g)
all_free_or_not [] g = inl (λ x there. absurd (none_in_nil x there))
all_free_or_not (y ∷ xs) g =
    alike (
      λ b x there. ⊎_elim (λ is. subst (λ (z : VarId). IsFree z g) is b.0) (λ later. b.1 x later)
          (first_or_later x y xs there),
      λ each. (each y (here y xs), λ x there. each x (later x y xs there)),
    )
    (both (free_or_not y g) (all_free_or_not xs g))

pub with_decided : (B : VarId → Type 0) (g : Formula) → AllDecided B → AllDecided (BoundOrFreeIn B g)
with_decided B g d x = either (d x) (free_or_not x g)

nothing_decided : AllDecided NoneBound
nothing_decided x = inr (λ n. n)

-- whether the variables that are not bound are free in both or in none
alike_or_not : (B : VarId → Type 0) (g h : Formula) → AllDecided B → Decided (FreeAlike B g h)
alike_or_not B g h d =
    alike (
      λ b x absent. (λ free. ⊎_elim (λ at. absurd (absent at)) (λ f. f) (b.0 x free), λ free. ⊎_elim (λ at. absurd (absent at)) (λ f. f) (b.1 x free)),
      λ same. (λ x free. ⊎_elim (λ at. inl at) (λ absent. inr ((same x absent).0 free)) (d x), λ x free. ⊎_elim (λ at. inl at) (λ absent. inr ((same x absent).1 free)) (d x)),
    ) (both (within_or_not g (BoundOrFreeIn B h) (with_decided B h d)) (within_or_not h (BoundOrFreeIn B g) (with_decided B g d)))

under_or_not : (xs : List VarId) (f : Formula) (B : VarId → Type 0) → AllDecided B → Decided (FreeUnder xs f B)
under_or_not xs f B d = within_or_not f (Or' B xs) (or_decided B xs d)

assigns_or_not : (B : VarId → Type 0) (s t : Term) → AllDecided B → Decided (Assigns B s t)
assigns_or_not B (Var x) (Var y) d = both (denied (d x)) (d y)
assigns_or_not B (Var x) (Const value) d = denied (d x)
assigns_or_not B (Const value) t d = inr (λ n. n)

four : {P Q R S : Type 0} → Decided P → Decided Q → Decided R → Decided S → Decided (P × Q × R × S)
four (inl p) q r s = alike (λ b. (p, b.0, b.1, b.2), λ b. (b.1, b.2, b.3)) (three q r s)
four (inr n) q r s = inr (λ b. n b.0)

five : {P Q R S T : Type 0} → Decided P → Decided Q → Decided R → Decided S → Decided T → Decided (P × Q × R × S × T)
five (inl p) q r s t = alike (λ b. (p, b.0, b.1, b.2, b.3), λ b. (b.1, b.2, b.3, b.4)) (four q r s t)
five (inr n) q r s t = inr (λ b. n b.0)

-- whether a formula can be evaluated
pub safe_or_not : (m : Option (List VarId)) (f : Formula) (B : VarId → Type 0) → AllDecided B → Decided (SafeBelow m f B)
safe_or_not None (True place) B d = inl tt
safe_or_not None (False place) B d = inl tt
safe_or_not None (Atom place name terms) B d = inl tt
safe_or_not None (Equal place s t) B d = either (within_or_not (Equal place s t) B d) (either (assigns_or_not B s t d) (assigns_or_not B t s d))
safe_or_not None (Less place s t) B d = within_or_not (Less place s t) B d
safe_or_not None (AtMost place s t) B d = within_or_not (AtMost place s t) B d
safe_or_not None (Not place g) B d = both (within_or_not g B d) (safe_or_not None g B d)
safe_or_not None (And place g h) B d = both (safe_or_not None g B d) (safe_or_not None h (BoundOrFreeIn B g) (with_decided B g d))
safe_or_not None (Or place g h) B d = three (safe_or_not None g B d) (safe_or_not None h B d) (alike_or_not B g h d)
safe_or_not None (Implies place g h) B d = four (within_or_not g B d) (within_or_not h B d) (safe_or_not None g B d) (safe_or_not None h B d)
safe_or_not None (Exists place xs g) B d = safe_or_not None g B d
safe_or_not None (Forall place xs g) B d = safe_or_not (Some xs) g B d
safe_or_not None (Prev place interval g) B d = safe_or_not None g NoneBound nothing_decided
safe_or_not None (Once place interval g) B d = safe_or_not None g NoneBound nothing_decided
safe_or_not None (Historically place interval (Not p h)) B d = both (within_or_not h B d) (safe_or_not None h NoneBound nothing_decided)
safe_or_not None (Historically place interval (Implies p a b)) B d =
    five (within_or_not a B d) (within_or_not b B d) (safe_or_not None a NoneBound nothing_decided)
    (within_or_not b (BoundOrFreeIn NoneBound a) (with_decided NoneBound a nothing_decided))
    (safe_or_not None b (BoundOrFreeIn NoneBound a) (with_decided NoneBound a nothing_decided))
safe_or_not None (Historically place interval g) B d = three (within_or_not g B d) (within_or_not g NoneBound nothing_decided) (safe_or_not None g NoneBound nothing_decided)
safe_or_not None (Since place interval g h) B d =
    three (safe_or_not None h NoneBound nothing_decided)
    (within_or_not g (BoundOrFreeIn NoneBound h) (with_decided NoneBound h nothing_decided))
    (safe_or_not None g (BoundOrFreeIn NoneBound h) (with_decided NoneBound h nothing_decided))
safe_or_not None (Next place interval g) B d = inr (λ n. n)
safe_or_not None (Eventually place interval g) B d = inr (λ n. n)
safe_or_not None (Always place interval g) B d = inr (λ n. n)
safe_or_not None (Until place interval g h) B d = inr (λ n. n)
safe_or_not (Some xs) (Forall place ys g) B d = safe_or_not (Some (xs ++ ys)) g B d
safe_or_not (Some xs) (Implies place g h) B d =
    five (under_or_not xs (Implies place g h) B d) (all_free_or_not xs g) (safe_or_not None g B d)
    (safe_or_not None h (BoundOrFreeIn B g) (with_decided B g d))
    (within_or_not h (BoundOrFreeIn B g) (with_decided B g d))
safe_or_not (Some xs) (Not place g) B d = both (under_or_not xs g B d) (safe_or_not None g B d)
safe_or_not (Some xs) g B d = inr (λ n. n)

pub test_or_not : (f : Formula) (scope : List VarId) → Decided (IsTest f (Contains scope))
test_or_not f scope = both (safe_or_not None f (Contains scope) (among_or_not scope)) (within_or_not f (Contains scope) (among_or_not scope))
