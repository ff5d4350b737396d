-- Each rule gives one answer, where the rules below it give one each.
use Rattle.enforce_types.proofs.Vocabulary.{◌≡◌, ℕ, zero, suc, Bool, true, false, List, [], ◌∷◌, ◌++◌, Option, None, Some, Ok, Err, inl, inr, Contains, refl, ap, ◌∙◌, NameId, VarId, Formula, Atom}
use Rattle.enforce_types.proofs.Vocabulary.{Not, And, Or, Implies, Exists, Forall, Next, Eventually, Always, Until, formula_place, IsFree, among_or_not, Safe, IsTest, Plan, Either, TestOr, Guarded}
use Rattle.enforce_types.proofs.Vocabulary.{Answer, IsRefusedAt, LeafWhere, OverOne, OverTwo, WithEnd, FromNow, OneOfTwo, IsGuardFor, ImplicationAnswer, Exclusion, Elab, Aim, Up, Down, UpForAll}
use Rattle.enforce_types.proofs.Vocabulary.{Refusal, Unguarded, NotEnforceable, IsOnlyAnswer}
use Rattle.enforce_types.proofs.SafeDecisions.{Decided, test_or_not, safe_or_not, all_free_or_not}

abbrev pub IsOne : (Answer → Type 0) → Type 0
IsOne R = (answer : Answer) × IsOnlyAnswer R answer

exactly : {R : Answer → Type 0} (answer : Answer) → R answer → ((other : Answer) → R other → other ≡ answer) → IsOne R
exactly answer holds only = (answer, record { holds = holds; only = only })

one_refused : (place : ℕ) → IsOne (IsRefusedAt place)
one_refused place = exactly (Err (NotEnforceable place)) refl (λ other is. is)

one_leaf : (may : Bool) (place : ℕ) (leaf : Plan) → IsOne (LeafWhere may place leaf)
one_leaf true place leaf = exactly (Ok leaf) refl (λ other is. is)
one_leaf false place leaf = one_refused place

one_end : (place : ℕ) (high : Option ℕ) (within : ℕ → Answer → Type 0) → ((n : ℕ) → IsOne (within n)) → IsOne (WithEnd place high within)
one_end place None within one = one_refused place
one_end place (Some zero) within one = one_refused place
one_end place (Some (suc n)) within one = one (suc n)

one_from_now : (place low : ℕ) (high : Option ℕ) (within : ℕ → Answer → Type 0) → ((n : ℕ) → IsOne (within n)) → IsOne (FromNow place low high within)
one_from_now place zero high within one = one_end place high within one
one_from_now place (suc low) high within one = one_refused place

-- a node over one plan
abbrev over : (Plan → Plan) → Answer → Answer
over node (Ok p) = Ok (node p)
over node (Err r) = Err r

one_over : (one : Answer → Type 0) (node : Plan → Plan) → IsOne one → IsOne (OverOne one node)
one_over one node found = exactly (over node found.0) (there found.0 found.1.holds) (λ other is. agree other is)
  where
    there : (a : Answer) → one a → OverOne one node (over node a)
    there (Ok p) h = OverOne.operand_made p h refl
    there (Err r) h = OverOne.operand_refused r h refl

    agree : (other : Answer) → OverOne one node other → other ≡ over node found.0
    agree other (OverOne.operand_made p h is) = is ∙ ap (over node) (found.1.only (Ok p) h)
    agree other (OverOne.operand_refused r h is) = is ∙ ap (over node) (found.1.only (Err r) h)

-- a node over two plans
abbrev over_both : (Plan → Plan → Plan) → Answer → Answer → Answer
over_both node (Ok l) (Ok r) = Ok (node l r)
over_both node (Ok l) (Err y) = Err y
over_both node (Err x) b = Err x

one_over_two : (first second : Answer → Type 0) (node : Plan → Plan → Plan) → IsOne first → IsOne second → IsOne (OverTwo first second node)
one_over_two first second node a b = exactly (over_both node a.0 b.0) (there a.0 b.0 a.1.holds b.1.holds) (λ other is. agree other is)
  where
    there : (x y : Answer) → first x → second y → OverTwo first second node (over_both node x y)
    there (Ok l) (Ok r) h k = OverTwo.two_made l r h k refl
    there (Ok l) (Err y) h k = OverTwo.second_refused l y h k refl
    there (Err x) y h k = OverTwo.first_refused x h refl

    agree : (other : Answer) → OverTwo first second node other → other ≡ over_both node a.0 b.0
    agree other (OverTwo.two_made l r h k is) = is ∙ ap (λ x. over_both node x (Ok r)) (a.1.only (Ok l) h) ∙ ap (over_both node a.0) (b.1.only (Ok r) k)
    agree other (OverTwo.first_refused x h is) = is ∙ ap (λ y. over_both node y b.0) (a.1.only (Err x) h)
    agree other (OverTwo.second_refused l y h k is) = is ∙ ap (λ x. over_both node x (Err y)) (a.1.only (Ok l) h) ∙ ap (over_both node a.0) (b.1.only (Err y) k)

-- which of two formulas is made true
abbrev chosen : {S T : Type 0} → Formula → Formula → Decided S → Decided T → Answer → Answer → Answer
chosen l r (inl t) d a (Ok p) = Ok (TestOr 0 0 l p)
chosen l r (inr n) d (Ok o) (Ok p) = Ok (Either 0 o p)
chosen l r (inr n) d (Err x) (Ok p) = Err x
chosen l r d (inl t) (Ok o) (Err y) = Ok (TestOr 0 0 r o)
chosen l r d (inl t) (Err x) (Err y) = Err x
chosen l r d (inr n) a (Err y) = Err y

one_of_two : (scope : List VarId) (l r : Formula) (left right : Answer → Type 0) → IsOne left → IsOne right → IsOne (OneOfTwo scope l r left right)
one_of_two scope l r left right a b = exactly (chosen l r (test_or_not l scope) (test_or_not r scope) a.0 b.0)
    (there (test_or_not l scope) (test_or_not r scope) a.0 b.0 a.1.holds b.1.holds)
    (λ other is. agree (test_or_not l scope) (test_or_not r scope) other is)
  where
    there : (d : Decided (IsTest l (Contains scope))) (e : Decided (IsTest r (Contains scope))) (x y : Answer) → left x → right y → OneOfTwo scope l r left right (chosen l r d e x y)
    there (inl t) e x (Ok p) h k = OneOfTwo.left_test p k t refl
    there (inr n) e (Ok o) (Ok p) h k = OneOfTwo.either_made p o k n h refl
    there (inr n) e (Err x) (Ok p) h k = OneOfTwo.left_refused p x k n h refl
    there d (inl t) (Ok o) (Err y) h k = OneOfTwo.right_test y o k t h refl
    there d (inl t) (Err x) (Err y) h k = OneOfTwo.both_refused y x k t h refl
    there d (inr n) x (Err y) h k = OneOfTwo.right_refused y k n refl

    on_left : (d : Decided (IsTest l (Contains scope))) (e : Decided (IsTest r (Contains scope))) (x : Answer)
        (p : Plan) → IsTest l (Contains scope) → ◌≡◌ {A = Answer} (Ok (TestOr 0 0 l p))
        (chosen l r d e x (Ok p))
    on_left (inl t) e x p h = refl
    on_left (inr n) e x p h = absurd (n h)

    on_either : (d : Decided (IsTest l (Contains scope))) (e : Decided (IsTest r (Contains scope))) (o p : Plan)
        → (IsTest l (Contains scope) → ⊥) → ◌≡◌ {A = Answer} (Ok (Either 0 o p))
        (chosen l r d e (Ok o) (Ok p))
    on_either (inl t) e o p n = absurd (n t)
    on_either (inr m) e o p n = refl

    on_none : (d : Decided (IsTest l (Contains scope))) (e : Decided (IsTest r (Contains scope))) (x : Refusal)
        (p : Plan) → (IsTest l (Contains scope) → ⊥) → ◌≡◌ {A = Answer} (Err x)
        (chosen l r d e (Err x) (Ok p))
    on_none (inl t) e x p n = absurd (n t)
    on_none (inr m) e x p n = refl

    on_right : (d : Decided (IsTest l (Contains scope))) (e : Decided (IsTest r (Contains scope))) (o : Plan)
        (y : Refusal) → IsTest r (Contains scope) → ◌≡◌ {A = Answer} (Ok (TestOr 0 0 r o))
        (chosen l r d e (Ok o) (Err y))
    on_right d (inl t) o y h = refl
    on_right d (inr n) o y h = absurd (n h)

    on_both : (d : Decided (IsTest l (Contains scope))) (e : Decided (IsTest r (Contains scope))) (x y : Refusal)
        → IsTest r (Contains scope) → ◌≡◌ {A = Answer} (Err x) (chosen l r d e (Err x) (Err y))
    on_both d (inl t) x y h = refl
    on_both d (inr n) x y h = absurd (n h)

    on_refused : (d : Decided (IsTest l (Contains scope))) (e : Decided (IsTest r (Contains scope))) (x : Answer)
        (y : Refusal) → (IsTest r (Contains scope) → ⊥)
        → ◌≡◌ {A = Answer} (Err y) (chosen l r d e x (Err y))
    on_refused d (inl t) x y n = absurd (n t)
    on_refused d (inr m) x y n = refl

    agree : (d : Decided (IsTest l (Contains scope))) (e : Decided (IsTest r (Contains scope))) (other : Answer) → OneOfTwo scope l r left right other → other ≡ chosen l r d e a.0 b.0
    agree d e other (OneOfTwo.left_test p k t is) = is ∙ on_left d e a.0 p t ∙ ap (chosen l r d e a.0) (b.1.only (Ok p) k)
    agree d e other (OneOfTwo.either_made p o k n h is) = is ∙ on_either d e o p n ∙ ap (λ x. chosen l r d e x (Ok p)) (a.1.only (Ok o) h) ∙ ap (chosen l r d e a.0) (b.1.only (Ok p) k)
    agree d e other (OneOfTwo.left_refused p x k n h is) = is ∙ on_none d e x p n ∙ ap (λ y. chosen l r d e y (Ok p)) (a.1.only (Err x) h) ∙ ap (chosen l r d e a.0) (b.1.only (Ok p) k)
    agree d e other (OneOfTwo.right_refused y k n is) = is ∙ on_refused d e a.0 y n ∙ ap (chosen l r d e a.0) (b.1.only (Err y) k)
    agree d e other (OneOfTwo.right_test y o k t h is) = is ∙ on_right d e o y t ∙ ap (λ x. chosen l r d e x (Err y)) (a.1.only (Ok o) h) ∙ ap (chosen l r d e a.0) (b.1.only (Err y) k)
    agree d e other (OneOfTwo.both_refused y x k t h is) = is ∙ on_both d e x y t ∙ ap (λ z. chosen l r d e z (Err y)) (a.1.only (Err x) h) ∙ ap (chosen l r d e a.0) (b.1.only (Err y) k)

guards_or_not : (scope xs : List VarId) (g : Formula) → Decided (IsGuardFor scope xs g)
guards_or_not scope xs g = by (safe_or_not None g (Contains scope) (among_or_not scope)) (all_free_or_not xs g)
  where
    by : Decided (Safe g (Contains scope)) → Decided ((x : VarId) → Contains xs x → IsFree x g) → Decided (IsGuardFor scope xs g)
    by (inl s) (inl t) = inl (record { safe = s; tells = t })
    by (inl s) (inr n) = inr (λ b. n b.tells)
    by (inr n) t = inr (λ b. n b.safe)

none_or_some : (xs : List VarId) → Decided (xs ≡ [])
none_or_some [] = inl refl
none_or_some (x ∷ xs) = inr (λ e. cc)

-- what an exclusion gives
abbrev excluded : {S : Type 0} → ℕ → List VarId → Formula → Decided S → Answer → Answer
excluded place xs g d (Err r) = Err r
excluded place xs g (inl t) (Ok p) = Ok (Guarded 0 xs 0 g p)
excluded place xs g (inr n) (Ok p) = Err (Unguarded place)

one_exclusion : (place : ℕ) (scope xs : List VarId) (g : Formula) (down : List VarId → Answer → Type 0) → IsOne (down (scope ++ xs)) → IsOne (Exclusion place scope xs g down)
one_exclusion place scope xs g down a = exactly (excluded place xs g (guards_or_not scope xs g) a.0)
    (there (guards_or_not scope xs g) a.0 a.1.holds) (λ other is. agree (guards_or_not scope xs g) other is)
  where
    there : (d : Decided (IsGuardFor scope xs g)) (x : Answer) → down (scope ++ xs) x → Exclusion place scope xs g down (excluded place xs g d x)
    there d (Err r) h = Exclusion.exclusion_refused r h refl
    there (inl t) (Ok p) h = Exclusion.exclusion_guarded p h t refl
    there (inr n) (Ok p) h = Exclusion.exclusion_unguarded p h n refl

    on_guarded : (d : Decided (IsGuardFor scope xs g)) (p : Plan) → IsGuardFor scope xs g → ◌≡◌ {A = Answer} (Ok (Guarded 0 xs 0 g p)) (excluded place xs g d (Ok p))
    on_guarded (inl t) p h = refl
    on_guarded (inr n) p h = absurd (n h)

    on_unguarded : (d : Decided (IsGuardFor scope xs g)) (p : Plan) → (IsGuardFor scope xs g → ⊥) → ◌≡◌ {A = Answer} (Err (Unguarded place)) (excluded place xs g d (Ok p))
    on_unguarded (inl t) p n = absurd (n t)
    on_unguarded (inr m) p n = refl

    agree : (d : Decided (IsGuardFor scope xs g)) (other : Answer) → Exclusion place scope xs g down other → other ≡ excluded place xs g d a.0
    agree d other (Exclusion.exclusion_refused r h is) = is ∙ ap (excluded place xs g d) (a.1.only (Err r) h)
    agree d other (Exclusion.exclusion_unguarded p h n is) = is ∙ on_unguarded d p n ∙ ap (excluded place xs g d) (a.1.only (Ok p) h)
    agree d other (Exclusion.exclusion_guarded p h t is) = is ∙ on_guarded d p t ∙ ap (excluded place xs g d) (a.1.only (Ok p) h)

-- what an implication gives, by whether g guards, whether xs is empty, whether h is a test, and what is answered for h
-- made true and for g made false without and with xs in scope
abbrev implied : {S T U : Type 0} → ℕ → ℕ → List VarId → Formula → Formula → Decided S → Decided T → Decided U → Answer → Answer → Answer → Answer
implied place arrow xs g h (inl guards) e t (Ok p) a b = Ok (Guarded 0 xs 0 g p)
implied place arrow xs g h (inr n) (inr m) t (Ok p) a b = Err (Unguarded place)
implied place arrow xs g h (inr n) (inl none) t (Ok p) (Ok q) b = Ok (Either 0 q p)
implied place arrow xs g h (inr n) (inl none) t (Ok p) (Err x) b = Err x
implied place arrow xs g h d e (inr n) (Err r) a b = Err r
implied place arrow xs g h d e (inl t) (Err r) a (Err x) = Err x
implied place arrow xs g h (inl guards) e (inl t) (Err r) a (Ok q) = Ok (Guarded 0 xs 0 (And arrow g (Not (formula_place h) h)) q)
implied place arrow xs g h (inr n) (inr m) (inl t) (Err r) a (Ok q) = Err (Unguarded place)
implied place arrow xs g h (inr n) (inl none) (inl t) (Err r) a (Ok q) = Ok (TestOr 0 0 h q)

module _ (place arrow : ℕ) (scope xs : List VarId) (g h : Formula) (down up : List VarId → Answer → Type 0) where
  abbrev IsGuard : Type 0
  IsGuard = IsGuardFor scope xs g

  abbrev IsNone : Type 0
  IsNone = xs ≡ []

  abbrev Tests : Type 0
  Tests = IsTest h (Contains (scope ++ xs))

  abbrev given : Decided IsGuard → Decided IsNone → Decided Tests → Answer → Answer → Answer → Answer
  given d e t u a b = implied place arrow xs g h d e t u a b

  there : (d : Decided IsGuard) (e : Decided IsNone) (t : Decided Tests) (u a b : Answer) → up (scope ++ xs) u
      → down scope a → down (scope ++ xs) b → ImplicationAnswer place arrow scope xs g h down up
      (given d e t u a b)
  there (inl guards) e t (Ok p) a b k i j = ImplicationAnswer.implication_guarded p k guards refl
  there (inr n) (inr m) t (Ok p) a b k i j = ImplicationAnswer.implication_unguarded p k n m refl
  there (inr n) (inl none) t (Ok p) (Ok q) b k i j = ImplicationAnswer.implication_either p q k n none i refl
  there (inr n) (inl none) t (Ok p) (Err x) b k i j = ImplicationAnswer.premise_refused p x k n none i refl
  there d e (inr n) (Err r) a b k i j = ImplicationAnswer.conclusion_refused r k n refl
  there d e (inl t) (Err r) a (Err x) k i j = ImplicationAnswer.implication_refused r x k t j refl
  there (inl guards) e (inl t) (Err r) a (Ok q) k i j = ImplicationAnswer.test_guarded r q k t j guards refl
  there (inr n) (inr m) (inl t) (Err r) a (Ok q) k i j = ImplicationAnswer.test_unguarded r q k t j n m refl
  there (inr n) (inl none) (inl t) (Err r) a (Ok q) k i j = ImplicationAnswer.implication_tested r q k t j n none refl

  on_guarded : (d : Decided IsGuard) (e : Decided IsNone) (t : Decided Tests) (p : Plan) (a b : Answer) → IsGuard → ◌≡◌ {A = Answer} (Ok (Guarded 0 xs 0 g p)) (given d e t (Ok p) a b)
  on_guarded (inl guards) e t p a b h = refl
  on_guarded (inr n) e t p a b h = absurd (n h)

  on_unguarded : (d : Decided IsGuard) (e : Decided IsNone) (t : Decided Tests) (p : Plan) (a b : Answer)
      → (IsGuard → ⊥) → (IsNone → ⊥) → ◌≡◌ {A = Answer} (Err (Unguarded place))
      (given d e t (Ok p) a b)
  on_unguarded (inl guards) e t p a b n m = absurd (n guards)
  on_unguarded (inr n) (inl none) t p a b k m = absurd (m none)
  on_unguarded (inr n) (inr o) t p a b k m = refl

  on_either : (d : Decided IsGuard) (e : Decided IsNone) (t : Decided Tests) (p q : Plan) (b : Answer) → (IsGuard → ⊥) → IsNone → ◌≡◌ {A = Answer} (Ok (Either 0 q p)) (given d e t (Ok p) (Ok q) b)
  on_either (inl guards) e t p q b n none = absurd (n guards)
  on_either (inr n) (inl none) t p q b k m = refl
  on_either (inr n) (inr o) t p q b k m = absurd (o m)

  on_left_refused : (d : Decided IsGuard) (e : Decided IsNone) (t : Decided Tests) (p : Plan) (x : Refusal)
      (b : Answer) → (IsGuard → ⊥) → IsNone → ◌≡◌ {A = Answer} (Err x) (given d e t (Ok p) (Err x) b)
  on_left_refused (inl guards) e t p x b n none = absurd (n guards)
  on_left_refused (inr n) (inl none) t p x b k m = refl
  on_left_refused (inr n) (inr o) t p x b k m = absurd (o m)

  on_right_refused : (d : Decided IsGuard) (e : Decided IsNone) (t : Decided Tests) (r : Refusal) (a b : Answer) → (Tests → ⊥) → ◌≡◌ {A = Answer} (Err r) (given d e t (Err r) a b)
  on_right_refused d e (inl t) r a b n = absurd (n t)
  on_right_refused d e (inr m) r a b n = refl

  on_both_refused : (d : Decided IsGuard) (e : Decided IsNone) (t : Decided Tests) (r x : Refusal) (a : Answer) → Tests → ◌≡◌ {A = Answer} (Err x) (given d e t (Err r) a (Err x))
  on_both_refused d e (inl t) r x a h = refl
  on_both_refused d e (inr m) r x a h = absurd (m h)

  on_test_guarded : (d : Decided IsGuard) (e : Decided IsNone) (t : Decided Tests) (r : Refusal) (a : Answer)
      (q : Plan) → Tests → IsGuard → ◌≡◌ {A = Answer} (Ok
      (Guarded 0 xs 0 (And arrow g (Not (formula_place h) h)) q)) (given d e t (Err r) a (Ok q))
  on_test_guarded (inl guards) e (inl t) r a q h k = refl
  on_test_guarded (inr n) e (inl t) r a q h k = absurd (n k)
  on_test_guarded d e (inr m) r a q h k = absurd (m h)

  on_test_unguarded : (d : Decided IsGuard) (e : Decided IsNone) (t : Decided Tests) (r : Refusal) (a : Answer)
      (q : Plan) → Tests → (IsGuard → ⊥) → (IsNone → ⊥)
      → ◌≡◌ {A = Answer} (Err (Unguarded place)) (given d e t (Err r) a (Ok q))
  on_test_unguarded (inl guards) e (inl t) r a q h n m = absurd (n guards)
  on_test_unguarded (inr o) (inl none) (inl t) r a q h n m = absurd (m none)
  on_test_unguarded (inr o) (inr k) (inl t) r a q h n m = refl
  on_test_unguarded d e (inr k) r a q h n m = absurd (k h)

  on_test : (d : Decided IsGuard) (e : Decided IsNone) (t : Decided Tests) (r : Refusal) (a : Answer) (q : Plan)
      → Tests → (IsGuard → ⊥) → IsNone → ◌≡◌ {A = Answer} (Ok (TestOr 0 0 h q))
      (given d e t (Err r) a (Ok q))
  on_test (inl guards) e (inl t) r a q h n m = absurd (n guards)
  on_test (inr o) (inl none) (inl t) r a q h n m = refl
  on_test (inr o) (inr k) (inl t) r a q h n m = absurd (k m)
  on_test d e (inr k) r a q h n m = absurd (k h)

  one_implication : IsOne (up (scope ++ xs)) → IsOne (down scope) → IsOne (down (scope ++ xs)) → IsOne (ImplicationAnswer place arrow scope xs g h down up)
  one_implication u a b = exactly (given d e t u.0 a.0 b.0) (there d e t u.0 a.0 b.0 u.1.holds a.1.holds b.1.holds) agree
    where
      d : Decided IsGuard
      d = guards_or_not scope xs g

      e : Decided IsNone
      e = none_or_some xs

      t : Decided Tests
      t = test_or_not h (scope ++ xs)

      made : (x : Answer) (o : Answer) → up (scope ++ xs) x → o ≡ given d e t x a.0 b.0 → o ≡ given d e t u.0 a.0 b.0
      made x o k is = is ∙ ap (λ y. given d e t y a.0 b.0) (u.1.only x k)

      without : (x y : Answer) (o : Answer) → up (scope ++ xs) x → down scope y → o ≡ given d e t x y b.0 → o ≡ given d e t u.0 a.0 b.0
      without x y o k j is = made x o k (is ∙ ap (λ z. given d e t x z b.0) (a.1.only y j))

      within : (x y : Answer) (o : Answer) → up (scope ++ xs) x → down (scope ++ xs) y → o ≡ given d e t x a.0 y → o ≡ given d e t u.0 a.0 b.0
      within x y o k j is = made x o k (is ∙ ap (λ z. given d e t x a.0 z) (b.1.only y j))

      agree : (other : Answer) → ImplicationAnswer place arrow scope xs g h down up other → other ≡ given d e t u.0 a.0 b.0
      agree other (ImplicationAnswer.implication_guarded p k guards is) = made (Ok p) other k (is ∙ on_guarded d e t p a.0 b.0 guards)
      agree other (ImplicationAnswer.implication_unguarded p k n m is) = made (Ok p) other k (is ∙ on_unguarded d e t p a.0 b.0 n m)
      agree other (ImplicationAnswer.implication_either p q k n none i is) = without (Ok p) (Ok q) other k i (is ∙ on_either d e t p q b.0 n none)
      agree other (ImplicationAnswer.premise_refused p x k n none i is) = without (Ok p) (Err x) other k i (is ∙ on_left_refused d e t p x b.0 n none)
      agree other (ImplicationAnswer.conclusion_refused r k n is) = made (Err r) other k (is ∙ on_right_refused d e t r a.0 b.0 n)
      agree other (ImplicationAnswer.implication_refused r x k h j is) = within (Err r) (Err x) other k j (is ∙ on_both_refused d e t r x a.0 h)
      agree other (ImplicationAnswer.test_guarded r q k h j guards is) = within (Err r) (Ok q) other k j (is ∙ on_test_guarded d e t r a.0 q h guards)
      agree other (ImplicationAnswer.test_unguarded r q k h j n m is) = within (Err r) (Ok q) other k j (is ∙ on_test_unguarded d e t r a.0 q h n m)
      agree other (ImplicationAnswer.implication_tested r q k h j n none is) = within (Err r) (Ok q) other k j (is ∙ on_test d e t r a.0 q h n none)

pub one : (c s : NameId → Bool) (aim : Aim) (f : Formula) (scope : List VarId) → IsOne (Elab c s aim f scope)
one c s Up (Atom place name terms) scope = one_leaf (c name) place _
one c s Up (Not place g) scope = one c s Down g scope
one c s Up (And place g h) scope = one_over_two _ _ _ (one c s Up g scope) (one c s Up h scope)
one c s Up (Or place g h) scope = one_of_two scope g h _ _ (one c s Up g scope) (one c s Up h scope)
one c s Up (Implies place g h) scope = one_implication place place scope [] g h (Elab c s Down g) (Elab c s Up h) (one c s Up h (scope ++ [])) (one c s Down g scope) (one c s Down g (scope ++ []))
one c s Up (Forall place xs g) scope = one c s (UpForAll place xs) g scope
one c s Up (Eventually place interval g) scope = one_end place interval.high _ (λ high. one_over _ _ (one c s Up g scope))
one c s Up (Always place interval g) scope = one_end place interval.high _ (λ high. one_over _ _ (one c s Up g scope))
one c s Up (Until place interval g h) scope = one_end place interval.high _ (λ high. one_over_two _ _ _ (one c s Up g scope) (one c s Up h scope))
one c s Up (Next place interval g) scope = one_from_now place interval.low interval.high _ (λ high. one_over _ _ (one c s Up g scope))
one c s Down (Atom place name terms) scope = one_leaf (s name) place _
one c s Down (Not place g) scope = one c s Up g scope
one c s Down (And place g h) scope = one_of_two scope _ _ _ _ (one c s Down g scope) (one c s Down h scope)
one c s Down (Or place g h) scope = one_over_two _ _ _ (one c s Down g scope) (one c s Down h scope)
one c s Down (Implies place g h) scope = one_over_two _ _ _ (one c s Up g scope) (one c s Down h scope)
one c s Down (Exists place xs g) scope = one_exclusion place scope xs g _ (one c s Down g (scope ++ xs))
one c s Down (Eventually place interval g) scope = one_end place interval.high _ (λ high. one_over _ _ (one c s Down g scope))
one c s Down (Always place interval g) scope = one_end place interval.high _ (λ high. one_over _ _ (one c s Down g scope))
one c s (UpForAll first xs) (Forall place ys g) scope = one c s (UpForAll first (xs ++ ys)) g scope
one c s (UpForAll first xs) (Implies place g h) scope = one_implication first place scope xs g h (Elab c s Down g)
    (Elab c s Up h) (one c s Up h (scope ++ xs)) (one c s Down g scope) (one c s Down g (scope ++ xs))
one c s (UpForAll first xs) (Not place g) scope = one_exclusion first scope xs g _ (one c s Down g (scope ++ xs))
one c s (UpForAll first xs) f scope = exactly (Err (Unguarded first)) refl (λ other is. is)
one c s aim f scope = one_refused _
