-- The guards and tests of a plan are safe where they stand.
use Rattle.enforce_types.proofs.Vocabulary.{◌≡◌, ℕ, Bool, IsTrue, List, [], ◌++◌, Option, None, Some, Ok, ◌⊎◌, inl, inr, ⊎_elim, Contains, ap, subst, ◌∙◌, append-nil, NameId, Term, Var, Const, VarId}
use Rattle.enforce_types.proofs.Vocabulary.{Formula, True, False, Atom, Equal, Less, AtMost, Not, And, Or, Implies, Exists, Forall, Prev, Next, Once, Historically, Since, Eventually, Always, Until}
use Rattle.enforce_types.proofs.Vocabulary.{formula_place, is_past, among_or_not, Contains-append, variable_is, safe_past, Safe, SafeBelow, IsTest, BoundOrFreeIn, Assigns, Plan, Guarded, Answer}
use Rattle.enforce_types.proofs.Vocabulary.{LeafWhere, OverOne, OverTwo, OneOfTwo, IsGuardFor, ImplicationAnswer, Exclusion, Elab, Aim, Up, Down, UpForAll, GuardsAreSafe}
use Rattle.enforce_types.proofs.SafeDecisions.{AllDecided, with_decided}
use Rattle.enforce_types.proofs.MadePlans.{by_exclusion, by_implication, by_leaf, by_one, by_one_of_two, by_two, not_refused, with_end, from_now}

abbrev Within : (VarId → Type 0) → (VarId → Type 0) → Type 0
Within B C = (x : VarId) → B x → C x

with_more : (B C : VarId → Type 0) (g : Formula) → Within B C → Within (BoundOrFreeIn B g) (BoundOrFreeIn C g)
with_more B C g more x e = ⊎_elim (λ b. inl (more x b)) (λ f. inr f) e

-- where more variables are bound, an equation assigns or compares
assigns_more : (B C : VarId → Type 0) (s t : Term) → AllDecided C → Within B C → Assigns B s t → ((x : VarId) → (s ≡ Var x) ⊎ (t ≡ Var x) → C x) ⊎ Assigns C s t
assigns_more B C (Var x) (Var y) d more a = ⊎_elim (λ bound. inl
    (λ z e. ⊎_elim (λ is. subst C (variable_is x z is) bound) (λ is. subst C (variable_is y z is) (more y a.1))
    e)) (λ n. inr (n, more y a.1)) (d x)
assigns_more B C (Var x) (Const value) d more a = ⊎_elim (λ bound. inl (λ z e. ⊎_elim (λ is. subst C (variable_is x z is) bound) (λ is. absurd (cc)) e)) (λ n. inr n) (d x)
assigns_more B C (Const value) t d more a = absurd a

equal_more : (B C : VarId → Type 0) (place : ℕ) (s t : Term) → AllDecided C → Within B C → Safe (Equal place s t) B → Safe (Equal place s t) C
equal_more B C place s t d more (inl within) = inl (λ x free. more x (within x free))
equal_more B C place s t d more (inr (inl first)) = ⊎_elim (λ within. inl within) (λ a. inr (inl a)) (assigns_more B C s t d more first)
equal_more B C place s t d more (inr (inr second)) = ⊎_elim (λ within. inl (λ x e. within x (⊎_elim (λ l. inr l) (λ r. inl r) e))) (λ a. inr (inr a)) (assigns_more B C t s d more second)

-- what is safe stays so where more variables are bound
pub safe_more : (m : Option (List VarId)) (f : Formula) (B C : VarId → Type 0) → AllDecided C → Within B C → SafeBelow m f B → SafeBelow m f C
safe_more None (True place) B C d more s = tt
safe_more None (False place) B C d more s = tt
safe_more None (Atom place name terms) B C d more s = tt
safe_more None (Equal place l r) B C d more s = equal_more B C place l r d more s
safe_more None (Less place l r) B C d more s = λ x free. more x (s x free)
safe_more None (AtMost place l r) B C d more s = λ x free. more x (s x free)
safe_more None (Not place g) B C d more s = (λ x free. more x (s.0 x free), safe_more None g B C d more s.1)
safe_more None (And place g h) B C d more s = (safe_more None g B C d more s.0, safe_more None h (BoundOrFreeIn B g) (BoundOrFreeIn C g) (with_decided C g d) (with_more B C g more) s.1)
safe_more None (Or place g h) B C d more s = (safe_more None g B C d more s.0, safe_more None h B C d more s.1, λ x n. s.2 x (λ b. n (more x b)))
safe_more None (Implies place g h) B C d more s = (λ x free. more x (s.0 x free), λ x free. more x (s.1 x free), safe_more None g B C d more s.2, safe_more None h B C d more s.3)
safe_more None (Exists place xs g) B C d more s = safe_more None g B C d more s
safe_more None (Forall place xs g) B C d more s = safe_more (Some xs) g B C d more s
safe_more None (Prev place interval g) B C d more s = s
safe_more None (Once place interval g) B C d more s = s
safe_more None (Historically place interval (Not p h)) B C d more s = (λ x free. more x (s.0 x free), s.1)
safe_more None (Historically place interval (Implies p a b)) B C d more s = (λ x free. more x (s.0 x free), λ x free. more x (s.1 x free), s.2, s.3, s.4)
safe_more None (Historically place interval g) B C d more s = (λ x free. more x (s.0 x free), s.1, s.2)
safe_more None (Since place interval g h) B C d more s = s
safe_more None (Next place interval g) B C d more s = s
safe_more None (Eventually place interval g) B C d more s = s
safe_more None (Always place interval g) B C d more s = s
safe_more None (Until place interval g h) B C d more s = s
safe_more (Some xs) (Forall place ys g) B C d more s = safe_more (Some (xs ++ ys)) g B C d more s
safe_more (Some xs) (Implies place g h) B C d more s = (
  λ x free absent. more x (s.0 x free absent),
  s.1,
  safe_more None g B C d more s.2,
  safe_more None h
      (BoundOrFreeIn B g) (BoundOrFreeIn C g) (with_decided C g d) (with_more B C g more) s.3,
  λ x free. with_more
      B C g more x (s.4 x free),
)
safe_more (Some xs) (Not place g) B C d more s = (λ x free absent. more x (s.0 x free absent), safe_more None g B C d more s.1)
safe_more (Some xs) g B C d more s = absurd s

safe_leaf : (may : Bool) (place : ℕ) (l p : Plan) (scope : List VarId) → LeafWhere may place l (Ok p) → GuardsAreSafe l scope → GuardsAreSafe p scope
safe_leaf may place l p scope e safe = by_leaf (λ (r : Plan). GuardsAreSafe r scope) p may place l e safe

safe_over : (one : Answer → Type 0) (node : Plan → Plan) (p : Plan) (scope : List VarId) → OverOne one node (Ok p) → ((q : Plan) → one (Ok q) → GuardsAreSafe (node q) scope) → GuardsAreSafe p scope
safe_over one node p scope e each = by_one (λ (r : Plan). GuardsAreSafe r scope) p one node e each

safe_over_two : (first second : Answer → Type 0) (node : Plan → Plan → Plan) (p : Plan) (scope : List VarId)
    → OverTwo first second node (Ok p) → ((l r : Plan) → first (Ok l) → second (Ok r)
    → GuardsAreSafe (node l r) scope) → GuardsAreSafe p scope
safe_over_two first second node p scope e each = by_two (λ (r : Plan). GuardsAreSafe r scope) p first second node e each

past_test : (f : Formula) (scope : List VarId) → IsTest f (Contains scope) → IsTrue (is_past f)
past_test f scope t = safe_past None f (Contains scope) t.0

safe_one_of_two : (scope : List VarId) (l r : Formula) (left right : Answer → Type 0) (p : Plan)
    → OneOfTwo scope l r left right (Ok p) → ((q : Plan) → left (Ok q) → GuardsAreSafe q scope)
    → ((q : Plan) → right (Ok q) → GuardsAreSafe q scope) → GuardsAreSafe p scope
safe_one_of_two scope l r left right p e ls rs =
    by_one_of_two (λ (made : Plan). GuardsAreSafe made scope) p scope l r left right e
    (λ q k test. ((test, past_test l scope test), rs q k)) (λ o q h k. (tt, ls o h, rs q k))
    (λ q h test. ((test, past_test r scope test), ls q h))

safe_guarded : (scope xs : List VarId) (g : Formula) (q : Plan) → IsGuardFor scope xs g → GuardsAreSafe q (scope ++ xs) → GuardsAreSafe (Guarded 0 xs 0 g q) scope
safe_guarded scope xs g q guards safe = ((guards.safe, guards.tells, safe_past None g (Contains scope) guards.safe), safe)

safe_exclusion : (place : ℕ) (scope xs : List VarId) (g : Formula) (down : List VarId → Answer → Type 0)
    (p : Plan) → Exclusion place scope xs g down (Ok p)
    → ((W : List VarId) (q : Plan) → down W (Ok q) → GuardsAreSafe q W) → GuardsAreSafe p scope
safe_exclusion place scope xs g down p e downs =
    by_exclusion (λ (made : Plan). GuardsAreSafe made scope) p place scope xs g down e (λ q h guards. safe_guarded scope xs g q guards (downs (scope ++ xs) q h))

-- a test under the variables in scope and those of a guard is safe after the guard
guard_and_test : (arrow place : ℕ) (scope xs : List VarId) (g h : Formula) → IsGuardFor scope xs g → IsTest h (Contains (scope ++ xs)) → IsGuardFor scope xs (And arrow g (Not place h))
guard_and_test arrow place scope xs g h guards test =
    let B : VarId → Type 0 = BoundOrFreeIn (Contains scope) g in
    let more : (x : VarId) → Contains (scope ++ xs) x → B x = λ x there. ⊎_elim (λ at. inl at) (λ here. inr (guards.tells x here)) (Contains-append scope xs x there) in
    record {
      safe = (guards.safe, (λ x free. more x (test.1 x free), safe_more None h (Contains (scope ++ xs)) B (with_decided (Contains scope) g (among_or_not scope)) more test.0));
      tells = λ x there. inl (guards.tells x there);
    }

safe_implication : (place arrow : ℕ) (scope xs : List VarId) (g h : Formula)
    (down up : List VarId → Answer → Type 0) (p : Plan)
    → ImplicationAnswer place arrow scope xs g h down up (Ok p)
    → ((W : List VarId) (q : Plan) → down W (Ok q) → GuardsAreSafe q W)
    → ((W : List VarId) (q : Plan) → up W (Ok q) → GuardsAreSafe q W)
    → ((q : Plan) → xs ≡ [] → GuardsAreSafe q (scope ++ xs) → GuardsAreSafe q scope)
    → (IsTest h (Contains (scope ++ xs)) → xs ≡ [] → IsTest h (Contains scope)) → GuardsAreSafe p scope
safe_implication place arrow scope xs g h down up p e downs ups same alike =
    by_implication (λ (made : Plan). GuardsAreSafe made scope) p place arrow scope xs g h down up e
    (λ q k guards. safe_guarded scope xs g q guards (ups (scope ++ xs) q k))
    (λ o q i k none. (tt, downs scope o i, same q none (ups (scope ++ xs) q k)))
    (λ q j guards test. safe_guarded scope xs (And arrow g (Not (formula_place h) h)) q (guard_and_test arrow (formula_place h) scope xs g h guards test) (downs (scope ++ xs) q j))
    (λ q j test none. ((alike test none, past_test h (scope ++ xs) test), same q none (downs (scope ++ xs) q j)))

no_more : (scope xs : List VarId) → xs ≡ [] → scope ++ xs ≡ scope
no_more scope xs none = ap (λ ys. scope ++ ys) none ∙ append-nil scope

implication_safe : (place arrow : ℕ) (scope xs : List VarId) (g h : Formula)
    (down up : List VarId → Answer → Type 0) (p : Plan)
    → ImplicationAnswer place arrow scope xs g h down up (Ok p)
    → ((W : List VarId) (q : Plan) → down W (Ok q) → GuardsAreSafe q W)
    → ((W : List VarId) (q : Plan) → up W (Ok q) → GuardsAreSafe q W) → GuardsAreSafe p scope
implication_safe place arrow scope xs g h down up p made downs ups =
    safe_implication place arrow scope xs g h down up p made downs ups
    (λ q none safe. subst (λ (W : List VarId). GuardsAreSafe q W) (no_more scope xs none) safe)
    (λ t none. subst (λ (W : List VarId). IsTest h (Contains W)) (no_more scope xs none) t)

pub safe_guards : (c s : NameId → Bool) (aim : Aim) (f : Formula) (scope : List VarId) (p : Plan) → Elab c s aim f scope (Ok p) → GuardsAreSafe p scope
safe_guards c s Up (Atom place name terms) scope p e = safe_leaf (c name) place _ p scope e tt
safe_guards c s Up (Not place g) scope p e = safe_guards c s Down g scope p e
safe_guards c s Up (And place g h) scope p e = safe_over_two _ _ _ p scope e (λ l r a b. (tt, safe_guards c s Up g scope l a, safe_guards c s Up h scope r b))
safe_guards c s Up (Or place g h) scope p e = safe_one_of_two scope g h _ _ p e (safe_guards c s Up g scope) (safe_guards c s Up h scope)
safe_guards c s Up (Implies place g h) scope p e = implication_safe place place scope [] g h (Elab c s Down g) (Elab c s Up h) p e (safe_guards c s Down g) (safe_guards c s Up h)
safe_guards c s Up (Forall place xs g) scope p e = safe_guards c s (UpForAll place xs) g scope p e
safe_guards c s Up (Eventually place interval g) scope p e = safe_over _ _ p scope (with_end place interval.high _ p e).2 (λ q a. (tt, safe_guards c s Up g scope q a))
safe_guards c s Up (Always place interval g) scope p e = safe_over _ _ p scope (with_end place interval.high _ p e).2 (λ q a. (tt, safe_guards c s Up g scope q a))
safe_guards c s Up (Until place interval g h) scope p e = safe_over_two _ _ _ p scope
    (with_end place interval.high _ p e).2 (λ l r a b.
    (tt, safe_guards c s Up g scope l a, safe_guards c s Up h scope r b))
safe_guards c s Up (Next place interval g) scope p e = safe_over _ _ p scope (from_now place interval.low interval.high _ p e).3 (λ q a. (tt, safe_guards c s Up g scope q a))
safe_guards c s Down (Atom place name terms) scope p e = safe_leaf (s name) place _ p scope e tt
safe_guards c s Down (Not place g) scope p e = safe_guards c s Up g scope p e
safe_guards c s Down (And place g h) scope p e = safe_one_of_two scope _ _ _ _ p e (safe_guards c s Down g scope) (safe_guards c s Down h scope)
safe_guards c s Down (Or place g h) scope p e = safe_over_two _ _ _ p scope e (λ l r a b. (tt, safe_guards c s Down g scope l a, safe_guards c s Down h scope r b))
safe_guards c s Down (Implies place g h) scope p e = safe_over_two _ _ _ p scope e (λ l r a b. (tt, safe_guards c s Up g scope l a, safe_guards c s Down h scope r b))
safe_guards c s Down (Exists place xs g) scope p e = safe_exclusion place scope xs g (Elab c s Down g) p e (safe_guards c s Down g)
safe_guards c s Down (Eventually place interval g) scope p e = safe_over _ _ p scope (with_end place interval.high _ p e).2 (λ q a. (tt, safe_guards c s Down g scope q a))
safe_guards c s Down (Always place interval g) scope p e = safe_over _ _ p scope (with_end place interval.high _ p e).2 (λ q a. (tt, safe_guards c s Down g scope q a))
safe_guards c s (UpForAll first xs) (Forall place ys g) scope p e = safe_guards c s (UpForAll first (xs ++ ys)) g scope p e
safe_guards c s (UpForAll first xs) (Implies place g h) scope p e = implication_safe first place scope xs g h (Elab c s Down g) (Elab c s Up h) p e (safe_guards c s Down g) (safe_guards c s Up h)
safe_guards c s (UpForAll first xs) (Not place g) scope p e = safe_exclusion first scope xs g (Elab c s Down g) p e (safe_guards c s Down g)
safe_guards c s (UpForAll first xs) f scope p e = absurd (not_refused p _ e)
safe_guards c s aim f scope p e = absurd (not_refused p _ e)
