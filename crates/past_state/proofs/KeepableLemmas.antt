-- What can be kept of a safe formula in which no quantifier binds a variable in scope.
use Rattle.past_state.proofs.Vocabulary.{◌⊎◌, inl, inr, ⊎_elim, List, [], ◌++◌, All, Contains, Option, None, Some, All-append, All-nil, All-cons, VarId, Formula, True, False, Atom, Equal, Less}
use Rattle.past_state.proofs.Vocabulary.{AtMost, Not, And, Or, Implies, Exists, Forall, Prev, Next, Once, Historically, Since, Eventually, Always, Until, IsFree, SafeBelow, NoneBound, BoundOrFreeIn}
use Rattle.past_state.proofs.Vocabulary.{denial, BindsFresh, none_in_nil, among_or_not, CanKeep, IsFreshFormula, operators}
use Rattle.past_state.proofs.FirstMemoryLemmas.{fresh_fewer}

alone : (g : Formula) (S : VarId → Type 0) → BindsFresh g S → ((x : VarId) → IsFree x g → S x) → IsFreshFormula g
alone g S fresh within = fresh_fewer g S (λ x. Contains [] x ⊎ IsFree x g) (λ x either. ⊎_elim (λ there. absurd (none_in_nil x there)) (within x) either) fresh

alone_denied : (g : Formula) (S : VarId → Type 0) → BindsFresh g S → ((x : VarId) → IsFree x g → S x) → IsFreshFormula (denial g)
alone_denied (Not place h) S fresh within = alone h S fresh within
alone_denied (Implies place a b) S fresh within =
    fresh_fewer (And place a (Not place b)) S (λ x. Contains [] x ⊎ (IsFree x a ⊎ IsFree x b)) (λ x either. ⊎_elim (λ there. absurd (none_in_nil x there)) (within x) either) fresh
alone_denied g S fresh within = fresh_fewer g S (λ x. Contains [] x ⊎ IsFree x g) (λ x either. ⊎_elim (λ there. absurd (none_in_nil x there)) (within x) either) fresh

inside : (xs : List VarId) (g : Formula) (S : VarId → Type 0) → ((x : VarId) → IsFree x g × (Contains xs x → ⊥) → S x) → (x : VarId) → IsFree x g → S x ⊎ Contains xs x
inside xs g S within x free = ⊎_elim (λ there. inr there) (λ absent. inl (within x (free, absent))) (among_or_not xs x)

pub keep_all : (m : Option (List VarId)) (f : Formula) (B S : VarId → Type 0) → SafeBelow m f B → BindsFresh f S → ((x : VarId) → IsFree x f → S x) → All CanKeep (operators f)
keep_all None (True place) B S safe fresh within = All-nil CanKeep
keep_all None (False place) B S safe fresh within = All-nil CanKeep
keep_all None (Atom place name terms) B S safe fresh within = All-nil CanKeep
keep_all None (Equal place s t) B S safe fresh within = All-nil CanKeep
keep_all None (Less place s t) B S safe fresh within = All-nil CanKeep
keep_all None (AtMost place s t) B S safe fresh within = All-nil CanKeep
keep_all None (Not place g) B S safe fresh within = keep_all None g B S safe.1 fresh within
keep_all None (And place g h) B S safe fresh within =
    All-append CanKeep (operators g) (operators h) (keep_all None g B S safe.0 fresh.0 (λ x free. within x (inl free)))
    (keep_all None h (BoundOrFreeIn B g) S safe.1 fresh.1 (λ x free. within x (inr free)))
keep_all None (Or place g h) B S safe fresh within =
    All-append CanKeep (operators g) (operators h) (keep_all None g B S safe.0 fresh.0 (λ x free. within x (inl free))) (keep_all None h B S safe.1 fresh.1 (λ x free. within x (inr free)))
keep_all None (Implies place g h) B S safe fresh within =
    All-append CanKeep (operators g) (operators h) (keep_all None g B S safe.2 fresh.0 (λ x free. within x (inl free))) (keep_all None h B S safe.3 fresh.1 (λ x free. within x (inr free)))
keep_all None (Exists place xs g) B S safe fresh within = keep_all None g B (λ x. S x ⊎ Contains xs x) safe fresh.1 (inside xs g S within)
keep_all None (Forall place xs g) B S safe fresh within = keep_all (Some xs) g B (λ x. S x ⊎ Contains xs x) safe fresh.1 (inside xs g S within)
keep_all None (Prev place interval g) B S safe fresh within = All-cons CanKeep (Prev place interval g) (operators g) (alone g S fresh within, safe) (keep_all None g NoneBound S safe fresh within)
keep_all None (Once place interval g) B S safe fresh within = All-cons CanKeep (Once place interval g) (operators g) (alone g S fresh within, safe) (keep_all None g NoneBound S safe fresh within)
keep_all None (Historically place interval (Not p h)) B S safe fresh within =
    All-cons CanKeep (Historically place interval (Not p h)) (operators h) (alone h S fresh within, safe.1) (keep_all None h NoneBound S safe.1 fresh within)
keep_all None (Historically place interval (Implies p a b)) B S safe fresh within =
    All-cons CanKeep (Historically place interval (Implies p a b)) (operators a ++ operators b) (alone_denied (Implies p a b) S fresh within, (safe.2, (safe.3, safe.4)))
    (All-append CanKeep (operators a) (operators b) (keep_all None a NoneBound S safe.2 fresh.0 (λ x free. within x (inl free)))
    (keep_all None b (BoundOrFreeIn NoneBound a) S safe.4 fresh.1 (λ x free. within x (inr free))))
keep_all None (Historically place interval g) B S safe fresh within =
    All-cons CanKeep (Historically place interval g) (operators g) (alone_denied g S fresh within, (safe.1, safe.2)) (keep_all None g NoneBound S safe.2 fresh within)
keep_all None (Since place interval g h) B S safe fresh within =
    All-cons CanKeep (Since place interval g h) (operators g ++ operators h) (
      alone h S fresh.1 (λ x free. within x (inr free)),
      fresh_fewer g S (λ x. IsFree x h) (λ x free. within x (inr free)) fresh.0,
      λ x free.
          ⊎_elim (λ b. absurd b) (λ is. is) (safe.1 x free),
      safe.0,
      safe.2,
    )
    (All-append CanKeep (operators g) (operators h) (keep_all None g (BoundOrFreeIn NoneBound h) S safe.2 fresh.0 (λ x free. within x (inl free)))
    (keep_all None h NoneBound S safe.0 fresh.1 (λ x free. within x (inr free))))
keep_all None (Next place interval g) B S safe fresh within = absurd safe
keep_all None (Eventually place interval g) B S safe fresh within = absurd safe
keep_all None (Always place interval g) B S safe fresh within = absurd safe
keep_all None (Until place interval g h) B S safe fresh within = absurd safe
keep_all (Some xs) (Forall place ys g) B S safe fresh within = keep_all (Some (xs ++ ys)) g B (λ x. S x ⊎ Contains ys x) safe fresh.1 (inside ys g S within)
keep_all (Some xs) (Implies place g h) B S safe fresh within =
    All-append CanKeep (operators g) (operators h) (keep_all None g B S safe.2 fresh.0 (λ x free. within x (inl free)))
    (keep_all None h (BoundOrFreeIn B g) S safe.3 fresh.1 (λ x free. within x (inr free)))
keep_all (Some xs) (Not place g) B S safe fresh within = keep_all None g B S safe.1 fresh within
keep_all (Some xs) g B S safe fresh within = absurd safe
