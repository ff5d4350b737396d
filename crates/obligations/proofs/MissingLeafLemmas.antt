-- Leaves and rows that miss something.
use Rattle.obligations.proofs.Vocabulary.{◌≡◌, ℕ, List, [], ◌∷◌, length, Contains, Option, None, Some, sym, ap, subst, arith, ⊎_elim, step_at, NameId, Step, Value, IsEventAmong, here, later, HasSome}
use Rattle.obligations.proofs.Vocabulary.{IsAbsent, IsPresent, LiteralUnless, OfEvent, cause_literal, suppress_literal, Gathers, last_position, Literal}

pub no_cons : {X : Type 0} (x : X) (xs : List X) → x ∷ xs ≡ [] → ⊥
no_cons x xs same = let n : length (x ∷ xs) ≡ 0 = ap length same in omega arith

-- a leaf that misses something
pub cause_absent : (trace : List Step) (name : NameId) (node : ℕ) (args : Option (List Value)) (l : Literal)
    (ls : List Literal) → OfEvent name args (λ e. LiteralUnless (IsPresent trace e) (cause_literal e node) (l ∷ ls))
    → IsEventAmong (step_at trace (last_position trace)).events name args → ⊥
cause_absent trace name node None l ls missing = λ among. among
cause_absent trace name node (Some args) l ls missing =
    ⊎_elim (λ present. absurd (no_cons l ls present.1)) (λ absent. absent.0) missing

pub suppress_present : (trace : List Step) (name : NameId) (node : ℕ) (args : Option (List Value)) (l : Literal)
    (ls : List Literal) → OfEvent name args (λ e. LiteralUnless (IsAbsent trace e) (suppress_literal e node) (l ∷ ls))
    → (IsEventAmong (step_at trace (last_position trace)).events name args → ⊥) → ⊥
suppress_present trace name node None l ls missing = λ _. missing
suppress_present trace name node (Some args) l ls missing =
    ⊎_elim (λ absent. absurd (no_cons l ls absent.1)) (λ present. present.0) missing

-- of what is gathered over rows, some row has given it
pub some_row : (P : List Value → List Literal → Type 0) (rows : List (List Value)) (l : Literal) (ls : List Literal)
    → Gathers P rows (l ∷ ls) → (row : List Value) × Contains rows row × HasSome (P row)
some_row P [] l ls gathered = absurd (no_cons l ls gathered)
some_row P (row ∷ rows) l ls ([], rest, none, more, are) =
    let behind = some_row P rows l ls (subst (Gathers P rows) (sym are) more) in
    (behind.0, later behind.0 row rows behind.1, behind.2)
some_row P (row ∷ rows) l ls (k ∷ ks, rest, some, more, are) = (row, here row rows, (k, ks, some))
