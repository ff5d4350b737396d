-- The formulas that say how many lists of values there are with which a formula holds.
use Rattle.count_guard.specs.declared.counting.CountKind.{CountKind}
use Rattle.count_guard.specs.declared.counting.CountKind.TheVariants.{AtLeast, AtMost, Exactly}
use Rattle.count_guard.specs.meaning.FormulaCopies.{bound_count, copy_of, new_variables, with_terms}
use Rattle.enf_data.specs.declared.terms.Term.TheVariants.{Var}
use Rattle.enf_data.specs.declared.terms.VarId.{VarId}
use Rattle.enf_formula.specs.meaning.Satisfaction.{Formula, True, Equal, Not, And, Exists}
use Rattle.std.specs.Prelude.{ℕ, zero, suc, ◌+◌, ◌*◌, List, [], ◌∷◌, ◌++◌, length, map}

-- all of the formulas, grouped to the right; of none it is `true`
abbrev pub conjoined_with : (at : ℕ) → Formula → List Formula → Formula
conjoined_with at f [] = f
conjoined_with at f (g ∷ fs) = And at f (conjoined_with at g fs)

abbrev pub all_of : (at : ℕ) → List Formula → Formula
all_of at [] = True at
all_of at (f ∷ fs) = conjoined_with at f fs

-- each variable is equal to the one at its place
abbrev pub equal_pairs : (at : ℕ) → List VarId → List VarId → List Formula
equal_pairs at [] ys = []
equal_pairs at (x ∷ xs) [] = []
equal_pairs at (x ∷ xs) (y ∷ ys) = Equal at (Var x) (Var y) ∷ equal_pairs at xs ys

-- the copy with a number, counted from 0, of the counted variables
abbrev pub counted_copy : (next : ℕ) → (counted : List VarId) → (copy : ℕ) → List VarId
counted_copy next counted copy = new_variables (next + copy * length counted) counted

-- so many copies of the counted variables
abbrev pub counted_copies : (next : ℕ) → (counted : List VarId) → (copies : ℕ) → List VarId
counted_copies next counted zero = []
counted_copies next counted (suc copies) = counted_copies next counted copies ++ counted_copy next counted copies

-- two copies are not equal
abbrev pub copies_differ : (at next : ℕ) → (counted : List VarId) → (earlier copy : ℕ) → Formula
copies_differ at next counted earlier copy =
    Not at (all_of at (equal_pairs at (counted_copy next counted earlier) (counted_copy next counted copy)))

-- a copy is equal to none of so many
abbrev pub differs_from : (at next : ℕ) → (counted : List VarId) → (copy earlier : ℕ) → List Formula
differs_from at next counted copy zero = []
differs_from at next counted copy (suc earlier) =
    differs_from at next counted copy earlier ++ copies_differ at next counted earlier copy ∷ []

-- a copy of the body, of a copy of the counted variables; the variables that it binds are numbered from `own` on, after
-- those of the copies before
abbrev pub body_copy : (at next own : ℕ) → (counted : List VarId) → Formula → (copy : ℕ) → Formula
body_copy at next own counted body copy =
    copy_of at (with_terms counted (map Var (counted_copy next counted copy)) Var) (own + copy * bound_count body) body

-- the copies of the body, each followed by what tells it from those before
abbrev pub different_copies : (at next own : ℕ) → (counted : List VarId) → Formula → (copies : ℕ) → List Formula
different_copies at next own counted body zero = []
different_copies at next own counted body (suc copies) = different_copies at next own counted body copies
    ++ body_copy at next own counted body copies ∷ differs_from at next counted copies copies

-- there are so many different lists of values for the counted variables with which the body holds; new variables are
-- numbered from `next` on
abbrev pub at_least : (at next : ℕ) → (counted : List VarId) → Formula → (copies : ℕ) → Formula
at_least at next counted body copies = Exists at (counted_copies next counted copies)
    (all_of at (different_copies at next (next + copies * length counted) counted body copies))

-- the first variable after those
abbrev pub after_copies : (next : ℕ) → (counted : List VarId) → Formula → (copies : ℕ) → ℕ
after_copies next counted body copies = next + copies * length counted + copies * bound_count body

-- the formula of a count
abbrev pub count_as : CountKind → (k : ℕ) → (counted : List VarId) → Formula → (next at : ℕ) → Formula
count_as AtLeast k counted body next at = at_least at next counted body k
count_as AtMost k counted body next at = Not at (at_least at next counted body (k + 1))
count_as Exactly k counted body next at = And at (at_least at next counted body k)
    (Not at (at_least at (after_copies next counted body k) counted body (k + 1)))

-- the first variable after those that it binds
abbrev pub after_count : CountKind → (k : ℕ) → (counted : List VarId) → Formula → (next : ℕ) → ℕ
after_count AtLeast k counted body next = after_copies next counted body k
after_count AtMost k counted body next = after_copies next counted body (k + 1)
after_count Exactly k counted body next = after_copies (after_copies next counted body k) counted body (k + 1)
