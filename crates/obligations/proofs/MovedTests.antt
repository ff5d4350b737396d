-- What it tells of a formula whether it looks for a name.
use Rattle.obligations.proofs.Vocabulary.{◌≡◌, ◌∙◌, false, ap, sym, true≢false, Decides, list_any, list_any-Decides, NameId, Formula, names_in_formula, Ignores, is_same_name, Const, Term, Var, VarId}
use Rattle.obligations.proofs.Vocabulary.{false≢true}
use Rattle.obligations.proofs.Vocabulary.{Bool, true, List, [], ◌∷◌, ◌||◌, refl, subst, ⊎_elim, first_or_later, here, later, none_in_nil, IgnoresAll, looks_for_any}
use Rattle.std.proofs.lemmas.Bool.Decides.{Decides-eqb, Decides-like}
use Rattle.enf_data.proofs.ValueEquality.{derived_value_eq-Decides}
use Rattle.enf_data.specs.contracts.terms.TermPartialEq.TheImpl as terms
use Rattle.enf_data.proofs.ValuationFacts.{same_name}

-- the derived `==` of terms tells exactly whether they are equal
pub derived_term_eq-Decides : (a b : Term) → Decides (terms.eq-value.it a b) (a ≡ b)
derived_term_eq-Decides (Var x) (Var y) =
    Decides-like (terms.eq-value.it (Var x) (Var y)) (λ e i. Var (record { 0 = e i }))
    (λ (e : Var x ≡ Var y). let same : x ≡ y = cc in ap (λ (z : VarId). z.0) same) (Decides-eqb x.0 y.0)
derived_term_eq-Decides (Var x) (Const b) = (λ e. absurd (false≢true e), λ (e : Var x ≡ Const b). absurd (cc))
derived_term_eq-Decides (Const a) (Var y) = (λ e. absurd (false≢true e), λ (e : Const a ≡ Var y). absurd (cc))
derived_term_eq-Decides (Const a) (Const b) =
    Decides-like (terms.eq-value.it (Const a) (Const b)) (ap Const) (λ (e : Const a ≡ Const b). let same : a ≡ b = cc in same) (derived_value_eq-Decides a b)

pub named_Decides : (name other : NameId) → Decides (is_same_name name other) (name ≡ other)
named_Decides name other =
    Decides-like (is_same_name name other) (λ e. sym (same_name other name e)) (λ e. ap (λ (n : NameId). n.0) (sym e)) (Decides-eqb other.0 name.0)

pub not_looked_for : (name : NameId) (f : Formula) → list_any (is_same_name name) (names_in_formula f) ≡ false → Ignores name f
not_looked_for name f none there =
    true≢false (sym ((list_any-Decides is_same_name named_Decides (names_in_formula f) name).1 there) ∙ none)

pub named_is : (name other : NameId) → other.0 ≡ name.0 → other ≡ name
named_is name other e = same_name other name e

-- ---- several names

left_false : (a b : Bool) → (a || b) ≡ false → a ≡ false
left_false true b e = absurd (true≢false e)
left_false false b e = refl

right_false : (a b : Bool) → (a || b) ≡ false → b ≡ false
right_false true b e = absurd (true≢false e)
right_false false b e = e

pub ignores_all : (stale : List NameId) (f : Formula) → looks_for_any stale f ≡ false → IgnoresAll stale f
ignores_all [] f none name there = absurd (none_in_nil name there)
ignores_all (n ∷ stale) f none name there =
    let one = list_any (is_same_name n) (names_in_formula f) in
    ⊎_elim
    (λ same. subst (λ m. Ignores m f) same (not_looked_for n f (left_false one (looks_for_any stale f) none)))
    (λ behind. ignores_all stale f (right_false one (looks_for_any stale f) none) name behind)
    (first_or_later name n stale there)

looked_for_not : (name : NameId) (f : Formula) → Ignores name f → list_any (is_same_name name) (names_in_formula f) ≡ false
looked_for_not name f ignores = by (list_any (is_same_name name) (names_in_formula f)) refl
  where
    by : (b : Bool) → list_any (is_same_name name) (names_in_formula f) ≡ b → b ≡ false
    by true is = absurd (ignores ((list_any-Decides is_same_name named_Decides (names_in_formula f) name).0 is))
    by false is = refl

pub looked_for_none : (stale : List NameId) (f : Formula) → IgnoresAll stale f → looks_for_any stale f ≡ false
looked_for_none [] f ignores = refl
looked_for_none (n ∷ stale) f ignores =
    let first = looked_for_not n f (ignores n (here n stale)) in
    let rest = looked_for_none stale f (λ name there. ignores name (later name n stale there)) in
    λ i. first i || rest i
