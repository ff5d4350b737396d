-- A rule holds under definitions where its unfolded rule holds.
use Rattle.definitions.proofs.Vocabulary.{◌≡◌, ℕ, ◌+◌, ◌<◌, ◌↔◌, ◌==◌, Bool, true, false, cond, List, [], ◌∷◌, ◌++◌, Contains, Option, None, Some, length, refl, sym, ap, subst, ◌∙◌, arith}
use Rattle.definitions.proofs.Vocabulary.{⊎_elim, AllByRecursion, append-nil, Contains-append, first_or_later, none_in_nil, none-some, same_Some, iff_then, denials, as_many_values, values_listed, variable_is}
use Rattle.definitions.proofs.Vocabulary.{copied_same, counts_hold, free_in_counts, terms_below, terms_value, IsTermBelow, HoldsForDifferent, IsCount, with_terms, copy_of, NameId, Step, Term, Var}
use Rattle.definitions.proofs.Vocabulary.{VarId, Value, Valuation, no_values, values_of_terms, with_values, Formula, Sat, IsFree, BodyHolds, Counting, DefinedMeans, Definition, DefinitionHolds, HoldsIf}
use Rattle.definitions.proofs.Vocabulary.{SatWith, Unfolding, atom_unfolded, behind_variables, body_unfolded, counted_variables, definition_unfolded, own_variables, unfolded}
use Rattle.definitions.proofs.Vocabulary.{unfolded_count, unfoldings, AreWellDefined, FitsUnfolding, IsWellDefined, UnfoldedRulesHoldAlike}
use Rattle.count_guard.specs.declared.counting.CountKind.{CountKind}
use Rattle.count_guard.specs.declared.counting.CountKind.TheVariants as kinds
use Rattle.definitions.proofs.UnfoldedTruth.{AreClosed, HasValues, HoldAlike, bound_there, unfolded_free, unfolded_same}

-- ---- counts of what holds alike

lists_alike : (n : ℕ) (P Q : List Value → Type 0) (lists : List (List Value)) → ((values : List Value) → length values ≡ n → P values → Q values)
    → AllByRecursion (λ values. (length values ≡ n) × P values) lists → AllByRecursion (λ values. (length values ≡ n) × Q values) lists
lists_alike n P Q [] to all = tt
lists_alike n P Q (values ∷ lists) to all = ((all.0.0, to values all.0.0 all.0.1), lists_alike n P Q lists to all.1)

different_alike : (k n : ℕ) (P Q : List Value → Type 0) → ((values : List Value) → length values ≡ n → P values ↔ Q values) → HoldsForDifferent k n P ↔ HoldsForDifferent k n Q
different_alike k n P Q same = (
  λ some none. some (λ found. none (found.0, found.1, found.2, lists_alike n P Q found.0 (λ values long. (same values long).0) found.3)),
  λ some none. some (λ found. none (found.0, found.1, found.2, lists_alike n Q P found.0 (λ values long. (same values long).1) found.3)),
)

count_alike : (kind : CountKind) (k n : ℕ) (P Q : List Value → Type 0) → ((values : List Value) → length values ≡ n → P values ↔ Q values) → IsCount kind k n P ↔ IsCount kind k n Q
count_alike kinds.AtLeast k n P Q same = different_alike k n P Q same
count_alike kinds.AtMost k n P Q same = denials (HoldsForDifferent (k + 1) n P) (HoldsForDifferent (k + 1) n Q) (different_alike (k + 1) n P Q same)
count_alike kinds.Exactly k n P Q same =
    let lower = different_alike k n P Q same in
    let upper = denials (HoldsForDifferent (k + 1) n P) (HoldsForDifferent (k + 1) n Q) (different_alike (k + 1) n P Q same) in
    (λ s. (lower.0 s.0, upper.0 s.1), λ s. (lower.1 s.0, upper.1 s.1))

-- ---- one definition

behind_above : (xs : List VarId) (x : VarId) → Contains xs x → x.0 < behind_variables xs
behind_above [] x there = absurd (none_in_nil x there)
behind_above (y ∷ xs) x there = ⊎_elim
    (λ same. let is : y.0 ≡ x.0 = ap (λ (z : VarId). z.0) same in omega (arith, is))
    (λ behind. let rest = behind_above xs x behind in omega (arith, rest))
    (first_or_later x y xs there)

module _ (table : NameId → Option Unfolding) (closed : AreClosed table) (d : Definition) (well : IsWellDefined table d) where
  abbrev plain : Formula
  plain = unfolded table Var (own_variables d) d.body

  abbrev behind : ℕ
  behind = own_variables d + unfolded_count table d.body

  below_own : (x : VarId) → IsFree x d.body → x.0 < own_variables d
  below_own x free = behind_above (d.params ++ counted_variables d.counts) x (well.closed x free)

  plain_free : (x : VarId) → IsFree x plain → IsFree x d.body
  plain_free x free =
      let found = unfolded_free table closed d.body Var (own_variables d) x well.fits free in
      subst (λ (y : VarId). IsFree y d.body) (variable_is found.0 x found.2) found.1

  counted_free : (counts : Option Counting) → ((x : VarId) → IsFree x d.body → Contains (d.params ++ counted_variables counts) x)
      → (x : VarId) → IsFree x (body_unfolded counts behind plain) → Contains d.params x
  counted_free None within x free = subst (λ (xs : List VarId). Contains xs x) (append-nil d.params) (within x (plain_free x free))
  counted_free (Some counting) within x free =
      let of_body = free_in_counts counting.kind counting.k counting.counted plain behind 0 x free in
      ⊎_elim (λ param. param) (λ counted. absurd (of_body.1 counted)) (Contains-append d.params counting.counted x (within x (plain_free x of_body.0)))

  pub says_free : (x : VarId) → IsFree x (body_unfolded d.counts behind plain) → Contains d.params x
  says_free x free = counted_free d.counts well.closed x free

  module _ (trace : List Step) (Means : ℕ → NameId → Option (List Value) → Type 0) (alike : HoldAlike Means trace table) where
    body_same : (i : ℕ) (w : Valuation) → HasValues d.body w → Sat trace i w plain ↔ SatWith Means trace i w d.body
    body_same i w has = unfolded_same Means trace table alike d.body Var (own_variables d) i w w well.fits has (record { same = λ x free. refl; below = λ x free. below_own x free })

    counted_same : (i : ℕ) (values : List Value) → length values ≡ length d.params → (counts : Option Counting)
        → ((x : VarId) → IsFree x d.body → Contains (d.params ++ counted_variables counts) x)
        → Sat trace i (with_values d.params values no_values) (body_unfolded counts behind plain)
        ↔ BodyHolds (λ v. SatWith Means trace i v d.body) counts (with_values d.params values no_values)
    counted_same i values long None within = body_same i (with_values d.params values no_values) (λ x free. bound_there d.params values no_values x long
        (λ out. absurd (out (subst (λ (xs : List VarId). Contains xs x) (append-nil d.params) (within x free)))))
    counted_same i values long (Some counting) within =
        let v = with_values d.params values no_values in
        iff_then (counts_hold counting.kind counting.k counting.counted plain behind 0 trace i v
        (λ x free. let below : x.0 < own_variables d = below_own x (plain_free x free) in omega arith))
        (count_alike counting.kind counting.k (length counting.counted) (λ w. Sat trace i (with_values counting.counted w v) plain)
        (λ w. SatWith Means trace i (with_values counting.counted w v) d.body)
        (λ w wide. body_same i (with_values counting.counted w v) (λ x free. bound_there counting.counted w v x wide
        (λ out. bound_there d.params values no_values x long
        (λ absent. absurd (⊎_elim absent out (Contains-append d.params counting.counted x (within x free))))))))

    pub says_same : (i place : ℕ) (terms : List Term) (next : ℕ) (v : Valuation) (values : List Value) → length terms ≡ length d.params
        → AllByRecursion (IsTermBelow next) terms → values_of_terms v terms ≡ Some values
        → Sat trace i v (copy_of place (with_terms d.params terms Var) next (body_unfolded d.counts behind plain))
        ↔ BodyHolds (λ w. SatWith Means trace i w d.body) d.counts (with_values d.params values no_values)
    says_same i place terms next v values fits below is =
        iff_then (copied_same place trace (body_unfolded d.counts behind plain) (with_terms d.params terms Var) next i v (with_values d.params values no_values) (record {
          same = λ x free. terms_value d.params terms values Var v no_values x fits (sym (values_listed v terms values is)) (λ out. absurd (out (says_free x free)));
          below = λ x free. terms_below next d.params terms Var x fits below (λ out. absurd (out (says_free x free)));
        })) (counted_same i values (as_many_values v terms values is ∙ fits) d.counts well.closed)

-- ---- all definitions

tables_closed : (definitions : List Definition) → AreWellDefined definitions → AreClosed (unfoldings definitions)
tables_closed [] well name meant is = absurd (none-some meant is)
tables_closed (d ∷ earlier) well name meant is = by (name.0 == d.name.0) is (tables_closed earlier well.1)
  where
    by : (b : Bool) → cond b (Some (definition_unfolded (unfoldings earlier) d)) (unfoldings earlier name) ≡ Some meant → AreClosed (unfoldings earlier)
        → (x : VarId) → IsFree x meant.formula → Contains meant.params x
    by true found rest = subst (λ (u : Unfolding). (x : VarId) → IsFree x u.formula → Contains u.params x)
        (same_Some (definition_unfolded (unfoldings earlier) d) meant found) (says_free (unfoldings earlier) rest d well.0)
    by false found rest = rest name meant found

atoms_alike : (trace : List Step) (definitions : List Definition) → AreWellDefined definitions → HoldAlike (DefinedMeans definitions trace) trace (unfoldings definitions)
atoms_alike trace [] well i place name terms next v values fits below is =
    let e : values_of_terms v terms ≡ Some values = is in
    subst (λ o. DefinedMeans [] trace i name (values_of_terms v terms) ↔ DefinedMeans [] trace i name o) e (λ h. h, λ h. h)
atoms_alike trace (d ∷ earlier) well i place name terms next v values fits below is =
    by (name.0 == d.name.0) fits (atoms_alike trace earlier well.1)
  where
    by : (b : Bool) → FitsUnfolding (cond b (Some (definition_unfolded (unfoldings earlier) d)) (unfoldings earlier name)) terms
        → HoldAlike (DefinedMeans earlier trace) trace (unfoldings earlier)
        → Sat trace i v (atom_unfolded (cond b (Some (definition_unfolded (unfoldings earlier) d)) (unfoldings earlier name)) place name terms next)
        ↔ HoldsIf b (DefinitionHolds (λ w. SatWith (DefinedMeans earlier trace) trace i w d.body) d (Some values)) (DefinedMeans earlier trace i name (Some values))
    by true fit rest = says_same (unfoldings earlier) (tables_closed earlier well.1) d well.0 trace (DefinedMeans earlier trace) rest i place terms next v values fit below is
    by false fit rest = rest i place name terms next v values fit below is

pub rules_hold_alike : UnfoldedRulesHoldAlike
rules_hold_alike definitions trace i rule well fits closed =
    let same = unfolded_same (DefinedMeans definitions trace) trace (unfoldings definitions) (atoms_alike trace definitions well) rule Var 0 i no_values no_values fits
    (λ x free. absurd (closed x free)) (record { same = λ x free. refl; below = λ x free. absurd (closed x free) }) in
    (same.1, same.0)
