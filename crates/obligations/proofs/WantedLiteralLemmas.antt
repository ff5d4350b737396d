-- What the parts of a plan want is wanted by the whole, and its values are known.
use Rattle.obligations.proofs.Vocabulary.{◌≡◌, ℕ, zero, suc, Bool, true, false, cond, List, [], ◌∷◌, ◌++◌, length, map, drop, Contains, Option, None, Some, refl, sym, ap, subst, arith, inl, inr}
use Rattle.obligations.proofs.Vocabulary.{⊎_elim, ◌⊎◌, ◌∙◌, IfSome, slice_get, option_to_list, append-nil, Contains-append_left, Contains-append_right, Contains-push_cases, same_Some, none-some}
use Rattle.obligations.proofs.Vocabulary.{first_or_later, here, later, none_in_nil, Valuation, onto_values, value_of_term, values_of_terms, with_values, Event, NameId, Term, Var, Const, VarId, Value}
use Rattle.obligations.proofs.Vocabulary.{as_many_values, Formula, AreNewVariables, AreOpen, IsKnownNow, IsKnownOfGuard, HasOpenColumns, IsGuard, guard_formula, tables_of, PlacedGuard, nodes, Plan}
use Rattle.obligations.proofs.Vocabulary.{CausePlan, SuppressPlan, Guarded, among_or_not, value_at-with_inside, value_at-with_outside, IsTable, Relation, row_cell, AddsOf, FitsScope, IsBound}
use Rattle.obligations.proofs.Vocabulary.{IsLeafConstant, IsGuardAt, IsKnownAt, IsWanted, IsWantedUnder, guards_now, LiteralUnless, OfEvent, cause_literal, suppress_literal, IsReachedBy, Literal, Now}
use Rattle.std.proofs.Common.{◌==◌}
use Rattle.obligations.proofs.AdditionLemmas.{row_is}
use Rattle.obligations.proofs.ExistenceLemmas.{present_or_not}
use Rattle.obligations.proofs.AskablePlanLemmas.{HoldFor, new_distinct, row_fits, the_guard}
use Rattle.obligations.proofs.TriggeredGuardLemmas.{row_met}

-- ---- the values of a leaf's terms

term_known : (v : Valuation) (t : Term) (value : Value) → value_of_term v t ≡ Some value → IsBound v value ⊎ (t ≡ Const value)
term_known v (Var x) value e = inl (x, e)
term_known v (Const c) value e = inr (ap Const (same_Some c value e))

pub args_known : (v : Valuation) (terms : List Term) (args : List Value) → values_of_terms v terms ≡ Some args → (value : Value)
    → Contains args value → IsBound v value ⊎ Contains terms (Const value)
args_known v [] args e value there = absurd (none_in_nil value (subst (λ l. Contains l value) (sym (same_Some [] args e)) there))
args_known v (t ∷ terms) args e value there =
    by (λ rest er behind. args_known v terms rest er value behind) (value_of_term v t) refl (values_of_terms v terms) refl e
  where
    by : ((rest : List Value) → values_of_terms v terms ≡ Some rest → Contains rest value → IsBound v value ⊎ Contains terms (Const value))
        → (o : Option Value) → value_of_term v t ≡ o → (os : Option (List Value)) → values_of_terms v terms ≡ os
        → onto_values o os ≡ Some args → IsBound v value ⊎ Contains (t ∷ terms) (Const value)
    by again None eo os er is = absurd (none-some args is)
    by again (Some a) eo None er is = absurd (none-some args is)
    by again (Some a) eo (Some rest) er is =
        ⊎_elim
        (λ same. ⊎_elim (λ bound. inl bound) (λ const. inr (0, omega arith, const)) (term_known v t value (eo ∙ ap Some same)))
        (λ behind. ⊎_elim (λ bound. inl bound) (λ among. inr (later (Const value) t terms among)) (again rest er behind))
        (first_or_later value a rest (subst (λ l. Contains l value) (sym (same_Some (a ∷ rest) args is)) there))

abbrev head_or : {X : Type 0} → X → List X → X
head_or d [] = d
head_or d (x ∷ xs) = x

one_only : {X : Type 0} (x y : X) → x ∷ [] ≡ y ∷ [] → x ≡ y
one_only x y e = ap (head_or x) e

no_one : {X : Type 0} (x : X) → x ∷ [] ≡ [] → ⊥
no_one x e = let n : length (x ∷ []) ≡ 0 = ap length e in omega arith

-- ---- what a leaf wants

known_of : (now : Now) (plan : Plan) (v : Valuation) (terms : List Term) (args : List Value) → values_of_terms v terms ≡ Some args
    → ((value : Value) → Contains terms (Const value) → IsLeafConstant plan value)
    → (value : Value) → Contains args value → IsKnownAt now plan v value
known_of now plan v terms args e const value there =
    ⊎_elim (λ bound. inl bound) (λ among. inr (inr (inr (inr (const value among))))) (args_known v terms args e value there)

pub cause_wanted : (now : Now) (v : Valuation) (node place : ℕ) (name : NameId) (terms : List Term) (found : Option Literal)
    → OfEvent name (values_of_terms v terms) (λ e. LiteralUnless (Contains now.events.now e) (cause_literal e node) (option_to_list found))
    → IfSome found (IsWanted now (CausePlan node place name terms) v)
cause_wanted now v node place name terms None missing = tt
cause_wanted now v node place name terms (Some l) missing = by (values_of_terms v terms) refl missing
  where
    by : (o : Option (List Value)) → values_of_terms v terms ≡ o
        → OfEvent name o (λ e. LiteralUnless (Contains now.events.now e) (cause_literal e node) (l ∷ []))
        → IsWanted now (CausePlan node place name terms) v l
    by None e is = absurd is
    by (Some args) e is =
        ⊎_elim
        (λ present. absurd (no_one l present.1))
        (λ absent. subst (IsWanted now (CausePlan node place name terms) v) (sym (one_only l (cause_literal (record { name = name; args = args }) node) absent.1)) (record {
          leaf = CausePlan node place name terms;
          there = here (CausePlan node place name terms) [];
          reached = refl;
          is = (refl, refl, refl, as_many_values v terms args e);
          changes = absent.0;
          known = known_of now (CausePlan node place name terms) v terms args e (λ value among. (CausePlan node place name terms, here (CausePlan node place name terms) [], among));
        }))
        is

pub suppress_wanted : (now : Now) (v : Valuation) (node place : ℕ) (name : NameId) (terms : List Term) (found : Option Literal)
    → OfEvent name (values_of_terms v terms) (λ e. LiteralUnless (Contains now.events.now e → ⊥) (suppress_literal e node) (option_to_list found))
    → IfSome found (IsWanted now (SuppressPlan node place name terms) v)
suppress_wanted now v node place name terms None missing = tt
suppress_wanted now v node place name terms (Some l) missing = by (values_of_terms v terms) refl missing
  where
    held : (e : Event) → ((Contains now.events.now e → ⊥) → ⊥) → Contains now.events.now e
    held e twice = ⊎_elim (λ there. there) (λ absent. absurd (twice absent)) (present_or_not now.events.now e)

    by : (o : Option (List Value)) → values_of_terms v terms ≡ o
        → OfEvent name o (λ e. LiteralUnless (Contains now.events.now e → ⊥) (suppress_literal e node) (l ∷ []))
        → IsWanted now (SuppressPlan node place name terms) v l
    by None e is = absurd is
    by (Some args) e is =
        ⊎_elim
        (λ present. absurd (no_one l present.1))
        (λ absent. subst (IsWanted now (SuppressPlan node place name terms) v) (sym (one_only l (suppress_literal (record { name = name; args = args }) node) absent.1)) (record {
          leaf = SuppressPlan node place name terms;
          there = here (SuppressPlan node place name terms) [];
          reached = refl;
          is = (refl, refl, refl, as_many_values v terms args e);
          changes = held (record { name = name; args = args }) absent.0;
          known = known_of now (SuppressPlan node place name terms) v terms args e (λ value among. (SuppressPlan node place name terms, here (SuppressPlan node place name terms) [], among));
        }))
        is

-- ---- what a part wants

pub wanted_in : (now : Now) (part whole : Plan) (v : Valuation)
    → ((leaf : Plan) → Contains (nodes part) leaf → Contains (nodes whole) leaf)
    → ((leaf : Plan) → IsReachedBy now.ordered.now part leaf → IsReachedBy now.ordered.now whole leaf)
    → (l : Literal) → IsWanted now part v l → IsWanted now whole v l
wanted_in now part whole v inside below l wanted = record {
  leaf = wanted.leaf;
  there = inside wanted.leaf wanted.there;
  reached = below wanted.leaf wanted.reached;
  is = wanted.is;
  changes = wanted.changes;
  known = λ value there. ⊎_elim inl (λ k. inr (⊎_elim inl (λ k'. inr (⊎_elim inl (λ k''. inr (⊎_elim inl
      (λ const. inr (const.0, inside const.0 const.1, const.2)) k'')) k')) k)) (wanted.known value there);
}

pub in_left : (node : Plan) (left right : Plan) (leaf : Plan) → Contains (nodes left) leaf
    → Contains (node ∷ nodes left ++ nodes right) leaf
in_left node left right leaf there = later leaf node (nodes left ++ nodes right) (Contains-append_left (nodes left) (nodes right) leaf there)

pub in_right : (node : Plan) (left right : Plan) (leaf : Plan) → Contains (nodes right) leaf
    → Contains (node ∷ nodes left ++ nodes right) leaf
in_right node left right leaf there = later leaf node (nodes left ++ nodes right) (Contains-append_right (nodes left) (nodes right) leaf there)

pub in_body : (node body : Plan) (leaf : Plan) → Contains (nodes body) leaf → Contains (node ∷ nodes body) leaf
in_body node body leaf there = later leaf node (nodes body) there

-- ---- under a row

cell_value : (xs : List VarId) (row : List Value) (x : VarId) (value : Value) → row_cell xs row x ≡ Some value → Contains row value
cell_value [] row x value e = absurd (none-some value e)
cell_value (y ∷ xs) [] x value e = absurd (none-some value e)
cell_value (y ∷ xs) (a ∷ row) x value e = by (λ is. cell_value xs row x value is) (y.0 == x.0) e
  where
    by : (row_cell xs row x ≡ Some value → Contains row value)
        → (b : Bool) → cond b (Some a) (row_cell xs row x) ≡ Some value → Contains (a ∷ row) value
    by again true is = subst (Contains (a ∷ row)) (same_Some a value is) (here a row)
    by again false is = later value a row (again is)

dropped : {X : Type 0} (k : ℕ) (xs : List X) (x : X) → Contains (drop k xs) x → Contains xs x
dropped zero xs x there = there
dropped (suc k) [] x there = there
dropped (suc k) (y ∷ xs) x there = later x y xs (dropped k xs x there)

pub mapped : {X Y : Type 0} (f : X → Y) (xs : List X) (k : ℕ) (x : X) → slice_get xs k ≡ Some x → Contains (map f xs) (f x)
mapped f [] k x e = absurd (none-some x e)
mapped f (y ∷ xs) zero x e = subst (λ z. Contains (map f (y ∷ xs)) (f z)) (same_Some y x e) (here (f y) (map f xs))
mapped f (y ∷ xs) (suc k) x e = later (f x) (f y) (map f xs) (mapped f xs k x e)

module _ (now : Now) (n : ℕ) (f : Formula) (scope xs : List VarId) (at : IsGuardAt (guards_now now) n f scope)
    (opening : AreOpen f scope xs) (new : AreNewVariables scope xs) (v : Valuation) (fit : FitsScope scope v) (t : Relation)
    (table : IsTable t) (columns : HasOpenColumns now.tables.now n t)
    (sound : HoldFor now n v t)
    (known : IsKnownOfGuard now.tables.now n now.ordered.now v t) (body : Plan) (node : ℕ) where
  abbrev whole : Plan
  whole = Guarded node xs n f body

  told : (g : PlacedGuard) → IsGuard now.tables.now.guards n g → (value : Value)
      → IsKnownNow now.ordered.now (tables_of g now.tables.now) (guard_formula g) g.guard.bound v value → IsKnownAt now whole v value
  told g found value k = ⊎_elim
      (λ argument. inr (inl argument))
      (λ k'. ⊎_elim
      (λ tabled. inr (inr (inl (tabled.0, dropped g.start now.tables.now.stack tabled.0 tabled.1, tabled.2))))
      (λ k''. ⊎_elim
      (λ const. inr (inr (inr (inl (guard_formula g, mapped guard_formula now.tables.now.guards n g found, const)))))
      (λ bound. inl (bound.0, bound.2))
      k'') k') k

  row_known : (row : List Value) → Contains t.rows row → (value : Value) → IsBound (with_values xs row v) value
      → IsKnownAt now whole v value
  row_known row there value (x, e) =
      let g = the_guard now n f scope at in
      ⊎_elim
      (λ brought. told g.0 g.1 value (known g.0 g.1 row there value (cell_value xs row x value
      (sym (value_at-with_inside xs row v x (new_distinct scope xs new) (row_fits now n f scope xs at opening new v fit t table columns row there) brought) ∙ e))))
      (λ other. inl (x, sym (value_at-with_outside xs row v x other) ∙ e))
      (among_or_not xs x)

  pub wanted_under : (l : Literal) → IsWantedUnder now body v t l → IsWanted now whole v l
  wanted_under l under =
      let w = subst (λ u. IsWanted now body u l) (row_is now n f scope xs at opening new v fit t table columns under.row) under.wanted in record {
        leaf = w.leaf;
        there = in_body whole body w.leaf w.there;
        reached = inr (row_met now n f scope xs at opening new v fit t table columns sound under.row under.there, w.reached);
        is = w.is;
        changes = w.changes;
        known = λ value there. ⊎_elim (λ bound. row_known under.row under.there value bound)
            (λ k. inr (⊎_elim inl (λ k'. inr (⊎_elim inl (λ k''. inr (⊎_elim inl
            (λ const. inr (const.0, in_body whole body const.0 const.1, const.2)) k'')) k')) k)) (w.known value there);
      }

pub if_some : (found : Option Literal) (P Q : Literal → Type 0) → ((l : Literal) → P l → Q l) → IfSome found P → IfSome found Q
if_some None P Q turn is = tt
if_some (Some l) P Q turn is = turn l is

-- ---- lists of what is wanted

module _ {X : Type 0} where
  pub adds_of : (P Q : X → Type 0) (before after : List X) → ((x : X) → P x → Q x) → AddsOf P before after → AddsOf Q before after
  adds_of P Q before after turn adds x there = ⊎_elim (λ was. inl was) (λ is. inr (turn x is)) (adds x there)

  pub adds_more : (P : X → Type 0) (before between after : List X) → AddsOf P before between → AddsOf P between after
      → AddsOf P before after
  adds_more P before between after first next x there = ⊎_elim (λ was. first x was) (λ is. inr is) (next x there)

  pub adds_found : (P : X → Type 0) (found : Option X) (before after : List X) → after ≡ before ++ option_to_list found
      → IfSome found P → AddsOf P before after
  adds_found P None before after grown is x there =
      inl (subst (λ l. Contains l x) (grown ∙ append-nil before) there)
  adds_found P (Some y) before after grown is x there =
      ⊎_elim
      (λ was. inl was)
      (λ same. inr (subst P same is))
      (Contains-push_cases before y x (subst (λ l. Contains l x) grown there))
