-- What a plan misses below a guard is told by the rows that are asked of the guard.
use Rattle.obligations.proofs.Vocabulary.{◌≡◌, ◌↔◌, ◌∙◌, ℕ, Bool, true, false, cond, List, [], ◌∷◌, ◌++◌, length, Contains, Option, None, Some, refl, sym, ap, subst, ⊎_elim, true≢false, none-some}
use Rattle.obligations.proofs.Vocabulary.{same_Some, All-contains, Contains-append, here, later, none_in_nil, first_or_later, Decides, unsigned_Decides, same_rising, Valuation, value_at}
use Rattle.obligations.proofs.Vocabulary.{values_of_terms, with_values, row_cmp, row_cmp_total, Event, NameId, Step, Term, Const, Var, VarId, Value, Formula, IsEventAmong, AreNewVariables, AreOpen}
use Rattle.obligations.proofs.Vocabulary.{AreTermsInScope, IsTermInScope, AllByRecursion-contains, AreEvaluated, HasOpenColumns, IsKnownOfGuard, HoldsNow, Plan, SuppressPlan, TestOr, Guarded}
use Rattle.obligations.proofs.Vocabulary.{filled_from_row, HasValuation, IsTable, Relation, IsNowOf, CanAskPlan, CanAskIn, IsGuardAt, FitsScope, guards_now, MissingExists, AreGuardRows, HoldsLast}
use Rattle.obligations.proofs.Vocabulary.{Gathers, IsAbsent, LiteralUnless, Missing, OfEvent, suppress_literal, last_events, Literal, Now, among_or_not, value_at-with_outside, tables_of}
use Rattle.obligations.proofs.Vocabulary.{guard_formula, ◌||◌, ◌<◌, BindsBound, HasNoRepeats, IsFree, Result, Ok, Err, IfOk, ◌+◌, append-nil, get_or, take}
use Rattle.std.specs.List.{filter}
use Rattle.std.proofs.lemmas.List.{take_more}
use Rattle.std.proofs.lemmas.List.Elements.{filter-append}
use Rattle.std.proofs.lemmas.List.Kept.{IsStrictlySortedBy-filter}
use Rattle.enf_data.proofs.Lists.{Contains-filter, Contains-from_filter, HasNoRepeats-filter}
use Rattle.enf_data.proofs.ValuationFacts.{values_alike, variable_is}
use Rattle.monitorable_guard.proofs.EvaluationLemmas.{same_on}
use Rattle.monitorable_guard.specs.machine.Answers.{IsMatchOfName}
use Rattle.monitorable_guard.specs.machine.TermMatches.{Extends}
use Rattle.past_state.specs.machine.Past.{AreEvaluatedIn, HasColumnsOf}
use Rattle.obligations.proofs.AdditionLemmas.{body_can, gathers_as, row_is}
use Rattle.obligations.proofs.AskablePlanLemmas.{HoldFor, binds_bound, fresh_in, has_row, hold_for, is_guard, new_distinct, on_trace, row_agrees, row_binds, row_fits, row_there, rows_are}
use Rattle.obligations.proofs.AskablePlanLemmas.{same_on_scope, the_guard, under_row, within}
use Rattle.obligations.proofs.OwnRowLemmas.{among_Decides, is_among}
use Rattle.obligations.proofs.WantedLiteralLemmas.{wanted_under}
use Rattle.obligations.specs.machine.GuardedRows.{IsGuardedBy, TellMissing, is_in_terms, is_term_of, suppressed_alone}

-- ---- what is gathered under those of some rows that a test keeps

over_kept : {X Y : Type 0} (P : X → List Y → Type 0) (keeps : X → Bool) (xs : List X) (ys : List Y)
    → ((x : X) → Contains xs x → keeps x ≡ false → P x []) → Gathers P (filter keeps xs) ys → Gathers P xs ys
over_kept P keeps [] ys gone gathered = gathered
over_kept {X = X} {Y = Y} P keeps (x ∷ xs) ys gone gathered =
    by (keeps x) refl (λ zs more. over_kept P keeps xs zs (λ a there. gone a (later a x xs there)) more) gathered
  where
    by : (b : Bool) → keeps x ≡ b → ((zs : List Y) → Gathers P (filter keeps xs) zs → Gathers P xs zs)
        → Gathers P (cond b (x ∷ filter keeps xs) (filter keeps xs)) ys → Gathers P (x ∷ xs) ys
    by true e behind more = (more.0, more.1, more.2, behind more.1 more.3, more.4)
    by false e behind more = ([], ys, gone x (here x xs) e, behind ys more, refl)

-- one item more, which the test does not keep
pub kept_still : {X : Type 0} (p : X → Bool) (xs : List X) (i : ℕ) (d : X) → i < length xs → p (get_or xs i d) ≡ false
    → (found : List X) → found ≡ filter p (take i xs) → found ≡ filter p (take (i + 1) xs)
kept_still p xs i d within e found same =
    same
    ∙ sym (append-nil (filter p (take i xs)))
    ∙ ap (λ c. filter p (take i xs) ++ cond c (get_or xs i d ∷ []) []) (sym e)
    ∙ sym (filter-append p (take i xs) (get_or xs i d ∷ []))
    ∙ sym (ap (filter p) (take_more xs i d within))

-- ---- variables among terms

term_Decides : (x : VarId) (t : Term) → Decides (is_term_of x t) (t ≡ Var x)
term_Decides x (Var y) = (
  λ e. ap (λ (n : ℕ). Var (record { 0 = n })) ((unsigned_Decides y.0 x.0).0 e),
  λ same. (unsigned_Decides y.0 x.0).1 (ap (λ (z : VarId). z.0) (variable_is y x same)),
)
term_Decides x (Const a) = (λ e. absurd (true≢false (sym e)), λ (same : Const a ≡ Var x). absurd (cc))

pub in_terms : (terms : List Term) (x : VarId) → Decides (is_in_terms terms x) (Contains terms (Var x))
in_terms [] x = (λ e. absurd (true≢false (sym e)), λ there. absurd (none_in_nil (Var x) there))
in_terms (t ∷ terms) x = by (is_term_of x t) refl (term_Decides x t) (in_terms terms x)
  where
    by : (b : Bool) → is_term_of x t ≡ b → Decides (is_term_of x t) (t ≡ Var x) → Decides (is_in_terms terms x) (Contains terms (Var x))
        → Decides (is_in_terms (t ∷ terms) x) (Contains (t ∷ terms) (Var x))
    by true e first rest = (
      λ told. subst (Contains (t ∷ terms)) (first.0 e) (here t terms),
      λ there. ap (λ b. b || is_in_terms terms x) e,
    )
    by false e first rest = (
      λ told. later (Var x) t terms (rest.0 (ap (λ b. b || is_in_terms terms x) (sym e) ∙ told)),
      λ there. ap (λ b. b || is_in_terms terms x) e
          ∙ rest.1 (⊎_elim (λ same. absurd (true≢false (sym (first.1 same) ∙ e))) (λ behind. behind) (first_or_later (Var x) t terms there)),
    )

-- ---- a plan that suppresses alone

terms_in_scope : (guards : List (Formula × List VarId)) (body : Plan) (scope : List VarId) (name : NameId) (terms : List Term)
    → suppressed_alone body ≡ Some (name, terms) → CanAskIn guards body scope → AreTermsInScope scope terms
terms_in_scope guards (SuppressPlan node place n own) scope name terms is can =
    subst (AreTermsInScope scope) (ap (λ p. p.1) (same_Some (n, own) (name, terms) is)) can
terms_in_scope guards (TestOr node guard test body) scope name terms is can = terms_in_scope guards body scope name terms is can.1
terms_in_scope guards body scope name terms is can = absurd (none-some (name, terms) is)

leaf_nothing : (trace : List Step) (node : ℕ) (name : NameId) (args : Option (List Value)) (ls : List Literal)
    → OfEvent name args (λ e. LiteralUnless (IsAbsent trace e) (suppress_literal e node) ls)
    → (IsEventAmong (last_events trace) name args → ⊥) → ls ≡ []
leaf_nothing trace node name None ls missing away = absurd missing
leaf_nothing trace node name (Some args) ls missing away = ⊎_elim (λ absent. absent.1) (λ lacked. absurd (lacked.0 away)) missing

-- where the event is not there nothing is missed
absent_nothing : (trace : List Step) (body : Plan) (name : NameId) (terms : List Term) → suppressed_alone body ≡ Some (name, terms)
    → (w : Valuation) (ls : List Literal) → Missing trace body w ls → (IsEventAmong (last_events trace) name (values_of_terms w terms) → ⊥)
    → ls ≡ []
absent_nothing trace (SuppressPlan node place n own) name terms is w ls missing away =
    let same = same_Some (n, own) (name, terms) is in
    leaf_nothing trace node n (values_of_terms w own) ls missing
    (λ there. away (subst (λ m. IsEventAmong (last_events trace) m (values_of_terms w terms)) (ap (λ p. p.0) same)
    (subst (λ ts. IsEventAmong (last_events trace) n (values_of_terms w ts)) (ap (λ p. p.1) same) there)))
absent_nothing trace (TestOr node guard test body) name terms is w ls missing away =
    ⊎_elim (λ met. met.1) (λ fails. absent_nothing trace body name terms is w ls fails.1 away) missing
absent_nothing trace body name terms is w ls missing away = absurd (none-some (name, terms) is)

-- what is among some events is among more
among_more : (some all : List Event) → ((event : Event) → Contains some event → Contains all event) → (name : NameId)
    → (args : Option (List Value)) → IsEventAmong some name args → IsEventAmong all name args
among_more some all more name None among = among
among_more some all more name (Some args) among = more (record { name = name; args = args }) among

-- ---- a guard, and rows of it

module _ (now : Now) (n : ℕ) (f : Formula) (scope xs : List VarId) (at : IsGuardAt (guards_now now) n f scope)
    (opening : AreOpen f scope xs) (new : AreNewVariables scope xs) (v : Valuation) (fit : FitsScope scope v) (node : ℕ) (body : Plan)
    (can : CanAskIn (guards_now now) body (scope ++ xs)) (t : Relation) (table : IsTable t)
    (columns : HasOpenColumns now.tables.now n t) where
  abbrev whole : Plan
  whole = Guarded node xs n f body

  abbrev Under : List Step → List Value → List Literal → Type 0
  Under trace row = Missing trace body (with_values xs row v)

  tell : HoldFor now n v t → IsKnownOfGuard now.tables.now n now.ordered.now v t
      → ((trace : List Step) → IsNowOf now trace → (ls : List Literal) → Gathers (Under trace) t.rows ls → Missing trace whole v ls)
      → TellMissing now whole body v t
  tell sound known missed = record {
    asked = body_can now n f scope xs at opening new v fit t table columns (guards_now now) body can;
    missed = λ trace is ls gathered. missed trace is ls
        (gathers_as (λ row. Missing trace body (filled_from_row v t.columns row)) (Under trace) t.rows ls
        (λ row there ys missing. subst (λ u. Missing trace body u ys) (row_is now n f scope xs at opening new v fit t table columns row) missing) gathered);
    wanted = wanted_under now n f scope xs at opening new v fit t table columns sound known body node;
  }

  -- all of its rows
  pub all_tell : AreEvaluated now.tables.now n now.ordered.now v t → IsKnownOfGuard now.tables.now n now.ordered.now v t
      → TellMissing now whole body v t
  all_tell evaluated known =
      tell (hold_for now n v t evaluated) known
      (λ trace is ls gathered. (t.rows, rows_are now n f scope xs at opening new v fit t table columns evaluated trace is, gathered))

  -- those of them for which there is the event that the body suppresses
  module _ (name : NameId) (terms : List Term) (own : suppressed_alone body ≡ Some (name, terms)) (some : Relation)
      (named : some.columns ≡ filter (is_in_terms terms) xs)
      (all : List Event) (more : (event : Event) → Contains now.events.now event → Contains all event)
      (matches : (u : Valuation) → HasValuation some u ↔ IsMatchOfName all name terms v some.columns u)
      (evaluated : AreEvaluatedIn some now.tables.now n now.ordered.now v t) where
    in_scope : (x : VarId) → Contains terms (Var x) → Contains (scope ++ xs) x
    in_scope x there =
        AllByRecursion-contains (IsTermInScope (scope ++ xs)) terms (Var x) (terms_in_scope (guards_now now) body (scope ++ xs) name terms own can) there

    abbrev IsThere : Valuation → Type 0
    IsThere u = IsEventAmong all name (values_of_terms u terms)

    module _ (row : List Value) (long : length row ≡ length xs) where
      abbrev w : Valuation
      w = with_values xs row v

      extends_row : Extends v w
      extends_row x value at_x =
          ⊎_elim
          (λ brought. absurd (none-some value (sym (fresh_in scope xs new v fit x brought) ∙ at_x)))
          (λ outside. value_at-with_outside xs row v x outside ∙ at_x)
          (among_or_not xs x)

      match_of : IsThere w → HasValuation some w
      match_of there = (matches w).1 (by (values_of_terms w terms) refl there)
        where
          by : (o : Option (List Value)) → values_of_terms w terms ≡ o → IsEventAmong all name o
              → IsMatchOfName all name terms v some.columns w
          by None e among = absurd among
          by (Some args) e among = (record { name = name; args = args }, among, (refl, (w, extends_row, e, λ x column. refl)))

      there_of : HasValuation some w → IsThere w
      there_of has =
          let m = (matches w).0 has in
          let u = m.2.1.0 in
          let same : (x : VarId) → Contains terms (Var x) → value_at w x ≡ value_at u x = λ x term. ⊎_elim
          (λ old. sym (same_on_scope scope xs new v fit row long x old) ∙ same_on v u x m.2.1.1 (fit.binds x old))
          (λ brought. m.2.1.3 x (subst (λ l. Contains l x) (sym named) (Contains-filter (is_in_terms terms) xs x brought ((in_terms terms x).1 term))))
          (Contains-append scope xs x (in_scope x term)) in
          subst (IsEventAmong all name) (sym (values_alike w u terms same ∙ m.2.1.2))
          (subst (λ k. Contains all (record { name = k; args = m.0.args })) m.2.0 m.1)

      abbrev keeps_row : Bool
      keeps_row = is_among all name (values_of_terms w terms)

      decides : Decides keeps_row (IsThere w)
      decides = among_Decides all name (values_of_terms w terms)

      by_table : HasValuation t w ↔ (HoldsNow now.ordered.now (tables_of (the_guard now n f scope at).0 now.tables.now) w
          (guard_formula (the_guard now n f scope at).0) × HasValuation some w)
      by_table = evaluated (the_guard now n f scope at).0 (the_guard now n f scope at).1 w
          (row_agrees now n f scope xs at opening new v fit t table columns row long) (row_binds now n f scope xs at opening new v fit t table columns row long)

      row_kept : (trace : List Step) → IsNowOf now trace → Contains t.rows row ↔ (HoldsLast trace w f × IsThere w)
      row_kept trace is =
          let holds = on_trace now n f scope xs at opening new v fit t table columns row long trace is in (
            λ there. let both = by_table.0 (has_row now n f scope xs at opening new v fit t table columns row long there) in (holds.0 both.0, there_of both.1),
            λ both. row_there now n f scope xs at opening new v fit t table columns row long (by_table.1 (holds.1 both.0, match_of both.1)),
          )

    abbrev keeps : List Value → Bool
    keeps row = is_among all name (values_of_terms (with_values xs row v) terms)

    kept_rows : (trace : List Step) → IsNowOf now trace → (rows : List (List Value)) → AreGuardRows trace v xs f rows → t.rows ≡ filter keeps rows
    kept_rows trace is rows are =
        same_rising row_cmp_total t.rows (filter keeps rows) table.rising (IsStrictlySortedBy-filter row_cmp keeps rows are.rise)
        (λ row there.
        let long = row_fits now n f scope xs at opening new v fit t table columns row there in
        let both = (row_kept row long trace is).0 there in
        Contains-filter keeps rows row ((are.are row long).1 both.0) ((decides row long).1 both.1))
        (λ row there.
        let kept = Contains-from_filter keeps rows row there in
        let long = All-contains (λ (r : List Value). length r ≡ length xs) rows row are.fit kept.0 in
        (row_kept row long trace is).1 ((are.are row long).0 kept.0, (decides row long).0 kept.1))

    pub some_tell : MissingExists → CanAskPlan (guards_now now) whole v → IsKnownOfGuard now.tables.now n now.ordered.now v t
        → TellMissing now whole body v t
    some_tell exist can_whole known =
        tell (λ g found u agree binds has. ((evaluated g found u agree binds).0 has).0) known
        (λ trace is ls gathered.
        let whole_missed = exist (guards_now now) trace whole v can_whole in
        let rows = whole_missed.1.0 in
        let are = whole_missed.1.1 in (
          rows,
          are,
          over_kept (Under trace) keeps rows ls
              (λ row there gone.
              let long = All-contains (λ (r : List Value). length r ≡ length xs) rows row are.fit there in
              let one = exist (guards_now now) trace body (with_values xs row v)
              (record { scope = scope ++ xs; can = can; fits = under_row scope xs new v fit row long }) in
              subst (Under trace row)
              (absent_nothing trace body name terms own (with_values xs row v) one.0 one.1
              (λ among. true≢false (sym ((decides row long).1 (among_more now.events.now all more name (values_of_terms (with_values xs row v) terms)
              (subst (λ (events : List Event). IsEventAmong events name (values_of_terms (with_values xs row v) terms)) is.events among))) ∙ gone)))
              one.1)
              (subst (λ l. Gathers (Under trace) l ls) (kept_rows trace is rows are) gathered),
        ))

-- ---- the rows that are asked of the guard of a plan

module _ (now : Now) (n : ℕ) (f : Formula) (xs : List VarId) (body : Plan) (v : Valuation) (plan : Plan) (is : IsGuardedBy now n f xs body v plan) where
  can : CanAskPlan (guards_now now) (Guarded is.node xs n f body) v
  can = subst (λ p. CanAskPlan (guards_now now) p v) is.is is.can

  pub guard_within : n < length now.tables.now.guards
  guard_within = within now n f can.scope can.can.0.0

  pub guard_binds : BindsBound now.tables.now.guards n v
  guard_binds = binds_bound now n f can.scope can.can.0.0 v can.fits.binds

  pub columns_distinct : (terms : List Term) → HasNoRepeats (filter (is_in_terms terms) xs)
  columns_distinct terms = HasNoRepeats-filter (is_in_terms terms) xs (new_distinct can.scope xs can.can.0.2)

  pub columns_within : (terms : List Term) (some : Relation) → some.columns ≡ filter (is_in_terms terms) xs
      → HasColumnsOf some now.tables.now.guards n
  columns_within terms some named g found x there =
      let kept = Contains-from_filter (is_in_terms terms) xs x (subst (λ l. Contains l x) named there) in
      let at = is_guard now n f can.scope can.can.0.0 g found in
      let opens = (can.can.0.1.exact x).0 kept.0 in (
        subst (IsFree x) (sym at.0) opens.0,
        λ bound. opens.1 (subst (λ l. Contains l x) at.1 bound),
      )

  told_all : (t : Relation) → IsTable t → HasOpenColumns now.tables.now n t → AreEvaluated now.tables.now n now.ordered.now v t
      → IsKnownOfGuard now.tables.now n now.ordered.now v t → TellMissing now plan body v t
  told_all t table columns evaluated known =
      subst (λ p. TellMissing now p body v t) (sym is.is)
      (all_tell now n f can.scope xs can.can.0.0 can.can.0.1 can.can.0.2 v can.fits is.node body can.can.1 t table columns evaluated known)

  pub told_some : MissingExists → (name : NameId) (terms : List Term) → suppressed_alone body ≡ Some (name, terms) → (some : Relation)
      → some.columns ≡ filter (is_in_terms terms) xs
      → (all : List Event) → ((event : Event) → Contains now.events.now event → Contains all event)
      → ((u : Valuation) → HasValuation some u ↔ IsMatchOfName all name terms v some.columns u)
      → (t : Relation) → IsTable t → HasOpenColumns now.tables.now n t → AreEvaluatedIn some now.tables.now n now.ordered.now v t
      → IsKnownOfGuard now.tables.now n now.ordered.now v t → TellMissing now plan body v t
  told_some exist name terms own some named all more matches t table columns evaluated known =
      subst (λ p. TellMissing now p body v t) (sym is.is)
      (some_tell now n f can.scope xs can.can.0.0 can.can.0.1 can.can.0.2 v can.fits is.node body can.can.1 t table columns name terms own some named all more matches evaluated
      exist can known)

-- where all rows are asked
pub ok_all : {E : Type 0} (now : Now) (n : ℕ) (f : Formula) (xs : List VarId) (body : Plan) (v : Valuation) (r : Result Relation E)
    → IfOk r IsTable → IfOk r (HasOpenColumns now.tables.now n) → IfOk r (AreEvaluated now.tables.now n now.ordered.now v)
    → IfOk r (IsKnownOfGuard now.tables.now n now.ordered.now v)
    → IfOk r (λ t. (plan : Plan) → IsGuardedBy now n f xs body v plan → TellMissing now plan body v t)
ok_all now n f xs body v (Ok t) table columns evaluated known = λ plan is. told_all now n f xs body v plan is t table columns evaluated known
ok_all now n f xs body v (Err e) table columns evaluated known = tt
