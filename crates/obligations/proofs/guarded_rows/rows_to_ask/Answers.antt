use Rattle.obligations.proofs.Vocabulary.{◌≡◌, ◌∙◌, ◌↔◌, List, Some, IfSome, ap, sym, subst, inr, Contains, HasNoRepeats, VarId, Valuation, tree_of, plan_of, bound_in, HasValuation}
use Rattle.std.specs.List.{filter}
use Rattle.enf_data.proofs.Lists.{Contains-from_filter}
use Rattle.monitorable_guard.specs.machine.Answers.{IsMatchOfName}
use Rattle.obligations.proofs.GuardedRowLemmas.{columns_distinct, columns_within, guard_binds, guard_within, in_terms, ok_all, told_some}
use Rattle.obligations.specs.machine.GuardedRows.{TellMissing, is_in_terms, suppressed_alone}
use Rattle.obligations.proofs.guarded_rows.rows_to_ask.Goals as goal

pub told_under-requires-clause-within : goal.told_under-requires-clause-within
told_under-requires-clause-within c =
    guard_within c.args.now.now c.args.guard (tree_of c.args.test.now) c.args.vars.now (plan_of c.args.body.now) (bound_in c.args.v.now) c.requires.0 c.requires.1

pub told_under-requires-clause-binds : goal.told_under-requires-clause-binds
told_under-requires-clause-binds c =
    guard_binds c.args.now.now c.args.guard (tree_of c.args.test.now) c.args.vars.now (plan_of c.args.body.now) (bound_in c.args.v.now) c.requires.0 c.requires.1

pub returns-in_default : goal.returns-in_default
returns-in_default c =
    let e = c.told_under.ensures in
    ok_all c.args.now.now c.args.guard (tree_of c.args.test.now) c.args.vars.now (plan_of c.args.body.now) (bound_in c.args.v.now) c.told_under.result
    e.table e.columns e.evaluated e.known

pub table_of_events-requires-clause-distinct : goal.table_of_events-requires-clause-distinct
table_of_events-requires-clause-distinct c =
    let terms = c.in-Some.terms.now in
    let same : c.in_ok-columns.columns ≡ filter (is_in_terms terms) c.args.vars.now =
    c.in_ok-columns.ensures ∙ ap (λ l. filter (is_in_terms terms) l) c.as_slice.ensures in
    subst HasNoRepeats (sym same)
    (columns_distinct c.args.now.now c.args.guard (tree_of c.args.test.now) c.args.vars.now (plan_of c.args.body.now) (bound_in c.args.v.now) c.requires.0 c.requires.1 terms)

pub table_of_events-requires-clause-within : goal.table_of_events-requires-clause-within
table_of_events-requires-clause-within c =
    let terms = c.in-Some.terms.now in
    let same : c.in_ok-columns.columns ≡ filter (is_in_terms terms) c.args.vars.now =
    c.in_ok-columns.ensures ∙ ap (λ l. filter (is_in_terms terms) l) c.as_slice.ensures in
    λ x there. inr ((in_terms terms x).0 (Contains-from_filter (is_in_terms terms) c.args.vars.now x (subst (λ l. Contains l x) same there)).1)

pub rows_in-requires-clause-within : goal.rows_in-requires-clause-within
rows_in-requires-clause-within c =
    guard_within c.args.now.now c.args.guard (tree_of c.args.test.now) c.args.vars.now (plan_of c.args.body.now) (bound_in c.args.v.now) c.requires.0 c.requires.1

pub rows_in-requires-clause-binds : goal.rows_in-requires-clause-binds
rows_in-requires-clause-binds c =
    guard_binds c.args.now.now c.args.guard (tree_of c.args.test.now) c.args.vars.now (plan_of c.args.body.now) (bound_in c.args.v.now) c.requires.0 c.requires.1

pub rows_in-requires-clause-columns : goal.rows_in-requires-clause-columns
rows_in-requires-clause-columns c =
    let terms = c.in-Some.terms.now in
    let same : c.in_ok-columns.columns ≡ filter (is_in_terms terms) c.args.vars.now =
    c.in_ok-columns.ensures ∙ ap (λ l. filter (is_in_terms terms) l) c.as_slice.ensures in
    columns_within c.args.now.now c.args.guard (tree_of c.args.test.now) c.args.vars.now (plan_of c.args.body.now) (bound_in c.args.v.now) c.requires.0 c.requires.1
    terms c.in_ok-within.within (c.in_ok-within.ensures.columns ∙ same)

pub returns : goal.returns
returns c =
    let now = c.args.now.now in
    let v = bound_in c.args.v.now in
    let body = plan_of c.args.body.now in
    let name = c.in-Some.name in
    let terms = c.in-Some.terms.now in
    let same : c.in_ok-columns.columns ≡ filter (is_in_terms terms) c.args.vars.now =
    c.in_ok-columns.ensures ∙ ap (λ l. filter (is_in_terms terms) l) c.as_slice.ensures in
    let own : suppressed_alone body ≡ Some (name, terms) =
    subst (λ o. IfSome o (λ own. suppressed_alone body ≡ Some (own.0, own.1.now))) c.in-Some.is c.suppressed_bare.ensures in
    let within = c.in_ok-within.within in
    let all = c.all.result.now in
    let matches : (u : Valuation) → HasValuation within u ↔ IsMatchOfName all name terms v within.columns u =
    subst (λ (l : List VarId). (u : Valuation) → HasValuation within u ↔ IsMatchOfName all name terms v l u) (sym c.in_ok-within.ensures.columns)
    c.in_ok-within.ensures.rows in
    let e = c.in_ok-rows.ensures in
    λ plan is. subst (TellMissing now plan body v) (sym c.of.ensures)
    (told_some now c.args.guard (tree_of c.args.test.now) c.args.vars.now body v plan is c.missing_exists.ensures.missing name terms own within
    (c.in_ok-within.ensures.columns ∙ same) all c.all.ensures matches c.in_ok-rows.rows e.table e.columns e.evaluated e.known)
