-- The variables in scope, and the values that they have.
use Rattle.action_report.proofs.Vocabulary.{◌++◌, List, ℕ, Some, map, sym, ap, ◌∙◌, bindings, plan_of, bindings_text}
use Rattle.action_report.proofs.OneAction.{scope_same}
use Rattle.action_report.proofs.ReadLemmas.{binds_start, rising_start, same_start, scope_rises, when_none}
use Rattle.action_report.proofs.bindings.read_valuation.Goals as goal

pub returns-in_default-clause-again : goal.returns-in_default-clause-again
returns-in_default-clause-again c = λ scope v rest stands binds ends e.
    absurd (when_none _ c.in_default.not-Some c.in_ok-scope.ensures.none scope stands)

pub bindings-requires : goal.bindings-requires
bindings-requires c =
    let stands = rw c.in-Some.is at c.in_ok-scope.ensures.found in
    rising_start c.empty-valuation.result c.as_slice.result.now c.in-Some.scope.items c.empty-valuation.ensures c.as_slice.ensures.value
    (scope_rises c.nodes_have_scopes.ensures.rises (map plan_of c.args.plans.now) c.args.cause.rule c.args.cause.node c.args.cause.leaf c.in-Some.scope.items c.requires stands)

pub returns-clause-told : goal.returns-clause-told
returns-clause-told c =
    let stands = rw c.in-Some.is at c.in_ok-scope.ensures.found in (
      c.in-Some.scope.items,
      stands,
      binds_start c.empty-valuation.result c.bindings.new.valuation c.as_slice.result.now c.in-Some.scope.items c.in_ok-bindings.field-0 c.empty-valuation.ensures c.as_slice.ensures.value
          c.if-not-branch.false c.in_ok-bindings.ensures.binds,
    )

pub returns-clause-again : goal.returns-clause-again
returns-clause-again c = λ scope v rest stands binds ends e.
    let found = rw c.in-Some.is at c.in_ok-scope.ensures.found in
    let same = scope_same (map plan_of c.args.plans.now) c.args.cause.rule c.args.cause.node c.args.cause.leaf c.args.cause.leaf scope c.in-Some.scope.items stands found in
    let read = c.in_ok-bindings.ensures.again (bindings v) rest (binds.variables ∙ same ∙ sym c.as_slice.ensures.value) binds.values ends
    (e ∙ ap (λ (vars : List (List ℕ)). bindings_text vars (bindings v) ++ rest) (sym c.variables_of-vars.ensures)) in
    ap Some (same_start c.empty-valuation.result c.bindings.new.valuation v c.empty-valuation.ensures read.1)
