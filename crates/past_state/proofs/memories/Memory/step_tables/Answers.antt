use Rattle.past_state.proofs.Vocabulary.{◌≡◌, ◌⊎◌, [], Contains, IsFree, AreFreeVariables, BindsFresh, AnswersRows}
use Rattle.past_state.proofs.Vocabulary.{◌↔◌, drop, sym, refl, subst, tree_of, FitOperators, HoldsNow, outermost, CanStep, AreStepTables, AllComeFrom, Valuation, BindsColumns, HasValuation}
use Rattle.past_state.proofs.ColumnLemmas.{answers_all}
use Rattle.past_state.specs.declared.survivors.Survivors.TheVariants as told
use Rattle.past_state.proofs.memories.Memory.step_tables.Goals as goal

pub right_rows-requires-clause-bound : goal.right_rows-requires-clause-bound
right_rows-requires-clause-bound c = subst (λ g. g.bound ≡ []) (sym c.guard.ensures) (subst (CanStep c.args.past.now) c.in-Prev.is c.requires).bound

pub right_rows-requires-clause-fresh : goal.right_rows-requires-clause-fresh
right_rows-requires-clause-fresh c = subst (λ g. BindsFresh (tree_of g.formula) (λ x. Contains g.bound x ⊎ IsFree x (tree_of g.formula))) (sym c.guard.ensures)
    (subst (CanStep c.args.past.now) c.in-Prev.is c.requires).fresh

pub right_rows-requires-clause-tabled : goal.right_rows-requires-clause-tabled
right_rows-requires-clause-tabled c = subst (λ g. FitOperators (outermost (tree_of g.formula)) c.args.past.now) (sym c.guard.ensures)
    (subst (CanStep c.args.past.now) c.in-Prev.is c.requires).tabled

pub right_rows-requires-in-Once-clause-fresh : goal.right_rows-requires-in-Once-clause-fresh
right_rows-requires-in-Once-clause-fresh c = (subst (CanStep c.args.past.now) c.in-Once.is c.requires).fresh

pub right_rows-requires-in-Since-clause-fresh : goal.right_rows-requires-in-Since-clause-fresh
right_rows-requires-in-Since-clause-fresh c = (subst (CanStep c.args.past.now) c.in-Since.is c.requires).0.fresh

pub right_rows-requires-in-Since-clause-tabled : goal.right_rows-requires-in-Since-clause-tabled
right_rows-requires-in-Since-clause-tabled c =
    let can = subst (CanStep c.args.past.now) c.in-Since.is c.requires in
    subst (FitOperators (outermost (tree_of c.in-Since.right.formula))) (sym c.behind-behind.ensures) can.0.tabled

pub returns-in_ok-right-in-Prev : goal.returns-in_ok-right-in-Prev
returns-in_ok-right-in-Prev c =
    subst (λ m. AreStepTables c.args.events.now c.args.past.now m (record { surviving = told.All; right = c.in_ok-right-in-Prev.right })) (sym c.in-Prev.is)
    (subst (λ g. AnswersRows c.args.events.now c.args.past.now g c.in-Prev.slot.columns c.in_ok-right-in-Prev.right) c.guard.ensures
    (answers_all c.args.events.now c.args.past.now c.guard.result.now c.in-Prev.slot.columns c.in_ok-right-in-Prev.right
    (subst (λ g. AreFreeVariables (tree_of g.formula) c.in-Prev.slot.columns) (sym c.guard.ensures) (subst (CanStep c.args.past.now) c.in-Prev.is c.requires).free)
    c.in_ok-right-in-Prev.ensures.table c.in_ok-right-in-Prev.ensures.free c.in_ok-right-in-Prev.ensures.rows c.in_ok-right-in-Prev.ensures.known))

pub returns-in_ok-right-in-Once : goal.returns-in_ok-right-in-Once
returns-in_ok-right-in-Once c =
    subst (λ m. AreStepTables c.args.events.now c.args.past.now m (record { surviving = told.All; right = c.in_ok-right-in-Once.right })) (sym c.in-Once.is) (
      answers_all c.args.events.now c.args.past.now c.in-Once.right c.in-Once.window.columns c.in_ok-right-in-Once.right
          (subst (CanStep c.args.past.now) c.in-Once.is c.requires).free c.in_ok-right-in-Once.ensures.table c.in_ok-right-in-Once.ensures.free c.in_ok-right-in-Once.ensures.rows
          c.in_ok-right-in-Once.ensures.known,
      refl,
    )

pub returns-in_ok-surviving-in-Since : goal.returns-in_ok-surviving-in-Since
returns-in_ok-surviving-in-Since c =
    subst (λ m. AreStepTables c.args.events.now c.args.past.now m (record { surviving = c.in_ok-surviving-in-Since.surviving; right = c.in_ok-right-in-Since.right })) (sym c.in-Since.is) (
      answers_all c.args.events.now (drop c.in-Since.left_tables c.args.past.now) c.in-Since.right c.in-Since.window.columns c.in_ok-right-in-Since.right
          (subst (CanStep c.args.past.now) c.in-Since.is c.requires).0.free c.in_ok-right-in-Since.ensures.table c.in_ok-right-in-Since.ensures.free
          (subst (λ l. (v : Valuation) → BindsColumns v c.in_ok-right-in-Since.right.columns
          → HasValuation c.in_ok-right-in-Since.right v ↔ HoldsNow c.args.events.now l v (tree_of c.in-Since.right.formula))
          c.behind-behind.ensures c.in_ok-right-in-Since.ensures.rows)
          (subst (λ l. AllComeFrom c.args.events.now l (tree_of c.in-Since.right.formula) c.in_ok-right-in-Since.right)
          c.behind-behind.ensures c.in_ok-right-in-Since.ensures.known),
      c.in_ok-surviving-in-Since.ensures,
    )
