use Rattle.past_state.proofs.Vocabulary.{rules, ◌∙◌, ◌+◌, ◌++◌, All, length, reverse, sym, subst, ap, arith, IfOk-weaker, tree_of, Prev, Once, Historically, Since, IsFree, VarId, outermost, Safe}
use Rattle.past_state.proofs.Vocabulary.{NoneBound, BoundOrFreeIn, denial, BindsFresh, CanKeep, IsFreshFormula, PushesFor, IsFor, operators}
use Rattle.past_state.proofs.FirstMemoryLemmas.{keep_rest, keep_first, keep_left, keep_right, pushes_up, pushes_both, both_fewer, sum_counts}
use Rattle.past_state.proofs.first_memories.+pushing.Goals as goal

pub push_operators-push_operators-requires-in-Since : goal.push_operators-push_operators-requires-in-Since
push_operators-push_operators-requires-in-Since t c = (
  search rules,
  subst (λ f. All CanKeep (operators (tree_of f))) (sym c.deref-in-Since.ensures)
      (keep_right (tree_of c.in-Since.f.value) (tree_of c.in-Since.g.value) (keep_rest _ _ (subst (λ f. All CanKeep (operators (tree_of f))) c.in-Since.is c.requires))),
)

pub push_operators-push_operators-requires-in-Since-2 : goal.push_operators-push_operators-requires-in-Since-2
push_operators-push_operators-requires-in-Since-2 t c = (
  search rules,
  subst (λ f. All CanKeep (operators (tree_of f))) (sym c.deref-in-Since-2.ensures)
      (keep_left (tree_of c.in-Since.f.value) (tree_of c.in-Since.g.value) (keep_rest _ _ (subst (λ f. All CanKeep (operators (tree_of f))) c.in-Since.is c.requires))),
)

pub push_operators-push_operators-requires : goal.push_operators-push_operators-requires
push_operators-push_operators-requires t c = (
  search rules,
  subst (λ f. All CanKeep (operators (tree_of f))) (sym c.deref-in-Prev.ensures)
      (keep_rest _ _ (subst (λ f. All CanKeep (operators (tree_of f))) c.in-Prev.is c.requires)),
)

pub push_operators-push_operators-requires-in-Once : goal.push_operators-push_operators-requires-in-Once
push_operators-push_operators-requires-in-Once t c = (
  search rules,
  subst (λ f. All CanKeep (operators (tree_of f))) (sym c.deref-in-Once.ensures)
      (keep_rest _ _ (subst (λ f. All CanKeep (operators (tree_of f))) c.in-Once.is c.requires)),
)

pub push_operators-push_operators-requires-in-Historically : goal.push_operators-push_operators-requires-in-Historically
push_operators-push_operators-requires-in-Historically t c = (
  search rules,
  subst (λ f. All CanKeep (operators (tree_of f))) (sym c.deref-in-Historically.ensures)
      (keep_rest _ _ (subst (λ f. All CanKeep (operators (tree_of f))) c.in-Historically.is c.requires)),
)

pub push_operators-since_memory-requires-clause-fresh_right : goal.push_operators-since_memory-requires-clause-fresh_right
push_operators-since_memory-requires-clause-fresh_right t c = subst (λ g. IsFreshFormula (tree_of g)) (sym c.deref-in-Since-4.ensures)
    (keep_first _ _ (subst (λ f. All CanKeep (operators (tree_of f))) c.in-Since.is c.requires)).0

pub push_operators-since_memory-requires-clause-fresh_left : goal.push_operators-since_memory-requires-clause-fresh_left
push_operators-since_memory-requires-clause-fresh_left t c =
    subst (λ g. BindsFresh (tree_of g) (λ x. IsFree x (tree_of c.deref-in-Since-4.result.now))) (sym c.deref-in-Since-3.ensures)
    (subst (λ g. BindsFresh (tree_of c.in-Since.f.value) (λ x. IsFree x (tree_of g))) (sym c.deref-in-Since-4.ensures)
    (keep_first _ _ (subst (λ f. All CanKeep (operators (tree_of f))) c.in-Since.is c.requires)).1)

pub push_operators-since_memory-requires-clause-within : goal.push_operators-since_memory-requires-clause-within
push_operators-since_memory-requires-clause-within t c =
    subst (λ g. (x : VarId) → IsFree x (tree_of g) → IsFree x (tree_of c.deref-in-Since-4.result.now)) (sym c.deref-in-Since-3.ensures)
    (subst (λ g. (x : VarId) → IsFree x (tree_of c.in-Since.f.value) → IsFree x (tree_of g)) (sym c.deref-in-Since-4.ensures)
    (keep_first _ _ (subst (λ f. All CanKeep (operators (tree_of f))) c.in-Since.is c.requires)).2)

pub push_operators-overflow_add-left : goal.push_operators-overflow_add-left
push_operators-overflow_add-left t c =
    let small = c.push_operators-in-Since-2.new.out.small in
    let fine = c.push_operators-in-Since-2.new.out.ok in
    omega (
      arith,
      both_fewer (tree_of c.deref-in-Since-2.result.now) (tree_of c.deref-in-Since.result.now) c.args.out.now.items c.push_operators-in-Since.new.out.items
          c.push_operators-in-Since-2.new.out.items c.in_ok-left-in-Since.left c.in_ok-right-in-Since.right c.in_ok-left-in-Since.ensures.count c.in_ok-right-in-Since.ensures.count
          c.in_ok-right-in-Since.ensures.pushed c.in_ok-left-in-Since.ensures.pushed,
      fine.0,
      small,
    )

pub push_operators-returns-in_ok-prev_memory-in-Prev-clause-pushed : goal.push_operators-returns-in_ok-prev_memory-in-Prev-clause-pushed
push_operators-returns-in_ok-prev_memory-in-Prev-clause-pushed t c = IfOk-weaker c.push_one.result _
    (λ _. PushesFor (reverse (operators (tree_of c.args.formula.now))) c.args.out.now.items c.push_one.new.out.items)
    (λ _ grown. subst (λ f. PushesFor (reverse (operators (tree_of f))) c.args.out.now.items c.push_one.new.out.items) (sym c.in-Prev.is)
    (pushes_up (Prev c.in-Prev.field-0 c.in-Prev.interval (tree_of c.in-Prev.f.value)) (operators (tree_of c.in-Prev.f.value)) c.in_ok-prev_memory-in-Prev.field-0
    c.in_ok-taken-in-Prev.taken c.args.out.now.items c.push_operators.new.out.items c.push_one.new.out.items
    (subst (λ f. PushesFor (reverse (operators (tree_of f))) c.args.out.now.items c.push_operators.new.out.items) c.deref-in-Prev.ensures c.in_ok-taken-in-Prev.ensures.pushed)
    (subst (λ f. IsFor (Prev c.in-Prev.field-0 c.in-Prev.interval (tree_of f)) c.in_ok-prev_memory-in-Prev.field-0) c.deref-in-Prev-2.ensures (c.in_ok-prev_memory-in-Prev.ensures c.in-Prev.field-0))
    (c.in_ok-taken-in-Prev.ensures.count ∙ ap (λ f. length (outermost (tree_of f))) c.deref-in-Prev.ensures) grown)) c.push_one.ensures.pushed

pub push_operators-returns-in_ok-once_memory-in-Once-clause-pushed : goal.push_operators-returns-in_ok-once_memory-in-Once-clause-pushed
push_operators-returns-in_ok-once_memory-in-Once-clause-pushed t c = IfOk-weaker c.push_one-in-Once.result _
    (λ _. PushesFor (reverse (operators (tree_of c.args.formula.now))) c.args.out.now.items c.push_one-in-Once.new.out.items)
    (λ _ grown. subst (λ f. PushesFor (reverse (operators (tree_of f))) c.args.out.now.items c.push_one-in-Once.new.out.items) (sym c.in-Once.is)
    (pushes_up (Once c.in-Once.field-0 c.in-Once.interval (tree_of c.in-Once.f.value)) (operators (tree_of c.in-Once.f.value)) c.in_ok-once_memory-in-Once.field-0
    c.in_ok-taken-in-Once.taken c.args.out.now.items c.push_operators-in-Once.new.out.items c.push_one-in-Once.new.out.items
    (subst (λ f. PushesFor (reverse (operators (tree_of f))) c.args.out.now.items c.push_operators-in-Once.new.out.items) c.deref-in-Once.ensures c.in_ok-taken-in-Once.ensures.pushed)
    (subst (λ f. IsFor (Once c.in-Once.field-0 c.in-Once.interval (tree_of f)) c.in_ok-once_memory-in-Once.field-0) c.deref-in-Once-2.ensures (c.in_ok-once_memory-in-Once.ensures c.in-Once.field-0))
    (c.in_ok-taken-in-Once.ensures.count ∙ ap (λ f. length (outermost (tree_of f))) c.deref-in-Once.ensures) grown)) c.push_one-in-Once.ensures.pushed

pub push_operators-returns-in_ok-historically_memory-in-Historically-clause-pushed : goal.push_operators-returns-in_ok-historically_memory-in-Historically-clause-pushed
push_operators-returns-in_ok-historically_memory-in-Historically-clause-pushed t c = IfOk-weaker c.push_one-in-Historically.result _
    (λ _. PushesFor (reverse (operators (tree_of c.args.formula.now))) c.args.out.now.items c.push_one-in-Historically.new.out.items)
    (λ _ grown. subst (λ f. PushesFor (reverse (operators (tree_of f))) c.args.out.now.items c.push_one-in-Historically.new.out.items) (sym c.in-Historically.is)
    (pushes_up (Historically c.in-Historically.field-0 c.in-Historically.interval (tree_of c.in-Historically.f.value)) (operators (tree_of c.in-Historically.f.value))
    c.in_ok-historically_memory-in-Historically.field-0 c.in_ok-taken-in-Historically.taken c.args.out.now.items c.push_operators-in-Historically.new.out.items
    c.push_one-in-Historically.new.out.items
    (subst (λ f. PushesFor (reverse (operators (tree_of f))) c.args.out.now.items c.push_operators-in-Historically.new.out.items) c.deref-in-Historically.ensures
    c.in_ok-taken-in-Historically.ensures.pushed)
    (subst (λ f. IsFor (Historically c.in-Historically.field-0 c.in-Historically.interval (tree_of f)) c.in_ok-historically_memory-in-Historically.field-0)
    c.deref-in-Historically-2.ensures (c.in_ok-historically_memory-in-Historically.ensures c.in-Historically.field-0))
    (c.in_ok-taken-in-Historically.ensures.count ∙ ap (λ f. length (outermost (tree_of f))) c.deref-in-Historically.ensures) grown)) c.push_one-in-Historically.ensures.pushed

pub push_operators-returns-in_ok-memory-in-Since-clause-pushed : goal.push_operators-returns-in_ok-memory-in-Since-clause-pushed
push_operators-returns-in_ok-memory-in-Since-clause-pushed t c = IfOk-weaker c.push_one-in-Since.result _
    (λ _. PushesFor (reverse (operators (tree_of c.args.formula.now))) c.args.out.now.items c.push_one-in-Since.new.out.items)
    (λ _ grown. subst (λ f. PushesFor (reverse (operators (tree_of f))) c.args.out.now.items c.push_one-in-Since.new.out.items) (sym c.in-Since.is)
    (pushes_up (Since c.in-Since.field-0 c.in-Since.interval (tree_of c.in-Since.f.value) (tree_of c.in-Since.g.value))
    (operators (tree_of c.in-Since.f.value) ++ operators (tree_of c.in-Since.g.value)) c.in_ok-memory-in-Since.memory
    (c.in_ok-left-in-Since.left + c.in_ok-right-in-Since.right) c.args.out.now.items c.push_operators-in-Since-2.new.out.items c.push_one-in-Since.new.out.items
    (pushes_both (operators (tree_of c.in-Since.f.value)) (operators (tree_of c.in-Since.g.value)) c.args.out.now.items c.push_operators-in-Since.new.out.items
    c.push_operators-in-Since-2.new.out.items
    (subst (λ f. PushesFor (reverse (operators (tree_of f))) c.args.out.now.items c.push_operators-in-Since.new.out.items) c.deref-in-Since.ensures c.in_ok-right-in-Since.ensures.pushed)
    (subst (λ f. PushesFor (reverse (operators (tree_of f))) c.push_operators-in-Since.new.out.items c.push_operators-in-Since-2.new.out.items) c.deref-in-Since-2.ensures
    c.in_ok-left-in-Since.ensures.pushed))
    (subst (λ f. IsFor (Since c.in-Since.field-0 c.in-Since.interval (tree_of f) (tree_of c.in-Since.g.value)) c.in_ok-memory-in-Since.memory) c.deref-in-Since-3.ensures
    (subst (λ g. IsFor (Since c.in-Since.field-0 c.in-Since.interval (tree_of c.deref-in-Since-3.result.now) (tree_of g)) c.in_ok-memory-in-Since.memory) c.deref-in-Since-4.ensures
    (c.in_ok-memory-in-Since.ensures c.in-Since.field-0)))
    (sum_counts (outermost (tree_of c.in-Since.f.value)) (outermost (tree_of c.in-Since.g.value)) _ _
    (c.in_ok-left-in-Since.ensures.count ∙ ap (λ f. length (outermost (tree_of f))) c.deref-in-Since-2.ensures)
    (c.in_ok-right-in-Since.ensures.count ∙ ap (λ f. length (outermost (tree_of f))) c.deref-in-Since.ensures)) grown)) c.push_one-in-Since.ensures.pushed

pub push_operators-prev_memory-requires-clause-safe : goal.push_operators-prev_memory-requires-clause-safe
push_operators-prev_memory-requires-clause-safe t c = subst (λ f. Safe (tree_of f) NoneBound) (sym c.deref-in-Prev-2.ensures)
    (keep_first _ _ (subst (λ f. All CanKeep (operators (tree_of f))) c.in-Prev.is c.requires)).1

pub push_operators-once_memory-requires-clause-safe : goal.push_operators-once_memory-requires-clause-safe
push_operators-once_memory-requires-clause-safe t c = subst (λ f. Safe (tree_of f) NoneBound) (sym c.deref-in-Once-2.ensures)
    (keep_first _ _ (subst (λ f. All CanKeep (operators (tree_of f))) c.in-Once.is c.requires)).1

pub push_operators-historically_memory-requires-clause-safe : goal.push_operators-historically_memory-requires-clause-safe
push_operators-historically_memory-requires-clause-safe t c =
    subst (λ f. Safe (denial (tree_of f)) NoneBound) (sym c.deref-in-Historically-2.ensures) (keep_first _ _ (subst (λ f. All CanKeep (operators (tree_of f))) c.in-Historically.is c.requires)).1

pub push_operators-since_memory-requires-clause-safe_right : goal.push_operators-since_memory-requires-clause-safe_right
push_operators-since_memory-requires-clause-safe_right t c = subst (λ g. Safe (tree_of g) NoneBound) (sym c.deref-in-Since-4.ensures)
    (keep_first _ _ (subst (λ f. All CanKeep (operators (tree_of f))) c.in-Since.is c.requires)).3

pub push_operators-since_memory-requires-clause-safe_left : goal.push_operators-since_memory-requires-clause-safe_left
push_operators-since_memory-requires-clause-safe_left t c =
    subst (λ g. Safe (tree_of g) (BoundOrFreeIn NoneBound (tree_of c.deref-in-Since-4.result.now))) (sym c.deref-in-Since-3.ensures)
    (subst (λ g. Safe (tree_of c.in-Since.f.value) (BoundOrFreeIn NoneBound (tree_of g))) (sym c.deref-in-Since-4.ensures)
    (keep_first _ _ (subst (λ f. All CanKeep (operators (tree_of f))) c.in-Since.is c.requires)).4)

pub push_operators-push_both-requires : goal.push_operators-push_both-requires
push_operators-push_both-requires t c = (
  search rules,
  (
    subst (λ f. All CanKeep (operators (tree_of f))) (sym c.deref.ensures) (keep_left (tree_of c.in-And.f.value) (tree_of c.in-And.g.value)
        (subst (λ f. All CanKeep (operators (tree_of f))) c.in-And.is c.requires)),
    subst (λ f. All CanKeep (operators (tree_of f))) (sym c.deref-in-And.ensures) (keep_right (tree_of c.in-And.f.value) (tree_of c.in-And.g.value)
        (subst (λ f. All CanKeep (operators (tree_of f))) c.in-And.is c.requires)),
  ),
)

pub push_operators-push_both-requires-in-Or : goal.push_operators-push_both-requires-in-Or
push_operators-push_both-requires-in-Or t c = (
  search rules,
  (
    subst (λ f. All CanKeep (operators (tree_of f))) (sym c.deref-in-Or.ensures) (keep_left (tree_of c.in-Or.f.value) (tree_of c.in-Or.g.value)
        (subst (λ f. All CanKeep (operators (tree_of f))) c.in-Or.is c.requires)),
    subst (λ f. All CanKeep (operators (tree_of f))) (sym c.deref-in-Or-2.ensures) (keep_right (tree_of c.in-Or.f.value) (tree_of c.in-Or.g.value)
        (subst (λ f. All CanKeep (operators (tree_of f))) c.in-Or.is c.requires)),
  ),
)

pub push_operators-push_both-requires-in-Implies : goal.push_operators-push_both-requires-in-Implies
push_operators-push_both-requires-in-Implies t c = (
  search rules,
  (
    subst (λ f. All CanKeep (operators (tree_of f))) (sym c.deref-in-Implies.ensures) (keep_left (tree_of c.in-Implies.f.value) (tree_of c.in-Implies.g.value)
        (subst (λ f. All CanKeep (operators (tree_of f))) c.in-Implies.is c.requires)),
    subst (λ f. All CanKeep (operators (tree_of f))) (sym c.deref-in-Implies-2.ensures)
        (keep_right (tree_of c.in-Implies.f.value) (tree_of c.in-Implies.g.value) (subst (λ f. All CanKeep (operators (tree_of f))) c.in-Implies.is c.requires)),
  ),
)

pub push_both-overflow_add-result : goal.push_both-overflow_add-result
push_both-overflow_add-result t c =
    let small = c.push_operators-2.new.out.small in
    let fine = c.push_operators-2.new.out.ok in
    omega (
      arith,
      both_fewer (tree_of c.args.f.now) (tree_of c.args.g.now) c.args.out.now.items c.push_operators.new.out.items c.push_operators-2.new.out.items c.in_ok-left.left
          c.in_ok-right.right c.in_ok-left.ensures.count c.in_ok-right.ensures.count c.in_ok-right.ensures.pushed c.in_ok-left.ensures.pushed,
      fine.0,
      small,
    )

pub push_both-returns-clause-pushed : goal.push_both-returns-clause-pushed
push_both-returns-clause-pushed t c =
    pushes_both (operators (tree_of c.args.f.now)) (operators (tree_of c.args.g.now)) c.args.out.now.items c.push_operators.new.out.items c.push_operators-2.new.out.items
    c.in_ok-right.ensures.pushed c.in_ok-left.ensures.pushed
