use Rattle.monitorable_guard.proofs.Vocabulary.{◌≡◌, ◌+◌, ◌<◌, inl, inr, ⊎_elim, List, [], ◌++◌, length, get_or, drop, ◌≤◌, IsTrue, Contains, Fits, w64, IfOk, ◌↔◌, refl, sym, ap, subst, ◌∙◌, arith}
use Rattle.monitorable_guard.proofs.Vocabulary.{rules, false≢true, take_all, IfOk-weaker, Atom, Equal, Exists, Historically, tree_of, rising_distinct, Valuation, variable_cmp_total, Value, Var}
use Rattle.monitorable_guard.proofs.Vocabulary.{AddsRows, AreBoundOrFree, IsGuardAnswer, IsBoundBy, IsEquated, IsFromRow, IsMatchAmong, CanAskFormula, shown_events, HoldsNow, FirstHas, outermost}
use Rattle.monitorable_guard.proofs.Vocabulary.{tables_beyond, FreeWithin, none_in_nil, bound_in, filled_from_row, And, Or}
use Rattle.monitorable_guard.proofs.PartLemmas.{ask_not, ask_and_left, ask_and_right, ask_or_left, ask_or_right, ask_implies_left, ask_implies_right, ask_exists, ask_none, ask_range, ask_nested}
use Rattle.monitorable_guard.proofs.PartLemmas.{and_anywhere, or_anywhere, binds_itself}
use Rattle.monitorable_guard.proofs.CycleLemmas.{closed_where_none, none_where_closed, open_scope, added_fit, ok_answers, ok_open, some_answer, fit_places, closed_scope, adds_test, one_side}
use Rattle.monitorable_guard.proofs.CycleLemmas.{ok_decides, ok_either, ok_forall, ok_nested, ok_each, ok_both, ok_second, ok_where, not_decides, none_equal, fits_from, fit_place, fit_first}
use Rattle.monitorable_guard.proofs.CycleLemmas.{each_more}
use Rattle.monitorable_guard.proofs.EvaluationLemmas.{atom_to, atom_from, equal_to, equal_from, exists_to, exists_from, exists_decided, none_decided, past_to, past_from}
use Rattle.monitorable_guard.proofs.KindLemmas.{closed_kind, below_kind}
use Rattle.monitorable_guard.proofs.PastLemmas.{told_fit, told_holds, given_columns}
use Rattle.monitorable_guard.proofs.PairLemmas.{both_ask, both_scope, adds_both_parts, either_ask, either_scope, adds_either_part, each_ask, each_closed, each_decided, next_tables}
use Rattle.monitorable_guard.proofs.RowsLemmas.{SomeOf, adds_as, adds_more, adds_nothing, on_ok}
use Rattle.monitorable_guard.proofs.AnswerLemmas.{ok_closed, ok_atom, some_past, ok_exists_answered, ok_both_answered, first_answered, ok_second_answered, ok_for_each}
use Rattle.monitorable_guard.specs.machine.Answers.{HasSolution}
use Rattle.monitorable_guard.proofs.evaluation.+evaluation.Goals as goal

-- ---- gather

pub gather-gather_known-requires : goal.gather-gather_known-requires
gather-gather_known-requires g t c = λ κs lives. (search rules, (search rules, (c.requires.few, (c.requires.ask, (c.requires.within, c.in_ok-closed.ensures)))))

pub gather_known-holds-requires : goal.gather_known-holds-requires
gather_known-holds-requires g t c = λ κs lives. (search rules, (search rules, (c.requires.few, (c.requires.ask, c.requires.known.0 c.if-closed.true))))

pub gather_known-push_if-requires : goal.gather_known-push_if-requires
gather_known-push_if-requires g t c = closed_scope c.args.present.now.events.now (drop c.args.first (g.P.Past.tables c.args.present.now.past.now)) (bound_in c.args.scope.now)
    (tree_of c.args.formula.now) c.args.columns.now (c.requires.known.0 c.if-closed.true) c.requires.within

pub gather_known-gather_open-requires : goal.gather_known-gather_open-requires
gather_known-gather_open-requires g t c = λ κs lives. (
  search rules,
  (
    search rules,
    (
      c.requires.few,
      (c.requires.ask, (c.requires.within, λ closed. absurd (false≢true (sym c.if-closed.false ∙ c.requires.known.1 closed)))),
    ),
  ),
)

pub gather_known-returns-in_ok-test : goal.gather_known-returns-in_ok-test
gather_known-returns-in_ok-test g t c =
    on_ok c.push_if.result _ _
    (adds_test c.args.present.now.events.now (drop c.args.first (g.P.Past.tables c.args.present.now.past.now)) (bound_in c.args.scope.now) (tree_of c.args.formula.now) c.args.columns.now _
    _ c.in_ok-test.test c.requires.ask.tabled (c.requires.known.0 c.if-closed.true) c.requires.within c.in_ok-test.ensures)
    c.push_if.ensures

-- ---- gather_both

pub gather_both-rows-requires : goal.gather_both-rows-requires
gather_both-rows-requires g t c = λ κs lives. (
  search rules,
  (
    search rules,
    (
      c.requires.few,
      ask_and_left (bound_in c.args.scope.now)
          (drop c.args.first (g.P.Past.tables c.args.present.now.past.now)) c.requires.ask.0 (tree_of c.args.g.now) (tree_of c.args.h.now) c.requires.ask.1,
    ),
  ),
)

pub gather_both-operators-requires : goal.gather_both-operators-requires
gather_both-operators-requires g t c = (fit_places (tree_of c.args.g.now) (tree_of c.args.h.now) (g.P.Past.tables c.args.present.now.past.now) c.args.first c.requires.few
    c.ranges.first.fits c.requires.ask.1.tabled).0

pub gather_both-overflow_add-next : goal.gather_both-overflow_add-next
gather_both-overflow_add-next g t c = subst (λ n. Fits w64 (c.args.first + n)) (sym c.operators.ensures)
    (fits_from (fit_places (tree_of c.args.g.now) (tree_of c.args.h.now) (g.P.Past.tables c.args.present.now.past.now) c.args.first c.requires.few c.ranges.first.fits
    c.requires.ask.1.tabled).1)

pub gather_both-gather_under-requires : goal.gather_both-gather_under-requires
gather_both-gather_under-requires g t c =
    let E = c.args.present.now.events.now in
    let T = g.P.Past.tables c.args.present.now.past.now in
    let at : c.args.first + c.operators.result ≡ c.args.first + length (outermost (tree_of c.args.g.now)) = ap (λ n. c.args.first + n) c.operators.ensures in
    λ κs lives. (
      search rules,
      (
        search rules,
        (
          c.requires.few,
          (
            c.in_ok-left.ensures.table,
            (
              both_ask E T c.args.first (c.args.first + c.operators.result) (bound_in c.args.scope.now) (tree_of c.args.g.now) (tree_of c.args.h.now) at c.requires.ask.0 c.requires.ask.1
                  c.in_ok-left.left c.in_ok-left.ensures.table c.in_ok-left.ensures.columns c.in_ok-left.ensures.rows,
              both_scope E T c.args.first (c.args.first + c.operators.result) (bound_in c.args.scope.now) (tree_of c.args.g.now) (tree_of c.args.h.now) at c.requires.ask.0 c.requires.ask.1
                  c.in_ok-left.left c.in_ok-left.ensures.table c.in_ok-left.ensures.columns c.in_ok-left.ensures.rows c.args.columns.now c.requires.within,
            ),
          ),
        ),
      ),
    )

pub gather_both-returns : goal.gather_both-returns
gather_both-returns g t c =
    let E = c.args.present.now.events.now in
    let T = g.P.Past.tables c.args.present.now.past.now in
    let at : c.args.first + c.operators.result ≡ c.args.first + length (outermost (tree_of c.args.g.now)) = ap (λ n. c.args.first + n) c.operators.ensures in
    λ place.
    on_ok c.gather_under.result _ _
    (adds_both_parts E T c.args.first (c.args.first + c.operators.result) (bound_in c.args.scope.now) (tree_of c.args.g.now) (tree_of c.args.h.now) at place
    (and_anywhere (bound_in c.args.scope.now) (drop c.args.first T) c.requires.ask.0 place (tree_of c.args.g.now) (tree_of c.args.h.now) c.requires.ask.1) c.in_ok-left.left
    c.in_ok-left.ensures.table c.in_ok-left.ensures.columns c.in_ok-left.ensures.rows c.args.columns.now _ _)
    c.gather_under.ensures

-- ---- gather_either

pub gather_either-gather-requires : goal.gather_either-gather-requires
gather_either-gather-requires g t c =
    let E = c.args.present.now.events.now in
    let T = g.P.Past.tables c.args.present.now.past.now in
    λ κs lives. (
      search rules,
      (
        search rules,
        (
          c.requires.few,
          (
            ask_or_left (bound_in c.args.scope.now) (drop c.args.first T) c.requires.ask.0 (tree_of c.args.g.now) (tree_of c.args.h.now) c.requires.ask.1,
            (either_scope E T c.args.first (c.args.first + length (outermost (tree_of c.args.g.now))) (bound_in c.args.scope.now) (tree_of c.args.g.now) (tree_of c.args.h.now) refl
                c.requires.ask.0 c.requires.ask.1 c.args.columns.now c.requires.within).0,
          ),
        ),
      ),
    )

pub gather_either-operators-requires : goal.gather_either-operators-requires
gather_either-operators-requires g t c = (fit_places (tree_of c.args.g.now) (tree_of c.args.h.now) (g.P.Past.tables c.args.present.now.past.now) c.args.first c.requires.few
    c.ranges.first.fits c.requires.ask.1.tabled).0

pub gather_either-overflow_add-first : goal.gather_either-overflow_add-first
gather_either-overflow_add-first g t c = subst (λ n. Fits w64 (c.args.first + n)) (sym c.operators.ensures)
    (fits_from (fit_places (tree_of c.args.g.now) (tree_of c.args.h.now) (g.P.Past.tables c.args.present.now.past.now) c.args.first c.requires.few c.ranges.first.fits
    c.requires.ask.1.tabled).1)

pub gather_either-gather-requires-2 : goal.gather_either-gather-requires-2
gather_either-gather-requires-2 g t c =
    let E = c.args.present.now.events.now in
    let T = g.P.Past.tables c.args.present.now.past.now in
    let at : c.args.first + c.operators.result ≡ c.args.first + length (outermost (tree_of c.args.g.now)) = ap (λ n. c.args.first + n) c.operators.ensures in
    λ κs lives. (
      search rules,
      (
        search rules,
        (
          c.requires.few,
          (
            either_ask E T c.args.first (c.args.first + c.operators.result) (bound_in c.args.scope.now) (tree_of c.args.g.now) (tree_of c.args.h.now) at c.requires.ask.0 c.requires.ask.1,
            (either_scope E T c.args.first (c.args.first + c.operators.result) (bound_in c.args.scope.now) (tree_of c.args.g.now) (tree_of c.args.h.now) at c.requires.ask.0 c.requires.ask.1
                c.args.columns.now c.requires.within).1,
          ),
        ),
      ),
    )

pub gather_either-returns : goal.gather_either-returns
gather_either-returns g t c =
    let E = c.args.present.now.events.now in
    let T = g.P.Past.tables c.args.present.now.past.now in
    let at : c.args.first + c.operators.result ≡ c.args.first + length (outermost (tree_of c.args.g.now)) = ap (λ n. c.args.first + n) c.operators.ensures in
    λ place.
    on_ok c.gather-2.result _ _
    (adds_either_part E T c.args.first (c.args.first + c.operators.result) (bound_in c.args.scope.now) (tree_of c.args.g.now) (tree_of c.args.h.now) at place
    (or_anywhere (bound_in c.args.scope.now) (drop c.args.first T) c.requires.ask.0 place (tree_of c.args.g.now) (tree_of c.args.h.now) c.requires.ask.1) c.args.columns.now _ _ _
    c.in_ok-gather.ensures)
    c.gather-2.ensures

-- ---- rows

pub rows_over-gather_known-requires : goal.rows_over-gather_known-requires
rows_over-gather_known-requires g t c =
    λ κs lives. (
      search rules,
      (
        search rules,
        (
          c.requires.few,
          (
            c.requires.ask,
            (
              subst (λ l. AreBoundOrFree l (bound_in c.args.scope.now) (tree_of c.args.formula.now))
                  (sym c.as_slice.ensures) (open_scope c.args.present.now.events.now (drop c.args.first (g.P.Past.tables c.args.present.now.past.now)) (bound_in c.args.scope.now)
                  (tree_of c.args.formula.now) c.args.columns c.requires.open),
              (
                λ t. closed_where_none (bound_in c.args.scope.now) (tree_of c.args.formula.now) c.args.columns c.requires.open
                    (c.is_empty-closed.ensures.0 t),
                λ within. c.is_empty-closed.ensures.1 (none_where_closed (bound_in c.args.scope.now) (tree_of c.args.formula.now) c.args.columns c.requires.open
                    within),
              ),
            ),
          ),
        ),
      ),
    )

pub rows_over-from_rows-requires-clause-distinct : goal.rows_over-from_rows-requires-clause-distinct
rows_over-from_rows-requires-clause-distinct g t c =
    rising_distinct variable_cmp_total c.args.columns c.requires.open.rising

pub rows_over-from_rows-requires-clause-fits : goal.rows_over-from_rows-requires-clause-fits
rows_over-from_rows-requires-clause-fits g t c =
    added_fit c.args.present.now.events.now (drop c.args.first (g.P.Past.tables c.args.present.now.past.now)) (bound_in c.args.scope.now) (tree_of c.args.formula.now) c.args.columns
    c.gather_known.new.out.items (subst (λ before. AddsRows c.args.columns before c.gather_known.new.out.items
    (IsGuardAnswer c.args.present.now.events.now (drop c.args.first (g.P.Past.tables c.args.present.now.past.now)) (bound_in c.args.scope.now) (tree_of c.args.formula.now)
    c.args.columns)) c.new-found.ensures.items (subst (λ l. AddsRows l c.new-found.result.items c.gather_known.new.out.items
    (IsGuardAnswer c.args.present.now.events.now (drop c.args.first (g.P.Past.tables c.args.present.now.past.now)) (bound_in c.args.scope.now) (tree_of c.args.formula.now) l))
    c.as_slice.ensures c.in_ok-gather_known.ensures))

pub rows_over-returns-clause-columns : goal.rows_over-returns-clause-columns
rows_over-returns-clause-columns g t c =
    ok_open c.args.present.now.events.now (drop c.args.first (g.P.Past.tables c.args.present.now.past.now)) (bound_in c.args.scope.now) (tree_of c.args.formula.now) c.args.columns
    c.from_rows.result c.requires.open c.from_rows.ensures.columns

pub rows_over-returns-clause-rows : goal.rows_over-returns-clause-rows
rows_over-returns-clause-rows g t c =
    ok_answers c.args.present.now.events.now (drop c.args.first (g.P.Past.tables c.args.present.now.past.now)) (bound_in c.args.scope.now) (tree_of c.args.formula.now) c.args.columns
    c.gather_known.new.out.items (subst (λ before. AddsRows c.args.columns before c.gather_known.new.out.items
    (IsGuardAnswer c.args.present.now.events.now (drop c.args.first (g.P.Past.tables c.args.present.now.past.now)) (bound_in c.args.scope.now) (tree_of c.args.formula.now)
    c.args.columns)) c.new-found.ensures.items (subst (λ l. AddsRows l c.new-found.result.items c.gather_known.new.out.items
    (IsGuardAnswer c.args.present.now.events.now (drop c.args.first (g.P.Past.tables c.args.present.now.past.now)) (bound_in c.args.scope.now) (tree_of c.args.formula.now) l))
    c.as_slice.ensures c.in_ok-gather_known.ensures)) c.from_rows.result c.from_rows.ensures.columns c.from_rows.ensures.rows

-- ---- has_answer

pub has_answer-has_known_answer-requires : goal.has_answer-has_known_answer-requires
has_answer-has_known_answer-requires g t c = λ κs lives. (search rules, (search rules, (c.requires.few, (c.requires.ask, c.in_ok-closed.ensures))))

pub has_known_answer-holds-requires : goal.has_known_answer-holds-requires
has_known_answer-holds-requires g t c = λ κs lives. (search rules, (search rules, (c.requires.few, (c.requires.ask, c.requires.known.0 c.if-closed.true))))

pub has_known_answer-returns-then-closed : goal.has_known_answer-returns-then-closed
has_known_answer-returns-then-closed g t c = ok_closed c.args.present.now.events.now (drop c.args.first (g.P.Past.tables c.args.present.now.past.now)) (bound_in c.args.scope.now)
    (tree_of c.args.formula.now) c.holds.result c.requires.ask.tabled (c.requires.known.0 c.if-closed.true) c.holds.ensures

pub has_known_answer-has_open_answer-requires : goal.has_known_answer-has_open_answer-requires
has_known_answer-has_open_answer-requires g t c = λ κs lives. (
  search rules,
  (
    search rules,
    (c.requires.few, (c.requires.ask, λ closed. absurd (false≢true (sym c.if-closed.false ∙ c.requires.known.1 closed)))),
  ),
)

pub has_open_answer-returns-in-Atom : goal.has_open_answer-returns-in-Atom
has_open_answer-returns-in-Atom g t c =
    rw (c.in-Atom.is, ← c.as_slice-terms.ensures)
    (ok_atom c.args.present.now.events.now (drop c.args.first (g.P.Past.tables c.args.present.now.past.now)) (bound_in c.args.scope.now) c.in-Atom.field-0 c.in-Atom.name
    c.as_slice-terms.result.now (shown_events c.under-events.result.now) c.under-events.ensures c.has_match.result c.has_match.ensures)

pub has_open_answer-has_both-requires : goal.has_open_answer-has_both-requires
has_open_answer-has_both-requires g t c =
    let ask = rw (c.in-And.is, ← c.deref.ensures, ← c.deref-in-And.ensures) at c.requires.ask in
    λ κs lives. (search rules, (search rules, (c.requires.few, (c.in-And.field-0, ask))))

pub has_open_answer-returns-in-And : goal.has_open_answer-returns-in-And
has_open_answer-returns-in-And g t c =
    rw (c.in-And.is, ← c.deref.ensures, ← c.deref-in-And.ensures) (IfOk-weaker c.has_both.result _ _ (λ b told. told c.in-And.field-0) c.has_both.ensures)

pub has_open_answer-has_either-requires : goal.has_open_answer-has_either-requires
has_open_answer-has_either-requires g t c =
    let ask = rw (c.in-Or.is, ← c.deref-in-Or.ensures, ← c.deref-in-Or-2.ensures) at c.requires.ask in
    λ κs lives. (search rules, (search rules, (c.requires.few, (c.in-Or.field-0, ask))))

pub has_open_answer-returns-in-Or : goal.has_open_answer-returns-in-Or
has_open_answer-returns-in-Or g t c =
    rw (c.in-Or.is, ← c.deref-in-Or.ensures, ← c.deref-in-Or-2.ensures) (IfOk-weaker c.has_either.result _ _ (λ b told. told c.in-Or.field-0) c.has_either.ensures)

pub has_open_answer-has_answer-requires : goal.has_open_answer-has_answer-requires
has_open_answer-has_answer-requires g t c =
    let ask = rw (c.in-Exists.is, ← c.deref-in-Exists.ensures) at c.requires.ask in
    λ κs lives. (
      search rules,
      (
        search rules,
        (
          c.requires.few,
          ask_exists (bound_in c.args.scope.now) (drop c.args.first (g.P.Past.tables c.args.present.now.past.now)) c.in-Exists.field-0
              c.in-Exists.field-1 (tree_of c.deref-in-Exists.result.now) ask,
        ),
      ),
    )

pub has_open_answer-returns-in-Exists : goal.has_open_answer-returns-in-Exists
has_open_answer-returns-in-Exists g t c =
    let ask = rw (c.in-Exists.is, ← c.deref-in-Exists.ensures) at c.requires.ask in
    rw (c.in-Exists.is, ← c.deref-in-Exists.ensures)
    (ok_exists_answered c.args.present.now.events.now (drop c.args.first (g.P.Past.tables c.args.present.now.past.now)) (bound_in c.args.scope.now) c.in-Exists.field-0 c.in-Exists.field-1
    (tree_of c.deref-in-Exists.result.now) ask c.has_answer.result c.has_answer.ensures)

pub has_open_answer-has_some-requires : goal.has_open_answer-has_some-requires
has_open_answer-has_some-requires g t c =
    fit_first (tree_of c.args.formula.now) (g.P.Past.tables c.args.present.now.past.now) c.args.first
    (told_fit (drop c.args.first (g.P.Past.tables c.args.present.now.past.now)) c.args.formula.now c.in-Prev.is c.requires.ask.tabled)

pub has_open_answer-returns-in-Prev : goal.has_open_answer-returns-in-Prev
has_open_answer-returns-in-Prev g t c =
    let tables = drop c.args.first (g.P.Past.tables c.args.present.now.past.now) in
    let same = some_past c.args.present.now.events.now (bound_in c.args.scope.now) (tree_of c.args.formula.now) tables
    (told_fit tables c.args.formula.now c.in-Prev.is c.requires.ask.tabled)
    (λ u. told_holds tables c.args.present.now.events.now u c.args.formula.now c.in-Prev.is) in
    IfOk-weaker c.has_some.result _ _ (λ b told. (λ t. same.0 (told.0 t), λ some. told.1 (same.1 some))) c.has_some.ensures

pub has_open_answer-gather_open-requires : goal.has_open_answer-gather_open-requires
has_open_answer-gather_open-requires g t c =
    λ κs lives. (search rules, (search rules, (c.requires.few, (c.requires.ask, (λ x there. absurd (none_in_nil x there), c.requires.open)))))

pub has_open_answer-returns-in_ok-gather_open-in_default : goal.has_open_answer-returns-in_ok-gather_open-in_default
has_open_answer-returns-in_ok-gather_open-in_default g t c =
    some_answer c.args.present.now.events.now (drop c.args.first (g.P.Past.tables c.args.present.now.past.now)) (bound_in c.args.scope.now) (tree_of c.args.formula.now)
    c.gather_open.new.out.items c.is_empty.result (subst (λ before. AddsRows [] before c.gather_open.new.out.items
    (IsGuardAnswer c.args.present.now.events.now (drop c.args.first (g.P.Past.tables c.args.present.now.past.now)) (bound_in c.args.scope.now) (tree_of c.args.formula.now) []))
    c.new-found.ensures.items c.in_ok-gather_open-in_default.ensures) (none_equal c.gather_open.new.out.items _ c.is_empty.result c.is_empty.ensures (omega (arith, c.gather_open.new.out.ok.0)))

-- ---- has_both

pub has_both-rows-requires : goal.has_both-rows-requires
has_both-rows-requires g t c = λ κs lives. (
  search rules,
  (
    search rules,
    (
      c.requires.few,
      ask_and_left (bound_in c.args.scope.now)
          (drop c.args.first (g.P.Past.tables c.args.present.now.past.now)) c.requires.ask.0 (tree_of c.args.g.now) (tree_of c.args.h.now) c.requires.ask.1,
    ),
  ),
)

pub has_both-operators-requires : goal.has_both-operators-requires
has_both-operators-requires g t c = (fit_places (tree_of c.args.g.now) (tree_of c.args.h.now) (g.P.Past.tables c.args.present.now.past.now) c.args.first c.requires.few
    c.ranges.first.fits c.requires.ask.1.tabled).0

pub has_both-overflow_add-next : goal.has_both-overflow_add-next
has_both-overflow_add-next g t c = subst (λ n. Fits w64 (c.args.first + n)) (sym c.operators.ensures)
    (fits_from (fit_places (tree_of c.args.g.now) (tree_of c.args.h.now) (g.P.Past.tables c.args.present.now.past.now) c.args.first c.requires.few c.ranges.first.fits
    c.requires.ask.1.tabled).1)

pub has_both-has_answer_under-requires : goal.has_both-has_answer_under-requires
has_both-has_answer_under-requires g t c =
    let at : c.args.first + c.operators.result ≡ c.args.first + length (outermost (tree_of c.args.g.now)) = ap (λ n. c.args.first + n) c.operators.ensures in
    λ κs lives. (
      search rules,
      (
        search rules,
        (
          c.requires.few,
          (
            c.in_ok-left.ensures.table,
            both_ask c.args.present.now.events.now (g.P.Past.tables c.args.present.now.past.now) c.args.first (c.args.first + c.operators.result) (bound_in c.args.scope.now)
                (tree_of c.args.g.now) (tree_of c.args.h.now) at c.requires.ask.0 c.requires.ask.1
                c.in_ok-left.left c.in_ok-left.ensures.table c.in_ok-left.ensures.columns c.in_ok-left.ensures.rows,
          ),
        ),
      ),
    )

pub has_both-returns : goal.has_both-returns
has_both-returns g t c =
    let E = c.args.present.now.events.now in
    let T = g.P.Past.tables c.args.present.now.past.now in
    let at : c.args.first + c.operators.result ≡ c.args.first + length (outermost (tree_of c.args.g.now)) = ap (λ n. c.args.first + n) c.operators.ensures in
    ok_for_each c.has_answer_under.result (λ b place. IsTrue b ↔ HasSolution E (drop c.args.first T) (bound_in c.args.scope.now) (And place (tree_of c.args.g.now) (tree_of c.args.h.now)))
    (λ place. ok_both_answered E T c.args.first (c.args.first + c.operators.result) (bound_in c.args.scope.now) (tree_of c.args.g.now) (tree_of c.args.h.now) at place
    (and_anywhere (bound_in c.args.scope.now) (drop c.args.first T) c.requires.ask.0 place (tree_of c.args.g.now) (tree_of c.args.h.now) c.requires.ask.1) c.in_ok-left.left
    c.in_ok-left.ensures.table c.in_ok-left.ensures.columns c.in_ok-left.ensures.rows c.has_answer_under.result c.has_answer_under.ensures)

-- ---- has_either

pub has_either-has_answer-requires : goal.has_either-has_answer-requires
has_either-has_answer-requires g t c =
    λ κs lives. (
      search rules,
      (
        search rules,
        (
          c.requires.few,
          ask_or_left (bound_in c.args.scope.now) (drop c.args.first (g.P.Past.tables c.args.present.now.past.now)) c.requires.ask.0 (tree_of c.args.g.now) (tree_of c.args.h.now)
              c.requires.ask.1,
        ),
      ),
    )

pub has_either-operators-requires : goal.has_either-operators-requires
has_either-operators-requires g t c = (fit_places (tree_of c.args.g.now) (tree_of c.args.h.now) (g.P.Past.tables c.args.present.now.past.now) c.args.first c.requires.few
    c.ranges.first.fits c.requires.ask.1.tabled).0

pub has_either-overflow_add-first : goal.has_either-overflow_add-first
has_either-overflow_add-first g t c = subst (λ n. Fits w64 (c.args.first + n)) (sym c.operators.ensures)
    (fits_from (fit_places (tree_of c.args.g.now) (tree_of c.args.h.now) (g.P.Past.tables c.args.present.now.past.now) c.args.first c.requires.few c.ranges.first.fits
    c.requires.ask.1.tabled).1)

pub has_either-has_answer-requires-else-branch : goal.has_either-has_answer-requires-else-branch
has_either-has_answer-requires-else-branch g t c =
    let at : c.args.first + c.operators.result ≡ c.args.first + length (outermost (tree_of c.args.g.now)) = ap (λ n. c.args.first + n) c.operators.ensures in
    λ κs lives. (
      search rules,
      (
        search rules,
        (
          c.requires.few,
          either_ask c.args.present.now.events.now (g.P.Past.tables c.args.present.now.past.now) c.args.first (c.args.first + c.operators.result) (bound_in c.args.scope.now)
              (tree_of c.args.g.now) (tree_of c.args.h.now) at c.requires.ask.0 c.requires.ask.1,
        ),
      ),
    )

pub has_either-returns-then-branch : goal.has_either-returns-then-branch
has_either-returns-then-branch g t c = λ place. first_answered c.args.present.now.events.now (g.P.Past.tables c.args.present.now.past.now) c.args.first
    (c.args.first + length (outermost (tree_of c.args.g.now))) (bound_in c.args.scope.now) (tree_of c.args.g.now) (tree_of c.args.h.now) refl place
    (or_anywhere (bound_in c.args.scope.now) (drop c.args.first (g.P.Past.tables c.args.present.now.past.now)) c.requires.ask.0 place (tree_of c.args.g.now) (tree_of c.args.h.now)
    c.requires.ask.1) c.in_ok-has_answer.field-0 c.in_ok-has_answer.ensures c.if-branch.true

pub has_either-returns-else-branch : goal.has_either-returns-else-branch
has_either-returns-else-branch g t c =
    let E = c.args.present.now.events.now in
    let T = g.P.Past.tables c.args.present.now.past.now in
    let at : c.args.first + c.operators.result ≡ c.args.first + length (outermost (tree_of c.args.g.now)) = ap (λ n. c.args.first + n) c.operators.ensures in
    ok_for_each c.has_answer-else-branch.result
    (λ b place. IsTrue b ↔ HasSolution E (drop c.args.first T) (bound_in c.args.scope.now) (Or place (tree_of c.args.g.now) (tree_of c.args.h.now)))
    (λ place. ok_second_answered E T c.args.first (c.args.first + c.operators.result) (bound_in c.args.scope.now) (tree_of c.args.g.now) (tree_of c.args.h.now) at place
    (or_anywhere (bound_in c.args.scope.now) (drop c.args.first T) c.requires.ask.0 place (tree_of c.args.g.now) (tree_of c.args.h.now) c.requires.ask.1)
    c.has_answer-else-branch.result c.in_ok-has_answer.field-0 c.in_ok-has_answer.ensures c.if-branch.false c.has_answer-else-branch.ensures)

-- ---- has_answer_under

pub has_answer_under-has_known_answer-requires : goal.has_answer_under-has_known_answer-requires
has_answer_under-has_known_answer-requires g t c =
    let row = c.row-item.result in
    let all : c.rows-row-items.result.now ≡ c.args.table.now.rows = c.rows-row-items.ensures.rows in
    let there : Contains c.args.table.now.rows row = subst (λ l. Contains l row) all (c.loop-row.row-index, c.loop-row-test.true, sym c.row-item.is) in
    let inner : filled_from_row (bound_in c.args.scope.now) c.as_slice.result.now c.as_slice-in-loop-row.result.now
    ≡ filled_from_row (bound_in c.args.scope.now) c.args.table.now.columns row = (λ i. filled_from_row (bound_in c.args.scope.now)
    ((c.as_slice.ensures ∙ c.columns.ensures.columns) i) (c.as_slice-in-loop-row.ensures i)) in
    λ κs lives. (
      search rules,
      (
        search rules,
        (
          c.requires.few,
          (
            subst (λ v. CanAskFormula v (drop c.args.first (g.P.Past.tables c.args.present.now.past.now))
                (tree_of c.args.formula.now)) (sym inner) (c.requires.ask row there),
            subst (λ v. IsTrue c.in_ok-closed.closed ↔ FreeWithin (tree_of c.args.formula.now) (IsBoundBy v)) (sym inner)
                (c.in_ok-closed.ensures row there),
          ),
        ),
      ),
    )

pub has_answer_under-loop-row-preserved : goal.has_answer_under-loop-row-preserved
has_answer_under-loop-row-preserved g t c =
    let row = c.row-item.result in
    let all : c.rows-row-items.result.now ≡ c.args.table.now.rows = c.rows-row-items.ensures.rows in
    let inner : filled_from_row (bound_in c.args.scope.now) c.as_slice.result.now c.as_slice-in-loop-row.result.now
    ≡ filled_from_row (bound_in c.args.scope.now) c.args.table.now.columns row = (λ i. filled_from_row (bound_in c.args.scope.now)
    ((c.as_slice.ensures ∙ c.columns.ensures.columns) i) (c.as_slice-in-loop-row.ensures i)) in
    let at : row ≡ get_or c.args.table.now.rows c.loop-row.row-index row = subst (λ l. row ≡ get_or l c.loop-row.row-index row) all c.row-item.is in
    each_more (λ r. HasSolution c.args.present.now.events.now (drop c.args.first (g.P.Past.tables c.args.present.now.past.now))
    (filled_from_row (bound_in c.args.scope.now) c.args.table.now.columns r) (tree_of c.args.formula.now) → ⊥) c.args.table.now.rows c.loop-row.row-index row
    (subst (λ (l : List (List Value)). c.loop-row.row-index < length l) all c.loop-row-test.true) at c.loop-row.invariant
    (λ some. false≢true (sym c.if-branch.false ∙ c.in_ok-has_known_answer.ensures.1
    (subst (λ v. HasSolution c.args.present.now.events.now (drop c.args.first (g.P.Past.tables c.args.present.now.past.now)) v (tree_of c.args.formula.now)) (sym inner) some)))

pub has_answer_under-returns-then-branch : goal.has_answer_under-returns-then-branch
has_answer_under-returns-then-branch g t c =
    let row = c.row-item.result in
    let all : c.rows-row-items.result.now ≡ c.args.table.now.rows = c.rows-row-items.ensures.rows in
    let there : Contains c.args.table.now.rows row = subst (λ l. Contains l row) all (c.loop-row.row-index, c.loop-row-test.true, sym c.row-item.is) in
    let inner : filled_from_row (bound_in c.args.scope.now) c.as_slice.result.now c.as_slice-in-loop-row.result.now
    ≡ filled_from_row (bound_in c.args.scope.now) c.args.table.now.columns row = (λ i. filled_from_row (bound_in c.args.scope.now)
    ((c.as_slice.ensures ∙ c.columns.ensures.columns) i) (c.as_slice-in-loop-row.ensures i)) in (
      λ t. (
        row,
        there,
        subst (λ v. HasSolution c.args.present.now.events.now (drop c.args.first (g.P.Past.tables c.args.present.now.past.now)) v (tree_of c.args.formula.now)) inner
            (c.in_ok-has_known_answer.ensures.0 c.if-branch.true),
      ),
      λ some. refl,
    )

pub has_answer_under-returns : goal.has_answer_under-returns
has_answer_under-returns g t c =
    let all : c.rows-row-items.result.now ≡ c.args.table.now.rows = c.rows-row-items.ensures.rows in (
      λ t. absurd (false≢true t),
      λ some. absurd (c.loop-row.invariant some.0 (subst (λ l. Contains l some.0) (sym (take_all c.loop-row.row-index c.args.table.now.rows
          (subst (λ (l : List (List Value)). length l ≤ c.loop-row.row-index) all c.loop-row-test.false))) some.1) some.2),
    )

-- ---- gather_open

pub gather_open-gather_events-requires : goal.gather_open-gather_events-requires
gather_open-gather_events-requires g t c =
    let within = rw (c.in-Atom.is) at c.requires.within in
    λ x there. ⊎_elim (λ bound. inl bound) (λ free. inr (subst (λ l. Contains l (Var x)) (sym c.as_slice-terms.ensures) free)) (within x there)

pub gather_open-returns-in-Atom : goal.gather_open-returns-in-Atom
gather_open-returns-in-Atom g t c =
    rw (c.in-Atom.is, ← c.as_slice-terms.ensures)
    (on_ok c.gather_events.result _ _
    (adds_as c.args.columns.now _ _ (IsMatchAmong (shown_events c.under-events.result.now) c.as_slice-terms.result.now (bound_in c.args.scope.now) c.args.columns.now)
    (IsGuardAnswer c.args.present.now.events.now (drop c.args.first (g.P.Past.tables c.args.present.now.past.now)) (bound_in c.args.scope.now)
    (Atom c.in-Atom.field-0 c.in-Atom.name c.as_slice-terms.result.now) c.args.columns.now)
    (atom_to c.args.present.now.events.now (drop c.args.first (g.P.Past.tables c.args.present.now.past.now)) (bound_in c.args.scope.now) c.in-Atom.field-0 c.in-Atom.name
    c.as_slice-terms.result.now (shown_events c.under-events.result.now) c.under-events.ensures c.args.columns.now)
    (λ w answer none. none (atom_from c.args.present.now.events.now (drop c.args.first (g.P.Past.tables c.args.present.now.past.now)) (bound_in c.args.scope.now) c.in-Atom.field-0
    c.in-Atom.name c.as_slice-terms.result.now (shown_events c.under-events.result.now) c.under-events.ensures c.args.columns.now w answer)))
    c.gather_events.ensures)

pub gather_open-gather_equal-requires-clause-one : goal.gather_open-gather_equal-requires-clause-one
gather_open-gather_equal-requires-clause-one g t c =
    let ask = rw (c.in-Equal.is) at c.requires.ask in
    one_side (bound_in c.args.scope.now) c.in-Equal.field-0 c.in-Equal.s c.in-Equal.t ask.safe

pub gather_open-gather_equal-requires-clause-within : goal.gather_open-gather_equal-requires-clause-within
gather_open-gather_equal-requires-clause-within g t c =
    let within = rw (c.in-Equal.is) at c.requires.within in within

pub gather_open-returns-in-Equal : goal.gather_open-returns-in-Equal
gather_open-returns-in-Equal g t c =
    rw (c.in-Equal.is)
    (on_ok c.gather_equal.result _ _
    (adds_as c.args.columns.now _ _ (IsEquated c.in-Equal.s c.in-Equal.t (bound_in c.args.scope.now) c.args.columns.now)
    (IsGuardAnswer c.args.present.now.events.now (drop c.args.first (g.P.Past.tables c.args.present.now.past.now)) (bound_in c.args.scope.now)
    (Equal c.in-Equal.field-0 c.in-Equal.s c.in-Equal.t) c.args.columns.now)
    (equal_to c.args.present.now.events.now (drop c.args.first (g.P.Past.tables c.args.present.now.past.now)) (bound_in c.args.scope.now) c.in-Equal.field-0 c.in-Equal.s c.in-Equal.t
    c.args.columns.now)
    (λ w answer none. none (equal_from c.args.present.now.events.now (drop c.args.first (g.P.Past.tables c.args.present.now.past.now)) (bound_in c.args.scope.now) c.in-Equal.field-0
    c.in-Equal.s c.in-Equal.t c.args.columns.now w answer)))
    c.gather_equal.ensures)

pub gather_open-gather_both-requires : goal.gather_open-gather_both-requires
gather_open-gather_both-requires g t c =
    let ask = rw (c.in-And.is, ← c.deref.ensures, ← c.deref-in-And.ensures) at c.requires.ask in
    let within = rw (c.in-And.is, ← c.deref.ensures, ← c.deref-in-And.ensures) at c.requires.within in
    λ κs lives. (search rules, (search rules, (c.requires.few, ((c.in-And.field-0, ask), within))))

pub gather_open-returns-in-And : goal.gather_open-returns-in-And
gather_open-returns-in-And g t c =
    rw (c.in-And.is, ← c.deref.ensures, ← c.deref-in-And.ensures) (c.gather_both.ensures c.in-And.field-0)

pub gather_open-gather_either-requires : goal.gather_open-gather_either-requires
gather_open-gather_either-requires g t c =
    let ask = rw (c.in-Or.is, ← c.deref-in-Or.ensures, ← c.deref-in-Or-2.ensures) at c.requires.ask in
    let within = rw (c.in-Or.is, ← c.deref-in-Or.ensures, ← c.deref-in-Or-2.ensures) at c.requires.within in
    λ κs lives. (search rules, (search rules, (c.requires.few, ((c.in-Or.field-0, ask), within))))

pub gather_open-returns-in-Or : goal.gather_open-returns-in-Or
gather_open-returns-in-Or g t c =
    rw (c.in-Or.is, ← c.deref-in-Or.ensures, ← c.deref-in-Or-2.ensures) (c.gather_either.ensures c.in-Or.field-0)

pub gather_open-gather-requires : goal.gather_open-gather-requires
gather_open-gather-requires g t c =
    let ask = rw (c.in-Exists.is, ← c.deref-in-Exists.ensures) at c.requires.ask in
    let within = rw (c.in-Exists.is, ← c.deref-in-Exists.ensures) at c.requires.within in
    λ κs lives. (
      search rules,
      (
        search rules,
        (
          c.requires.few,
          (
            ask_exists (bound_in c.args.scope.now) (drop c.args.first (g.P.Past.tables c.args.present.now.past.now))
                c.in-Exists.field-0 c.in-Exists.field-1 (tree_of c.deref-in-Exists.result.now) ask,
            λ x there. ⊎_elim (λ bound. inl bound) (λ free. inr free.0) (within x there),
          ),
        ),
      ),
    )

pub gather_open-returns-in-Exists : goal.gather_open-returns-in-Exists
gather_open-returns-in-Exists g t c =
    let ask = rw (c.in-Exists.is, ← c.deref-in-Exists.ensures) at c.requires.ask in
    let within = rw (c.in-Exists.is, ← c.deref-in-Exists.ensures) at c.requires.within in
    rw (c.in-Exists.is, ← c.deref-in-Exists.ensures)
    (on_ok c.gather.result _ _
    (adds_as c.args.columns.now _ _ (IsGuardAnswer c.args.present.now.events.now (drop c.args.first (g.P.Past.tables c.args.present.now.past.now)) (bound_in c.args.scope.now)
    (tree_of c.deref-in-Exists.result.now) c.args.columns.now) (IsGuardAnswer c.args.present.now.events.now (drop c.args.first (g.P.Past.tables c.args.present.now.past.now))
    (bound_in c.args.scope.now) (Exists c.in-Exists.field-0 c.in-Exists.field-1 (tree_of c.deref-in-Exists.result.now)) c.args.columns.now)
    (exists_to c.args.present.now.events.now (drop c.args.first (g.P.Past.tables c.args.present.now.past.now)) (bound_in c.args.scope.now) c.in-Exists.field-0 c.in-Exists.field-1
    (tree_of c.deref-in-Exists.result.now) ask.tabled c.args.columns.now)
    (exists_from c.args.present.now.events.now (drop c.args.first (g.P.Past.tables c.args.present.now.past.now)) (bound_in c.args.scope.now) c.in-Exists.field-0 c.in-Exists.field-1
    (tree_of c.deref-in-Exists.result.now) ask.tabled ask.fresh.0 c.args.columns.now within))
    c.gather.ensures)

pub gather_open-returns-in_default : goal.gather_open-returns-in_default
gather_open-returns-in_default g t c =
    adds_nothing c.args.columns.now c.args.out.now.items (IsGuardAnswer c.args.present.now.events.now (drop c.args.first (g.P.Past.tables c.args.present.now.past.now))
    (bound_in c.args.scope.now) (tree_of c.args.formula.now) c.args.columns.now) (λ w answer. absurd
    (c.requires.open (closed_kind c.args.formula.now c.in_default.not-Atom c.in_default.not-Equal c.in_default.not-And c.in_default.not-Or c.in_default.not-Exists c.in_default.not-Prev
    c.in_default.not-Once c.in_default.not-Since (IsBoundBy (bound_in c.args.scope.now)) c.requires.ask.safe)))

pub gather_open-rows_under-requires : goal.gather_open-rows_under-requires
gather_open-rows_under-requires g t c =
    fit_first (tree_of c.args.formula.now) (g.P.Past.tables c.args.present.now.past.now) c.args.first
    (told_fit (drop c.args.first (g.P.Past.tables c.args.present.now.past.now)) c.args.formula.now c.in-Prev.is c.requires.ask.tabled)

pub gather_open-push_rows-requires-clause-within : goal.gather_open-push_rows-requires-clause-within
gather_open-push_rows-requires-clause-within g t c =
    λ x there. ⊎_elim (λ bound. inl bound) (λ free. inr (given_columns (bound_in c.args.scope.now) (tree_of c.args.formula.now)
    (drop c.args.first (g.P.Past.tables c.args.present.now.past.now)) (told_fit (drop c.args.first (g.P.Past.tables c.args.present.now.past.now)) c.args.formula.now c.in-Prev.is
    c.requires.ask.tabled) c.in_ok-rows-in-Prev.rows c.in_ok-rows-in-Prev.ensures.rows x free)) (c.requires.within x there)

pub gather_open-returns-in_ok-rows-in-Prev : goal.gather_open-returns-in_ok-rows-in-Prev
gather_open-returns-in_ok-rows-in-Prev g t c =
    let fit = told_fit (drop c.args.first (g.P.Past.tables c.args.present.now.past.now)) c.args.formula.now c.in-Prev.is c.requires.ask.tabled in
    on_ok c.push_rows.result _ _
    (adds_as c.args.columns.now _ _ (IsFromRow c.in_ok-rows-in-Prev.rows (bound_in c.args.scope.now) c.args.columns.now)
    (IsGuardAnswer c.args.present.now.events.now (drop c.args.first (g.P.Past.tables c.args.present.now.past.now)) (bound_in c.args.scope.now) (tree_of c.args.formula.now)
    c.args.columns.now)
    (past_to c.args.present.now.events.now (bound_in c.args.scope.now) (tree_of c.args.formula.now) (drop c.args.first (g.P.Past.tables c.args.present.now.past.now)) fit
    c.in_ok-rows-in-Prev.rows c.in_ok-rows-in-Prev.ensures.table c.in_ok-rows-in-Prev.ensures.rows
    (λ u has. (told_holds (drop c.args.first (g.P.Past.tables c.args.present.now.past.now)) c.args.present.now.events.now u c.args.formula.now c.in-Prev.is).1 has) c.args.columns.now)
    (λ w answer none. none (past_from c.args.present.now.events.now (bound_in c.args.scope.now) (tree_of c.args.formula.now)
    (drop c.args.first (g.P.Past.tables c.args.present.now.past.now)) fit c.in_ok-rows-in-Prev.rows c.in_ok-rows-in-Prev.ensures.table c.in_ok-rows-in-Prev.ensures.rows
    (λ u holds. (told_holds (drop c.args.first (g.P.Past.tables c.args.present.now.past.now)) c.args.present.now.events.now u c.args.formula.now c.in-Prev.is).0 holds)
    c.args.columns.now c.requires.within w answer)))
    c.push_rows.ensures

-- ---- holds

pub holds-holds-requires : goal.holds-holds-requires
holds-holds-requires g t c =
    let ask = rw (c.in-Not.is, ← c.deref.ensures) at c.requires.ask in
    let closed = rw (c.in-Not.is, ← c.deref.ensures) at c.requires.closed in
    λ κs lives. (
      search rules,
      (
        search rules,
        (
          c.requires.few,
          (
            ask_not (bound_in c.args.scope.now) (drop c.args.first (g.P.Past.tables c.args.present.now.past.now)) c.in-Not.field-0
                (tree_of c.deref.result.now) ask,
            closed,
          ),
        ),
      ),
    )

pub holds-returns-in_ok-holds-in-Not : goal.holds-returns-in_ok-holds-in-Not
holds-returns-in_ok-holds-in-Not g t c =
    rw (c.in-Not.is, ← c.deref.ensures) (not_decides c.in_ok-holds-in-Not.field-0 (HoldsNow c.args.present.now.events.now (drop c.args.first (g.P.Past.tables c.args.present.now.past.now))
    (bound_in c.args.scope.now) (tree_of c.deref.result.now)) c.in_ok-holds-in-Not.ensures)

pub holds-hold_both-requires : goal.holds-hold_both-requires
holds-hold_both-requires g t c =
    let ask = rw (c.in-And.is, ← c.deref-in-And.ensures, ← c.deref-in-And-2.ensures) at c.requires.ask in
    let closed = rw (c.in-And.is, ← c.deref-in-And.ensures, ← c.deref-in-And-2.ensures) at c.requires.closed in
    λ κs lives. (
      search rules,
      (
        search rules,
        (
          c.requires.few,
          (
            ask_and_left (bound_in c.args.scope.now) (drop c.args.first (g.P.Past.tables c.args.present.now.past.now)) c.in-And.field-0
                (tree_of c.deref-in-And.result.now) (tree_of c.deref-in-And-2.result.now) ask,
            (
              ask_and_right (bound_in c.args.scope.now) (drop c.args.first (g.P.Past.tables c.args.present.now.past.now)) c.in-And.field-0 (tree_of c.deref-in-And.result.now)
                  (tree_of c.deref-in-And-2.result.now) (bound_in c.args.scope.now) (binds_itself (bound_in c.args.scope.now) (tree_of c.deref-in-And.result.now) (λ x free. closed x (inl free)))
                  ask,
              (λ x free. closed x (inl free), λ x free. closed x (inr free)),
            ),
          ),
        ),
      ),
    )

pub holds-returns-in-And : goal.holds-returns-in-And
holds-returns-in-And g t c =
    rw (c.in-And.is, ← c.deref-in-And.ensures, ← c.deref-in-And-2.ensures) c.hold_both.ensures

pub holds-holds_either-requires : goal.holds-holds_either-requires
holds-holds_either-requires g t c =
    let ask = rw (c.in-Or.is, ← c.deref-in-Or.ensures, ← c.deref-in-Or-2.ensures) at c.requires.ask in
    let closed = rw (c.in-Or.is, ← c.deref-in-Or.ensures, ← c.deref-in-Or-2.ensures) at c.requires.closed in
    λ κs lives. (
      search rules,
      (
        search rules,
        (
          c.requires.few,
          (
            ask_or_left (bound_in c.args.scope.now) (drop c.args.first (g.P.Past.tables c.args.present.now.past.now)) c.in-Or.field-0
                (tree_of c.deref-in-Or.result.now) (tree_of c.deref-in-Or-2.result.now) ask,
            (
              ask_or_right (bound_in c.args.scope.now)
                  (drop c.args.first (g.P.Past.tables c.args.present.now.past.now)) c.in-Or.field-0 (tree_of c.deref-in-Or.result.now) (tree_of c.deref-in-Or-2.result.now) ask,
              (λ x free. closed x (inl free), λ x free. closed x (inr free)),
            ),
          ),
        ),
      ),
    )

pub holds-returns-in-Or : goal.holds-returns-in-Or
holds-returns-in-Or g t c =
    rw (c.in-Or.is, ← c.deref-in-Or.ensures, ← c.deref-in-Or-2.ensures) (ok_either c.holds_either.result _ _ c.holds_either.ensures)

pub holds-holds_where-requires : goal.holds-holds_where-requires
holds-holds_where-requires g t c =
    let ask = rw (c.in-Implies.is, ← c.deref-in-Implies.ensures, ← c.deref-in-Implies-2.ensures) at c.requires.ask in
    let closed = rw (c.in-Implies.is, ← c.deref-in-Implies.ensures, ← c.deref-in-Implies-2.ensures) at c.requires.closed in
    λ κs lives. (
      search rules,
      (
        search rules,
        (
          c.requires.few,
          (
            ask_implies_left (bound_in c.args.scope.now) (drop c.args.first (g.P.Past.tables c.args.present.now.past.now))
                c.in-Implies.field-0 (tree_of c.deref-in-Implies.result.now) (tree_of c.deref-in-Implies-2.result.now) ask,
            (
              ask_implies_right (bound_in c.args.scope.now) (drop c.args.first (g.P.Past.tables c.args.present.now.past.now)) c.in-Implies.field-0 (tree_of c.deref-in-Implies.result.now)
                  (tree_of c.deref-in-Implies-2.result.now) ask,
              (λ x free. closed x (inl free), λ x free. closed x (inr free)),
            ),
          ),
        ),
      ),
    )

pub holds-returns-in-Implies : goal.holds-returns-in-Implies
holds-returns-in-Implies g t c =
    rw (c.in-Implies.is, ← c.deref-in-Implies.ensures, ← c.deref-in-Implies-2.ensures) c.holds_where.ensures

pub holds-has_answer-requires : goal.holds-has_answer-requires
holds-has_answer-requires g t c =
    let ask = rw (c.in-Exists.is, ← c.deref-in-Exists.ensures) at c.requires.ask in
    λ κs lives. (
      search rules,
      (
        search rules,
        (
          c.requires.few,
          ask_exists (bound_in c.args.scope.now) (drop c.args.first (g.P.Past.tables c.args.present.now.past.now)) c.in-Exists.field-0
              c.in-Exists.field-1 (tree_of c.deref-in-Exists.result.now) ask,
        ),
      ),
    )

pub holds-returns-in-Exists : goal.holds-returns-in-Exists
holds-returns-in-Exists g t c =
    let ask = rw (c.in-Exists.is, ← c.deref-in-Exists.ensures) at c.requires.ask in
    let closed = rw (c.in-Exists.is, ← c.deref-in-Exists.ensures) at c.requires.closed in
    rw (c.in-Exists.is, ← c.deref-in-Exists.ensures)
    (ok_decides c.has_answer.result _ _ (λ b. exists_decided c.args.present.now.events.now (drop c.args.first (g.P.Past.tables c.args.present.now.past.now)) (bound_in c.args.scope.now)
    c.in-Exists.field-1 (tree_of c.deref-in-Exists.result.now) ask.tabled c.in-Exists.field-0 b (λ x free absent. closed x (free, absent))
    (λ x there bound. ask.fresh.0 x there (inl bound))) c.has_answer.ensures)

pub holds-holds_for_all-requires : goal.holds-holds_for_all-requires
holds-holds_for_all-requires g t c =
    let ask = rw (c.in-Forall.is, ← c.deref-in-Forall.ensures) at c.requires.ask in
    λ κs lives. (search rules, (search rules, (c.requires.few, (c.in-Forall.field-0, c.in-Forall.field-1, ask))))

pub holds-returns-in-Forall : goal.holds-returns-in-Forall
holds-returns-in-Forall g t c =
    let ask = rw (c.in-Forall.is, ← c.deref-in-Forall.ensures) at c.requires.ask in
    let closed = rw (c.in-Forall.is, ← c.deref-in-Forall.ensures) at c.requires.closed in
    rw (c.in-Forall.is, ← c.deref-in-Forall.ensures) (ok_forall c.holds_for_all.result c.args.present.now.events.now (drop c.args.first (g.P.Past.tables c.args.present.now.past.now))
    (bound_in c.args.scope.now) (tree_of c.deref-in-Forall.result.now) c.in-Forall.field-0 c.in-Forall.field-1 ask closed c.holds_for_all.ensures)

pub holds-has-requires : goal.holds-has-requires
holds-has-requires g t c =
    let fit = rw (c.in-Historically.is) at c.requires.ask.tabled in
    fit_first (Historically c.in-Historically.field-0 c.in-Historically.field-1 (tree_of c.in-Historically.field-2.value)) (g.P.Past.tables c.args.present.now.past.now) c.args.first fit

pub holds-has-requires-in-Prev : goal.holds-has-requires-in-Prev
holds-has-requires-in-Prev g t c =
    fit_first (tree_of c.args.formula.now) (g.P.Past.tables c.args.present.now.past.now) c.args.first
    (told_fit (drop c.args.first (g.P.Past.tables c.args.present.now.past.now)) c.args.formula.now c.in-Prev.is c.requires.ask.tabled)

pub holds-returns-in-Atom : goal.holds-returns-in-Atom
holds-returns-in-Atom g t c =
    rw (c.in-Atom.is, ← c.as_slice.ensures) c.has_event.ensures

pub holds-returns-in-Historically : goal.holds-returns-in-Historically
holds-returns-in-Historically g t c =
    rw (c.in-Historically.is) (not_decides c.has.result (FirstHas (drop c.args.first (g.P.Past.tables c.args.present.now.past.now)) (bound_in c.args.scope.now)) c.has.ensures)

pub holds-returns-in-Prev : goal.holds-returns-in-Prev
holds-returns-in-Prev g t c =
    let told = told_holds (drop c.args.first (g.P.Past.tables c.args.present.now.past.now)) c.args.present.now.events.now (bound_in c.args.scope.now) c.args.formula.now c.in-Prev.is in
    (λ t. told.1 (c.has-in-Prev.ensures.0 t), λ holds. c.has-in-Prev.ensures.1 (told.0 holds))

-- ---- hold_both

pub hold_both-holds-requires : goal.hold_both-holds-requires
hold_both-holds-requires g t c =
    λ κs lives. (search rules, (search rules, (c.requires.few, (c.requires.left, c.requires.closed))))

pub hold_both-operators-requires : goal.hold_both-operators-requires
hold_both-operators-requires g t c =
    (fit_place (tree_of c.args.g.now) (g.P.Past.tables c.args.present.now.past.now) c.args.first c.requires.few c.ranges.first.fits c.requires.left.tabled).0

pub hold_both-overflow_add-first : goal.hold_both-overflow_add-first
hold_both-overflow_add-first g t c =
    subst (λ n. Fits w64 (c.args.first + n)) (sym c.operators.ensures) (fits_from (fit_place (tree_of c.args.g.now) (g.P.Past.tables c.args.present.now.past.now) c.args.first
    c.requires.few c.ranges.first.fits c.requires.left.tabled).1)

pub hold_both-holds-requires-then-branch : goal.hold_both-holds-requires-then-branch
hold_both-holds-requires-then-branch g t c =
    λ κs lives. (
      search rules,
      (
        search rules,
        (
          c.requires.few,
          (
            subst (λ l. CanAskFormula (bound_in c.args.scope.now) l (tree_of c.args.h.now))
                (sym (next_tables c.args.present.now.events.now (g.P.Past.tables c.args.present.now.past.now) c.args.first (c.args.first + c.operators.result) (bound_in c.args.scope.now)
                (tree_of c.args.g.now) (tree_of c.args.h.now) (ap (λ n. c.args.first + n) c.operators.ensures))) c.requires.right,
            c.requires.closed_right,
          ),
        ),
      ),
    )

pub hold_both-returns-then-branch : goal.hold_both-returns-then-branch
hold_both-returns-then-branch g t c =
    ok_both c.holds-then-branch.result c.in_ok-holds.field-0 (HoldsNow c.args.present.now.events.now (drop c.args.first (g.P.Past.tables c.args.present.now.past.now))
    (bound_in c.args.scope.now) (tree_of c.args.g.now)) (HoldsNow c.args.present.now.events.now
    (tables_beyond (tree_of c.args.g.now) (drop c.args.first (g.P.Past.tables c.args.present.now.past.now))) (bound_in c.args.scope.now) (tree_of c.args.h.now)) c.in_ok-holds.ensures
    c.if-branch.true (subst (λ l. IfOk c.holds-then-branch.result (λ b. IsTrue b ↔ HoldsNow c.args.present.now.events.now l (bound_in c.args.scope.now) (tree_of c.args.h.now)))
    (next_tables c.args.present.now.events.now (g.P.Past.tables c.args.present.now.past.now) c.args.first (c.args.first + c.operators.result) (bound_in c.args.scope.now)
    (tree_of c.args.g.now) (tree_of c.args.h.now) (ap (λ n. c.args.first + n) c.operators.ensures)) c.holds-then-branch.ensures)

-- ---- holds_either

pub holds_either-holds-requires : goal.holds_either-holds-requires
holds_either-holds-requires g t c =
    λ κs lives. (search rules, (search rules, (c.requires.few, (c.requires.left, c.requires.closed))))

pub holds_either-operators-requires : goal.holds_either-operators-requires
holds_either-operators-requires g t c =
    (fit_place (tree_of c.args.g.now) (g.P.Past.tables c.args.present.now.past.now) c.args.first c.requires.few c.ranges.first.fits c.requires.left.tabled).0

pub holds_either-overflow_add-first : goal.holds_either-overflow_add-first
holds_either-overflow_add-first g t c =
    subst (λ n. Fits w64 (c.args.first + n)) (sym c.operators.ensures) (fits_from (fit_place (tree_of c.args.g.now) (g.P.Past.tables c.args.present.now.past.now) c.args.first
    c.requires.few c.ranges.first.fits c.requires.left.tabled).1)

pub holds_either-holds-requires-else-branch : goal.holds_either-holds-requires-else-branch
holds_either-holds-requires-else-branch g t c =
    λ κs lives. (
      search rules,
      (
        search rules,
        (
          c.requires.few,
          (
            subst (λ l. CanAskFormula (bound_in c.args.scope.now) l (tree_of c.args.h.now))
                (sym (next_tables c.args.present.now.events.now (g.P.Past.tables c.args.present.now.past.now) c.args.first (c.args.first + c.operators.result) (bound_in c.args.scope.now)
                (tree_of c.args.g.now) (tree_of c.args.h.now) (ap (λ n. c.args.first + n) c.operators.ensures))) c.requires.right,
            c.requires.closed_right,
          ),
        ),
      ),
    )

pub holds_either-returns-else-branch : goal.holds_either-returns-else-branch
holds_either-returns-else-branch g t c =
    ok_second c.holds-else-branch.result c.in_ok-holds.field-0 (HoldsNow c.args.present.now.events.now (drop c.args.first (g.P.Past.tables c.args.present.now.past.now))
    (bound_in c.args.scope.now) (tree_of c.args.g.now)) (HoldsNow c.args.present.now.events.now
    (tables_beyond (tree_of c.args.g.now) (drop c.args.first (g.P.Past.tables c.args.present.now.past.now))) (bound_in c.args.scope.now) (tree_of c.args.h.now)) c.in_ok-holds.ensures
    c.if-branch.false (subst (λ l. IfOk c.holds-else-branch.result (λ b. IsTrue b ↔ HoldsNow c.args.present.now.events.now l (bound_in c.args.scope.now) (tree_of c.args.h.now)))
    (next_tables c.args.present.now.events.now (g.P.Past.tables c.args.present.now.past.now) c.args.first (c.args.first + c.operators.result) (bound_in c.args.scope.now)
    (tree_of c.args.g.now) (tree_of c.args.h.now) (ap (λ n. c.args.first + n) c.operators.ensures)) c.holds-else-branch.ensures)

-- ---- holds_where

pub holds_where-holds-requires : goal.holds_where-holds-requires
holds_where-holds-requires g t c =
    λ κs lives. (search rules, (search rules, (c.requires.few, (c.requires.left, c.requires.closed))))

pub holds_where-operators-requires : goal.holds_where-operators-requires
holds_where-operators-requires g t c =
    (fit_place (tree_of c.args.g.now) (g.P.Past.tables c.args.present.now.past.now) c.args.first c.requires.few c.ranges.first.fits c.requires.left.tabled).0

pub holds_where-overflow_add-first : goal.holds_where-overflow_add-first
holds_where-overflow_add-first g t c =
    subst (λ n. Fits w64 (c.args.first + n)) (sym c.operators.ensures) (fits_from (fit_place (tree_of c.args.g.now) (g.P.Past.tables c.args.present.now.past.now) c.args.first
    c.requires.few c.ranges.first.fits c.requires.left.tabled).1)

pub holds_where-holds-requires-then-branch : goal.holds_where-holds-requires-then-branch
holds_where-holds-requires-then-branch g t c =
    λ κs lives. (
      search rules,
      (
        search rules,
        (
          c.requires.few,
          (
            subst (λ l. CanAskFormula (bound_in c.args.scope.now) l (tree_of c.args.h.now))
                (sym (next_tables c.args.present.now.events.now (g.P.Past.tables c.args.present.now.past.now) c.args.first (c.args.first + c.operators.result) (bound_in c.args.scope.now)
                (tree_of c.args.g.now) (tree_of c.args.h.now) (ap (λ n. c.args.first + n) c.operators.ensures))) c.requires.right,
            c.requires.closed_right,
          ),
        ),
      ),
    )

pub holds_where-returns-then-branch : goal.holds_where-returns-then-branch
holds_where-returns-then-branch g t c =
    ok_where c.holds-then-branch.result c.in_ok-holds.field-0 (HoldsNow c.args.present.now.events.now (drop c.args.first (g.P.Past.tables c.args.present.now.past.now))
    (bound_in c.args.scope.now) (tree_of c.args.g.now)) (HoldsNow c.args.present.now.events.now
    (tables_beyond (tree_of c.args.g.now) (drop c.args.first (g.P.Past.tables c.args.present.now.past.now))) (bound_in c.args.scope.now) (tree_of c.args.h.now)) c.in_ok-holds.ensures
    c.if-branch.true (subst (λ l. IfOk c.holds-then-branch.result (λ b. IsTrue b ↔ HoldsNow c.args.present.now.events.now l (bound_in c.args.scope.now) (tree_of c.args.h.now)))
    (next_tables c.args.present.now.events.now (g.P.Past.tables c.args.present.now.past.now) c.args.first (c.args.first + c.operators.result) (bound_in c.args.scope.now)
    (tree_of c.args.g.now) (tree_of c.args.h.now) (ap (λ n. c.args.first + n) c.operators.ensures)) c.holds-then-branch.ensures)

pub hold_both-returns-else-branch : goal.hold_both-returns-else-branch
hold_both-returns-else-branch g t c =
    (λ t. absurd (false≢true t), λ both. absurd (false≢true (sym c.if-branch.false ∙ c.in_ok-holds.ensures.1 both.0)))

pub holds_either-returns-then-branch : goal.holds_either-returns-then-branch
holds_either-returns-then-branch g t c =
    (λ t. inl (c.in_ok-holds.ensures.0 c.if-branch.true), λ either. refl)

pub holds_where-returns-else-branch : goal.holds_where-returns-else-branch
holds_where-returns-else-branch g t c =
    (λ t holds. absurd (false≢true (sym c.if-branch.false ∙ c.in_ok-holds.ensures.1 holds)), λ each. refl)

-- ---- below a `forall`

pub holds_for_all-holds_for_all-requires : goal.holds_for_all-holds_for_all-requires
holds_for_all-holds_for_all-requires g t c =
    let ask = rw (c.in-Forall.is, ← c.deref.ensures) at c.requires.ask.2 in
    λ κs lives. (
      search rules,
      (
        search rules,
        (
          c.requires.few,
          (
            c.requires.ask.0,
            c.requires.ask.1 ++ c.in-Forall.field-1,
            ask_nested (bound_in c.args.scope.now)
                (drop c.args.first (g.P.Past.tables c.args.present.now.past.now)) c.requires.ask.0 c.in-Forall.field-0 c.requires.ask.1 c.in-Forall.field-1 (tree_of c.deref.result.now) ask,
          ),
        ),
      ),
    )

pub holds_for_all-holds_for_each-requires : goal.holds_for_all-holds_for_each-requires
holds_for_all-holds_for_each-requires g t c =
    let ask = rw (c.in-Implies.is, ← c.deref-in-Implies.ensures, ← c.deref-in-Implies-2.ensures) at c.requires.ask.2 in
    λ κs lives. (search rules, (search rules, (c.requires.few, ((c.requires.ask.0, c.in-Implies.field-0), c.requires.ask.1, ask))))

pub holds_for_all-has_answer-requires : goal.holds_for_all-has_answer-requires
holds_for_all-has_answer-requires g t c =
    let ask = rw (c.in-Not.is, ← c.deref-in-Not.ensures) at c.requires.ask.2 in
    λ κs lives. (
      search rules,
      (
        search rules,
        (
          c.requires.few,
          ask_none (bound_in c.args.scope.now) (drop c.args.first (g.P.Past.tables c.args.present.now.past.now)) c.requires.ask.0
              c.in-Not.field-0 c.requires.ask.1 (tree_of c.deref-in-Not.result.now) ask,
        ),
      ),
    )

pub holds_for_all-returns-in-Forall : goal.holds_for_all-returns-in-Forall
holds_for_all-returns-in-Forall g t c =
    rw (c.in-Forall.is, ← c.deref.ensures) (ok_nested c.holds_for_all.result c.args.present.now.events.now (drop c.args.first (g.P.Past.tables c.args.present.now.past.now))
    (bound_in c.args.scope.now) (tree_of c.deref.result.now) c.in-Forall.field-0 c.in-Forall.field-1 c.holds_for_all.ensures)

pub holds_for_all-returns-in-Implies : goal.holds_for_all-returns-in-Implies
holds_for_all-returns-in-Implies g t c =
    rw (c.in-Implies.is, ← c.deref-in-Implies.ensures, ← c.deref-in-Implies-2.ensures)
    (ok_each c.holds_for_each.result c.args.present.now.events.now (drop c.args.first (g.P.Past.tables c.args.present.now.past.now)) (bound_in c.args.scope.now) c.in-Implies.field-0
    (tree_of c.deref-in-Implies.result.now) (tree_of c.deref-in-Implies-2.result.now) c.holds_for_each.ensures)

pub holds_for_all-returns-in_ok-has_answer-in-Not : goal.holds_for_all-returns-in_ok-has_answer-in-Not
holds_for_all-returns-in_ok-has_answer-in-Not g t c =
    rw (c.in-Not.is, ← c.deref-in-Not.ensures) (λ place xs ask closed. none_decided c.args.present.now.events.now (drop c.args.first (g.P.Past.tables c.args.present.now.past.now))
    (bound_in c.args.scope.now) xs (tree_of c.deref-in-Not.result.now) ask.tabled place c.in-Not.field-0 c.in_ok-has_answer-in-Not.field-0 ask.safe.0
    (λ x there bound. ask.fresh.0 x there (inl bound)) c.in_ok-has_answer-in-Not.ensures)

pub holds_for_all-returns-in_default : goal.holds_for_all-returns-in_default
holds_for_all-returns-in_default g t c =
    λ place xs ask closed. absurd (below_kind c.args.body.now c.in_default.not-Forall c.in_default.not-Implies c.in_default.not-Not xs (IsBoundBy (bound_in c.args.scope.now)) ask.safe)

pub holds_for_each-rows-requires : goal.holds_for_each-rows-requires
holds_for_each-rows-requires g t c =
    λ κs lives. (
      search rules,
      (
        search rules,
        (
          c.requires.few,
          ask_range (bound_in c.args.scope.now) (drop c.args.first (g.P.Past.tables c.args.present.now.past.now)) c.requires.ask.0.0
              c.requires.ask.0.1 c.requires.ask.1 (tree_of c.args.g.now) (tree_of c.args.h.now) c.requires.ask.2,
        ),
      ),
    )

pub holds_for_each-operators-requires : goal.holds_for_each-operators-requires
holds_for_each-operators-requires g t c =
    (fit_places (tree_of c.args.g.now) (tree_of c.args.h.now) (g.P.Past.tables c.args.present.now.past.now) c.args.first c.requires.few c.ranges.first.fits c.requires.ask.2.tabled).0

pub holds_for_each-overflow_add-next : goal.holds_for_each-overflow_add-next
holds_for_each-overflow_add-next g t c =
    subst (λ n. Fits w64 (c.args.first + n)) (sym c.operators.ensures) (fits_from (fit_places (tree_of c.args.g.now) (tree_of c.args.h.now) (g.P.Past.tables c.args.present.now.past.now)
    c.args.first c.requires.few c.ranges.first.fits c.requires.ask.2.tabled).1)

pub holds_for_each-holds_under-requires : goal.holds_for_each-holds_under-requires
holds_for_each-holds_under-requires g t c =
    λ κs lives. (
      search rules,
      (
        search rules,
        (
          c.requires.few,
          (
            each_ask c.args.present.now.events.now (g.P.Past.tables c.args.present.now.past.now) c.args.first
                (c.args.first + c.operators.result) (bound_in c.args.scope.now) (tree_of c.args.g.now) (tree_of c.args.h.now) (ap (λ n. c.args.first + n) c.operators.ensures) c.in_ok-range.range
                c.in_ok-range.ensures.table c.in_ok-range.ensures.columns c.in_ok-range.ensures.rows c.requires.ask.0.0 c.requires.ask.0.1 c.requires.ask.1 c.requires.ask.2,
            each_closed
                c.args.present.now.events.now (g.P.Past.tables c.args.present.now.past.now) c.args.first (c.args.first + c.operators.result) (bound_in c.args.scope.now) (tree_of c.args.g.now)
                (tree_of c.args.h.now) (ap (λ n. c.args.first + n) c.operators.ensures) c.in_ok-range.range c.in_ok-range.ensures.table c.in_ok-range.ensures.columns c.in_ok-range.ensures.rows
                c.requires.ask.0.0 c.requires.ask.0.1 c.requires.ask.1 c.requires.ask.2,
          ),
        ),
      ),
    )

pub holds_for_each-returns : goal.holds_for_each-returns
holds_for_each-returns g t c =
    IfOk-weaker c.holds_under.result _ _ (λ b told p q xs ask. each_decided c.args.present.now.events.now (g.P.Past.tables c.args.present.now.past.now) c.args.first
    (c.args.first + c.operators.result) (bound_in c.args.scope.now) (tree_of c.args.g.now) (tree_of c.args.h.now) (ap (λ n. c.args.first + n) c.operators.ensures) c.in_ok-range.range
    c.in_ok-range.ensures.table c.in_ok-range.ensures.columns c.in_ok-range.ensures.rows p q xs ask b told) c.holds_under.ensures

-- ---- the loops

pub gather_under-gather_known-requires : goal.gather_under-gather_known-requires
gather_under-gather_known-requires g t c =
    let row = c.row-item.result in
    let all : c.rows-row-items.result.now ≡ c.args.table.now.rows = c.rows-row-items.ensures.rows in
    let there : Contains c.args.table.now.rows row = subst (λ l. Contains l row) all (c.loop-row.row-index, c.loop-row-test.true, sym c.row-item.is) in
    let inner : filled_from_row (bound_in c.args.scope.now) c.as_slice.result.now c.as_slice-in-loop-row.result.now
    ≡ filled_from_row (bound_in c.args.scope.now) c.args.table.now.columns row = (λ i. filled_from_row (bound_in c.args.scope.now)
    ((c.as_slice.ensures ∙ c.columns.ensures.columns) i) (c.as_slice-in-loop-row.ensures i)) in
    λ κs lives. (
      search rules,
      (
        search rules,
        (
          c.requires.few,
          (
            subst (λ v. CanAskFormula v (drop c.args.first (g.P.Past.tables c.args.present.now.past.now))
                (tree_of c.args.formula.now)) (sym inner) (c.requires.ask row there),
            (
              subst (λ v. AreBoundOrFree c.args.columns.now v (tree_of c.args.formula.now)) (sym inner)
                  (c.requires.within row there),
              subst (λ v. IsTrue c.in_ok-closed.closed ↔ FreeWithin (tree_of c.args.formula.now) (IsBoundBy v)) (sym inner)
                  (c.in_ok-closed.ensures row there),
            ),
          ),
        ),
      ),
    )

pub gather_under-loop-row-preserved : goal.gather_under-loop-row-preserved
gather_under-loop-row-preserved g t c =
    let row = c.row-item.result in
    let all : c.rows-row-items.result.now ≡ c.args.table.now.rows = c.rows-row-items.ensures.rows in
    let there : Contains c.args.table.now.rows row = subst (λ l. Contains l row) all (c.loop-row.row-index, c.loop-row-test.true, sym c.row-item.is) in
    let inner : filled_from_row (bound_in c.args.scope.now) c.as_slice.result.now c.as_slice-in-loop-row.result.now
    ≡ filled_from_row (bound_in c.args.scope.now) c.args.table.now.columns row = (λ i. filled_from_row (bound_in c.args.scope.now)
    ((c.as_slice.ensures ∙ c.columns.ensures.columns) i) (c.as_slice-in-loop-row.ensures i)) in
    let at : row ≡ get_or c.args.table.now.rows c.loop-row.row-index row = subst (λ l. row ≡ get_or l c.loop-row.row-index row) all c.row-item.is in
    adds_more c.args.columns.now c.args.table.now.rows (λ r w. IsGuardAnswer c.args.present.now.events.now (drop c.args.first (g.P.Past.tables c.args.present.now.past.now))
    (filled_from_row (bound_in c.args.scope.now) c.args.table.now.columns r) (tree_of c.args.formula.now) c.args.columns.now w) c.loop-row.row-index row _ _ _
    (subst (λ (l : List (List Value)). c.loop-row.row-index < length l) all c.loop-row-test.true) c.loop-row.invariant
    (subst (λ (r : List Value). AddsRows c.args.columns.now c.loop-row.out.items c.gather_known.new.out.items
    (IsGuardAnswer c.args.present.now.events.now (drop c.args.first (g.P.Past.tables c.args.present.now.past.now))
    (filled_from_row (bound_in c.args.scope.now) c.args.table.now.columns r) (tree_of c.args.formula.now) c.args.columns.now)) at
    (subst (λ (v : Valuation). AddsRows c.args.columns.now c.loop-row.out.items c.gather_known.new.out.items
    (IsGuardAnswer c.args.present.now.events.now (drop c.args.first (g.P.Past.tables c.args.present.now.past.now)) v (tree_of c.args.formula.now) c.args.columns.now)) inner
    c.in_ok-gather_known.ensures))

pub gather_under-returns : goal.gather_under-returns
gather_under-returns g t c =
    let all : c.rows-row-items.result.now ≡ c.args.table.now.rows = c.rows-row-items.ensures.rows in
    subst (λ (l : List (List Value)). AddsRows c.args.columns.now c.args.out.now.items c.loop-row.out.items
    (λ w. SomeOf l (λ row. IsGuardAnswer c.args.present.now.events.now (drop c.args.first (g.P.Past.tables c.args.present.now.past.now))
    (filled_from_row (bound_in c.args.scope.now) c.args.table.now.columns row) (tree_of c.args.formula.now) c.args.columns.now w)))
    (take_all c.loop-row.row-index c.args.table.now.rows (subst (λ (l : List (List Value)). length l ≤ c.loop-row.row-index) all c.loop-row-test.false)) c.loop-row.invariant

pub holds_under-holds-requires : goal.holds_under-holds-requires
holds_under-holds-requires g t c =
    let row = c.row-item.result in
    let all : c.rows-row-items.result.now ≡ c.args.table.now.rows = c.rows-row-items.ensures.rows in
    let there : Contains c.args.table.now.rows row = subst (λ l. Contains l row) all (c.loop-row.row-index, c.loop-row-test.true, sym c.row-item.is) in
    let inner : filled_from_row (bound_in c.args.scope.now) c.as_slice.result.now c.as_slice-in-loop-row.result.now
    ≡ filled_from_row (bound_in c.args.scope.now) c.args.table.now.columns row = (λ i. filled_from_row (bound_in c.args.scope.now)
    ((c.as_slice.ensures ∙ c.columns.ensures.columns) i) (c.as_slice-in-loop-row.ensures i)) in
    λ κs lives. (
      search rules,
      (
        search rules,
        (
          c.requires.few,
          (
            subst (λ v. CanAskFormula v (drop c.args.first (g.P.Past.tables c.args.present.now.past.now))
                (tree_of c.args.formula.now)) (sym inner) (c.requires.ask row there),
            subst (λ v. FreeWithin (tree_of c.args.formula.now) (IsBoundBy v)) (sym inner)
                (c.requires.closed row there),
          ),
        ),
      ),
    )

pub holds_under-loop-row-preserved : goal.holds_under-loop-row-preserved
holds_under-loop-row-preserved g t c =
    let row = c.row-item.result in
    let all : c.rows-row-items.result.now ≡ c.args.table.now.rows = c.rows-row-items.ensures.rows in
    let there : Contains c.args.table.now.rows row = subst (λ l. Contains l row) all (c.loop-row.row-index, c.loop-row-test.true, sym c.row-item.is) in
    let inner : filled_from_row (bound_in c.args.scope.now) c.as_slice.result.now c.as_slice-in-loop-row.result.now
    ≡ filled_from_row (bound_in c.args.scope.now) c.args.table.now.columns row = (λ i. filled_from_row (bound_in c.args.scope.now)
    ((c.as_slice.ensures ∙ c.columns.ensures.columns) i) (c.as_slice-in-loop-row.ensures i)) in
    let at : row ≡ get_or c.args.table.now.rows c.loop-row.row-index row = subst (λ l. row ≡ get_or l c.loop-row.row-index row) all c.row-item.is in
    let here : HoldsNow c.args.present.now.events.now (drop c.args.first (g.P.Past.tables c.args.present.now.past.now))
    (filled_from_row (bound_in c.args.scope.now) c.args.table.now.columns row) (tree_of c.args.formula.now) = subst
    (λ v. HoldsNow c.args.present.now.events.now (drop c.args.first (g.P.Past.tables c.args.present.now.past.now)) v (tree_of c.args.formula.now)) inner
    (c.in_ok-holds.ensures.0 c.if-not-branch.false) in
    each_more (λ r. HoldsNow c.args.present.now.events.now (drop c.args.first (g.P.Past.tables c.args.present.now.past.now))
    (filled_from_row (bound_in c.args.scope.now) c.args.table.now.columns r) (tree_of c.args.formula.now)) c.args.table.now.rows c.loop-row.row-index row
    (subst (λ (l : List (List Value)). c.loop-row.row-index < length l) all c.loop-row-test.true) at c.loop-row.invariant here

pub holds_under-returns-then-not-branch : goal.holds_under-returns-then-not-branch
holds_under-returns-then-not-branch g t c =
    let row = c.row-item.result in
    let all : c.rows-row-items.result.now ≡ c.args.table.now.rows = c.rows-row-items.ensures.rows in
    let there : Contains c.args.table.now.rows row = subst (λ l. Contains l row) all (c.loop-row.row-index, c.loop-row-test.true, sym c.row-item.is) in
    let inner : filled_from_row (bound_in c.args.scope.now) c.as_slice.result.now c.as_slice-in-loop-row.result.now
    ≡ filled_from_row (bound_in c.args.scope.now) c.args.table.now.columns row = (λ i. filled_from_row (bound_in c.args.scope.now)
    ((c.as_slice.ensures ∙ c.columns.ensures.columns) i) (c.as_slice-in-loop-row.ensures i)) in (
      λ t. absurd (false≢true t),
      λ each. absurd (false≢true (sym c.if-not-branch.true ∙ c.in_ok-holds.ensures.1
          (subst (λ v. HoldsNow c.args.present.now.events.now (drop c.args.first (g.P.Past.tables c.args.present.now.past.now)) v (tree_of c.args.formula.now)) (sym inner)
          (each row there)))),
    )

pub holds_under-returns : goal.holds_under-returns
holds_under-returns g t c =
    let all : c.rows-row-items.result.now ≡ c.args.table.now.rows = c.rows-row-items.ensures.rows in (
      λ t row there. c.loop-row.invariant row (subst (λ l. Contains l row) (sym (take_all c.loop-row.row-index c.args.table.now.rows
          (subst (λ (l : List (List Value)). length l ≤ c.loop-row.row-index) all c.loop-row-test.false))) there),
      λ each. refl,
    )
