use Rattle.past_state.proofs.Vocabulary.{◌≡◌, All, length, refl, sym, subst, on_ok_weaker, FitMemory, IsCommittedBy, IsCommittedTo, Relation, SurvivesFor, List, Value}
use Rattle.enf_data.specs.declared.terms.VarId.{VarId}
use Rattle.past_state.proofs.SurvivorLemmas.{by_view}
use Rattle.past_state.specs.declared.memories.Memory.TheVariants as memories
use Rattle.prev_rows.specs.machine.GrownSlots.{IsGrownBy}
use Rattle.past_state.specs.machine.Memories.{IsSameMemory, IsSlotAfter}
use Rattle.past_state.proofs.memories.Memory.commit.Goals as goal

pub returns-in-Prev-clause-ok : goal.returns-in-Prev-clause-ok
returns-in-Prev-clause-ok c = on_ok_weaker c.grow.result (λ committed.
    subst (λ m. IsCommittedTo m c.args.time c.args.tables (memories.Prev c.grow.new.self c.in-Prev.operand)) (sym c.in-Prev.is) (
      c.grow.new.self,
      subst (λ o. IsSlotAfter o c.in-Prev.slot c.args.time c.args.tables.right c.grow.new.self) (sym c.in-Growing.is)
          (subst (λ r. IsGrownBy c.in-Prev.slot c.args.time r c.grow.new.self) c.table.ensures committed),
      refl,
    )) c.grow.ensures.ok

pub returns-in-Prev-clause-kind : goal.returns-in-Prev-clause-kind
returns-in-Prev-clause-kind c = subst (λ m. IsSameMemory m (memories.Prev c.grow.new.self c.in-Prev.operand)) (sym c.in-Prev.is)
    (c.grow.new.self, c.grow.ensures.kind.interval_is, c.grow.ensures.kind.columns_are, c.grow.ensures.kind.fits, refl)

-- the rows under the columns that they have
same_right : (right : Relation) (columns : List VarId) (rows : List (List Value)) → right.columns ≡ columns → rows ≡ right.rows → ◌≡◌ {A = Relation} (record { columns = columns; rows = rows }) right
same_right right columns rows are is = λ i. record { columns = sym are i; rows = is i }

pub commit_rows-requires-clause-fit : goal.commit_rows-requires-clause-fit
commit_rows-requires-clause-fit c =
    let fits = subst (λ m. FitMemory m c.args.tables) c.in-Once.is c.requires.fits in
    subst (All (λ row. length row ≡ length c.in-Once.window.columns)) (sym c.in_ok-into_rows-in-Once.ensures.rows)
    (subst (λ columns. All (λ row. length row ≡ length columns) c.args.tables.right.rows) fits.1 c.into_rows.ensures.table.fits)

pub returns-in-Once-clause-ok : goal.returns-in-Once-clause-ok
returns-in-Once-clause-ok c = on_ok_weaker c.commit_rows.result (λ committed.
    let fits = subst (λ m. FitMemory m c.args.tables) c.in-Once.is c.requires.fits in
    subst (λ m. IsCommittedTo m c.args.time c.args.tables (memories.Once c.commit_rows.new.self c.in-Once.right)) (sym c.in-Once.is) (
      c.commit_rows.new.self,
      by_view (λ S. IsCommittedBy c.in-Once.window c.args.time S c.args.tables.right c.commit_rows.new.self) c.args.tables.surviving c.as_surviving.result c.as_surviving.ensures
          (subst (λ (r : Relation). IsCommittedBy c.in-Once.window c.args.time (SurvivesFor c.as_surviving.result) r c.commit_rows.new.self)
          (same_right c.args.tables.right c.in-Once.window.columns _ fits.1 c.in_ok-into_rows-in-Once.ensures.rows) committed),
      refl,
    )) c.commit_rows.ensures.ok

pub returns-clause-ok : goal.returns-clause-ok
returns-clause-ok c = on_ok_weaker c.commit_rows-in-Since.result (λ committed.
    let fits = subst (λ m. FitMemory m c.args.tables) c.in-Since.is c.requires.fits in
    subst (λ m. IsCommittedTo m c.args.time c.args.tables (memories.Since c.commit_rows-in-Since.new.self c.in-Since.left c.in-Since.left_tables c.in-Since.right)) (sym c.in-Since.is) (
      c.commit_rows-in-Since.new.self,
      by_view (λ S. IsCommittedBy c.in-Since.window c.args.time S c.args.tables.right c.commit_rows-in-Since.new.self) c.args.tables.surviving c.as_surviving-in-Since.result
          c.as_surviving-in-Since.ensures
          (subst (λ (r : Relation). IsCommittedBy c.in-Since.window c.args.time (SurvivesFor c.as_surviving-in-Since.result) r c.commit_rows-in-Since.new.self)
          (same_right c.args.tables.right c.in-Since.window.columns _ fits.1 c.in_ok-into_rows-in-Since.ensures.rows) committed),
      refl,
    )) c.commit_rows-in-Since.ensures.ok
