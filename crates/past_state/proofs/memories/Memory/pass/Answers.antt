use Rattle.past_state.proofs.Vocabulary.{[], refl, sym, subst, on_ok_weaker, IsCommittedTo, IsSameMemory}
use Rattle.past_state.specs.declared.memories.Memory.TheVariants as memories
use Rattle.past_state.proofs.UntouchedLemmas.{slot_passed}
use Rattle.past_state.specs.machine.Memories.{columns_of}
use Rattle.past_state.specs.machine.UntouchedSteps.{IsUntouched, nothing_brought}
use Rattle.past_state.proofs.memories.Memory.pass.Goals as goal

pub pass-requires-clause-bare : goal.pass-requires-clause-bare
pass-requires-clause-bare c = (subst (IsUntouched c.requires.untouched.0) c.in-Prev.is c.requires.untouched.1).0

pub returns-in-Prev-clause-ok : goal.returns-in-Prev-clause-ok
returns-in-Prev-clause-ok c = on_ok_weaker c.pass.result (λ passed.
    let bare = (subst (IsUntouched c.requires.untouched.0) c.in-Prev.is c.requires.untouched.1).0 in
    subst (λ m. IsCommittedTo m c.args.time (nothing_brought (columns_of m)) (memories.Prev c.pass.new.self c.in-Prev.operand)) (sym c.in-Prev.is) (
      c.pass.new.self,
      slot_passed c.in-Prev.operand c.in-Prev.slot c.args.time c.pass.new.self bare (passed (record { columns = c.in-Prev.slot.columns; rows = [] }) refl refl),
      refl,
    )) c.pass.ensures.ok

pub returns-in-Prev-clause-kind : goal.returns-in-Prev-clause-kind
returns-in-Prev-clause-kind c = subst (λ m. IsSameMemory m (memories.Prev c.pass.new.self c.in-Prev.operand)) (sym c.in-Prev.is)
    (c.pass.new.self, c.pass.ensures.kind.interval_is, c.pass.ensures.kind.columns_are, c.pass.ensures.kind.fits, refl)

pub returns-in-Once-clause-ok : goal.returns-in-Once-clause-ok
returns-in-Once-clause-ok c = on_ok_weaker c.pass-in-Once.result (λ committed.
    subst (λ m. IsCommittedTo m c.args.time (nothing_brought (columns_of m)) (memories.Once c.pass-in-Once.new.self c.in-Once.right)) (sym c.in-Once.is)
    (c.pass-in-Once.new.self, committed (record { columns = c.in-Once.window.columns; rows = [] }) refl refl, refl)) c.pass-in-Once.ensures.ok

pub returns-in-Since-clause-ok : goal.returns-in-Since-clause-ok
returns-in-Since-clause-ok c = on_ok_weaker c.pass-in-Since.result (λ committed.
    subst (λ m. IsCommittedTo m c.args.time (nothing_brought (columns_of m)) (memories.Since c.pass-in-Since.new.self c.in-Since.left c.in-Since.left_tables c.in-Since.right)) (sym c.in-Since.is)
    (c.pass-in-Since.new.self, committed (record { columns = c.in-Since.window.columns; rows = [] }) refl refl, refl)) c.pass-in-Since.ensures.ok
