use Rattle.prev_rows.proofs.Vocabulary.{◌≡◌, ◌∙◌, None, ap, subst, sym, on_ok_weaker, IsUpToTime, IsGrownBy, KeepsColumns, grown_slot}
use Rattle.prev_rows.proofs.GrownLemmas.{grown_by, grown_columns}
use Rattle.prev_rows.proofs.grown_rows.GrownRows.add.Goals as goal

pub commit_by-requires-clause-later : goal.commit_by-requires-clause-later
commit_by-requires-clause-later c = subst (λ s. IsUpToTime c.args.time s.last) (sym c.self.view_is) c.requires.later

pub commit_by-requires-clause-right_columns : goal.commit_by-requires-clause-right_columns
commit_by-requires-clause-right_columns c = c.requires.columns ∙ sym (ap (λ s. s.columns) c.self.view_is)

pub invariant_of-self : goal.invariant_of-self
invariant_of-self c = (
  subst (λ i. (i.low ≡ 0) × (i.high ≡ None)) (sym c.commit_by.ensures.kind.interval_is) c.self.invariant.0,
  c.self.invariant.1 ∙ sym c.commit_by.ensures.kind.columns_are,
  c.self.invariant.2,
)

pub returns-clause-ok : goal.returns-clause-ok
returns-clause-ok c = on_ok_weaker c.commit_by.result (λ committed.
    subst (λ s. IsGrownBy s c.args.time c.args.rows.now (grown_slot c.self.inside.interval c.commit_by.new.self)) c.self.view_is
    (grown_by c.self.inside.interval c.self.inside.window c.commit_by.new.self c.args.time c.args.rows.now c.self.invariant.0 committed)) c.commit_by.ensures.ok

pub returns-clause-kind : goal.returns-clause-kind
returns-clause-kind c = subst (λ s. KeepsColumns s (grown_slot c.self.inside.interval c.commit_by.new.self)) c.self.view_is
    (grown_columns c.self.inside.interval c.self.inside.window c.commit_by.new.self c.commit_by.ensures.kind.columns_are)
