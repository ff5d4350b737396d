use Rattle.windows.proofs.Vocabulary.{All, Some, length, ◌≡◌, ◌∙◌, ◌++◌, map, sym, ap, subst, All-nil, row_cmp, AreOfLast, AreRising, last_step_time, pair, LastHasColumns}
use Rattle.std.specs.List.Sorted.{IsStrictlySortedBy}
use Rattle.windows.proofs.PairLemmas.{are_of_last, none_of_last, step_fits, step_rises}
use Rattle.windows.proofs.prev_slot.PrevSlot.kept.Goals.{in-Some+in_ok-push_step, in_default}
use Rattle.windows.proofs.prev_slot.PrevSlot.kept.Goals as goal

pub returns-clause-rising : goal.returns-clause-rising
returns-clause-rising c =
    elim c.match-self.branch [
      | in-Some+in_ok-push_step w ↦ subst AreRising (sym (ap (λ v. v.items) w.pairs-is ∙ w.in_ok-push_step.ensures ∙ ap
          (λ l. l ++ map (λ row. pair row w.in-Some.last.time) w.rows.result.now) c.new-pairs.ensures.items))
          (step_rises w.in-Some.last.time w.rows.result.now (subst (IsStrictlySortedBy row_cmp) (sym w.rows.ensures.rows) w.rows.ensures.table.rising))
      | in_default w ↦ subst AreRising (sym (ap (λ v. v.items) w.pairs-is ∙ c.new-pairs.ensures.items)) tt
    ]

pub returns-clause-fits : goal.returns-clause-fits
returns-clause-fits c =
    elim c.match-self.branch [
      | in-Some+in_ok-push_step w ↦
          let columns : w.in-Some.last.rows.columns ≡ c.args.self.now.columns = subst (LastHasColumns c.self.inside.columns) w.in-Some.is c.self.invariant.fits ∙ ap (λ s. s.columns) c.self.view_is in
          subst (All (λ p. length p.row ≡ length c.args.self.now.columns)) (sym (ap (λ v. v.items) w.pairs-is ∙ w.in_ok-push_step.ensures ∙ ap
          (λ l. l ++ map (λ row. pair row w.in-Some.last.time) w.rows.result.now) c.new-pairs.ensures.items))
          (step_fits w.in-Some.last.time (length c.args.self.now.columns) w.rows.result.now
          (subst (All (λ row. length row ≡ length c.args.self.now.columns)) (sym w.rows.ensures.rows)
          (subst (λ l. All (λ row. length row ≡ length l) w.in-Some.last.rows.rows) columns w.rows.ensures.table.fits)))
      | in_default w ↦ subst (All (λ p. length p.row ≡ length c.args.self.now.columns)) (sym (ap (λ v. v.items) w.pairs-is ∙ c.new-pairs.ensures.items)) (All-nil _)
    ]

pub returns-clause-times : goal.returns-clause-times
returns-clause-times c =
    elim c.match-self.branch [
      | in-Some+in_ok-push_step w ↦
          let last : Some w.in-Some.last ≡ c.args.self.now.last = sym w.in-Some.is ∙ ap (λ s. s.last) c.self.view_is in
          subst (λ l. AreOfLast (last_step_time l) c.match-self.pairs.items) last (subst (AreOfLast (Some w.in-Some.last.time))
          (sym (ap (λ v. v.items) w.pairs-is ∙ w.in_ok-push_step.ensures ∙ ap (λ l. l ++ map (λ row. pair row w.in-Some.last.time) w.rows.result.now) c.new-pairs.ensures.items
          ∙ ap (λ l. map (λ row. pair row w.in-Some.last.time) l) w.rows.ensures.rows)) (are_of_last (Some w.in-Some.last)))
      | in_default w ↦ subst (AreOfLast (last_step_time c.args.self.now.last)) (sym (ap (λ v. v.items) w.pairs-is ∙ c.new-pairs.ensures.items)) (none_of_last (last_step_time c.args.self.now.last))
    ]
