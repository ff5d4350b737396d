use Rattle.windows.proofs.Vocabulary.{◌↔◌, [], Contains, sym, subst, AreOfLast, pairs_of_last, KeptPair}
use Rattle.windows.proofs.RestoreLemmas.{last_pairs}
use Rattle.windows.proofs.prev_slot.PrevSlot.from_kept.Goals.{in-Some+in_ok-rows_of-in-Some, in-None}
use Rattle.windows.proofs.prev_slot.PrevSlot.from_kept.Goals as goal

pub returns-clause-exact : goal.returns-clause-exact
returns-clause-exact c =
    elim c.match-last.branch [
      | in-Some+in_ok-rows_of-in-Some w ↦ subst (λ l. (p : KeptPair) → Contains (pairs_of_last l) p ↔ Contains c.args.pairs.items p) (sym w.last-is)
          (last_pairs w.in-Some.time w.in_ok-rows_of-in-Some.field-0.rows c.args.pairs.items (subst (λ l. AreOfLast l c.args.pairs.items) w.in-Some.is c.requires.times)
          w.in_ok-rows_of-in-Some.ensures.rows)
      | in-None w ↦ subst (λ l. (p : KeptPair) → Contains (pairs_of_last l) p ↔ Contains c.args.pairs.items p) (sym w.last-is)
          (subst (λ l. (p : KeptPair) → Contains [] p ↔ Contains l p) (sym (subst (λ l. AreOfLast l c.args.pairs.items) w.in-None.is c.requires.times)) (λ p. (λ h. h, λ h. h)))
    ]
