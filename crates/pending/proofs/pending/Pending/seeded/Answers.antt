use Rattle.pending.proofs.Vocabulary.{◌∙◌, ap, subst, sym, AllByRecursion, count_by, held_deadlines, count_due, items_of, all_listed, IsWaitOf}
use Rattle.std.specs.Prelude.{◌==◌}
use Rattle.pending.proofs.EntryLemmas.{listed_items}
use Rattle.pending.proofs.pending.Pending.seeded.Goals as goal

pub returns-clause-kept : goal.returns-clause-kept
returns-clause-kept c = λ plans. record {
  due = λ d. ap (λ q. count_by (λ entry. entry == d) (held_deadlines q)) c.new-deadlines.ensures
      ∙ sym (ap (λ l. count_due plans (items_of l) d) c.new-sleepers.ensures.entries);
  instances = listed_items c.new-sleepers.result.entries;
  waits = subst (λ l. AllByRecursion (λ x. IsWaitOf plans x.wait x.instance) (all_listed l)) (sym c.new-sleepers.ensures.entries) tt;
}
