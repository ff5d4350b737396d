use Rattle.pending.proofs.Vocabulary.{◌∙◌, [], ap, map, subst, sym, AllByRecursion, count_entries, plan_of, items_of, all_listed, IsWaitOf}
use Rattle.pending.proofs.EntryLemmas.{entries_items, entries_wait, listed_items}
use Rattle.pending.proofs.pending.Pending.seeded_from.Goals as goal

pub returns-clause-instances : goal.returns-clause-instances
returns-clause-instances c = ap items_of c.in_ok-put_listed.ensures.entries ∙ entries_items (map plan_of c.args.plans.now) c.args.time [] 0 0 c.args.list

pub returns-clause-kept : goal.returns-clause-kept
returns-clause-kept c =
    let plans = map plan_of c.args.plans.now in
    record {
      due = λ d. count_entries c.put_listed.new.deadlines d c.put_listed.ensures.queue ∙ c.in_ok-put_listed.ensures.held d;
      instances = listed_items c.put_listed.new.sleepers.entries;
      waits = subst (λ l. AllByRecursion (λ x. IsWaitOf plans x.wait x.instance) (all_listed l)) (sym c.in_ok-put_listed.ensures.entries)
          (entries_wait plans c.args.time [] 0 0 c.args.list);
    }
