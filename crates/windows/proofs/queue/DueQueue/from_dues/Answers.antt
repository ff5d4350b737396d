use Rattle.windows.proofs.Vocabulary.{◌∙◌, rules, ap, arith, length, subst, sym, Contains, Contains-permutation, IsNonDecreasingBy-from_sort_by_key, IsPermutation-sym, IsDueQueue, Due}
use Rattle.windows.proofs.QueueLemmas.{sorted_dues}
use Rattle.windows.proofs.queue.DueQueue.from_dues.Goals as goal

pub invariant_of-result : goal.invariant_of-result
invariant_of-result c =
    subst (λ l. IsDueQueue (record { dues = l; far = 0 })) (sym c.from.ensures.0) (record {
      ordered = sorted_dues c.sort_unstable_by_key.new.self.items (IsNonDecreasingBy-from_sort_by_key (λ (d : Due). d.time) c.sort_unstable_by_key.new.self.items
          c.sort_unstable_by_key.ensures.sorted (λ a r f' called. search rules));
      within = omega arith;
    })

pub returns-clause-dues : goal.returns-clause-dues
returns-clause-dues c = subst (λ l. (d : Due) → (Contains l d → Contains c.args.dues.items d) × (Contains c.args.dues.items d → Contains l d)) (sym c.from.ensures.0) (λ d. (
  Contains-permutation c.sort_unstable_by_key.new.self.items c.args.dues.items d (IsPermutation-sym c.args.dues.items c.sort_unstable_by_key.new.self.items
      c.sort_unstable_by_key.ensures.permutation),
  Contains-permutation c.args.dues.items c.sort_unstable_by_key.new.self.items d c.sort_unstable_by_key.ensures.permutation,
))
