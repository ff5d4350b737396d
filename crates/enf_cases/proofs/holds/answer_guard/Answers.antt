use Rattle.std.proofs.Common.{All, sym, subst}
use Rattle.enf_data.specs.meaning.Valuations.{BindsColumns}
use Rattle.enf_cases.proofs.holds.answer_guard.Goals as goal

pub answer_log-requires-clause-asked : goal.answer_log-requires-clause-asked
answer_log-requires-clause-asked c = (
  c.in_ok-check_test.ensures,
  subst (All (λ v. BindsColumns v c.args.guard.now.bound)) (sym c.as_slice.ensures.value)
      (subst (λ bound. All (λ v. BindsColumns v bound) c.in_ok-valuations.valuations.items) c.bound.ensures.bound c.in_ok-valuations.ensures),
)
