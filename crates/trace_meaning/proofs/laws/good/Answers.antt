use Rattle.trace_meaning.proofs.GoodPrefixes.{satisfying_is_good, good_from_earlier, good_from_longer, front_is_good, good_is_trace}
use Rattle.trace_meaning.proofs.laws.good.Goals as goal

pub returns : goal.returns
returns c = record { satisfying = satisfying_is_good; earlier = good_from_earlier; longer = good_from_longer; front = front_is_good; is_trace = good_is_trace }
