-- What can be continued well.
use Rattle.std.proofs.Common.{◌≡◌, ◌≤◌, [], ◌++◌, sym, subst, ◌∙◌, append_assoc, arith}
use Rattle.std.proofs.lemmas.List.{append-nil}
use Rattle.std.proofs.lemmas.List.Elements.{All-nil, All-weaker, All-append, All-from_get_or}
use Rattle.enf_data.specs.meaning.Data.{IsTrace}
use Rattle.enf_data.specs.declared.steps.Step.{Step}
use Rattle.trace_meaning.specs.machine.Laws.{SatisfyingIsGood, GoodFromEarlier, GoodFromLonger, FrontIsGood, GoodIsTrace}
use Rattle.trace_meaning.proofs.Growth.{not_earlier, trace_front}

pub satisfying_is_good : SatisfyingIsGood
satisfying_is_good policy trace clock t h =
    (trace, record { more = []; begins = sym (append-nil trace); later = All-nil (λ (step : Step). clock ≤ step.time); is_trace = t }, h)

pub good_from_earlier : GoodFromEarlier
good_from_earlier policy trace clock earlier le good =
    let c = good.1 in (
      good.0,
      record {
        more = c.more;
        begins = c.begins;
        later = All-weaker (λ (step : Step). clock ≤ step.time) (λ step. earlier ≤ step.time) (λ step h. omega arith) c.more c.later;
        is_trace = c.is_trace;
      },
      good.2,
    )

pub good_from_longer : GoodFromLonger
good_from_longer policy trace more clock later good =
    let c = good.1 in (
      good.0,
      record {
        more = more ++ c.more;
        begins = c.begins ∙ append_assoc trace more c.more;
        later = All-append (λ (step : Step). clock ≤ step.time) more c.more
            (All-from_get_or (λ (step : Step). clock ≤ step.time) more (record { time = 0; events = [] }) later) c.later;
        is_trace = c.is_trace;
      },
      good.2,
    )

pub front_is_good : FrontIsGood
front_is_good policy trace more clock good =
    let c = good.1 in
    let begins : good.0 ≡ trace ++ (more ++ c.more) = c.begins ∙ append_assoc trace more c.more in
    (good.0, record { more = more ++ c.more; begins = begins; later = not_earlier trace (more ++ c.more) (subst IsTrace begins c.is_trace); is_trace = c.is_trace }, good.2)

pub good_is_trace : GoodIsTrace
good_is_trace policy trace clock good =
    let c = good.1 in
    trace_front trace c.more (subst IsTrace c.begins c.is_trace)
