use Rattle.std.proofs.Common.{[], refl, arith}
use Rattle.enf_cases.proofs.past.begun.Goals as goal

pub returns-clause-stands : goal.returns-clause-stands
returns-clause-stands c = record {
  up_to = λ time from. c.in_ok-new.ensures.up_to time;
  trace = [];
  is_trace = record { distinct = λ i below. absurd (omega arith); ordered = λ i j before below. absurd (omega arith) };
  last_is = refl;
  stands = c.in_ok-new.ensures.stands;
}
