use Rattle.obligations.proofs.Vocabulary.{arith, refl}
use Rattle.obligations.proofs.worked_cases.bounds.Goals as goal

pub returns : goal.returns
returns c = record {
  waits = record { begun = omega arith; from = omega arith; ordered = omega arith; wide = refl; in_time = (λ has. omega arith, λ is. absurd is) };
  over = λ can. omega (arith, can.in_time.0 refl);
  no_deadline = record { begun = omega arith; from = omega arith; ordered = omega arith; wide = refl; in_time = (λ has. absurd cc, λ is. absurd is) };
  wider = λ can. omega (arith, can.wide);
  narrower = λ can. omega (arith, can.wide);
  too_early = λ can. omega (arith, can.from);
  not_begun = λ can. omega (arith, can.begun);
  newly = record { begun = omega arith; from = omega arith; ordered = omega arith; wide = refl; in_time = (λ has. omega arith, λ is. refl) };
  earlier = λ can. omega (arith, can.in_time.1 tt);
  ahead = refl;
  not_ahead = refl;
  no_node = refl;
  no_rule = refl;
}
