use Rattle.sleepers.proofs.Vocabulary.{◌≡◌, [], ◌∷◌, List, None, Some, refl, arith, none_in_nil, any_pattern, Pattern}
use Rattle.sleepers.proofs.worked_cases.without_events.Goals as goal

pub returns-clause-before : goal.returns-clause-before
returns-clause-before c = record {
  patterns = any_pattern ∷ [];
  waits = refl;
  none = ((λ event there matches. none_in_nil event there), tt);
  in_time = omega arith;
}

pub returns-clause-at_its_end : goal.returns-clause-at_its_end
returns-clause-at_its_end c = λ asleep. let in_time = asleep.in_time in omega (arith, in_time)

none_is_some : (patterns : List Pattern) → None ≡ Some patterns → ⊥
none_is_some patterns e = cc

pub returns-clause-no_patterns : goal.returns-clause-no_patterns
returns-clause-no_patterns c = λ asleep. none_is_some asleep.patterns asleep.waits
