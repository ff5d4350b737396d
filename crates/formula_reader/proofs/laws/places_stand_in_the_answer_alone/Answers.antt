use Rattle.formula_reader.proofs.PlaceBlindness.{rule-blind, rule_refusal-blind}
use Rattle.formula_reader.proofs.laws.places_stand_in_the_answer_alone.Goals as goal

pub returns-clause-refused : goal.returns-clause-refused
returns-clause-refused c = λ entries rule. rule_refusal-blind entries rule

pub returns-clause-resolved : goal.returns-clause-resolved
returns-clause-resolved c = λ entries rule. rule-blind entries rule
