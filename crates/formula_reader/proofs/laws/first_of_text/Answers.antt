use Rattle.formula_reader.proofs.LeastInRules.{each_rises, least_of_text, none_in_rules, text_least, text_rises}
use Rattle.formula_reader.proofs.laws.first_of_text.Goals as goal

pub returns-clause-least : goal.returns-clause-least
returns-clause-least c = λ entries bytes rules refusal text.
    (λ e. text_least entries bytes rules refusal text e, λ h. least_of_text entries bytes rules refusal text h)

pub returns-clause-none : goal.returns-clause-none
returns-clause-none c = λ entries rules refusal e h. none_in_rules entries rules refusal e h

pub returns-clause-rises : goal.returns-clause-rises
returns-clause-rises c = λ entries bytes rules text. each_rises entries rules 0 (text_rises entries bytes rules text)
