use Rattle.formula_reader.proofs.Vocabulary.{[]}
use Rattle.formula_reader.proofs.LeastRefusal.{first_stands, first_least, least_first, none_stands}
use Rattle.formula_reader.proofs.laws.first_by_place.Goals as goal

pub returns-clause-least : goal.returns-clause-least
returns-clause-least c = λ entries points refusal rises. (
  λ e. record { stands = first_stands entries [] points refusal e; least = λ other h. first_least entries [] points refusal other rises e h },
  λ h. least_first entries [] points refusal rises h.stands h.least,
)

pub returns-clause-none : goal.returns-clause-none
returns-clause-none c = λ entries points refusal e h. none_stands entries [] points refusal e h
