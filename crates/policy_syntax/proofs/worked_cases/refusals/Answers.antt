-- Each is what the automaton says.
use Rattle.policy_syntax.proofs.Vocabulary.{codes, refl, with_name, with_nots, Syntax, Limit}
use Rattle.policy_syntax.specs.machine.Automaton.{judge}
use Rattle.policy_syntax.proofs.Policies.{refusal_answer}
use Rattle.policy_syntax.proofs.worked_cases.refusals.Goals as goal

pub returns-clause-no_colon : goal.returns-clause-no_colon
unfolding judge
returns-clause-no_colon c = refusal_answer (codes "rule r alarm();") (Syntax 7) refl

pub returns-clause-a_reserved_word : goal.returns-clause-a_reserved_word
unfolding judge
returns-clause-a_reserved_word c = refusal_answer (codes "rule and: a();") (Syntax 5) refl

pub returns-clause-an_event_as_a_term : goal.returns-clause-an_event_as_a_term
unfolding judge
returns-clause-an_event_as_a_term c = refusal_answer (codes "rule r: x = p(y);") (Syntax 13) refl

pub returns-clause-an_event_in_an_event : goal.returns-clause-an_event_in_an_event
unfolding judge
returns-clause-an_event_in_an_event c = refusal_answer (codes "rule r: forall x. p(q(x));") (Syntax 21) refl

pub returns-clause-no_interval : goal.returns-clause-no_interval
unfolding judge
returns-clause-no_interval c = refusal_answer (codes "rule r: a() since b();") (Syntax 18) refl

pub returns-clause-no_operator : goal.returns-clause-no_operator
unfolding judge
returns-clause-no_operator c = refusal_answer (codes "rule r: a() b();") (Syntax 12) refl

pub returns-clause-the_end : goal.returns-clause-the_end
unfolding judge
returns-clause-the_end c = refusal_answer (codes "rule r: a()") (Syntax 11) refl

pub returns-clause-a_name_twice : goal.returns-clause-a_name_twice
unfolding judge
returns-clause-a_name_twice c = refusal_answer (codes "rule r: a(); rule r: b();") (Syntax 18) refl

pub returns-clause-backwards : goal.returns-clause-backwards
unfolding judge
returns-clause-backwards c = refusal_answer (codes "rule r: once[5,3] a();") (Syntax 15) refl

pub returns-clause-no_i64 : goal.returns-clause-no_i64
unfolding judge
returns-clause-no_i64 c = refusal_answer (codes "rule r: x = 9223372036854775808;") (Syntax 12) refl

pub returns-clause-a_great_end : goal.returns-clause-a_great_end
unfolding judge
returns-clause-a_great_end c = refusal_answer (codes "rule r: once[0,1000000001] a();") (Limit 15) refl

pub returns-clause-variable_17 : goal.returns-clause-variable_17
unfolding judge
returns-clause-variable_17 c = refusal_answer (codes "rule r: forall a,b,c,d,e,f,g,h,i,j,k,l,m,n,o,p,q. a();") (Limit 47) refl

pub returns-clause-level_41 : goal.returns-clause-level_41
unfolding judge
returns-clause-level_41 c = refusal_answer (with_nots 41 (codes "alarm();")) (Limit 172) refl

pub returns-clause-syntax_before_a_limit : goal.returns-clause-syntax_before_a_limit
unfolding judge
returns-clause-syntax_before_a_limit c = refusal_answer (with_nots 41 (codes ");")) (Syntax 172) refl

pub returns-clause-byte_65 : goal.returns-clause-byte_65
unfolding judge
returns-clause-byte_65 c = refusal_answer (with_name 65) (Limit 5) refl
