use Rattle.save_codec.proofs.OneAnswer.{front_keeps, one_answer}
use Rattle.save_codec.proofs.laws.one_answer.Goals as goal

pub returns-clause-front : goal.returns-clause-front
returns-clause-front c = front_keeps

pub returns-clause-answer : goal.returns-clause-answer
returns-clause-answer c = one_answer c.printed_is_token.ensures c.one_token_at_place.ensures c.nodes_have_scopes.ensures.rises
