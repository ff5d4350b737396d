use Rattle.action_report.proofs.OneAction.{one_action}
use Rattle.action_report.proofs.laws.one_action_of_line.Goals as goal

pub returns : goal.returns
returns c = one_action c.printed_is_token.ensures c.one_token_at_place.ensures
