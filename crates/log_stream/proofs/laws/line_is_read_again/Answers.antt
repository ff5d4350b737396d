use Rattle.log_stream.proofs.RoundTrips.{read_again}
use Rattle.log_stream.proofs.laws.line_is_read_again.Goals as goal

pub returns : goal.returns
returns c = read_again c.printed_is_token.ensures
