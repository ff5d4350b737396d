use Rattle.policy_syntax.proofs.Written.{has_levels, read_again}
use Rattle.policy_syntax.proofs.laws.written_is_read.Goals as goal

pub returns-clause-read : goal.returns-clause-read
returns-clause-read c = λ rule placed limits writable low same. read_again rule placed limits writable low same

pub returns-clause-levels : goal.returns-clause-levels
returns-clause-levels c = λ rule placed limits writable same. has_levels rule placed limits writable same
