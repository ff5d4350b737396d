use Rattle.enf_value.proofs.Vocabulary.{refl}
use Rattle.std.specs.Char.{encode_utf8}
use Rattle.std.specs.Str.{chars, is_utf8}
use Rattle.enf_value.proofs.laws.worked_cases.Goals as goal

pub returns-clause-text : goal.returns-clause-text
unfolding chars is_utf8 encode_utf8
returns-clause-text c = refl
