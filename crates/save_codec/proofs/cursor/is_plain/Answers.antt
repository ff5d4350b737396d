use Rattle.save_codec.proofs.Vocabulary.{arith, nat_tests}
use Rattle.save_codec.proofs.PlainTexts.{all_plain}
use Rattle.save_codec.proofs.cursor.is_plain.Goals as goal

pub returns : goal.returns
returns c = λ same. all_plain c.args.text.now (grind (arith, nat_tests, same, c.front_length.ensures.length))
