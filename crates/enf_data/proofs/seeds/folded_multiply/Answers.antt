use Rattle.enf_data.proofs.Vocabulary.{refl}
use Rattle.std.specs.Hash.FoldHasher.{folded_multiply}
use Rattle.enf_data.proofs.seeds.folded_multiply.Goals as goal

pub returns : goal.returns
unfolding folded_multiply
returns c = refl
