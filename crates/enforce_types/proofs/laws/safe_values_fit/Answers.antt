use Rattle.enforce_types.proofs.Vocabulary.{Contains}
use Rattle.enforce_types.proofs.SortLemmas.{finds, values_fit}
use Rattle.enforce_types.proofs.laws.safe_values_fit.Goals as goal

pub returns : goal.returns
returns c = record {
  found = λ f bound found safe more x free. finds f (Contains bound) (Contains found) safe more x free;
  values = λ entries sorts trace i f bound found v fit safe fresh more sorted given sat x free. values_fit entries sorts trace i f bound found v fit safe fresh more sorted given sat x free;
}
