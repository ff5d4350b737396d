use Rattle.std.proofs.Common.{◌≡◌, ◌-◌, ◌≤◌, ◌++◌, List, length}
use Rattle.std.specs.List.{flat_map}
use Rattle.enf_value.specs.meaning.Tokens.{token_kinds, tokens, tokens_at}
use Rattle.log_split.specs.meaning.KeyTexts.{KeyText, PutsKeys, key_tokens, no_keys}
use Rattle.log_split.proofs.key_texts.read_keys.Given as goal

abbrev pub invariant-loop-columns : goal.invariant-loop-columns
invariant-loop-columns l = record {
  within : l.place ≤ length l.bytes;
  names : length l.columns.items ≡ length l.signature;
  keys : List KeyText;
  front : token_kinds (tokens l.bytes) ≡ flat_map key_tokens keys ++ token_kinds (tokens_at l.bytes l.place);
  put : PutsKeys l.signature (no_keys l.signature) keys l.columns.items;
}

abbrev pub decreases-loop-columns : goal.decreases-loop-columns
decreases-loop-columns l = length l.bytes - l.place
