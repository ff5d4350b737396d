-- One key more.
use Rattle.std.proofs.Common.{ap, ◌++◌, ◌∷◌, [], ◌∙◌, arith, Some, length, sym, subst, List, Option, ℕ}
use Rattle.std.proofs.lemmas.List.{length-set}
use Rattle.std.specs.List.{slice_set}
use Rattle.enf_value.specs.meaning.Tokens.{token_kinds, tokens, tokens_at}
use Rattle.log_split.proofs.KeyLemmas.{PutsKeys-push, keys_front}
use Rattle.log_split.specs.meaning.KeyTexts.{IsNextKey, PutsKeys, no_keys}
use Rattle.log_split.proofs.key_texts.read_keys.Goals as goal

pub loop-columns-preserved : goal.loop-columns-preserved
loop-columns-preserved c =
    let inv = c.loop-columns.invariant in
    let read = rw c.in-Some.is at c.in_ok-key.ensures.some in
    let columns = c.loop-columns.columns.items in
    let number = c.in-Some.key.name.0 in
    record {
      within = read.within;
      names = length-set columns number (Some c.in-Some.key.column) ∙ inv.names;
      keys = inv.keys ++ read.written ∷ [];
      front = keys_front inv.keys read.written (token_kinds (tokens c.args.bytes.now))
          (token_kinds (tokens_at c.args.bytes.now c.loop-columns.place)) (token_kinds (tokens_at c.args.bytes.now c.in-Some.key.end))
          inv.front read.front;
      put = subst (λ (position : ℕ). PutsKeys c.args.signature.now (no_keys c.args.signature.now) (inv.keys ++ read.written ∷ [])
          (slice_set columns number (Some position))) read.position
          (PutsKeys-push c.args.signature.now (no_keys c.args.signature.now) inv.keys columns read.written number inv.put
          (subst (λ (cs : List (Option ℕ)). IsNextKey c.args.signature.now cs read.written number) c.deref.ensures.value read.fits));
    }
