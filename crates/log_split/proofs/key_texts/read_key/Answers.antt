-- The tokens of a key, one after the other.
use Rattle.std.proofs.Common.{ap, refl, arith, ◌∙◌}
use Rattle.enf_value.specs.meaning.Tokens.{token_kinds, tokens_at}
use Rattle.enf_value.specs.machine.TokenViews.{token_of}
use Rattle.log_split.proofs.KeyLemmas.{key_front}
use Rattle.log_split.proofs.key_texts.read_key.Goals as goal

pub returns-clause-some : goal.returns-clause-some
returns-clause-some c =
    let name = c.in_ok-name.ensures in
    let column = c.in_ok-column.ensures in
    let first = rw c.in-Some.is at c.in_ok-first.ensures.some in
    let within = rw c.in-Some.is at c.in_ok-first.ensures.within in
    record {
      written = record { name = name.name; position = c.in_ok-column.column };
      position = refl;
      fits = record {
        named = name.named;
        free = name.free;
        entry = column.entry;
        declared = column.declared;
        within = column.within;
      };
      onward = omega (arith, within.0, c.in_ok-open.ensures.onward, column.token.onward, c.in_ok-close.ensures.onward, c.in_ok-end.ensures.onward);
      within = c.in_ok-end.ensures.within;
      front = key_front (λ at. token_kinds (tokens_at c.args.bytes.now at)) c.args.at c.in-Some.first.end c.in_ok-open.open
          c.in_ok-column.behind c.in_ok-close.close c.in_ok-end.end (token_of c.in-Some.first.token)
          (record { name = name.name; position = c.in_ok-column.column }) (ap token_kinds first) name.word
          c.in_ok-open.ensures.front column.token.front c.in_ok-close.ensures.front c.in_ok-end.ensures.front;
    }
