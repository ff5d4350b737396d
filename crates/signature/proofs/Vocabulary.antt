-- The words in which the proofs of this crate speak: those of std, of the crates below and of its own specs.
pub use Rattle.std.proofs.Common.{Bool, Contains, Err, List, None, Ok, Option, Result, Some, Vec, [], ap, append_assoc, arith, codes, cond, eq-eqb, eqb-true, false, get_or, inl, inr, length}
pub use Rattle.std.proofs.Common.{length-append, map, nat_eq, nat_lt, position, refl, rules, slice_get, subst, suc, sym, true, true≢false, zero, ℕ, ⊎_elim, ◌++◌, ◌+◌, ◌-◌, ◌<◌, ◌==◌, ◌∙◌, ◌∷◌, ◌≡◌}
pub use Rattle.std.proofs.Common.{◌≤◌, ◌⊎◌}
pub use Rattle.std.proofs.lemmas.Bool.{le-ltb, lt-ltb, ltb-false, ltb-true}
pub use Rattle.std.proofs.lemmas.Bool.Decides.{nat_tests}
pub use Rattle.std.proofs.lemmas.List.{append-nil}
pub use Rattle.std.proofs.lemmas.List.Elements.{All-contains, All-push, Contains-append_right, recursion_from_All}
pub use Rattle.std.proofs.lemmas.Option.{get_or_from_slice_get, same_Some, slice_get-map, slice_get_within}
pub use Rattle.std.proofs.lemmas.Slice.Eq.{bytes_eq-Decides}
pub use Rattle.std.specs.Cmp.Lexicographic.{pointwise}
pub use Rattle.std.specs.List.{AllByRecursion, flat_map}
pub use Rattle.std.specs.Map.{keys_of, lookup}
pub use Rattle.std.specs.Option.{option_and_then, option_map}
pub use Rattle.std.specs.Prelude.{IsTrue}
pub use Rattle.std.specs.Str.{bytes_eq}
pub use Rattle.std.specs.declared.alloc.Global.{Global}
pub use Rattle.enf_data.proofs.Lists.{HasNoRepeats-middle, HasNoRepeats-push, position-cons}
pub use Rattle.enf_data.specs.declared.events.NameId.{NameId}
pub use Rattle.enf_data.specs.declared.values.Value.{Value}
pub use Rattle.enf_data.specs.meaning.Membership.{HasNoRepeats}
pub use Rattle.enf_value.specs.declared.tokens.Mark.TheVariants.{Arrow, CloseParen, Comma, Minus, OpenParen, Plus, PlusMinus, Semicolon}
pub use Rattle.enf_value.specs.machine.TokenViews.{placed_of, token_of}
pub use Rattle.enf_value.specs.meaning.Tokens.{NegativeToken, NumberToken, SymbolToken, TextToken, Token, TokenAtPlace, WordToken, WrongToken, is_name, token_kinds, tokens_at}
pub use Rattle.indexmap.proofs.CallerLemmas.{insert_entry-new}
pub use Rattle.signature.specs.declared.entries.NameEntry.{NameEntry}
pub use Rattle.signature.specs.declared.entries.Sort.{Sort}
pub use Rattle.signature.specs.declared.entries.Sort.TheVariants.{Int, Text}
pub use Rattle.signature.specs.declared.reading.Part.{Part}
pub use Rattle.signature.specs.declared.refusals.SignatureLimit.TheVariants.{Arity, Name, Names}
pub use Rattle.signature.specs.declared.refusals.SignatureRefusal.{SignatureRefusal}
pub use Rattle.signature.specs.declared.refusals.SignatureRefusal.TheVariants.{Limit, NoMemory, Repeated, Syntax}
pub use Rattle.signature.specs.machine.Entries.{AreKeyedByName, IsNewEntry}
pub use Rattle.signature.specs.machine.Laws.{OneSignatureAnswer}
pub use Rattle.signature.specs.machine.Reader.{GivesEntries, GivesSignatureAnswer, IsFitPart, IsFreeName, RefusesArrow, SignatureState, TakesToken, after_sort, arrow_refusal_by, entry_limit_refusal}
pub use Rattle.signature.specs.machine.Reader.{entry_name_refusal, made_entry, repeated_name_refusal, state_after_token, taken_or_refused, taken_token, word_sort}
pub use Rattle.signature.specs.meaning.Columns.{has_sort, value_sort}
pub use Rattle.signature.specs.meaning.Grammar.{AreNamed, IsNameEntry, IsSignature, entries_tokens, entry_names, entry_tokens, mark_tokens, name_number, onto_tokens, signature_tokens, sort_token}
pub use Rattle.signature.specs.meaning.Grammar.{sort_tokens, without_arrows}
pub use Rattle.signature.specs.meaning.Refusals.{AnswersSignature, ArePlacedSentence, CanBeginSignature, IsNextName, IsNextSort, IsSignatureSentence, SignatureRefusalStands}
pub use Rattle.signature.specs.meaning.Refusals.{SignatureRefusalStandsBehind}
