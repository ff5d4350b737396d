-- The laws of the grammar.
use Rattle.std.specs.Prelude.{◌≡◌, List, ℕ, length}
use Rattle.enf_value.specs.machine.Laws.{HasOneReaderAnswer}
use Rattle.signature.specs.declared.entries.NameEntry.{NameEntry}
use Rattle.signature.specs.declared.refusals.SignatureRefusal.TheVariants.{Syntax}
use Rattle.signature.specs.meaning.Grammar.{AreNamed, entries_tokens, signature_tokens, SpellEntries}
use Rattle.signature.specs.meaning.Refusals.{ArePlacedSentence, SignatureRefusalStandsBehind}

-- tokens are those of at most one list of entries
abbrev pub OneEntryList : Type 0
OneEntryList =
    (entries others : List NameEntry) → AreNamed entries → AreNamed others
    → entries_tokens entries ≡ entries_tokens others → entries ≡ others

-- each text has exactly one answer
abbrev pub OneSignatureAnswer : Type 0
OneSignatureAnswer =
    (bytes : List ℕ)
    → HasOneReaderAnswer SpellEntries SignatureRefusalStandsBehind ArePlacedSentence (Syntax (length bytes))
    (signature_tokens bytes)
