use Rattle.log_stream.proofs.Vocabulary.{◌≡◌, ◌∙◌, ap, sym, ℕ, List, Option, Some, option_map, number_only}
use Rattle.enf_data.specs.meaning.Membership.{HasNoRepeats}
use Rattle.log_stream.specs.meaning.LogGrammar.{entry_of_name}
use Rattle.std.proofs.lemmas.Slice.Eq.{bytes_eq-Decides}
use Rattle.std.specs.List.{slice_get}
use Rattle.std.specs.Option.{option_and_then, option_copied}
use Rattle.std.specs.Prelude.{Bool, true}
use Rattle.std.specs.Str.{bytes_eq}
use Rattle.signature.specs.declared.entries.NameEntry.{NameEntry}
use Rattle.signature.specs.meaning.Grammar.{entry_names, name_number}
use Rattle.log_stream.proofs.records.declared_as.Goals as goal

-- the entry at a number that has the name is that of the name
named : (entries : List NameEntry) (name : List ℕ) (number : ℕ) (entry : NameEntry) (same : Bool) → HasNoRepeats (entry_names entries) → Some entry ≡ slice_get entries number
    → same ≡ bytes_eq entry.text name → same ≡ true → name_number entries name ≡ Some number
named entries name number entry same distinct at is passed = number_only entries name number distinct
    (ap (option_map (λ (e : NameEntry). e.text)) (sym at) ∙ ap Some ((bytes_eq-Decides entry.text name).0 (sym is ∙ passed)))

pub returns-then-is_named-clause-entry : goal.returns-then-is_named-clause-entry
returns-then-is_named-clause-entry c =
    let at = sym (ap option_copied c.in-Some.is) ∙ c.entry.ensures in
    ap (option_and_then (slice_get c.args.signature.now))
    (named c.args.signature.now c.args.name.now c.args.event.now.name.0 c.in-Some.entry.now c.is_named.result c.len-count.ensures.signature.distinct at c.is_named.ensures c.if-is_named.true) ∙ sym at

pub returns-then-is_named-clause-number : goal.returns-then-is_named-clause-number
returns-then-is_named-clause-number c =
    let at = sym (ap option_copied c.in-Some.is) ∙ c.entry.ensures in
    named c.args.signature.now c.args.name.now c.args.event.now.name.0 c.in-Some.entry.now c.is_named.result c.len-count.ensures.signature.distinct at c.is_named.ensures c.if-is_named.true
