-- The sample signature is one within the limits.
use Rattle.std.proofs.Common.{◌≡◌, ℕ, Bool, true, false, not, ◌&&◌, List, [], ◌∷◌, refl, sym, ◌∙◌, lit≤, arith}
use Rattle.std.specs.Prelude.{nat_eq, nat_le, length}
use Rattle.std.specs.List.{list_any}
use Rattle.std.specs.Cmp.Lexicographic.{pointwise}
use Rattle.std.proofs.lemmas.Bool.{true≢false, and_parts as both}
use Rattle.std.proofs.lemmas.List.Elements.{All-weaker}
use Rattle.std.proofs.lemmas.List.Sums.{AllPass-from_list_all}
use Rattle.std.proofs.lemmas.Bool.Decides.{nat_tests}
use Rattle.std.proofs.lemmas.Slice.Eq.{bytes_eq-Decides}
use Rattle.enf_data.proofs.Lists.{list_any-Decides}
use Rattle.enf_data.specs.meaning.Membership.{HasNoRepeats}
use Rattle.signature.specs.declared.entries.NameEntry.{NameEntry}
use Rattle.enf_value.specs.meaning.Tokens.{is_name}
use Rattle.signature.specs.meaning.Grammar.{IsNameEntry, IsSignature, entry_names}
use Rattle.log_gen.specs.meaning.Samples.{sample_entries}

-- whether no text stands twice
unfoldable pub are_distinct : List (List ℕ) → Bool
are_distinct [] = true
are_distinct (text ∷ texts) = not (list_any (pointwise nat_eq text) texts) && are_distinct texts

not_true : (b : Bool) → not b ≡ true → b ≡ false
not_true true e = absurd (cc)
not_true false e = refl

pub distinct-HasNoRepeats : (texts : List (List ℕ)) → are_distinct texts ≡ true → HasNoRepeats texts
unfolding are_distinct
distinct-HasNoRepeats [] e = tt
distinct-HasNoRepeats (text ∷ texts) e =
    let parts = both (not (list_any (pointwise nat_eq text) texts)) (are_distinct texts) e in
    (λ found. true≢false (sym ((list_any-Decides (pointwise nat_eq) (λ x y. bytes_eq-Decides x y) texts text).1 found) ∙ not_true _ parts.0), distinct-HasNoRepeats texts parts.1)

-- whether an entry is within the limits
is_entry : NameEntry → Bool
is_entry entry = is_name entry.text && (nat_le (length entry.text) 64 && nat_le (length entry.sorts) 8)

is_entry-IsEntry : (entry : NameEntry) → is_entry entry ≡ true → IsNameEntry entry
unfolding is_entry
is_entry-IsEntry entry e =
    let parts = both (is_name entry.text) (nat_le (length entry.text) 64 && nat_le (length entry.sorts) 8) e in
    let limits = both (nat_le (length entry.text) 64) (nat_le (length entry.sorts) 8) parts.1 in
    record { named = parts.0; short = grind (arith, nat_tests, limits.0); narrow = grind (arith, nat_tests, limits.1) }

pub IsSignature-sample : IsSignature sample_entries
unfolding are_distinct is_entry
IsSignature-sample = record {
  few = lit≤ tt;
  each = All-weaker (λ entry. is_entry entry ≡ true) IsNameEntry is_entry-IsEntry sample_entries (AllPass-from_list_all is_entry sample_entries refl);
  distinct = distinct-HasNoRepeats (entry_names sample_entries) refl;
}
