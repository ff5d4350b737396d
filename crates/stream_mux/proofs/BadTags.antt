-- Where a tag, or the end of a stream, is bad.
use Rattle.enf_data.proofs.ListFacts.{nil_not_cons}
use Rattle.log_stream.specs.meaning.LogGrammar.{IsLogTokenAt, LogMark, LogName, LogTime, LogToken}
use Rattle.log_stream.specs.meaning.LogGrammar.{WrittenRecord, record_tokens}
use Rattle.std.proofs.Common.{ap, lit<, refl, subst, sym}
use Rattle.std.specs.Prelude.{ℕ, List, [], ◌∷◌, ◌++◌, ◌≡◌, codes, drop, get_or}
use Rattle.stream_mux.proofs.TaggedRecords.{first_is_mark}
use Rattle.stream_mux.specs.machine.TagLaws.{NoColonIsBad, NoNumberIsBad, NoSemicolonIsBad}
use Rattle.stream_mux.specs.meaning.TaggedGrammar.{CanBeginTagged, EndOf, IsTaggedSentence, RecordOf, behind_tag_tokens}
use Rattle.stream_mux.specs.meaning.TaggedGrammar.{tagged_tokens}

-- ---- No number.

pub no_number_is_bad : NoNumberIsBad
no_number_is_bad bytes none = record {
  front = [];
  leads = refl;
  begins = (EndOf 0 0, tagged_tokens (EndOf 0 0), lit< tt, refl);
  unfinished = λ ended. unfinished;
  stuck = λ token end there. stuck token end there;
}
  where
    unfinished : IsTaggedSentence [] → ⊥
    unfinished (RecordOf k w, form, e) = nil_not_cons (LogTime k) (LogMark 58 ∷ record_tokens w) (sym e)
    unfinished (EndOf k p, form, e) = nil_not_cons (LogTime k) (LogMark 58 ∷ LogName p (codes "end") ∷ LogMark 59 ∷ []) (sym e)

    stuck : (token : LogToken) (end : ℕ) → IsLogTokenAt bytes 0 end token → CanBeginTagged ([] ++ token ∷ []) → ⊥
    stuck token end there (RecordOf k w, rest, form, e) =
        none k end form.0 (subst (λ t. IsLogTokenAt bytes 0 end t) (sym (ap (λ l. get_or l 0 token) e)) there)
    stuck token end there (EndOf k p, rest, form, e) =
        none k end form (subst (λ t. IsLogTokenAt bytes 0 end t) (sym (ap (λ l. get_or l 0 token) e)) there)

-- ---- No colon.

pub no_colon_is_bad : NoColonIsBad
no_colon_is_bad bytes stream at fits leads none = record {
  front = LogTime stream ∷ [];
  leads = leads;
  begins = (EndOf stream 0, LogMark 58 ∷ LogName 0 (codes "end") ∷ LogMark 59 ∷ [], fits, refl);
  unfinished = λ ended. unfinished;
  stuck = λ token end there. stuck token end there;
}
  where
    unfinished : IsTaggedSentence (LogTime stream ∷ []) → ⊥
    unfinished (RecordOf k w, form, e) = nil_not_cons (LogMark 58) (record_tokens w) (sym (ap (drop 1) e))
    unfinished (EndOf k p, form, e) = nil_not_cons (LogMark 58) (LogName p (codes "end") ∷ LogMark 59 ∷ []) (sym (ap (drop 1) e))

    stuck : (token : LogToken) (end : ℕ) → IsLogTokenAt bytes at end token → CanBeginTagged ((LogTime stream ∷ []) ++ token ∷ []) → ⊥
    stuck token end there (RecordOf k w, rest, form, e) =
        none end (subst (λ t. IsLogTokenAt bytes at end t) (sym (ap (λ l. get_or l 1 token) e)) there)
    stuck token end there (EndOf k p, rest, form, e) =
        none end (subst (λ t. IsLogTokenAt bytes at end t) (sym (ap (λ l. get_or l 1 token) e)) there)

-- ---- No semicolon behind the word.

no_record : (w : WrittenRecord) (place : ℕ) (rest : List LogToken) → record_tokens w ≡ LogName place (codes "end") ∷ rest → ⊥
no_record w place rest e = let mark = first_is_mark w (LogName place (codes "end")) rest e in apart mark.0 mark.1
  where
    apart : (byte : ℕ) → LogMark byte ≡ LogName place (codes "end") → ⊥
    apart byte e = cc

pub no_semicolon_is_bad : NoSemicolonIsBad
no_semicolon_is_bad bytes stream place at fits leads none = record {
  front = behind_tag_tokens stream (LogName place (codes "end") ∷ []);
  leads = leads;
  begins = (EndOf stream place, LogMark 59 ∷ [], fits, refl);
  unfinished = λ ended. unfinished;
  stuck = λ token end there. stuck token end there;
}
  where
    unfinished : IsTaggedSentence (behind_tag_tokens stream (LogName place (codes "end") ∷ [])) → ⊥
    unfinished (RecordOf k w, form, e) = no_record w place [] (ap (drop 2) e)
    unfinished (EndOf k p, form, e) = nil_not_cons (LogMark 59) [] (sym (ap (drop 3) e))

    stuck : (token : LogToken) (end : ℕ) → IsLogTokenAt bytes at end token
        → CanBeginTagged (behind_tag_tokens stream (LogName place (codes "end") ∷ []) ++ token ∷ []) → ⊥
    stuck token end there (RecordOf k w, rest, form, e) = no_record w place (token ∷ rest) (ap (drop 2) e)
    stuck token end there (EndOf k p, rest, form, e) =
        none end (subst (λ t. IsLogTokenAt bytes at end t) (sym (ap (λ l. get_or l 3 token) e)) there)
