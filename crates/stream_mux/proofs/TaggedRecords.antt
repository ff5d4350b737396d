-- Records and ends behind their tags.
use Rattle.log_stream.specs.declared.items.LogItem.{LogItem}
use Rattle.log_stream.specs.declared.items.LogMode.TheVariants.{Input}
use Rattle.log_stream.specs.declared.items.LogRefusal.{LogRefusal}
use Rattle.log_stream.specs.declared.items.LogRefusal.TheVariants.{Arity, BadRecord, NoMemory, SortClash, TimeTooLarge, TooLong, Truncated, UnknownName}
use Rattle.log_stream.specs.meaning.LogGrammar.{CanBeginRecord, IsBadRecord, IsLogTokenAt, IsRecordSpelled, Line}
use Rattle.log_stream.specs.meaning.LogGrammar.{LogArgument, LogMark, LogName, LogTime, LogToken, LogTokensLead, TickLine}
use Rattle.log_stream.specs.meaning.LogGrammar.{WrittenRecord, judged_record, mark_of, record_tokens}
use Rattle.enf_data.proofs.ListFacts.{nil_not_cons}
use Rattle.signature.specs.declared.entries.NameEntry.{NameEntry}
use Rattle.std.proofs.Common.{ap, append_assoc, arith, refl, subst, sym, ◌∙◌}
use Rattle.std.proofs.lemmas.List.{length-drop, map-append}
use Rattle.std.specs.Prelude.{ℕ, List, [], ◌∷◌, ◌++◌, ◌≡◌, ◌+◌, ◌-◌, Result, Ok, Err, codes, drop, get_or, length, map}
use Rattle.stream_mux.proofs.PlacedTokens.{backward, form_placed, judged_placed, leads_onward, onward, placed_record, placed_token}
use Rattle.stream_mux.proofs.PlacedTokens.{token_backward, tokens_placed}
use Rattle.stream_mux.specs.declared.records.Tagged.{Tagged}
use Rattle.stream_mux.specs.machine.TagLaws.{EndsStandBehindTags, HasEndAt, IsTagOf, RecordsStandBehindTags, answer_at}
use Rattle.stream_mux.specs.meaning.TaggedGrammar.{CanBeginTagged, EndOf, IsBadTagged, IsTaggedSentence}
use Rattle.stream_mux.specs.meaning.TaggedGrammar.{IsTaggedSpelled, RecordOf, WrittenTagged, behind_tag_tokens, judged_tagged}
use Rattle.stream_mux.specs.meaning.TaggedGrammar.{of_stream}

-- what stands behind a tag stands behind it from the first byte on
pub tag_then : (bytes : List ℕ) (stream at : ℕ) (tokens : List LogToken) (to : ℕ) → IsTagOf bytes stream at
    → LogTokensLead bytes at tokens to → LogTokensLead bytes 0 (behind_tag_tokens stream tokens) to
tag_then bytes stream at tokens to tag rest =
    let h = tag.leads in
    (h.0, h.1, h.2, h.3, (h.4.0, h.4.1, h.4.2, h.4.3, subst (λ p. LogTokensLead bytes p tokens to) h.4.4 rest))

pub ends_stand_behind_tags : EndsStandBehindTags
ends_stand_behind_tags entries bytes stream at tag leads =
    (EndOf stream at, (tag.fits, tag_then bytes stream at (LogName at (codes "end") ∷ LogMark 59 ∷ []) (length bytes) tag leads), refl)

moved : (bytes : List ℕ) (at : ℕ) (tokens : List LogToken) (to : ℕ) → LogTokensLead (drop at bytes) 0 tokens to
    → LogTokensLead bytes at (map (placed_token (onward at)) tokens) (at + to)
moved bytes at tokens to leads =
    let here : at + 0 ≡ at = omega arith in
    subst (λ p. LogTokensLead bytes p (map (placed_token (onward at)) tokens) (at + to)) here (leads_onward bytes at 0 tokens to leads)

-- ---- A record that is spelled.

spelled_behind : (bytes : List ℕ) (stream at : ℕ) (written : WrittenRecord) → IsTagOf bytes stream at
    → IsRecordSpelled Input (drop at bytes) written → IsTaggedSpelled bytes (RecordOf stream (placed_record (onward at) written))
spelled_behind bytes stream at written tag spelled =
    let tokens = map (placed_token (onward at)) (record_tokens written) in
    let whole : at + length (drop at bytes) ≡ length bytes = omega (arith, length-drop at bytes, tag.within) in (
      (tag.fits, form_placed (onward at) Input written spelled.0),
      tag_then bytes stream at (record_tokens (placed_record (onward at) written)) (length bytes) tag
          (subst (λ ts. LogTokensLead bytes at ts (length bytes)) (sym (tokens_placed (onward at) written))
          (subst (λ n. LogTokensLead bytes at tokens n) whole
          (moved bytes at (record_tokens written) (length (drop at bytes)) spelled.1))),
    )

-- what is answered to it
abbrev pub AnswersTagged : List NameEntry → List ℕ → Result Tagged LogRefusal → Type 0
AnswersTagged entries bytes answer =
    (written : WrittenTagged) × IsTaggedSpelled bytes written × (judged_tagged entries written ≡ answer)

answered_behind : (entries : List NameEntry) (bytes : List ℕ) (stream at : ℕ) (answer : Result LogItem LogRefusal) → IsTagOf bytes stream at
    → (written : WrittenRecord) × IsRecordSpelled Input (drop at bytes) written × (judged_record entries written ≡ answer)
    → AnswersTagged entries bytes (of_stream stream (answer_at (onward at) answer))
answered_behind entries bytes stream at answer tag (written, spelled, judged) = (
  RecordOf stream (placed_record (onward at) written),
  spelled_behind bytes stream at written tag spelled,
  ap (of_stream stream) (judged_placed (onward at) entries written ∙ ap (answer_at (onward at)) judged),
)

-- ---- A record that is bad.

token_back : (n : ℕ) (token : LogToken) → placed_token (backward n) (placed_token (onward n) token) ≡ token
token_back n (LogMark byte) = refl
token_back n (LogTime time) = refl
token_back n (LogName place name) = ap (λ (p : ℕ). LogName p name) {x = n + place - n} {y = place} (omega arith)
token_back n (LogArgument place value) = ap (λ (p : ℕ). LogArgument p value) {x = n + place - n} {y = place} (omega arith)

tokens_back : (n : ℕ) (tokens : List LogToken) → map (placed_token (backward n)) (map (placed_token (onward n)) tokens) ≡ tokens
tokens_back n [] = refl
tokens_back n (token ∷ tokens) = λ i. token_back n token i ∷ tokens_back n tokens i

-- a record begins with a mark
pub first_is_mark : (written : WrittenRecord) (token : LogToken) (tokens : List LogToken) → record_tokens written ≡ token ∷ tokens
    → (byte : ℕ) × (LogMark byte ≡ token)
first_is_mark (Line kind time events) token tokens e = (mark_of kind, ap (λ l. get_or l 0 token) e)
first_is_mark (TickLine time) token tokens e = (62, ap (λ l. get_or l 0 token) e)

-- so its front is not that of an end
no_end_in_front : (at : ℕ) (place : ℕ) (front rest : List LogToken) (token : LogToken) → CanBeginRecord Input (token ∷ front)
    → LogName place (codes "end") ∷ LogMark 59 ∷ [] ≡ placed_token (onward at) token ∷ rest → ⊥
no_end_in_front at place front rest token (written, more, form, e) same =
    let mark = first_is_mark written token (front ++ more) e in
    apart mark.0 (ap (λ l. get_or l 0 (LogMark 0)) same ∙ ap (placed_token (onward at)) (sym mark.1))
  where
    apart : (byte : ℕ) → LogName place (codes "end") ≡ LogMark byte → ⊥
    apart byte e = cc

back_record : (at : ℕ) (front : List LogToken) (written : WrittenRecord) (rest : List LogToken)
    → record_tokens written ≡ map (placed_token (onward at)) front ++ rest
    → record_tokens (placed_record (backward at) written) ≡ front ++ map (placed_token (backward at)) rest
back_record at front written rest e =
    tokens_placed (backward at) written ∙ ap (map (placed_token (backward at))) e
    ∙ map-append (placed_token (backward at)) (map (placed_token (onward at)) front) rest
    ∙ ap (λ l. l ++ map (placed_token (backward at)) rest) (tokens_back at front)

begins_behind : (stream at : ℕ) (front : List LogToken) (bytes : List ℕ) → IsTagOf bytes stream at → CanBeginRecord Input front
    → CanBeginTagged (behind_tag_tokens stream (map (placed_token (onward at)) front))
begins_behind stream at front bytes tag (written, rest, form, e) = (
  RecordOf stream (placed_record (onward at) written),
  map (placed_token (onward at)) rest,
  (tag.fits, form_placed (onward at) Input written form),
  ap (behind_tag_tokens stream) (tokens_placed (onward at) written ∙ ap (map (placed_token (onward at))) e
      ∙ map-append (placed_token (onward at)) front rest),
)

unfinished_behind : (bytes : List ℕ) (stream at place : ℕ) (bad : IsBadRecord Input (drop at bytes) place) → place ≡ length (drop at bytes)
    → IsTaggedSentence (behind_tag_tokens stream (map (placed_token (onward at)) bad.front)) → ⊥
unfinished_behind bytes stream at place bad ended (RecordOf k w, form, e) =
    bad.unfinished ended (
      placed_record (backward at) w,
      form_placed (backward at) Input w form.1,
      tokens_placed (backward at) w ∙ ap (λ l. map (placed_token (backward at)) (drop 2 l)) e ∙ tokens_back at bad.front,
    )
unfinished_behind bytes stream at place bad ended (EndOf k p, form, e) = by bad.front bad.begins (ap (drop 2) e)
  where
    by : (front : List LogToken) → CanBeginRecord Input front
        → LogName p (codes "end") ∷ LogMark 59 ∷ [] ≡ map (placed_token (onward at)) front → ⊥
    by [] begins e = nil_not_cons (LogName p (codes "end")) (LogMark 59 ∷ []) (sym e)
    by (token ∷ front) begins e = no_end_in_front at p front (map (placed_token (onward at)) front) token begins e

stuck_behind : (bytes : List ℕ) (stream at place : ℕ) (bad : IsBadRecord Input (drop at bytes) place) → (HasEndAt bytes at → ⊥)
    → (token : LogToken) (end : ℕ) → IsLogTokenAt bytes (at + place) end token
    → CanBeginTagged (behind_tag_tokens stream (map (placed_token (onward at)) bad.front) ++ token ∷ []) → ⊥
stuck_behind bytes stream at place bad none token end there (RecordOf k w, rest, form, e) =
    let fronts = map (placed_token (onward at)) bad.front in
    let inner : record_tokens w ≡ fronts ++ (token ∷ rest) = ap (drop 2) e ∙ append_assoc fronts (token ∷ []) rest in
    bad.stuck (placed_token (backward at) token) (end - at) (token_backward bytes at place end token there) (
      placed_record (backward at) w,
      map (placed_token (backward at)) rest,
      form_placed (backward at) Input w form.1,
      back_record at bad.front w (token ∷ rest) inner
          ∙ sym (append_assoc bad.front (placed_token (backward at) token ∷ []) (map (placed_token (backward at)) rest)),
    )
stuck_behind bytes stream at place bad none token end there (EndOf k p, rest, form, e) =
    by bad.front bad.begins bad.leads (ap (drop 2) e)
  where
    first : place ≡ 0 → LogName p (codes "end") ≡ token → ⊥
    first zero same =
        let here : at + place ≡ at = omega (arith, zero) in
        let stands = subst (λ q. IsLogTokenAt bytes q end (LogName p (codes "end"))) here
        (subst (λ t. IsLogTokenAt bytes (at + place) end t) (sym same) there) in
        none (end, subst (λ q. IsLogTokenAt bytes at end (LogName q (codes "end"))) stands.0 stands)

    by : (front : List LogToken) → CanBeginRecord Input front → LogTokensLead (drop at bytes) 0 front place
        → LogName p (codes "end") ∷ LogMark 59 ∷ [] ≡ (map (placed_token (onward at)) front ++ token ∷ []) ++ rest → ⊥
    by [] begins leads e = first leads (ap (λ l. get_or l 0 token) e)
    by (t ∷ front) begins leads e =
        no_end_in_front at p front ((map (placed_token (onward at)) front ++ token ∷ []) ++ rest) t begins e

bad_behind_tag : (bytes : List ℕ) (stream at place : ℕ) → IsTagOf bytes stream at → (HasEndAt bytes at → ⊥)
    → IsBadRecord Input (drop at bytes) place → IsBadTagged bytes (at + place)
bad_behind_tag bytes stream at place tag none bad = record {
  front = behind_tag_tokens stream (map (placed_token (onward at)) bad.front);
  leads = tag_then bytes stream at (map (placed_token (onward at)) bad.front) (at + place) tag
      (moved bytes at bad.front place bad.leads);
  begins = begins_behind stream at bad.front bytes tag bad.begins;
  unfinished = λ ended. unfinished_behind bytes stream at place bad (omega (arith, ended, length-drop at bytes, tag.within));
  stuck = stuck_behind bytes stream at place bad none;
}

pub records_stand_behind_tags : RecordsStandBehindTags
records_stand_behind_tags entries bytes stream at (Ok item) tag none h = answered_behind entries bytes stream at (Ok item) tag h
records_stand_behind_tags entries bytes stream at (Err (BadRecord place)) tag none h = bad_behind_tag bytes stream at place tag none h
records_stand_behind_tags entries bytes stream at (Err (UnknownName place)) tag none h =
    answered_behind entries bytes stream at (Err (UnknownName place)) tag h
records_stand_behind_tags entries bytes stream at (Err (Arity place)) tag none h =
    answered_behind entries bytes stream at (Err (Arity place)) tag h
records_stand_behind_tags entries bytes stream at (Err (SortClash place)) tag none h =
    answered_behind entries bytes stream at (Err (SortClash place)) tag h
records_stand_behind_tags entries bytes stream at (Err TooLong) tag none h = answered_behind entries bytes stream at (Err TooLong) tag h
records_stand_behind_tags entries bytes stream at (Err TimeTooLarge) tag none h =
    answered_behind entries bytes stream at (Err TimeTooLarge) tag h
records_stand_behind_tags entries bytes stream at (Err Truncated) tag none h = answered_behind entries bytes stream at (Err Truncated) tag h
records_stand_behind_tags entries bytes stream at (Err NoMemory) tag none h = answered_behind entries bytes stream at (Err NoMemory) tag h
