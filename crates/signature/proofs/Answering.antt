-- The reader's answer is the one answer to a text.
use Rattle.signature.proofs.Vocabulary.{◌≡◌, ℕ, true, false, List, [], ◌∷◌, ◌++◌, length, inl, inr, ⊎_elim, Some, Result, Ok, Err, refl, sym, ap, subst, ◌∙◌, arith, append_assoc, option_and_then}
use Rattle.signature.proofs.Vocabulary.{append-nil, same_Some, NameEntry, Part, SignatureRefusal, Syntax, AreNamed, IsSignature, entries_tokens, signature_tokens, CanBeginSignature}
use Rattle.signature.proofs.Vocabulary.{IsSignatureSentence, AnswersSignature, SignatureRefusalStands, SignatureState, made_entry, entry_limit_refusal, state_after_token, word_sort, taken_token}
use Rattle.signature.proofs.Vocabulary.{IsFitPart, Token, WordToken, TokenAtPlace, token_kinds, SymbolToken, OpenParen, CloseParen, Comma, Semicolon, PlusMinus, Plus, Minus}
use Rattle.signature.proofs.SignatureLaws.{IsFirstSignatureRefusal}
use Rattle.signature.proofs.Fits.{chosen_some, sort_taken, taken_parts, fit_next}
use Rattle.signature.proofs.Growth.{grows, within_limits}
use Rattle.signature.proofs.Numbers.{signature_push}
use Rattle.signature.proofs.Runs.{run, run-append, run_tokens, onward, same_entries}
use Rattle.signature.proofs.Standing.{Reached, IsLimit, nothing_reached, reached_next, refused_stands, stands_refused, stands_by, err_is, none_some}
use Rattle.signature.specs.declared.reading.Part.TheVariants as parts

-- at the end of a text
abbrev pub ended : ℕ → List NameEntry → Part → Result (List NameEntry) SignatureRefusal
ended end entries parts.Nothing = Ok entries
ended end entries part = Err (Syntax end)

-- the answer after a token, where it was taken
abbrev pub then_answer : (SignatureState → Result (List NameEntry) SignatureRefusal) → Result SignatureState SignatureRefusal → Result (List NameEntry) SignatureRefusal
then_answer f (Ok s) = f s
then_answer f (Err refusal) = Err refusal

-- the reader's answer from a state on
abbrev pub answer_from : ℕ → List NameEntry → Part → List TokenAtPlace → Result (List NameEntry) SignatureRefusal
answer_from end entries part [] = ended end entries part
answer_from end entries part (token ∷ rest) = then_answer (λ (s : SignatureState). answer_from end s.0 s.1 rest) (taken_token entries part token.0 token.1)

-- an answer to what is left
abbrev pub IsAnswerFrom : ℕ → List TokenAtPlace → List TokenAtPlace → Result (List NameEntry) SignatureRefusal → Type 0
IsAnswerFrom end front tokens (Ok entries) = IsSignature entries × (token_kinds front ++ token_kinds tokens ≡ entries_tokens entries)
IsAnswerFrom end front tokens (Err refusal) = IsFirstSignatureRefusal refusal end front tokens

-- a signature stays one
signature_next : (entries : List NameEntry) (part : Part) (token : Token) (after : SignatureState) → IsSignature entries → IsFitPart entries part
    → state_after_token entries part token ≡ Some after → IsSignature after.0
signature_next entries parts.Nothing (WordToken word) after signature fit e = subst (λ (s : SignatureState). IsSignature s.0) (same_Some _ after (chosen_some _ _ after e).1) signature
signature_next entries (parts.Name name) (SymbolToken OpenParen) after signature fit e = subst (λ (s : SignatureState). IsSignature s.0) (same_Some (entries, parts.Open name) after e) signature
signature_next entries (parts.Open name) (WordToken word) after signature fit e = subst (λ (s : SignatureState). IsSignature s.0) (sort_taken entries name [] (word_sort word) after e).2 signature
signature_next entries (parts.Open name) (SymbolToken CloseParen) after signature fit e = subst (λ (s : SignatureState). IsSignature s.0) (same_Some (entries, parts.Close name []) after e) signature
signature_next entries (parts.Sorts name sorts) (SymbolToken Comma) after signature fit e = subst (λ (s : SignatureState). IsSignature s.0)
    (same_Some (entries, parts.Comma name sorts) after e) signature
signature_next entries (parts.Sorts name sorts) (SymbolToken CloseParen) after signature fit e = subst (λ (s : SignatureState). IsSignature s.0)
    (same_Some (entries, parts.Close name sorts) after e) signature
signature_next entries (parts.Comma name sorts) (WordToken word) after signature fit e = subst (λ (s : SignatureState). IsSignature s.0)
    (sort_taken entries name sorts (word_sort word) after e).2 signature
signature_next entries (parts.Close name sorts) (SymbolToken Plus) after signature fit e = subst (λ (s : SignatureState). IsSignature s.0)
    (same_Some (entries, parts.Mark (made_entry name sorts true false)) after e) signature
signature_next entries (parts.Close name sorts) (SymbolToken Minus) after signature fit e = subst (λ (s : SignatureState). IsSignature s.0)
    (same_Some (entries, parts.Mark (made_entry name sorts false true)) after e) signature
signature_next entries (parts.Close name sorts) (SymbolToken PlusMinus) after signature fit e = subst (λ (s : SignatureState). IsSignature s.0)
    (same_Some (entries, parts.Mark (made_entry name sorts true true)) after e) signature
signature_next entries (parts.Close name sorts) (SymbolToken Semicolon) after signature fit e =
    subst (λ (s : SignatureState). IsSignature s.0) (same_Some (entries ++ made_entry name sorts false false ∷ [], parts.Nothing) after e)
    (signature_push entries (made_entry name sorts false false) signature (record {
      room = fit.0.room;
      fits = record { named = fit.0.named; short = fit.0.short; narrow = fit.1 };
      absent =
          fit.0.absent;
    }))
signature_next entries (parts.Mark entry) (SymbolToken Semicolon) after signature fit e =
    subst (λ (s : SignatureState). IsSignature s.0) (same_Some (entries ++ entry ∷ [], parts.Nothing) after e)
    (signature_push entries entry signature (record { room = fit.0.room; fits = record { named = fit.0.named; short = fit.0.short; narrow = fit.1 }; absent = fit.0.absent }))
signature_next entries part token after signature fit e = absurd cc

-- one token more
kinds_push : (front : List TokenAtPlace) (token : TokenAtPlace) → token_kinds (front ++ token ∷ []) ≡ token_kinds front ++ token.1 ∷ []
kinds_push [] token = refl
kinds_push (first ∷ front) token = ap (λ rest. first.1 ∷ rest) (kinds_push front token)

-- what holds of a state on the way
pub record IsOn (front : List TokenAtPlace) (entries : List NameEntry) (part : Part) : Type 0 where
  pub reached : Reached (token_kinds front) entries part
  pub signature : IsSignature entries
  pub fit : IsFitPart entries part

on_next : (front : List TokenAtPlace) (entries : List NameEntry) (part : Part) (token : TokenAtPlace) (after : SignatureState) → IsOn front entries part
    → taken_token entries part token.0 token.1 ≡ Ok after → IsOn (front ++ token ∷ []) after.0 after.1
on_next front entries part token after on e =
    let h = taken_parts token.0 (state_after_token entries part token.1) (entry_limit_refusal entries part token.0 token.1) after e in
    record {
      reached = subst (λ tokens. Reached tokens after.0 after.1) (sym (kinds_push front token)) (reached_next (token_kinds front) entries part on.reached token.1 after h.0);
      signature = signature_next entries part token.1 after on.signature on.fit h.0;
      fit = fit_next entries part token.0 token.1 after on.fit h.0 h.1;
    }

-- no sentence ends within an entry
not_ended : (front : List TokenAtPlace) (entries : List NameEntry) (part : Part) → (◌≡◌ {A = Part} parts.Nothing part → ⊥) → Reached (token_kinds front) entries part
    → IsSignatureSentence (token_kinds front) → ⊥
not_ended front entries part other reached (others, named, is) = other (ap (λ (s : SignatureState). s.1) (same_entries entries others part (token_kinds front) named reached.run (sym is)))

-- the reader's answer at the end is one
ended_is : (end : ℕ) (front : List TokenAtPlace) (entries : List NameEntry) (part : Part) → IsOn front entries part → IsAnswerFrom end front [] (ended end entries part)
ended_is end front entries parts.Nothing on = (on.signature, append-nil (token_kinds front) ∙ on.reached.is ∙ append-nil (entries_tokens entries))
ended_is end front entries (parts.Name name) on = (refl, not_ended front entries (parts.Name name) (λ e. cc) on.reached)
ended_is end front entries (parts.Open name) on = (refl, not_ended front entries (parts.Open name) (λ e. cc) on.reached)
ended_is end front entries (parts.Sorts name sorts) on = (refl, not_ended front entries (parts.Sorts name sorts) (λ e. cc) on.reached)
ended_is end front entries (parts.Comma name sorts) on = (refl, not_ended front entries (parts.Comma name sorts) (λ e. cc) on.reached)
ended_is end front entries (parts.Close name sorts) on = (refl, not_ended front entries (parts.Close name sorts) (λ e. cc) on.reached)
ended_is end front entries (parts.Mark entry) on = (refl, not_ended front entries (parts.Mark entry) (λ e. cc) on.reached)

-- an answer to the rest is one to the token and the rest, where no refusal stands at the token
answer_back : (end : ℕ) (front : List TokenAtPlace) (token : TokenAtPlace) (rest : List TokenAtPlace) (answer : Result (List NameEntry) SignatureRefusal)
    → ((refusal : SignatureRefusal) → SignatureRefusalStands refusal (token_kinds front) token → ⊥) → IsAnswerFrom end (front ++ token ∷ []) rest answer
    → IsAnswerFrom end front (token ∷ rest) answer
answer_back end front token rest (Ok entries) clear (signature, is) = (
  signature,
  sym (append_assoc (token_kinds front) (token.1 ∷ []) (token_kinds rest)) ∙ ap
      (λ tokens. tokens ++ token_kinds rest) (sym (kinds_push front token)) ∙ is,
)
answer_back end front token rest (Err refusal) clear first = inr (clear, first)

taken_not_refused : (o : Result SignatureState SignatureRefusal) (after : SignatureState) (refusal : SignatureRefusal) → o ≡ Ok after → o ≡ Err refusal → ⊥
taken_not_refused o after refusal e f = cc

-- the reader's answer is one
pub reader_answers : (end : ℕ) (front : List TokenAtPlace) (entries : List NameEntry) (part : Part) (tokens : List TokenAtPlace) → IsOn front entries part
    → IsAnswerFrom end front tokens (answer_from end entries part tokens)
reader_answers end front entries part [] on = ended_is end front entries part on
reader_answers end front entries part (token ∷ rest) on =
    by (taken_token entries part token.0 token.1) refl
    (λ (s : SignatureState) e. reader_answers end (front ++ token ∷ []) s.0 s.1 rest (on_next front entries part token s on e))
  where
    by : (o : Result SignatureState SignatureRefusal) → taken_token entries part token.0 token.1 ≡ o
        → ((s : SignatureState) → taken_token entries part token.0 token.1 ≡ Ok s → IsAnswerFrom end (front ++ token ∷ []) rest (answer_from end s.0 s.1 rest))
        → IsAnswerFrom end front (token ∷ rest) (then_answer (λ (s : SignatureState). answer_from end s.0 s.1 rest) o)
    by (Ok s) e later =
        answer_back end front token rest (answer_from end s.0 s.1 rest) (λ refusal stands. taken_not_refused _ s refusal e
        (stands_refused (token_kinds front) entries part token on.reached on.signature.few refusal stands)) (later s e)
    by (Err refusal) e later = inl (refused_stands (token_kinds front) entries part token on.reached on.signature.few refusal e)

all_named : (entries : List NameEntry) → IsSignature entries → AreNamed entries
all_named entries signature = λ k d within. (signature.each k d within).named

-- a refusal that is first at the end
ended_refused : (end : ℕ) (front : List TokenAtPlace) (entries : List NameEntry) (part : Part) (refusal : SignatureRefusal) → Reached (token_kinds front) entries part
    → IsFirstSignatureRefusal refusal end front [] → ◌≡◌ {A = Result (List NameEntry) SignatureRefusal} (Err refusal) (ended end entries part)
ended_refused end front entries parts.Nothing refusal reached (is, never) = absurd (never (entries, reached.named, sym (reached.is ∙ append-nil (entries_tokens entries))))
ended_refused end front entries (parts.Name name) refusal reached (is, never) = ap Err is
ended_refused end front entries (parts.Open name) refusal reached (is, never) = ap Err is
ended_refused end front entries (parts.Sorts name sorts) refusal reached (is, never) = ap Err is
ended_refused end front entries (parts.Comma name sorts) refusal reached (is, never) = ap Err is
ended_refused end front entries (parts.Close name sorts) refusal reached (is, never) = ap Err is
ended_refused end front entries (parts.Mark entry) refusal reached (is, never) = ap Err is

-- in a text that spells a signature no refusal stands
never_stands : (front : List Token) (entries : List NameEntry) (part : Part) (token : TokenAtPlace) (rest : List Token) (all : List NameEntry) (refusal : SignatureRefusal)
    → Reached front entries part → IsSignature all → front ++ token.1 ∷ rest ≡ entries_tokens all → SignatureRefusalStands refusal front token → ⊥
never_stands front entries part token rest all refusal reached signature is stands =
    ⊎_elim syntactic limited (stands_by front entries part token refusal reached stands)
  where
    named : AreNamed all
    named = all_named all signature

    regrouped : entries_tokens all ≡ (front ++ token.1 ∷ []) ++ rest
    regrouped = sym is ∙ sym (append_assoc front (token.1 ∷ []) rest)

    syntactic : (Syntax token.0 ≡ refusal) × (CanBeginSignature (front ++ token.1 ∷ []) → ⊥) → ⊥
    syntactic (at, never) = never (all, rest, named, regrouped)

    limited : IsLimit entries part token refusal → ⊥
    limited limit =
        let onto : run [] parts.Nothing (front ++ token.1 ∷ rest) ≡ run limit.after.0 limit.after.1 rest = run-append [] parts.Nothing front (token.1 ∷ rest) ∙ ap
        (onward (token.1 ∷ rest)) reached.run ∙ ap (option_and_then (λ (s : SignatureState). run s.0 s.1 rest)) limit.next in
        let whole : run [] parts.Nothing (front ++ token.1 ∷ rest) ≡ Some (all, parts.Nothing) = ap (run [] parts.Nothing) (is ∙ sym (append-nil (entries_tokens all))) ∙ run_tokens all [] named in
        let none = within_limits entries part token.0 token.1 limit.after all signature limit.next (grows limit.after.0 limit.after.1 rest all (sym onto ∙ whole)) in
        none_some refusal (sym none ∙ limit.limit)

-- no other answer is one
pub only_answer : (end : ℕ) (front : List TokenAtPlace) (entries : List NameEntry) (part : Part) (tokens : List TokenAtPlace) (answer : Result (List NameEntry) SignatureRefusal)
    → IsOn front entries part → IsAnswerFrom end front tokens answer → answer ≡ answer_from end entries part tokens
only_answer end front entries part [] (Err refusal) on first = ended_refused end front entries part refusal on.reached first
only_answer end front entries part [] (Ok all) on (signature, is) =
    ap (λ (s : SignatureState). ended end s.0 s.1) (same_entries entries all part (token_kinds front) (all_named all signature) on.reached.run (sym (append-nil (token_kinds front)) ∙ is))
only_answer end front entries part (token ∷ rest) (Err refusal) on first =
    by (taken_token entries part token.0 token.1) refl first
    (λ (s : SignatureState) e later. only_answer end (front ++ token ∷ []) s.0 s.1 rest (Err refusal) (on_next front entries part token s on e) later)
  where
    by : (o : Result SignatureState SignatureRefusal) → taken_token entries part token.0 token.1 ≡ o → IsFirstSignatureRefusal refusal end front (token ∷ rest)
        → ((s : SignatureState) → taken_token entries part token.0 token.1 ≡ Ok s → IsFirstSignatureRefusal refusal end (front ++ token ∷ []) rest → Err refusal
        ≡ answer_from end s.0 s.1 rest) → ◌≡◌ {A = Result (List NameEntry) SignatureRefusal} (Err refusal) (then_answer (λ (s : SignatureState). answer_from end s.0 s.1 rest) o)
    by (Ok s) e (inl stands) later = absurd (taken_not_refused _ s refusal e (stands_refused (token_kinds front) entries part token on.reached on.signature.few refusal stands))
    by (Ok s) e (inr clear) later = later s e clear.1
    by (Err other) e (inl stands) later = ap Err (err_is refusal other (sym (stands_refused (token_kinds front) entries part token on.reached on.signature.few refusal stands) ∙ e))
    by (Err other) e (inr clear) later = absurd (clear.0 other (refused_stands (token_kinds front) entries part token on.reached on.signature.few other e))
only_answer end front entries part (token ∷ rest) (Ok all) on (signature, is) =
    by (taken_token entries part token.0 token.1) refl
    (λ (s : SignatureState) e. only_answer end (front ++ token ∷ []) s.0 s.1 rest (Ok all) (on_next front entries part token s on e)
    (signature, ap (λ tokens. tokens ++ token_kinds rest) (kinds_push front token) ∙ append_assoc (token_kinds front) (token.1 ∷ []) (token_kinds rest) ∙ is))
  where
    by : (o : Result SignatureState SignatureRefusal) → taken_token entries part token.0 token.1 ≡ o
        → ((s : SignatureState) → taken_token entries part token.0 token.1 ≡ Ok s → Ok all ≡ answer_from end s.0 s.1 rest)
        → ◌≡◌ {A = Result (List NameEntry) SignatureRefusal} (Ok all) (then_answer (λ (s : SignatureState). answer_from end s.0 s.1 rest) o)
    by (Ok s) e later = later s e
    by (Err refusal) e later = absurd (never_stands (token_kinds front) entries part token (token_kinds rest) all refusal on.reached signature is
        (refused_stands (token_kinds front) entries part token on.reached on.signature.few refusal e))

-- before the first token
pub start_on : IsOn [] [] parts.Nothing
start_on = record { reached = nothing_reached; signature = record { few = omega arith; each = λ k d within. absurd (omega arith); distinct = tt }; fit = omega arith }

pub answer_to : (bytes : List ℕ) (answer : Result (List NameEntry) SignatureRefusal) → IsAnswerFrom (length bytes) [] (signature_tokens bytes) answer → AnswersSignature bytes answer
answer_to bytes (Ok entries) is = is
answer_to bytes (Err refusal) is = is

pub answer_of : (bytes : List ℕ) (answer : Result (List NameEntry) SignatureRefusal) → AnswersSignature bytes answer → IsAnswerFrom (length bytes) [] (signature_tokens bytes) answer
answer_of bytes (Ok entries) is = is
answer_of bytes (Err refusal) is = is
