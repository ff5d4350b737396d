-- The loop over the tokens of a text: what is read and what is left give the answer to the whole.
use Rattle.signature.proofs.Vocabulary.{◌≡◌, ℕ, ◌+◌, ◌≤◌, List, [], ◌∷◌, length, Result, Ok, Err, refl, sym, ap, subst, ◌∙◌, TokenAtPlace, Token, WordToken, NumberToken, NegativeToken, TextToken}
use Rattle.signature.proofs.Vocabulary.{SymbolToken, WrongToken, tokens_at, Arrow, Minus, onto_tokens, signature_tokens, without_arrows, NameEntry, Part, SignatureRefusal, Syntax, Repeated, Limit}
use Rattle.signature.proofs.Vocabulary.{NoMemory, SignatureState, arrow_refusal_by, entry_limit_refusal, state_after_token, taken_token, IsFitPart, RefusesArrow, TakesToken, GivesEntries}
use Rattle.signature.proofs.Vocabulary.{GivesSignatureAnswer, AnswersSignature}
use Rattle.signature.proofs.Answering.{answer_from, answer_of, answer_to, ended, only_answer, reader_answers, start_on, then_answer}
use Rattle.signature.proofs.Fits.{fit_next, taken_parts}
use Rattle.enf_value.specs.declared.tokens.Mark.TheVariants as marks
use Rattle.signature.specs.declared.reading.Part.TheVariants as parts

-- the answer to a text
abbrev pub answer_to_all : List ℕ → Result (List NameEntry) SignatureRefusal
answer_to_all bytes = answer_from (length bytes) [] parts.Nothing (signature_tokens bytes)

-- what holds before each token
pub record IsOnTheWay (bytes : List ℕ) (place : ℕ) (entries : List NameEntry) (part : Part) : Type 0 where
  pub within : place ≤ length bytes
  pub answer : answer_from (length bytes) entries part (without_arrows (tokens_at bytes place)) ≡ answer_to_all bytes
  pub fit : IsFitPart entries part

module _ (bytes : List ℕ) (place : ℕ) (entries : List NameEntry) (part : Part) (on : IsOnTheWay bytes place entries part)
    (token : TokenAtPlace) (rest : List TokenAtPlace) (next_is : without_arrows (tokens_at bytes place) ≡ token ∷ rest) where
  -- the answer, by what the token gives
  pub answer_is : answer_to_all bytes ≡ then_answer (λ (s : SignatureState). answer_from (length bytes) s.0 s.1 rest) (taken_token entries part token.0 token.1)
  answer_is = sym on.answer ∙ ap (answer_from (length bytes) entries part) next_is

  -- after a token that was taken
  pub past_token : (end : ℕ) → end ≤ length bytes → rest ≡ without_arrows (tokens_at bytes end)
      → (new : List NameEntry) (after : Part) → TakesToken entries part token.0 token.1 new (Ok after) → IsOnTheWay bytes end new after
  past_token end within rest_is new after takes =
      let h = taken_parts token.0 (state_after_token entries part token.1) (entry_limit_refusal entries part token.0 token.1) (new, after) takes in
      record {
        within = within;
        answer = ap (answer_from (length bytes) new after) (sym rest_is)
            ∙ sym (answer_is ∙ ap (then_answer (λ (s : SignatureState). answer_from (length bytes) s.0 s.1 rest)) takes);
        fit = fit_next entries part token.0 token.1 (new, after) on.fit h.0 h.1;
      }

  -- a refusal is the answer
  pub refused_answer : (refusal : SignatureRefusal) → taken_token entries part token.0 token.1 ≡ Err refusal → answer_to_all bytes ≡ Err refusal
  refused_answer refusal refused =
      answer_is ∙ ap (then_answer (λ (s : SignatureState). answer_from (length bytes) s.0 s.1 rest)) refused

-- a token that is no arrow stands as it is
pub plain_token : (place : ℕ) (token : Token) (rest : List TokenAtPlace) → (token ≡ SymbolToken Arrow → ⊥) → onto_tokens place token rest ≡ (place, token) ∷ rest
plain_token place (WordToken word) rest plain = refl
plain_token place (NumberToken n) rest plain = refl
plain_token place (NegativeToken n) rest plain = refl
plain_token place (TextToken text) rest plain = refl
plain_token place (SymbolToken Arrow) rest plain = absurd (plain refl)
plain_token place (SymbolToken marks.OpenParen) rest plain = refl
plain_token place (SymbolToken marks.CloseParen) rest plain = refl
plain_token place (SymbolToken marks.Comma) rest plain = refl
plain_token place (SymbolToken marks.Semicolon) rest plain = refl
plain_token place (SymbolToken marks.Colon) rest plain = refl
plain_token place (SymbolToken marks.Dot) rest plain = refl
plain_token place (SymbolToken marks.OpenBracket) rest plain = refl
plain_token place (SymbolToken marks.CloseBracket) rest plain = refl
plain_token place (SymbolToken marks.Star) rest plain = refl
plain_token place (SymbolToken marks.Equal) rest plain = refl
plain_token place (SymbolToken marks.Less) rest plain = refl
plain_token place (SymbolToken marks.AtMost) rest plain = refl
plain_token place (SymbolToken marks.Plus) rest plain = refl
plain_token place (SymbolToken marks.Minus) rest plain = refl
plain_token place (SymbolToken marks.PlusMinus) rest plain = refl
plain_token place WrongToken rest plain = refl

-- nothing goes on at a wrong byte
wrong_answer : (end place : ℕ) (entries : List NameEntry) (part : Part) → answer_from end entries part ((place, WrongToken) ∷ []) ≡ Err (Syntax place)
wrong_answer end place entries parts.Nothing = refl
wrong_answer end place entries (parts.Name name) = refl
wrong_answer end place entries (parts.Open name) = refl
wrong_answer end place entries (parts.Sorts name sorts) = refl
wrong_answer end place entries (parts.Comma name sorts) = refl
wrong_answer end place entries (parts.Close name sorts) = refl
wrong_answer end place entries (parts.Mark entry) = refl

-- the reader's answer to a text is its only one
pub is_answer : (bytes : List ℕ) → AnswersSignature bytes (answer_to_all bytes)
is_answer bytes = answer_to bytes (answer_to_all bytes) (reader_answers (length bytes) [] [] parts.Nothing (signature_tokens bytes) start_on)

pub is_only : (bytes : List ℕ) (answer : Result (List NameEntry) SignatureRefusal) → AnswersSignature bytes answer → answer ≡ answer_to_all bytes
is_only bytes answer is = only_answer (length bytes) [] [] parts.Nothing (signature_tokens bytes) answer start_on (answer_of bytes answer is)

-- a call that gives the reader's answer, where there was memory
pub record Reads (bytes : List ℕ) (result : Result (List NameEntry) SignatureRefusal) : Type 0 where
  pub answer : GivesSignatureAnswer bytes result
  pub only : (answer : Result (List NameEntry) SignatureRefusal) → AnswersSignature bytes answer → GivesEntries result answer

pub reads_ok : (bytes : List ℕ) (entries : List NameEntry) → answer_to_all bytes ≡ Ok entries → Reads bytes (Ok entries)
reads_ok bytes entries is = record { answer = subst (AnswersSignature bytes) is (is_answer bytes); only = λ answer h. sym (is_only bytes answer h ∙ is) }

pub reads_refused : (bytes : List ℕ) (refusal : SignatureRefusal) → answer_to_all bytes ≡ Err refusal → Reads bytes (Err refusal)
reads_refused bytes (Syntax place) is = record { answer = subst (AnswersSignature bytes) is (is_answer bytes); only = λ answer h. sym (is_only bytes answer h ∙ is) }
reads_refused bytes (Repeated name place) is = record { answer = subst (AnswersSignature bytes) is (is_answer bytes); only = λ answer h. sym (is_only bytes answer h ∙ is) }
reads_refused bytes (Limit which place) is = record { answer = subst (AnswersSignature bytes) is (is_answer bytes); only = λ answer h. sym (is_only bytes answer h ∙ is) }
reads_refused bytes NoMemory is = record { answer = tt; only = λ answer h. tt }

-- where a token is not taken
pub not_taken : (bytes : List ℕ) (place : ℕ) (entries : List NameEntry) (part : Part) → IsOnTheWay bytes place entries part
    → (token : TokenAtPlace) (rest : List TokenAtPlace) → without_arrows (tokens_at bytes place) ≡ token ∷ rest
    → (new : List NameEntry) (refusal : SignatureRefusal) → TakesToken entries part token.0 token.1 new (Err refusal) → Reads bytes (Err refusal)
not_taken bytes place entries part on token rest is new (Syntax p) takes = reads_refused bytes (Syntax p) (refused_answer bytes place entries part on token rest is (Syntax p) takes)
not_taken bytes place entries part on token rest is new (Repeated name p) takes = reads_refused bytes (Repeated name p)
    (refused_answer bytes place entries part on token rest is (Repeated name p) takes)
not_taken bytes place entries part on token rest is new (Limit which p) takes = reads_refused bytes (Limit which p) (refused_answer bytes place entries part on token rest is (Limit which p) takes)
not_taken bytes place entries part on token rest is new NoMemory takes = record { answer = tt; only = λ answer h. tt }

-- an arrow is refused at its minus, or after it
arrow_answer : (end place : ℕ) (entries : List NameEntry) (part : Part) (taking : Result SignatureState SignatureRefusal) → taken_token entries part place (SymbolToken Minus) ≡ taking
    → answer_from end entries part ((place, SymbolToken Minus) ∷ (place + 1, WrongToken) ∷ []) ≡ Err (arrow_refusal_by place taking)
arrow_answer end place entries part (Ok s) takes =
    ap (then_answer (λ (s : SignatureState). answer_from end s.0 s.1 ((place + 1, WrongToken) ∷ []))) takes ∙ wrong_answer end (place + 1) s.0 s.1
arrow_answer end place entries part (Err refusal) takes = ap (then_answer (λ (s : SignatureState). answer_from end s.0 s.1 ((place + 1, WrongToken) ∷ []))) takes

arrow_is : (bytes : List ℕ) (place at : ℕ) (entries : List NameEntry) (part : Part) → IsOnTheWay bytes place entries part
    → without_arrows (tokens_at bytes place) ≡ (at, SymbolToken Minus) ∷ (at + 1, WrongToken) ∷ []
    → answer_to_all bytes ≡ Err (arrow_refusal_by at (taken_token entries part at (SymbolToken Minus)))
arrow_is bytes place at entries part on is =
    sym on.answer ∙ ap (answer_from (length bytes) entries part) is ∙ arrow_answer (length bytes) at entries part (taken_token entries part at (SymbolToken Minus)) refl

pub arrow_refused : (bytes : List ℕ) (place at : ℕ) (entries : List NameEntry) (part : Part) → IsOnTheWay bytes place entries part
    → without_arrows (tokens_at bytes place) ≡ (at, SymbolToken Minus) ∷ (at + 1, WrongToken) ∷ []
    → (refusal : SignatureRefusal) → RefusesArrow entries part at refusal → Reads bytes (Err refusal)
arrow_refused bytes place at entries part on is (Syntax p) refuses = reads_refused bytes (Syntax p) (arrow_is bytes place at entries part on is ∙ ap Err (sym refuses))
arrow_refused bytes place at entries part on is (Repeated name p) refuses = reads_refused bytes (Repeated name p) (arrow_is bytes place at entries part on is ∙ ap Err (sym refuses))
arrow_refused bytes place at entries part on is (Limit which p) refuses = reads_refused bytes (Limit which p) (arrow_is bytes place at entries part on is ∙ ap Err (sym refuses))
arrow_refused bytes place at entries part on is NoMemory refuses = record { answer = tt; only = λ answer h. tt }

-- what a call that took the minus, or did not, says of the arrow
pub minus_taken : (entries : List NameEntry) (part : Part) (place : ℕ) (new : List NameEntry) (after : Part)
    → TakesToken entries part place (SymbolToken Minus) new (Ok after) → Syntax (place + 1) ≡ arrow_refusal_by place (taken_token entries part place (SymbolToken Minus))
minus_taken entries part place new after takes = sym (ap (arrow_refusal_by place) takes)

pub minus_refused : (entries : List NameEntry) (part : Part) (place : ℕ) (new : List NameEntry) (refusal : SignatureRefusal)
    → TakesToken entries part place (SymbolToken Minus) new (Err refusal) → RefusesArrow entries part place refusal
minus_refused entries part place new (Syntax p) takes = sym (ap (arrow_refusal_by place) takes)
minus_refused entries part place new (Repeated name p) takes = sym (ap (arrow_refusal_by place) takes)
minus_refused entries part place new (Limit which p) takes = sym (ap (arrow_refusal_by place) takes)
minus_refused entries part place new NoMemory takes = tt

-- after the last token
pub at_end : (bytes : List ℕ) (place : ℕ) (entries : List NameEntry) (part : Part) → IsOnTheWay bytes place entries part → tokens_at bytes place ≡ [] → answer_to_all bytes
    ≡ ended (length bytes) entries part
at_end bytes place entries part on end = sym on.answer ∙ ap (λ rest. answer_from (length bytes) entries part (without_arrows rest)) end

-- within an entry the end is refused
pub ended_within : (place : ℕ) (entries : List NameEntry) (part : Part) → (part ≡ parts.Nothing → ⊥) → ended place entries part ≡ Err (Syntax place)
ended_within place entries parts.Nothing other = absurd (other refl)
ended_within place entries (parts.Name name) other = refl
ended_within place entries (parts.Open name) other = refl
ended_within place entries (parts.Sorts name sorts) other = refl
ended_within place entries (parts.Comma name sorts) other = refl
ended_within place entries (parts.Close name sorts) other = refl
ended_within place entries (parts.Mark entry) other = refl
