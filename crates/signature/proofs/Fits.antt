-- What the limits leave of the next entry stays so at each token that is taken.
use Rattle.signature.proofs.Vocabulary.{◌≡◌, ℕ, ◌+◌, ◌<◌, ◌≤◌, ◌==◌, nat_lt, Bool, true, false, cond, List, [], ◌∷◌, ◌++◌, length, Option, None, Some, Ok, refl, subst, arith, length-append, ltb-false}
use Rattle.signature.proofs.Vocabulary.{nat_tests, same_Some, is_name, Token, WordToken, SymbolToken, NameEntry, Sort, Part, SignatureRefusal, name_number, SignatureState, after_sort, made_entry}
use Rattle.signature.proofs.Vocabulary.{entry_limit_refusal, entry_name_refusal, state_after_token, repeated_name_refusal, word_sort, taken_or_refused, IsFitPart, IsFreeName, OpenParen, CloseParen}
use Rattle.signature.proofs.Vocabulary.{Comma, Semicolon, PlusMinus, Plus, Minus}
use Rattle.signature.specs.declared.reading.Part.TheVariants as parts

-- a token was taken where the grammar has a next state and no limit refuses it
pub taken_parts : (place : ℕ) (state : Option SignatureState) (refusal : Option SignatureRefusal) (after : SignatureState) → taken_or_refused place state refusal ≡ Ok after
    → (state ≡ Some after) × (refusal ≡ None)
taken_parts place None refusal after e = absurd cc
taken_parts place (Some state) None after e = (cc, refl)
taken_parts place (Some state) (Some refusal) after e = absurd cc

-- what a test that did not refuse says
pub chosen_none : {X : Type 0} (b : Bool) (x : X) (o : Option X) → cond b (Some x) o ≡ None → (b ≡ false) × (o ≡ None)
chosen_none true x o e = absurd cc
chosen_none false x o e = (refl, e)

pub chosen_some : {X : Type 0} (b : Bool) (o : Option X) (y : X) → cond b o None ≡ Some y → (b ≡ true) × (o ≡ Some y)
chosen_some true o y e = (refl, e)
chosen_some false o y e = absurd cc

repeated_none : (place : ℕ) (number : Option ℕ) → repeated_name_refusal place number ≡ None → number ≡ None
repeated_none place None e = refl
repeated_none place (Some number) e = absurd cc

not_256 : (n : ℕ) → (n == 256) ≡ false → n ≤ 256 → n < 256
not_256 n e le = grind (arith, nat_tests)

-- a name that no limit refuses
pub name_free : (entries : List NameEntry) (place : ℕ) (name : List ℕ) → length entries ≤ 256 → is_name name ≡ true → entry_name_refusal entries place name ≡ None → IsFreeName entries name
name_free entries place name few named none =
    let first = chosen_none (length entries == 256) _ _ none in
    let second = chosen_none (nat_lt 64 (length name)) _ _ first.1 in
    record {
      room = not_256 (length entries) first.0 few;
      named = named;
      short = ltb-false 64 (length name) second.0;
      absent = repeated_none place (name_number entries name) second.1;
    }

-- a word where a sort is wanted
pub sort_taken : (entries : List NameEntry) (name : List ℕ) (sorts : List Sort) (sort : Option Sort) (after : SignatureState) → after_sort entries name sorts sort ≡ Some after
    → (s : Sort) × (sort ≡ Some s) × ((entries, parts.Sorts name (sorts ++ s ∷ [])) ≡ after)
sort_taken entries name sorts None after e = absurd cc
sort_taken entries name sorts (Some s) after e = (s, refl, same_Some _ _ e)

not_8 : (n : ℕ) → (n == 8) ≡ false → n ≤ 8 → n + 1 ≤ 8
not_8 n e le = grind (arith, nat_tests)

-- what is fit stays so
pub fit_next : (entries : List NameEntry) (part : Part) (place : ℕ) (token : Token) (after : SignatureState) → IsFitPart entries part → state_after_token entries part token
    ≡ Some after → entry_limit_refusal entries part place token ≡ None → IsFitPart after.0 after.1
fit_next entries parts.Nothing place (WordToken word) after fit e none =
    let h = chosen_some (is_name word) _ after e in
    subst (λ (s : SignatureState). IsFitPart s.0 s.1) (same_Some _ after h.1) (name_free entries place word fit h.0 none)
fit_next entries (parts.Name name) place (SymbolToken OpenParen) after fit e none = subst (λ (s : SignatureState). IsFitPart s.0 s.1) (same_Some (entries, parts.Open name) after e) fit
fit_next entries (parts.Open name) place (WordToken word) after fit e none =
    let h = sort_taken entries name [] (word_sort word) after e in
    subst (λ (s : SignatureState). IsFitPart s.0 s.1) h.2 (fit, omega arith, omega arith)
fit_next entries (parts.Open name) place (SymbolToken CloseParen) after fit e none = subst (λ (s : SignatureState). IsFitPart s.0 s.1) (same_Some (entries, parts.Close name []) after e)
    (fit, omega arith)
fit_next entries (parts.Sorts name sorts) place (SymbolToken Comma) after fit e none = subst (λ (s : SignatureState). IsFitPart s.0 s.1) (same_Some (entries, parts.Comma name sorts) after e) fit
fit_next entries (parts.Sorts name sorts) place (SymbolToken CloseParen) after fit e none = subst (λ (s : SignatureState). IsFitPart s.0 s.1)
    (same_Some (entries, parts.Close name sorts) after e) (fit.0, fit.2)
fit_next entries (parts.Comma name sorts) place (WordToken word) after fit e none =
    let h = sort_taken entries name sorts (word_sort word) after e in
    let few = not_8 (length sorts) (chosen_none (length sorts == 8) _ None none).0 fit.2 in
    subst (λ (s : SignatureState). IsFitPart s.0 s.1) h.2 (fit.0, omega (arith, length-append sorts (h.0 ∷ [])), omega (arith, few, length-append sorts (h.0 ∷ [])))
fit_next entries (parts.Close name sorts) place (SymbolToken Plus) after fit e none = subst (λ (s : SignatureState). IsFitPart s.0 s.1)
    (same_Some (entries, parts.Mark (made_entry name sorts true false)) after e) fit
fit_next entries (parts.Close name sorts) place (SymbolToken Minus) after fit e none = subst (λ (s : SignatureState). IsFitPart s.0 s.1)
    (same_Some (entries, parts.Mark (made_entry name sorts false true)) after e) fit
fit_next entries (parts.Close name sorts) place (SymbolToken PlusMinus) after fit e none = subst (λ (s : SignatureState). IsFitPart s.0 s.1)
    (same_Some (entries, parts.Mark (made_entry name sorts true true)) after e) fit
fit_next entries (parts.Close name sorts) place (SymbolToken Semicolon) after fit e none =
    subst (λ (s : SignatureState). IsFitPart s.0 s.1) (same_Some (entries ++ made_entry name sorts false false ∷ [], parts.Nothing) after e)
    (omega (arith, fit.0.room, length-append entries (made_entry name sorts false false ∷ [])))
fit_next entries (parts.Mark entry) place (SymbolToken Semicolon) after fit e none =
    subst (λ (s : SignatureState). IsFitPart s.0 s.1) (same_Some (entries ++ entry ∷ [], parts.Nothing) after e) (omega (arith, fit.0.room, length-append entries (entry ∷ [])))
fit_next entries part place token after fit e none = absurd cc
