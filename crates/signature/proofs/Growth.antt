-- What has come of a signature stays in the one that its tokens lead to.
use Rattle.signature.proofs.Vocabulary.{◌≡◌, ℕ, ◌+◌, ◌≤◌, ◌==◌, nat_lt, true, false, cond, List, [], ◌∷◌, ◌++◌, length, Option, None, Some, refl, sym, ap, subst, ◌∙◌, arith, append_assoc}
use Rattle.signature.proofs.Vocabulary.{length-append, option_and_then, le-ltb, nat_tests, append-nil, same_Some, is_name, Token, WordToken, SymbolToken, NameEntry, Part, Names, Arity, Name, Limit}
use Rattle.signature.proofs.Vocabulary.{IsSignature, IsNewEntry, SignatureState, made_entry, entry_limit_refusal, entry_name_refusal, state_after_token, repeated_name_refusal, word_sort, OpenParen}
use Rattle.signature.proofs.Vocabulary.{CloseParen, Comma, Semicolon, PlusMinus, Plus, Minus}
use Rattle.signature.proofs.Fits.{chosen_some, sort_taken}
use Rattle.signature.proofs.Numbers.{new_next}
use Rattle.signature.proofs.Runs.{run}
use Rattle.signature.specs.declared.reading.Part.TheVariants as parts

-- the entries go on with one of this name that has so many sorts at least
pub record GoesOn (entries : List NameEntry) (name : List ℕ) (count : ℕ) (all : List NameEntry) : Type 0 where
  pub entry : NameEntry
  pub more : List NameEntry
  pub is : all ≡ entries ++ entry ∷ more
  pub named : entry.text ≡ name
  pub sorts : count ≤ length entry.sorts

-- all the entries, by what has come of the next
abbrev pub Grows : List NameEntry → Part → List NameEntry → Type 0
Grows entries parts.Nothing all = (more : List NameEntry) × (all ≡ entries ++ more)
Grows entries (parts.Name name) all = GoesOn entries name 0 all
Grows entries (parts.Open name) all = GoesOn entries name 0 all
Grows entries (parts.Sorts name sorts) all = GoesOn entries name (length sorts) all
Grows entries (parts.Comma name sorts) all = GoesOn entries name (length sorts) all
Grows entries (parts.Close name sorts) all = GoesOn entries name (length sorts) all
Grows entries (parts.Mark entry) all = GoesOn entries entry.text (length entry.sorts) all

fewer : (entries : List NameEntry) (name : List ℕ) (m n : ℕ) (all : List NameEntry) → m ≤ n → GoesOn entries name n all → GoesOn entries name m all
fewer entries name m n all le grows = record { entry = grows.entry; more = grows.more; is = grows.is; named = grows.named; sorts = omega (arith, grows.sorts) }

put : (entries : List NameEntry) (entry : NameEntry) (all : List NameEntry) → Grows (entries ++ entry ∷ []) parts.Nothing all → GoesOn entries entry.text (length entry.sorts) all
put entries entry all (more, is) = record { entry = entry; more = more; is = is ∙ append_assoc entries (entry ∷ []) more; named = refl; sorts = omega arith }

module _ (entries all : List NameEntry) where
  -- a token takes nothing back
  grows_back : (part : Part) (token : Token) (after : SignatureState) → state_after_token entries part token ≡ Some after → Grows after.0 after.1 all → Grows entries part all
  grows_back parts.Nothing (WordToken word) after e grows =
      let g : GoesOn entries word 0 all = subst (λ (s : SignatureState). Grows s.0 s.1 all) (sym (same_Some _ after (chosen_some (is_name word) _ after e).1)) grows in
      (g.entry ∷ g.more, g.is)
  grows_back (parts.Name name) (SymbolToken OpenParen) after e grows = subst (λ (s : SignatureState). Grows s.0 s.1 all) (sym (same_Some (entries, parts.Open name) after e)) grows
  grows_back (parts.Open name) (WordToken word) after e grows =
      let h = sort_taken entries name [] (word_sort word) after e in
      fewer entries name 0 1 all (omega arith) (subst (λ (s : SignatureState). Grows s.0 s.1 all) (sym h.2) grows)
  grows_back (parts.Open name) (SymbolToken CloseParen) after e grows = subst (λ (s : SignatureState). Grows s.0 s.1 all) (sym (same_Some (entries, parts.Close name []) after e)) grows
  grows_back (parts.Sorts name sorts) (SymbolToken Comma) after e grows = subst (λ (s : SignatureState). Grows s.0 s.1 all) (sym (same_Some (entries, parts.Comma name sorts) after e)) grows
  grows_back (parts.Sorts name sorts) (SymbolToken CloseParen) after e grows = subst (λ (s : SignatureState). Grows s.0 s.1 all) (sym (same_Some (entries, parts.Close name sorts) after e)) grows
  grows_back (parts.Comma name sorts) (WordToken word) after e grows =
      let h = sort_taken entries name sorts (word_sort word) after e in
      fewer entries name (length sorts) (length (sorts ++ h.0 ∷ [])) all (omega (arith, length-append sorts (h.0 ∷ []))) (subst (λ (s : SignatureState). Grows s.0 s.1 all) (sym h.2) grows)
  grows_back (parts.Close name sorts) (SymbolToken Plus) after e grows = subst (λ (s : SignatureState). Grows s.0 s.1 all)
      (sym (same_Some (entries, parts.Mark (made_entry name sorts true false)) after e)) grows
  grows_back (parts.Close name sorts) (SymbolToken Minus) after e grows = subst (λ (s : SignatureState). Grows s.0 s.1 all)
      (sym (same_Some (entries, parts.Mark (made_entry name sorts false true)) after e)) grows
  grows_back (parts.Close name sorts) (SymbolToken PlusMinus) after e grows = subst (λ (s : SignatureState). Grows s.0 s.1 all)
      (sym (same_Some (entries, parts.Mark (made_entry name sorts true true)) after e)) grows
  grows_back (parts.Close name sorts) (SymbolToken Semicolon) after e grows =
      put entries (made_entry name sorts false false) all (subst (λ (s : SignatureState). Grows s.0 s.1 all)
      (sym (same_Some (entries ++ made_entry name sorts false false ∷ [], parts.Nothing) after e)) grows)
  grows_back (parts.Mark entry) (SymbolToken Semicolon) after e grows =
      put entries entry all (subst (λ (s : SignatureState). Grows s.0 s.1 all) (sym (same_Some (entries ++ entry ∷ [], parts.Nothing) after e)) grows)
  grows_back part token after e grows = absurd cc

-- tokens that lead to entries
pub grows : (entries : List NameEntry) (part : Part) (tokens : List Token) (all : List NameEntry) → run entries part tokens ≡ Some (all, parts.Nothing) → Grows entries part all
grows entries part [] all e = subst (λ (s : SignatureState). Grows entries s.1 all) (sym (same_Some (entries, part) (all, parts.Nothing) e))
    ([], ap (λ (s : SignatureState). s.0) (sym (same_Some (entries, part) (all, parts.Nothing) e)) ∙ sym (append-nil entries))
grows entries part (token ∷ tokens) all e = by (state_after_token entries part token) refl e (λ (s : SignatureState). grows s.0 s.1 tokens all)
  where
    by : (o : Option SignatureState) → state_after_token entries part token ≡ o → option_and_then (λ (s : SignatureState). run s.0 s.1 tokens) o ≡ Some (all, parts.Nothing)
        → ((s : SignatureState) → run s.0 s.1 tokens ≡ Some (all, parts.Nothing) → Grows s.0 s.1 all) → Grows entries part all
    by None h f rest = absurd cc
    by (Some after) h f rest = grows_back entries all part token after h (rest after f)

-- in a signature no limit refuses the name of the next entry
name_within : (entries : List NameEntry) (entry : NameEntry) (place : ℕ) → IsNewEntry entries entry → entry_name_refusal entries place entry.text ≡ None
name_within entries entry place new =
    let room : (length entries == 256) ≡ false = grind (arith, nat_tests, new.room) in
    let fits : nat_lt 64 (length entry.text) ≡ false = le-ltb 64 (length entry.text) new.fits.short in
    λ j. cond (room j) (Some (Limit Names place)) (cond (fits j) (Some (Limit Name place)) (repeated_name_refusal place (new.absent j)))

-- and no token on the way to it
pub within_limits : (entries : List NameEntry) (part : Part) (place : ℕ) (token : Token) (after : SignatureState) (all : List NameEntry) → IsSignature all
    → state_after_token entries part token ≡ Some after → Grows after.0 after.1 all → entry_limit_refusal entries part place token ≡ None
within_limits entries parts.Nothing place (WordToken word) after all signature e grows =
    let g : GoesOn entries word 0 all = subst (λ (s : SignatureState). Grows s.0 s.1 all) (sym (same_Some _ after (chosen_some (is_name word) _ after e).1)) grows in
    ap (entry_name_refusal entries place) (sym g.named) ∙ name_within entries g.entry place (new_next all entries g.more g.entry signature g.is)
within_limits entries (parts.Comma name sorts) place (WordToken word) after all signature e grows =
    let h = sort_taken entries name sorts (word_sort word) after e in
    let g : GoesOn entries name (length (sorts ++ h.0 ∷ [])) all = subst (λ (s : SignatureState). Grows s.0 s.1 all) (sym h.2) grows in
    let new = new_next all entries g.more g.entry signature g.is in
    let few : length sorts + 1 ≤ 8 = omega (arith, g.sorts, new.fits.narrow, length-append sorts (h.0 ∷ [])) in
    let under : (length sorts == 8) ≡ false = grind (arith, nat_tests) in
    ap (λ b. cond b (Some (Limit Arity place)) None) under
within_limits entries part place token after all signature e grows = refl
