-- What was written of a signature, by the state that its tokens lead to; it can go on.
use Rattle.signature.proofs.Vocabulary.{◌≡◌, ℕ, ◌<◌, Bool, true, false, cond, List, [], ◌∷◌, ◌++◌, length, codes, None, Some, refl, sym, ap, subst, ◌∙◌, arith, append_assoc, length-append, flat_map}
use Rattle.signature.proofs.Vocabulary.{IsTrue, bytes_eq, append-nil, All-push, bytes_eq-Decides, same_Some, is_name, Token, WordToken, SymbolToken, NameEntry, Sort, Int, Text, Part, AreNamed}
use Rattle.signature.proofs.Vocabulary.{entry_tokens, mark_tokens, sort_token, sort_tokens, entries_tokens, CanBeginSignature, SignatureState, made_entry, state_after_token, word_sort, OpenParen}
use Rattle.signature.proofs.Vocabulary.{CloseParen, Comma, Semicolon, PlusMinus, Plus, Minus}
use Rattle.signature.proofs.Fits.{chosen_some, sort_taken}
use Rattle.signature.specs.declared.reading.Part.TheVariants as parts

-- the tokens of what has come of the next entry
abbrev pub part_tokens : Part → List Token
part_tokens parts.Nothing = []
part_tokens (parts.Name name) = WordToken name ∷ []
part_tokens (parts.Open name) = WordToken name ∷ (SymbolToken OpenParen) ∷ []
part_tokens (parts.Sorts name sorts) = WordToken name ∷ (SymbolToken OpenParen) ∷ sort_tokens sorts
part_tokens (parts.Comma name sorts) = WordToken name ∷ (SymbolToken OpenParen) ∷ sort_tokens sorts ++ (SymbolToken Comma) ∷ []
part_tokens (parts.Close name sorts) = WordToken name ∷ (SymbolToken OpenParen) ∷ sort_tokens sorts ++ (SymbolToken CloseParen) ∷ []
part_tokens (parts.Mark entry) = WordToken entry.text ∷ (SymbolToken OpenParen) ∷ sort_tokens entry.sorts ++ (SymbolToken CloseParen) ∷ mark_tokens entry.causable entry.suppressible

-- the names are names, and a comma stands after a sort
abbrev pub IsSound : Part → Type 0
IsSound parts.Nothing = Unit {0}
IsSound (parts.Name name) = IsTrue (is_name name)
IsSound (parts.Open name) = IsTrue (is_name name)
IsSound (parts.Sorts name sorts) = IsTrue (is_name name) × (0 < length sorts)
IsSound (parts.Comma name sorts) = IsTrue (is_name name) × (0 < length sorts)
IsSound (parts.Close name sorts) = IsTrue (is_name name)
IsSound (parts.Mark entry) = IsTrue (is_name entry.text)

-- the tokens of a state
abbrev pub written : List NameEntry → Part → List Token
written entries part = entries_tokens entries ++ part_tokens part

flat_map-push : {X Y : Type 0} (f : X → List Y) (xs : List X) (x : X) → flat_map f (xs ++ x ∷ []) ≡ flat_map f xs ++ f x
flat_map-push f [] x = append-nil (f x)
flat_map-push f (y ∷ xs) x = ap (λ rest. f y ++ rest) (flat_map-push f xs x) ∙ sym (append_assoc (f y) (flat_map f xs) (f x))

-- one more sort, after a comma
pub sort_tokens-push : (sorts : List Sort) (sort : Sort) → 0 < length sorts → sort_tokens (sorts ++ sort ∷ []) ≡ sort_tokens sorts ++ (SymbolToken Comma) ∷ sort_token sort ∷ []
sort_tokens-push [] sort some = absurd (omega arith)
sort_tokens-push (first ∷ sorts) sort some = ap (λ rest. sort_token first ∷ rest) (flat_map-push (λ s. (SymbolToken Comma) ∷ sort_token s ∷ []) sorts sort)

no_sort : (sort : Sort) → None ≡ Some sort → ⊥
no_sort sort e = cc

-- a word that names a sort is its token
pub sort_word : (word : List ℕ) (sort : Sort) → word_sort word ≡ Some sort → WordToken word ≡ sort_token sort
sort_word word sort e = by (bytes_eq word (codes "int")) (bytes_eq word (codes "text")) refl refl
  where
    by : (a b : Bool) → bytes_eq word (codes "int") ≡ a → bytes_eq word (codes "text") ≡ b → WordToken word ≡ sort_token sort
    by true b h i =
        ap WordToken ((bytes_eq-Decides word (codes "int")).0 h) ∙ ap sort_token (same_Some Int sort (sym (ap (λ c. cond c (Some Int) (cond (bytes_eq word (codes "text")) (Some Text) None)) h) ∙ e))
    by false true h i =
        ap WordToken ((bytes_eq-Decides word (codes "text")).0 i) ∙ ap sort_token (same_Some Text sort (sym ((λ j. cond (h j) (Some Int) (cond (i j) (Some Text) None))) ∙ e))
    by false false h i = absurd (no_sort sort (sym ((λ j. cond (h j) (Some Int) (cond (i j) (Some Text) None))) ∙ e))

module _ (entries : List NameEntry) where
  -- a token more
  pub written_next : (part : Part) (token : Token) (after : SignatureState) → IsSound part → state_after_token entries part token ≡ Some after → written after.0 after.1
      ≡ written entries part ++ token ∷ []
  written_next parts.Nothing (WordToken word) after fit e =
      subst (λ (s : SignatureState). written s.0 s.1 ≡ written entries parts.Nothing ++ WordToken word ∷ []) (same_Some _ after (chosen_some (is_name word) _ after e).1) (simp append_assoc)
  written_next (parts.Name name) (SymbolToken OpenParen) after fit e =
      subst (λ (s : SignatureState). written s.0 s.1 ≡ written entries (parts.Name name) ++ (SymbolToken OpenParen) ∷ []) (same_Some (entries, parts.Open name) after e) (simp append_assoc)
  written_next (parts.Open name) (WordToken word) after fit e =
      let h = sort_taken entries name [] (word_sort word) after e in
      subst (λ (s : SignatureState). written s.0 s.1 ≡ written entries (parts.Open name) ++ WordToken word ∷ []) h.2 (rw (← sort_word word h.0 h.1) (simp append_assoc))
  written_next (parts.Open name) (SymbolToken CloseParen) after fit e =
      subst (λ (s : SignatureState). written s.0 s.1 ≡ written entries (parts.Open name) ++ (SymbolToken CloseParen) ∷ []) (same_Some (entries, parts.Close name []) after e) (simp append_assoc)
  written_next (parts.Sorts name sorts) (SymbolToken Comma) after fit e =
      subst (λ (s : SignatureState). written s.0 s.1 ≡ written entries (parts.Sorts name sorts) ++ (SymbolToken Comma) ∷ []) (same_Some (entries, parts.Comma name sorts) after e) (simp append_assoc)
  written_next (parts.Sorts name sorts) (SymbolToken CloseParen) after fit e =
      subst (λ (s : SignatureState). written s.0 s.1 ≡ written entries (parts.Sorts name sorts) ++ (SymbolToken CloseParen) ∷ []) (same_Some (entries, parts.Close name sorts) after e)
      (simp append_assoc)
  written_next (parts.Comma name sorts) (WordToken word) after fit e =
      let h = sort_taken entries name sorts (word_sort word) after e in
      subst (λ (s : SignatureState). written s.0 s.1 ≡ written entries (parts.Comma name sorts) ++ WordToken word ∷ []) h.2
      (rw (sort_tokens-push sorts h.0 fit.1, ← sort_word word h.0 h.1) (simp append_assoc))
  written_next (parts.Close name sorts) (SymbolToken Plus) after fit e =
      subst (λ (s : SignatureState). written s.0 s.1 ≡ written entries (parts.Close name sorts) ++ (SymbolToken Plus) ∷ [])
      (same_Some (entries, parts.Mark (made_entry name sorts true false)) after e) (simp append_assoc)
  written_next (parts.Close name sorts) (SymbolToken Minus) after fit e =
      subst (λ (s : SignatureState). written s.0 s.1 ≡ written entries (parts.Close name sorts) ++ (SymbolToken Minus) ∷ [])
      (same_Some (entries, parts.Mark (made_entry name sorts false true)) after e) (simp append_assoc)
  written_next (parts.Close name sorts) (SymbolToken PlusMinus) after fit e =
      subst (λ (s : SignatureState). written s.0 s.1 ≡ written entries (parts.Close name sorts) ++ (SymbolToken PlusMinus) ∷ [])
      (same_Some (entries, parts.Mark (made_entry name sorts true true)) after e) (simp append_assoc)
  written_next (parts.Close name sorts) (SymbolToken Semicolon) after fit e =
      subst (λ (s : SignatureState). written s.0 s.1 ≡ written entries (parts.Close name sorts) ++ (SymbolToken Semicolon) ∷ [])
      (same_Some (entries ++ made_entry name sorts false false ∷ [], parts.Nothing) after e)
      (rw (flat_map-push entry_tokens entries (made_entry name sorts false false)) (simp append_assoc))
  written_next (parts.Mark entry) (SymbolToken Semicolon) after fit e =
      subst (λ (s : SignatureState). written s.0 s.1 ≡ written entries (parts.Mark entry) ++ (SymbolToken Semicolon) ∷ []) (same_Some (entries ++ entry ∷ [], parts.Nothing) after e)
      (rw (flat_map-push entry_tokens entries entry) (simp append_assoc))
  written_next part token after fit e = absurd cc

  -- the state after a token is sound as well
  pub sound_next : (part : Part) (token : Token) (after : SignatureState) → IsSound part → state_after_token entries part token ≡ Some after → IsSound after.1
  sound_next parts.Nothing (WordToken word) after sound e =
      let h = chosen_some (is_name word) _ after e in
      subst (λ (s : SignatureState). IsSound s.1) (same_Some _ after h.1) h.0
  sound_next (parts.Name name) (SymbolToken OpenParen) after sound e = subst (λ (s : SignatureState). IsSound s.1) (same_Some (entries, parts.Open name) after e) sound
  sound_next (parts.Open name) (WordToken word) after sound e = subst (λ (s : SignatureState). IsSound s.1) (sort_taken entries name [] (word_sort word) after e).2 (sound, omega arith)
  sound_next (parts.Open name) (SymbolToken CloseParen) after sound e = subst (λ (s : SignatureState). IsSound s.1) (same_Some (entries, parts.Close name []) after e) sound
  sound_next (parts.Sorts name sorts) (SymbolToken Comma) after sound e = subst (λ (s : SignatureState). IsSound s.1) (same_Some (entries, parts.Comma name sorts) after e) sound
  sound_next (parts.Sorts name sorts) (SymbolToken CloseParen) after sound e = subst (λ (s : SignatureState). IsSound s.1) (same_Some (entries, parts.Close name sorts) after e) sound.0
  sound_next (parts.Comma name sorts) (WordToken word) after sound e =
      let h = sort_taken entries name sorts (word_sort word) after e in
      subst (λ (s : SignatureState). IsSound s.1) h.2 (sound.0, omega (arith, length-append sorts (h.0 ∷ [])))
  sound_next (parts.Close name sorts) (SymbolToken Plus) after sound e = subst (λ (s : SignatureState). IsSound s.1) (same_Some (entries, parts.Mark (made_entry name sorts true false)) after e) sound
  sound_next (parts.Close name sorts) (SymbolToken Minus) after sound e = subst (λ (s : SignatureState). IsSound s.1) (same_Some (entries, parts.Mark (made_entry name sorts false true)) after e) sound
  sound_next (parts.Close name sorts) (SymbolToken PlusMinus) after sound e = subst (λ (s : SignatureState). IsSound s.1)
      (same_Some (entries, parts.Mark (made_entry name sorts true true)) after e) sound
  sound_next (parts.Close name sorts) (SymbolToken Semicolon) after sound e = subst (λ (s : SignatureState). IsSound s.1)
      (same_Some (entries ++ made_entry name sorts false false ∷ [], parts.Nothing) after e) tt
  sound_next (parts.Mark entry) (SymbolToken Semicolon) after sound e = subst (λ (s : SignatureState). IsSound s.1) (same_Some (entries ++ entry ∷ [], parts.Nothing) after e) tt
  sound_next part token after sound e = absurd cc

  -- and its entries have names
  pub named_next : (part : Part) (token : Token) (after : SignatureState) → AreNamed entries → IsSound part → state_after_token entries part token ≡ Some after → AreNamed after.0
  named_next parts.Nothing (WordToken word) after named sound e = subst (λ (s : SignatureState). AreNamed s.0) (same_Some _ after (chosen_some (is_name word) _ after e).1) named
  named_next (parts.Name name) (SymbolToken OpenParen) after named sound e = subst (λ (s : SignatureState). AreNamed s.0) (same_Some (entries, parts.Open name) after e) named
  named_next (parts.Open name) (WordToken word) after named sound e = subst (λ (s : SignatureState). AreNamed s.0) (sort_taken entries name [] (word_sort word) after e).2 named
  named_next (parts.Open name) (SymbolToken CloseParen) after named sound e = subst (λ (s : SignatureState). AreNamed s.0) (same_Some (entries, parts.Close name []) after e) named
  named_next (parts.Sorts name sorts) (SymbolToken Comma) after named sound e = subst (λ (s : SignatureState). AreNamed s.0) (same_Some (entries, parts.Comma name sorts) after e) named
  named_next (parts.Sorts name sorts) (SymbolToken CloseParen) after named sound e = subst (λ (s : SignatureState). AreNamed s.0) (same_Some (entries, parts.Close name sorts) after e) named
  named_next (parts.Comma name sorts) (WordToken word) after named sound e = subst (λ (s : SignatureState). AreNamed s.0) (sort_taken entries name sorts (word_sort word) after e).2 named
  named_next (parts.Close name sorts) (SymbolToken Plus) after named sound e = subst (λ (s : SignatureState). AreNamed s.0)
      (same_Some (entries, parts.Mark (made_entry name sorts true false)) after e) named
  named_next (parts.Close name sorts) (SymbolToken Minus) after named sound e = subst (λ (s : SignatureState). AreNamed s.0)
      (same_Some (entries, parts.Mark (made_entry name sorts false true)) after e) named
  named_next (parts.Close name sorts) (SymbolToken PlusMinus) after named sound e = subst (λ (s : SignatureState). AreNamed s.0)
      (same_Some (entries, parts.Mark (made_entry name sorts true true)) after e) named
  named_next (parts.Close name sorts) (SymbolToken Semicolon) after named sound e =
      subst (λ (s : SignatureState). AreNamed s.0) (same_Some (entries ++ made_entry name sorts false false ∷ [], parts.Nothing) after e)
      (All-push (λ (entry : NameEntry). IsTrue (is_name entry.text)) entries (made_entry name sorts false false) named sound)
  named_next (parts.Mark entry) (SymbolToken Semicolon) after named sound e =
      subst (λ (s : SignatureState). AreNamed s.0) (same_Some (entries ++ entry ∷ [], parts.Nothing) after e) (All-push (λ (entry : NameEntry). IsTrue (is_name entry.text)) entries entry named sound)
  named_next part token after named sound e = absurd cc

  -- tokens that begin those of an entry can go on
  ended_by : (entry : NameEntry) (front rest : List Token) → AreNamed entries → IsTrue (is_name entry.text) → entry_tokens entry ≡ front ++ rest → CanBeginSignature (entries_tokens entries ++ front)
  ended_by entry front rest named free is = (
    entries ++ entry ∷ [],
    rest,
    All-push (λ (e : NameEntry). IsTrue (is_name e.text)) entries entry named free,
    flat_map-push entry_tokens entries entry ∙ ap (λ tokens. entries_tokens entries ++ tokens) is ∙ sym (append_assoc (entries_tokens entries) front rest),
  )

  -- what was written can go on
  pub written_can_begin : (part : Part) → AreNamed entries → IsSound part → CanBeginSignature (written entries part)
  written_can_begin parts.Nothing named sound = (entries, [], named, sym (append-nil (written entries parts.Nothing) ∙ append-nil (entries_tokens entries)))
  written_can_begin (parts.Name name) named sound = ended_by (made_entry name [] false false) (part_tokens (parts.Name name))
      ((SymbolToken OpenParen) ∷ (SymbolToken CloseParen) ∷ (SymbolToken Semicolon) ∷ []) named sound refl
  written_can_begin (parts.Open name) named sound = ended_by (made_entry name [] false false) (part_tokens (parts.Open name)) ((SymbolToken CloseParen) ∷ (SymbolToken Semicolon) ∷ []) named sound refl
  written_can_begin (parts.Sorts name sorts) named sound = ended_by (made_entry name sorts false false) (part_tokens (parts.Sorts name sorts))
      ((SymbolToken CloseParen) ∷ (SymbolToken Semicolon) ∷ []) named sound.0 (simp append_assoc)
  written_can_begin (parts.Comma name sorts) named sound =
      ended_by (made_entry name (sorts ++ Int ∷ []) false false) (part_tokens (parts.Comma name sorts)) (sort_token Int ∷ (SymbolToken CloseParen) ∷ (SymbolToken Semicolon) ∷ []) named sound.0
      (rw (sort_tokens-push sorts Int sound.1) (simp append_assoc))
  written_can_begin (parts.Close name sorts) named sound = ended_by (made_entry name sorts false false) (part_tokens (parts.Close name sorts)) ((SymbolToken Semicolon) ∷ []) named sound
      (simp append_assoc)
  written_can_begin (parts.Mark entry) named sound = ended_by entry (part_tokens (parts.Mark entry)) ((SymbolToken Semicolon) ∷ []) named sound (simp append_assoc)
