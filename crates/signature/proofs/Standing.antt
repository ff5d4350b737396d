-- A refusal stands at a token exactly where the reader refuses it.
use Rattle.signature.proofs.Vocabulary.{◌≡◌, ℕ, ◌≤◌, ◌==◌, nat_lt, Bool, true, false, cond, List, [], ◌∷◌, ◌++◌, length, ◌⊎◌, inl, inr, Option, None, Some, Result, Ok, Err, refl, sym, ap, subst, ◌∙◌}
use Rattle.signature.proofs.Vocabulary.{arith, append_assoc, eqb-true, eq-eqb, ⊎_elim, option_and_then, IsTrue, ltb-false, ltb-true, lt-ltb, le-ltb, nat_tests, append-nil, same_Some, is_name, Token}
use Rattle.signature.proofs.Vocabulary.{WordToken, TokenAtPlace, SymbolToken, NameEntry, Sort, Int, Text, Part, Names, Arity, Name, SignatureRefusal, Syntax, Repeated, Limit, NoMemory, AreNamed}
use Rattle.signature.proofs.Vocabulary.{name_number, sort_token, sort_tokens, entries_tokens, CanBeginSignature, IsNextName, IsNextSort, SignatureRefusalStands, SignatureState, entry_limit_refusal}
use Rattle.signature.proofs.Vocabulary.{entry_name_refusal, state_after_token, repeated_name_refusal, word_sort, taken_token, taken_or_refused, OpenParen, Comma}
use Rattle.signature.proofs.Fits.{chosen_some, sort_taken}
use Rattle.signature.proofs.Runs.{run, run-append, run_tokens, run_open, run_sorts, onward, same_entries, cannot_begin}
use Rattle.signature.proofs.Written.{IsSound, written, written_next, sound_next, named_next, written_can_begin, sort_word}
use Rattle.signature.specs.declared.reading.Part.TheVariants as parts

-- the tokens lead to the state, and are what was written of it
pub record Reached (front : List Token) (entries : List NameEntry) (part : Part) : Type 0 where
  pub run : run [] parts.Nothing front ≡ Some (entries, part)
  pub is : front ≡ written entries part
  pub named : AreNamed entries
  pub sound : IsSound part

pub nothing_reached : Reached [] [] parts.Nothing
nothing_reached = record { run = refl; is = refl; named = λ k d h. absurd (omega arith); sound = tt }

module _ (front : List Token) (entries : List NameEntry) (part : Part) (reached : Reached front entries part) where
  -- a token more
  pub reached_next : (token : Token) (after : SignatureState) → state_after_token entries part token ≡ Some after → Reached (front ++ token ∷ []) after.0 after.1
  reached_next token after e = record {
    run = run-append [] parts.Nothing front (token ∷ []) ∙ ap (onward (token ∷ [])) reached.run ∙ ap (option_and_then (λ (s : SignatureState). run s.0 s.1 [])) e;
    is = ap (λ tokens. tokens ++ token ∷ []) reached.is ∙ sym (written_next entries part token after reached.sound e);
    named = named_next entries part token after reached.named reached.sound e;
    sound = sound_next entries part token after reached.sound e;
  }

  -- a token that can stand can go on
  pub can_begin_next : (token : Token) (after : SignatureState) → state_after_token entries part token ≡ Some after → CanBeginSignature (front ++ token ∷ [])
  can_begin_next token after e =
      let then_reached = reached_next token after e in
      subst CanBeginSignature (sym then_reached.is) (written_can_begin after.0 after.1 then_reached.named then_reached.sound)

-- a name where no part of an entry has come
next_name : (front : List Token) (entries : List NameEntry) (word : List ℕ) (after : SignatureState) → Reached front entries parts.Nothing
    → state_after_token entries parts.Nothing (WordToken word) ≡ Some after → IsNextName front (WordToken word) entries word
next_name front entries word after reached e = record {
  before = reached.is ∙ append-nil (entries_tokens entries);
  each = reached.named;
  word = refl;
  free = (chosen_some (is_name word) _ after e).0;
}

pub none_some : (refusal : SignatureRefusal) → None ≡ Some refusal → ⊥
none_some refusal e = cc

pub err_is : (x y : SignatureRefusal) → ◌≡◌ {A = Result SignatureState SignatureRefusal} (Err x) (Err y) → x ≡ y
err_is x y e = cc

ok_not_err : (after : SignatureState) (refusal : SignatureRefusal) → Ok after ≡ Err refusal → ⊥
ok_not_err after refusal e = cc

-- the refusal of a name stands there
name_stands : (front : List Token) (entries : List NameEntry) (word : List ℕ) (place : ℕ) (refusal : SignatureRefusal) → IsNextName front (WordToken word) entries word
    → length entries ≤ 256 → entry_name_refusal entries place word ≡ Some refusal → SignatureRefusalStands refusal front (place, WordToken word)
name_stands front entries word place refusal name few e =
    by (length entries == 256) (nat_lt 64 (length word)) (name_number entries word) refl refl refl
  where
    by : (a b : Bool) (o : Option ℕ) → (length entries == 256) ≡ a → nat_lt 64 (length word) ≡ b → name_number entries word ≡ o → SignatureRefusalStands refusal front (place, WordToken word)
    by true b o h i k =
        let is : Limit Names place ≡ refusal = same_Some _ _ (sym (ap (λ c. cond c (Some (Limit Names place))
        (cond (nat_lt 64 (length word)) (Some (Limit Name place)) (repeated_name_refusal place (name_number entries word)))) h) ∙ e) in
        subst (λ r. SignatureRefusalStands r front (place, WordToken word)) is (refl, (entries, word, name, eqb-true (length entries) 256 h))
    by false true o h i k =
        let is : Limit Name place ≡ refusal = same_Some _ _ (sym (λ j. cond (h j) (Some (Limit Names place))
        (cond (i j) (Some (Limit Name place)) (repeated_name_refusal place (name_number entries word)))) ∙ e) in
        subst (λ r. SignatureRefusalStands r front (place, WordToken word)) is (refl, (entries, word, name, grind (arith, nat_tests), ltb-true 64 (length word) i))
    by false false (Some number) h i k =
        let is : Repeated (record { 0 = number }) place ≡ refusal = same_Some _ _ (sym
        (λ j. cond (h j) (Some (Limit Names place)) (cond (i j) (Some (Limit Name place)) (repeated_name_refusal place (k j)))) ∙ e) in
        subst (λ r. SignatureRefusalStands r front (place, WordToken word)) is (refl, (entries, word, name, grind (arith, nat_tests), ltb-false 64 (length word) i, k))
    by false false None h i k = absurd (none_some refusal (sym (λ j. cond (h j) (Some (Limit Names place)) (cond (i j) (Some (Limit Name place)) (repeated_name_refusal place (k j)))) ∙ e))

-- the refusal of a sort stands there
sort_stands : (front : List Token) (entries : List NameEntry) (name : List ℕ) (sorts : List Sort) (sort : Sort) (place : ℕ) (token : Token) (refusal : SignatureRefusal)
    → IsNextSort front token entries name sorts sort → cond (length sorts == 8) (Some (Limit Arity place)) None ≡ Some refusal → SignatureRefusalStands refusal front (place, token)
sort_stands front entries name sorts sort place token refusal at e = by (length sorts == 8) refl
  where
    by : (b : Bool) → (length sorts == 8) ≡ b → SignatureRefusalStands refusal front (place, token)
    by true h =
        let is : Limit Arity place ≡ refusal = same_Some _ _ (sym (ap (λ c. cond c (Some (Limit Arity place)) None) h) ∙ e) in
        subst (λ r. SignatureRefusalStands r front (place, token)) is (refl, (entries, name, sorts, sort, at, eqb-true (length sorts) 8 h))
    by false h = absurd (none_some refusal (sym (ap (λ c. cond c (Some (Limit Arity place)) None) h) ∙ e))

-- where a limit refuses a token, that refusal stands there
pub limit_stands : (front : List Token) (entries : List NameEntry) (part : Part) (place : ℕ) (token : Token) (after : SignatureState) (refusal : SignatureRefusal)
    → Reached front entries part → length entries ≤ 256 → state_after_token entries part token ≡ Some after → entry_limit_refusal entries part place token ≡ Some refusal
    → SignatureRefusalStands refusal front (place, token)
limit_stands front entries parts.Nothing place (WordToken word) after refusal reached few e l = name_stands front entries word place refusal (next_name front entries word after reached e) few l
limit_stands front entries (parts.Comma name sorts) place (WordToken word) after refusal reached few e l =
    let h = sort_taken entries name sorts (word_sort word) after e in
    sort_stands front entries name sorts h.0 place (WordToken word) refusal (record {
      before = reached.is ∙ simp append_assoc;
      each = reached.named;
      free = reached.sound.0;
      some =
          reached.sound.1;
      word = sort_word word h.0 h.1;
    }) l
limit_stands front entries part place token after refusal reached few e l = absurd cc

-- where a limit's refusal stands, the limit refuses the token, which could stand there otherwise
pub record IsLimit (entries : List NameEntry) (part : Part) (token : TokenAtPlace) (refusal : SignatureRefusal) : Type 0 where
  pub limit : entry_limit_refusal entries part token.0 token.1 ≡ Some refusal
  pub after : SignatureState
  pub next : state_after_token entries part token.1 ≡ Some after

name_next : (entries : List NameEntry) (name : List ℕ) → IsTrue (is_name name) → state_after_token entries parts.Nothing (WordToken name) ≡ Some (entries, parts.Name name)
name_next entries name named = ap (λ b. cond b (Some (entries, parts.Name name)) None) named

module _ (front : List Token) (entries : List NameEntry) (part : Part) (token : TokenAtPlace) (refusal : SignatureRefusal) (reached : Reached front entries part) where
  -- a name that a limit refuses
  name_limit : (others : List NameEntry) (name : List ℕ) → IsNextName front token.1 others name → entry_name_refusal others token.0 name ≡ Some refusal → IsLimit entries part token refusal
  name_limit others name at e =
      let same = same_entries entries others part front at.each reached.run at.before in
      let before : IsLimit others parts.Nothing token refusal = record {
        limit = ap (entry_limit_refusal others parts.Nothing token.0) at.word ∙ e;
        after = (others, parts.Name name);
        next = ap (state_after_token others parts.Nothing) at.word ∙ name_next others name at.free;
      } in
      subst (λ (s : SignatureState). IsLimit s.0 s.1 token refusal) same before

  sort_reached : (others : List NameEntry) (name : List ℕ) (sorts : List Sort) (sort : Sort) → IsNextSort front token.1 others name sorts sort
      → ◌≡◌ {A = SignatureState} (others, parts.Comma name sorts) (entries, part)
  sort_reached others name sorts sort at =
      let regrouped : front ≡ entries_tokens others ++ (WordToken name ∷ (SymbolToken OpenParen) ∷ (sort_tokens sorts ++ (SymbolToken Comma) ∷ [])) = at.before ∙ simp append_assoc in
      let leads : run [] parts.Nothing front ≡ Some (others, parts.Comma name sorts) = ap (run [] parts.Nothing) regrouped ∙ run_tokens others
      (WordToken name ∷ (SymbolToken OpenParen) ∷ (sort_tokens sorts ++ (SymbolToken Comma) ∷ [])) at.each ∙ run_open others name
      (sort_tokens sorts ++ (SymbolToken Comma) ∷ []) at.free ∙ run_sorts others name sorts ((SymbolToken Comma) ∷ []) at.some in
      same_Some (others, parts.Comma name sorts) (entries, part) (sym leads ∙ reached.run)

  sort_limit : (others : List NameEntry) (name : List ℕ) (sorts : List Sort) (sort : Sort) → IsNextSort front token.1 others name sorts sort → length sorts ≡ 8
      → Limit Arity token.0 ≡ refusal → IsLimit entries part token refusal
  sort_limit others name sorts sort at eight is =
      subst (λ (s : SignatureState). IsLimit s.0 s.1 token refusal) (sort_reached others name sorts sort at) (subst (IsLimit others (parts.Comma name sorts) token) is (by sort at.word))
    where
      full : (length sorts == 8) ≡ true
      full = eq-eqb (length sorts) 8 eight

      by : (sort : Sort) → token.1 ≡ sort_token sort → IsLimit others (parts.Comma name sorts) token (Limit Arity token.0)
      by Int word = record {
        limit = ap (entry_limit_refusal others (parts.Comma name sorts) token.0) word ∙ ap (λ b. cond b (Some (Limit Arity token.0)) None) full;
        after = (others, parts.Sorts name (sorts ++ Int ∷ []));
        next = ap (state_after_token others (parts.Comma name sorts)) word;
      }
      by Text word = record {
        limit = ap (entry_limit_refusal others (parts.Comma name sorts) token.0) word ∙ ap (λ b. cond b (Some (Limit Arity token.0)) None) full;
        after = (others, parts.Sorts name (sorts ++ Text ∷ []));
        next = ap (state_after_token others (parts.Comma name sorts)) word;
      }

-- what stands at a token: the grammar's refusal, or a limit's
pub stands_by : (front : List Token) (entries : List NameEntry) (part : Part) (token : TokenAtPlace) (refusal : SignatureRefusal) → Reached front entries part
    → SignatureRefusalStands refusal front token → ((Syntax token.0 ≡ refusal) × (CanBeginSignature (front ++ token.1 ∷ []) → ⊥)) ⊎ IsLimit entries part token refusal
stands_by front entries part token (Syntax place) reached stands = inl (ap Syntax (sym stands.0), stands.1)
stands_by front entries part token (Repeated number place) reached (at, (others, name, named, few, short, found)) =
    let room : (length others == 256) ≡ false = grind (arith, nat_tests) in
    let fits : nat_lt 64 (length name) ≡ false = le-ltb 64 (length name) short in
    inr (name_limit front entries part token (Repeated number place) reached others name named
    ((λ j. cond (room j) (Some (Limit Names token.0)) (cond (fits j) (Some (Limit Name token.0)) (repeated_name_refusal token.0 (found j)))) ∙ ap (λ p. Some (Repeated number p)) (sym at)))
stands_by front entries part token (Limit Names place) reached (at, (others, name, named, full)) =
    let none : (length others == 256) ≡ true = eq-eqb (length others) 256 full in
    inr (name_limit front entries part token (Limit Names place) reached others name named
    (ap (λ b. cond b (Some (Limit Names token.0)) (cond (nat_lt 64 (length name)) (Some (Limit Name token.0)) (repeated_name_refusal token.0 (name_number others name)))) none ∙ ap
    (λ p. Some (Limit Names p)) (sym at)))
stands_by front entries part token (Limit Arity place) reached (at, (others, name, sorts, sort, wanted, full)) =
    inr (sort_limit front entries part token (Limit Arity place) reached others name sorts sort wanted full (ap (Limit Arity) (sym at)))
stands_by front entries part token (Limit Name place) reached (at, (others, name, named, few, long)) =
    let room : (length others == 256) ≡ false = grind (arith, nat_tests) in
    let above : nat_lt 64 (length name) ≡ true = lt-ltb 64 (length name) long in
    inr (name_limit front entries part token (Limit Name place) reached others name named
    ((λ j. cond (room j) (Some (Limit Names token.0)) (cond (above j) (Some (Limit Name token.0)) (repeated_name_refusal token.0 (name_number others name)))) ∙ ap (λ p. Some (Limit Name p)) (sym at)))
stands_by front entries part token NoMemory reached stands = absurd stands

module _ (front : List Token) (entries : List NameEntry) (part : Part) (token : TokenAtPlace) (reached : Reached front entries part) (few : length entries ≤ 256) where
  -- what the reader refuses stands
  pub refused_stands : (refusal : SignatureRefusal) → taken_token entries part token.0 token.1 ≡ Err refusal → SignatureRefusalStands refusal front token
  refused_stands refusal e = by (state_after_token entries part token.1) (entry_limit_refusal entries part token.0 token.1) refl refl
    where
      by : (o : Option SignatureState) (l : Option SignatureRefusal) → state_after_token entries part token.1 ≡ o → entry_limit_refusal entries part token.0 token.1 ≡ l
          → SignatureRefusalStands refusal front token
      by None l h i =
          subst (λ r. SignatureRefusalStands r front token) (err_is (Syntax token.0) refusal
          (sym (ap (λ s. taken_or_refused token.0 s (entry_limit_refusal entries part token.0 token.1)) h) ∙ e)) (refl, cannot_begin entries part front token.1 reached.run h)
      by (Some after) (Some other) h i =
          let is : other ≡ refusal = err_is other refusal (sym (λ j. taken_or_refused token.0 (h j) (i j)) ∙ e) in
          limit_stands front entries part token.0 token.1 after refusal reached few h (i ∙ ap Some is)
      by (Some after) None h i = absurd (ok_not_err after refusal (sym (λ j. taken_or_refused token.0 (h j) (i j)) ∙ e))

  -- what stands, the reader refuses
  pub stands_refused : (refusal : SignatureRefusal) → SignatureRefusalStands refusal front token → taken_token entries part token.0 token.1 ≡ Err refusal
  stands_refused refusal stands = ⊎_elim (by (state_after_token entries part token.1) refl) limited (stands_by front entries part token refusal reached stands)
    where
      limited : IsLimit entries part token refusal → taken_token entries part token.0 token.1 ≡ Err refusal
      limited limit = λ j. taken_or_refused token.0 (limit.next j) (limit.limit j)

      by : (o : Option SignatureState) → state_after_token entries part token.1 ≡ o → (Syntax token.0 ≡ refusal) × (CanBeginSignature (front ++ token.1 ∷ []) → ⊥)
          → taken_token entries part token.0 token.1 ≡ Err refusal
      by None h (is, never) = ap (λ s. taken_or_refused token.0 s (entry_limit_refusal entries part token.0 token.1)) h ∙ ap Err is
      by (Some after) h (is, never) = absurd (never (can_begin_next front entries part reached token.1 after h))
